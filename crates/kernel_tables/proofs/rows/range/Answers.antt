use Rattle.std.proofs.Common.{◌≡◌, ℕ, ◌≤◌, pos, get_or, rules, arith}
use Rattle.std.proofs.lemmas.Int.{to_z_pos}
use mir.Syntax.{w32}
use mir.Val.{to_z}
use Rattle.claim_table.specs.declared.claim.Claim.{Claim}
use Rattle.kernel_tables.specs.TableRows.{ports_row}
use Rattle.kernel_tables.proofs.Looking.{at_row, past_place, narrow_at}
use Rattle.kernel_tables.proofs.rows.range.Goals as goal

abbrev none : Claim ℕ
none = record { owner = 0; number = 0; detail = 0 }

pub returns-then-place-ports : goal.returns-then-place-ports
returns-then-place-ports c = past_place ports_row c.args.ports.now c.args.k c.if-place-ports.true

pub returns : goal.returns
returns c =
    let few : (get_or c.args.ports.now c.args.k none).detail ≤ 65536 = narrow_at c.args.ports.now c.args.k none (omega arith) c.requires in
    let n : to_z w32 (get_or c.args.ports.now c.args.k none).detail ≡ pos (get_or c.args.ports.now c.args.k none).detail = to_z_pos w32 (get_or c.args.ports.now c.args.k none).detail (omega arith) in
    at_row ports_row c.args.ports.now c.args.k none _ (omega arith) (search rules)
