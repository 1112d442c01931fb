use Rattle.std.proofs.Common.{◌+◌, ◌*◌, ◌<◌, ◌≤◌, sym, ap, ◌∙◌, subst, rules, arith}
use Rattle.std.proofs.Math.Nat.{mul-pos}
use Rattle.grant_table.specs.BlockRows.{next_base_of, IsArena}
use Rattle.grant_table.proofs.Arena.{arena_push}
use Rattle.grant_table.proofs.blocks.Blocks.grant.Goals as goal

pub invariant_of-self : goal.invariant_of-self
invariant_of-self c =
    let base : next_base_of 16 c.self.inside.rows.items ≤ c.next_base-base.result =
    subst (λ n. n ≤ c.next_base-base.result) (c.next_base-base.ensures.base ∙ ap (next_base_of 16) (sym c.self.view_is)) (omega arith) in
    let some : 0 < c.from.result = search rules in
    let bytes : 0 < c.from.result * c.from-2.result = mul-pos some (omega arith) in
    let end : c.next_base-base.result + c.from.result * c.from-2.result ≤ 1048576 = omega arith in (
      omega arith,
      omega arith,
      subst (IsArena 16) (sym c.push_reserved.ensures.items) (arena_push 16 16 c.self.inside.rows.items _ (omega arith) c.self.invariant.2 base bytes end),
    )
