use Rattle.std.proofs.Common.{◌≡◌, true, false, eqb, sym, ap, arith}
use Rattle.std.proofs.lemmas.Bool.Decides.{nat_tests}
use Rattle.std.specs.Prelude.{cond}
use Rattle.std.specs.List.{find}
use Rattle.sd_base.specs.declared.history.Update.TheVariants as update
use Rattle.sd_base.specs.Blocks.{has_base, granted}
use Rattle.wrappers.specs.Served.{done}
use Rattle.wrappers.specs.Rows as row
use Rattle.wrappers.proofs.Held.{free_made, free_refused}
use Rattle.wrappers.proofs.Tracking.{serves_made, serves_refused, serves_nothing}
use Rattle.wrappers.proofs.blocks.kfree.Goals as goal

pub returns-then-base-eq0-clause-serves : goal.returns-then-base-eq0-clause-serves
returns-then-base-eq0-clause-serves c =
    let none : eqb c.args.base 0 ≡ true = grind (arith, nat_tests, c.if-base-eq0.true) in
    serves_nothing c.args.kernel.now c.args.owner (λ share h. row.kfree h c.args.owner c.args.base) _
    (λ h lawful proper stands. ap (λ b. cond b done (row.frees c.args.base (find (has_base c.args.base) (granted h c.args.owner)))) none)

pub returns-in-Ok-clause-serves : goal.returns-in-Ok-clause-serves
returns-in-Ok-clause-serves c =
    let some : eqb c.args.base 0 ≡ false = grind (arith, nat_tests, c.if-base-eq0.false) in
    serves_made c.args.kernel.now c.update.new.self c.args.owner (update.Free c.args.base) c.in-Ok.field-0 (λ share h. row.kfree h c.args.owner c.args.base) _
    c.in-Ok.ensures.serves (λ h lawful proper stands made. free_made h c.args.owner c.args.base c.args.kernel.now.kernel.claims.share some made.allowed)

pub returns-in-Err-clause-serves : goal.returns-in-Err-clause-serves
returns-in-Err-clause-serves c =
    let some : eqb c.args.base 0 ≡ false = grind (arith, nat_tests, c.if-base-eq0.false) in
    serves_refused c.args.kernel.now c.update.new.self c.args.owner (update.Free c.args.base) c.in-Err.field-0 (λ share h. row.kfree h c.args.owner c.args.base) _
    c.in-Err.ensures.serves c.in-Err.ensures.err
    (λ h lawful proper stands refused. free_refused h c.args.owner c.args.base c.args.kernel.now.kernel.claims.share c.in-Err.field-0 some refused)
