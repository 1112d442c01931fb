use Rattle.std.proofs.Common.{◌≡◌, ℕ, true, false, eqb, not, sym, ap, ◌∙◌, subst, arith}
use Rattle.std.proofs.lemmas.Bool.Decides.{nat_tests}
use Rattle.std.proofs.lemmas.Int.{to_z-of_z}
use mir.Syntax.{w64}
use mir.Val.{SFits}
use Rattle.std.specs.Prelude.{cond, Ok, Err, pos, false}
use Rattle.sd_base.specs.declared.history.Update.TheVariants as update
use Rattle.sd_base.specs.Blocks.{next_base, count_of, has_room, granted}
use Rattle.sd_base.specs.declared.actors.Fat.{Fat}
use Rattle.update_tracker.specs.declared.undo.Reply.TheVariants.{Base}
use Rattle.update_tracker.specs.Tracking.{ServesTracked}
use Rattle.checked_tree.specs.Operands.{null}
use Rattle.wrappers.specs.Served.{Served, points, grants}
use Rattle.wrappers.specs.Rows as row
use Rattle.wrappers.proofs.Held.{grant_made, grant_refused}
use Rattle.wrappers.proofs.Tracking.{serves_made, serves_refused, serves_nothing}
use Rattle.wrappers.proofs.blocks.kalloc.Goals as goal

pub returns-then-size-eq0-clause-serves : goal.returns-then-size-eq0-clause-serves
returns-then-size-eq0-clause-serves c =
    let none : eqb c.args.size 0 ≡ true = grind (arith, nat_tests, c.if-size-eq0.true) in
    serves_nothing c.args.kernel.now c.args.owner (λ share h. row.kalloc h c.args.owner c.args.elem c.args.size c.args.n) _
    (λ h lawful proper stands. ap (λ b. cond b (points null) (cond (not (has_room (granted h c.args.owner) (row.elements c.args.elem c.args.size) c.args.n)) (points null)
    (row.allocates h c.args.owner c.args.elem c.args.size c.args.n))) none)

pub returns-in-Ok-clause-serves : goal.returns-in-Ok-clause-serves
returns-in-Ok-clause-serves c =
    let some : eqb c.args.size 0 ≡ false = grind (arith, nat_tests, c.if-size-eq0.false) in
    let fits-n : SFits w64 c.args.n = c.ranges.n in
    let grant = update.Grant (row.elements c.args.elem c.args.size) c.args.n false in
    let served : ServesTracked c.args.kernel.now c.args.owner (update.Grant (row.elements c.args.elem c.args.size) c.args.n false) (Ok c.in-Ok.reply) c.update.new.self = simp to_z-of_z at c.in-Ok.ensures.serves in
    serves_made c.args.kernel.now c.update.new.self c.args.owner (update.Grant (row.elements c.args.elem c.args.size) c.args.n false) c.in-Ok.reply
    (λ share h. row.kalloc h c.args.owner c.args.elem c.args.size c.args.n) _ served
    (λ h lawful proper stands made.
    let fits = grant_made h c.args.owner c.args.elem c.args.size c.args.n c.args.kernel.now.kernel.claims.share some made.allowed in
    let to : c.pointer.result ≡ row.block (next_base (granted h c.args.owner)) c.args.size (count_of c.args.n) =
    c.pointer.ensures (next_base (granted h c.args.owner)) (count_of c.args.n) made.replied (simp to_z-of_z fits.1.count) fits.1.few fits.1.ends in
    fits.0 ∙ ap (λ (p : Fat). grants p (update.Grant (row.elements c.args.elem c.args.size) c.args.n false)) (sym to))

pub returns-in-Err-clause-serves : goal.returns-in-Err-clause-serves
returns-in-Err-clause-serves c =
    let some : eqb c.args.size 0 ≡ false = grind (arith, nat_tests, c.if-size-eq0.false) in
    let fits-n : SFits w64 c.args.n = c.ranges.n in
    let served : ServesTracked c.args.kernel.now c.args.owner (update.Grant (row.elements c.args.elem c.args.size) c.args.n false) (Err c.in-Err.field-0) c.update.new.self = simp to_z-of_z at c.in-Err.ensures.serves in
    serves_refused c.args.kernel.now c.update.new.self c.args.owner (update.Grant (row.elements c.args.elem c.args.size) c.args.n false) c.in-Err.field-0
    (λ share h. row.kalloc h c.args.owner c.args.elem c.args.size c.args.n) _ served c.in-Err.ensures.err
    (λ h lawful proper stands refused. grant_refused h c.args.owner c.args.elem c.args.size c.args.n c.args.kernel.now.kernel.claims.share c.in-Err.field-0 some refused)
