use Rattle.std.proofs.Common.{◌≡◌, true, false, ◌+◌, nat_abs, sym, ap, ◌∙◌, subst}
use Rattle.std.proofs.lemmas.Int.{to_z-of_z}
use mir.Syntax.{w32}
use mir.Val.{SFits}
use Rattle.sd_base.specs.declared.history.Update.TheVariants as update
use Rattle.sd_base.specs.History.{clock_of}
use Rattle.kernel_tables.specs.declared.kernel.Kernel.{Kernel}
use Rattle.wrappers.specs.Rows as row
use Rattle.wrappers.specs.Serving.{ServesRow}
use Rattle.wrappers.proofs.Held.{timer_too_far, timer_row}
use Rattle.wrappers.proofs.Rules.{ruled}
use Rattle.wrappers.proofs.Tracking.{serves_as, serves_nothing}
use Rattle.wrappers.proofs.timers.set_timer.Goals as goal

pub returns-then-not-is_distance-clause-serves : goal.returns-then-not-is_distance-clause-serves
returns-then-not-is_distance-clause-serves c =
    let fits-distance : SFits w32 c.args.distance = c.ranges.distance in
    let tested : c.is_distance.result ≡ row.is_distance c.args.distance = simp to_z-of_z at c.is_distance.ensures in
    serves_nothing c.args.kernel.now c.args.owner (λ share h. row.set_timer h c.args.owner c.args.id c.args.distance c.args.handler c.args.arg) _
    (λ h lawful proper stands. timer_too_far h c.args.owner c.args.id c.args.distance c.args.handler c.args.arg (sym tested ∙ c.if-not-is_distance.true))

pub returns-clause-serves : goal.returns-clause-serves
returns-clause-serves c =
    let fits-id : SFits w32 c.args.id = c.ranges.id in
    let fits-arg : SFits w32 c.args.arg = c.ranges.arg in
    let fits-distance : SFits w32 c.args.distance = c.ranges.distance in
    let tested : c.is_distance.result ≡ row.is_distance c.args.distance = simp to_z-of_z at c.is_distance.ensures in
    let near : row.is_distance c.args.distance ≡ true = sym tested ∙ c.if-not-is_distance.false in
    let due : c.due_at-due.result ≡ c.kernel.result.now.now + nat_abs c.args.distance = simp to_z-of_z at c.due_at-due.ensures in
    let served : ServesRow c.args.kernel.now c.args.owner (λ share h. ruled share h c.args.owner (update.Timer c.args.id c.due_at-due.result c.args.handler c.args.arg)) c.made.result c.made.new.kernel =
    simp to_z-of_z at c.made.ensures.serves in
    serves_as c.args.kernel.now c.made.new.kernel c.args.owner (λ share h. ruled share h c.args.owner (update.Timer c.args.id c.due_at-due.result c.args.handler c.args.arg))
    (λ share h. row.set_timer h c.args.owner c.args.id c.args.distance c.args.handler c.args.arg) c.made.result
    (λ h stands. timer_row c.args.owner c.args.id c.args.distance c.due_at-due.result c.args.handler c.args.arg near c.args.kernel.now.kernel.claims.share h
    (due ∙ ap (λ (k : Kernel). k.now + nat_abs c.args.distance) c.kernel.ensures ∙ ap (λ n. n + nat_abs c.args.distance) stands.kernel.clock)) served
