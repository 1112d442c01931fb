-- Each way out of a try to take a lock, as the row says it.
use Rattle.std.proofs.Common.{◌≡◌, true, false, sym, ap, ◌∙◌, subst}
use Rattle.std.proofs.lemmas.Int.{to_z-of_z}
use mir.Syntax.{w32}
use mir.Val.{SFits}
use Rattle.std.specs.Prelude.{Ok, Err}
use Rattle.sd_base.specs.declared.history.Update.TheVariants as update
use Rattle.sd_base.specs.Selection.{is_below}
use Rattle.sd_base.proofs.Numbered.{number_none_cast, number_below_cast}
use Rattle.update_tracker.specs.Tracking.{ServesTracked, OfEachHistory}
use Rattle.wrappers.specs.Replies.{not_taken}
use Rattle.wrappers.specs.Rows as row
use Rattle.wrappers.specs.Serving.{ServesRow}
use Rattle.wrappers.proofs.Held.{lock_made, lock_refused, lock_out_of_range, lock_masked}
use Rattle.wrappers.proofs.Tracking.{serves_made, serves_refused, serves_nothing, of_shares}
use Rattle.wrappers.proofs.locks.lock.Goals as goal

pub returns-in_default-clause-serves : goal.returns-in_default-clause-serves
returns-in_default-clause-serves c =
    let out : is_below 64 c.args.lock ≡ false = number_none_cast 64 c.args.lock c.ranges.lock c.in_default.ensures in
    serves_nothing c.args.kernel.now c.args.who.owner (λ share h. row.lock h c.args.who c.args.lock) _
    (λ h lawful proper stands. lock_out_of_range h c.args.who c.args.lock out)

pub returns-then-holds_mask-clause-serves : goal.returns-then-holds_mask-clause-serves
returns-then-holds_mask-clause-serves c =
    let below : is_below 64 c.args.lock ≡ true = number_below_cast 64 c.args.lock c.in-Some._number c.ranges.lock c.in-Some.ensures in
    let masked : OfEachHistory c.args.kernel.now (λ h. c.holds_mask.result ≡ row.holds_mask h c.args.who) =
    of_shares c.kernel.result.now c.args.kernel.now (λ h. c.holds_mask.result ≡ row.holds_mask h c.args.who) c.kernel.ensures c.holds_mask.ensures.reads in
    serves_nothing c.args.kernel.now c.args.who.owner (λ share h. row.lock h c.args.who c.args.lock) _
    (λ h lawful proper stands. lock_masked h c.args.who c.args.lock below (sym (masked h lawful proper stands) ∙ c.if-holds_mask.true))

pub returns-in-Ok-clause-serves : goal.returns-in-Ok-clause-serves
returns-in-Ok-clause-serves c =
    let fits-lock : SFits w32 c.args.lock = c.ranges.lock in
    let masked : OfEachHistory c.args.kernel.now (λ h. c.holds_mask.result ≡ row.holds_mask h c.args.who) =
    of_shares c.kernel.result.now c.args.kernel.now (λ h. c.holds_mask.result ≡ row.holds_mask h c.args.who) c.kernel.ensures c.holds_mask.ensures.reads in
    let served : ServesTracked c.args.kernel.now c.args.who.owner (update.Lock c.args.lock c.args.who.task) (Ok c.in-Ok.field-0) c.update.new.self = simp to_z-of_z at c.in-Ok.ensures.serves in
    serves_made c.args.kernel.now c.update.new.self c.args.who.owner (update.Lock c.args.lock c.args.who.task) c.in-Ok.field-0 (λ share h. row.lock h c.args.who c.args.lock) _
    served (λ h lawful proper stands made. lock_made h c.args.who c.args.lock c.args.kernel.now.kernel.claims.share made.allowed (sym (masked h lawful proper stands) ∙ c.if-holds_mask.false))

pub returns-in-Err-clause-serves : goal.returns-in-Err-clause-serves
returns-in-Err-clause-serves c =
    let fits-lock : SFits w32 c.args.lock = c.ranges.lock in
    let masked : OfEachHistory c.args.kernel.now (λ h. c.holds_mask.result ≡ row.holds_mask h c.args.who) =
    of_shares c.kernel.result.now c.args.kernel.now (λ h. c.holds_mask.result ≡ row.holds_mask h c.args.who) c.kernel.ensures c.holds_mask.ensures.reads in
    let served : ServesTracked c.args.kernel.now c.args.who.owner (update.Lock c.args.lock c.args.who.task) (Err c.in-Err.refusal) c.update.new.self = simp to_z-of_z at c.in-Err.ensures.serves in
    let out : c.not_taken.result ≡ not_taken c.args.who c.args.lock c.in-Err.refusal = simp to_z-of_z at c.not_taken.ensures in
    subst (λ out. ServesRow c.args.kernel.now c.args.who.owner (λ share h. row.lock h c.args.who c.args.lock) out c.update.new.self) (sym out)
    (serves_refused c.args.kernel.now c.update.new.self c.args.who.owner (update.Lock c.args.lock c.args.who.task) c.in-Err.refusal (λ share h. row.lock h c.args.who c.args.lock) _
    served c.in-Err.ensures.err (λ h lawful proper stands refused.
    lock_refused h c.args.who c.args.lock c.args.kernel.now.kernel.claims.share c.in-Err.refusal refused (sym (masked h lawful proper stands) ∙ c.if-holds_mask.false)))
