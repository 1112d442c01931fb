use Rattle.std.proofs.Common.{sym, ap, ◌∙◌, subst}
use Rattle.std.proofs.lemmas.Int.{to_z-of_z}
use mir.Syntax.{w32}
use mir.Val.{SFits}
use Rattle.std.specs.Prelude.{Ok, Err}
use Rattle.sd_base.specs.declared.history.Update.TheVariants as update
use Rattle.update_tracker.specs.Tracking.{ServesTracked}
use Rattle.wrappers.specs.Replies.{not_let_go}
use Rattle.wrappers.specs.Rows as row
use Rattle.wrappers.specs.Serving.{ServesRow}
use Rattle.wrappers.proofs.Held.{unlock_made, unlock_refused}
use Rattle.wrappers.proofs.Tracking.{serves_made, serves_refused}
use Rattle.wrappers.proofs.locks.unlock.Goals as goal

pub returns-in-Ok-clause-serves : goal.returns-in-Ok-clause-serves
returns-in-Ok-clause-serves c =
    let fits-lock : SFits w32 c.args.lock = c.ranges.lock in
    let served : ServesTracked c.args.kernel.now c.args.who.owner (update.Unlock c.args.lock c.args.who.task) (Ok c.in-Ok.field-0) c.update.new.self = simp to_z-of_z at c.in-Ok.ensures.serves in
    serves_made c.args.kernel.now c.update.new.self c.args.who.owner (update.Unlock c.args.lock c.args.who.task) c.in-Ok.field-0 (λ share h. row.unlock h c.args.who c.args.lock) _
    served (λ h lawful proper stands made. unlock_made h c.args.who c.args.lock c.args.kernel.now.kernel.claims.share made.allowed)

pub returns-in-Err-clause-serves : goal.returns-in-Err-clause-serves
returns-in-Err-clause-serves c =
    let fits-lock : SFits w32 c.args.lock = c.ranges.lock in
    let served : ServesTracked c.args.kernel.now c.args.who.owner (update.Unlock c.args.lock c.args.who.task) (Err c.in-Err.refusal) c.update.new.self = simp to_z-of_z at c.in-Err.ensures.serves in
    subst (λ out. ServesRow c.args.kernel.now c.args.who.owner (λ share h. row.unlock h c.args.who c.args.lock) out c.update.new.self) (sym c.not_let_go.ensures)
    (serves_refused c.args.kernel.now c.update.new.self c.args.who.owner (update.Unlock c.args.lock c.args.who.task) c.in-Err.refusal (λ share h. row.unlock h c.args.who c.args.lock) _
    served c.in-Err.ensures.err (λ h lawful proper stands refused. unlock_refused h c.args.who c.args.lock c.args.kernel.now.kernel.claims.share c.in-Err.refusal refused))
