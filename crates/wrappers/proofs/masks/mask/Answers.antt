use Rattle.sd_base.specs.declared.history.Update.TheVariants as update
use Rattle.wrappers.specs.Rows as row
use Rattle.wrappers.proofs.Held.{mask_made, mask_refused}
use Rattle.wrappers.proofs.Tracking.{serves_made, serves_refused}
use Rattle.wrappers.proofs.masks.mask.Goals as goal

pub returns-in-Ok-clause-serves : goal.returns-in-Ok-clause-serves
returns-in-Ok-clause-serves c =
    serves_made c.args.kernel.now c.update.new.self c.args.who.owner (update.Mask c.args.who.task) c.in-Ok.field-0 (λ share h. row.mask h c.args.who) _
    c.in-Ok.ensures.serves (λ h lawful proper stands made. mask_made h c.args.who c.args.kernel.now.kernel.claims.share made.allowed)

pub returns-in-Err-clause-serves : goal.returns-in-Err-clause-serves
returns-in-Err-clause-serves c =
    serves_refused c.args.kernel.now c.update.new.self c.args.who.owner (update.Mask c.args.who.task) c.in-Err.field-0 (λ share h. row.mask h c.args.who) _
    c.in-Err.ensures.serves c.in-Err.ensures.err (λ h lawful proper stands refused. mask_refused h c.args.who c.args.kernel.now.kernel.claims.share c.in-Err.field-0 refused)
