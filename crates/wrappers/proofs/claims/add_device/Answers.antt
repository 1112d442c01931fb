use Rattle.std.proofs.lemmas.Int.{to_z-of_z}
use mir.Syntax.{w32}
use mir.Val.{SFits}
use Rattle.sd_base.specs.declared.history.Update.TheVariants as update
use Rattle.wrappers.specs.Serving.{ServesRow}
use Rattle.wrappers.specs.Rows as row
use Rattle.wrappers.proofs.Rules.{ruled, device_row}
use Rattle.wrappers.proofs.Tracking.{serves_as}
use Rattle.wrappers.proofs.claims.add_device.Goals as goal

pub returns-clause-serves : goal.returns-clause-serves
returns-clause-serves c =
    let fits-id : SFits w32 c.args.id = c.ranges.id in
    let served : ServesRow c.args.kernel.now c.args.owner (λ share h. ruled share h c.args.owner (update.Device c.args.id)) c.made.result c.made.new.kernel =
    simp to_z-of_z at c.made.ensures.serves in
    serves_as c.args.kernel.now c.made.new.kernel c.args.owner (λ share h. ruled share h c.args.owner (update.Device c.args.id))
    (λ share h. row.add_device h c.args.owner c.args.id) c.made.result (λ h stands. device_row c.args.owner c.args.id c.args.kernel.now.kernel.claims.share h) served
