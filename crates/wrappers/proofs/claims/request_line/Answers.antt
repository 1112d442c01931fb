use Rattle.std.proofs.lemmas.Int.{to_z-of_z}
use mir.Syntax.{w32}
use mir.Val.{SFits}
use Rattle.sd_base.specs.declared.history.Update.TheVariants as update
use Rattle.wrappers.specs.Serving.{ServesRow}
use Rattle.wrappers.specs.Rows as row
use Rattle.wrappers.proofs.Rules.{ruled, line_row}
use Rattle.wrappers.proofs.Tracking.{serves_as}
use Rattle.wrappers.proofs.claims.request_line.Goals as goal

pub returns-clause-serves : goal.returns-clause-serves
returns-clause-serves c =
    let fits-line : SFits w32 c.args.line = c.ranges.line in
    let served : ServesRow c.args.kernel.now c.args.owner (λ share h. ruled share h c.args.owner (update.Line c.args.line c.args.handler)) c.made.result c.made.new.kernel =
    simp to_z-of_z at c.made.ensures.serves in
    serves_as c.args.kernel.now c.made.new.kernel c.args.owner (λ share h. ruled share h c.args.owner (update.Line c.args.line c.args.handler))
    (λ share h. row.request_line share h c.args.owner c.args.line c.args.handler) c.made.result (λ h stands. line_row c.args.owner c.args.line c.args.handler c.args.kernel.now.kernel.claims.share h) served
