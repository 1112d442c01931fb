use Rattle.share_table.proofs.Calls.{remove_hold_call}
use Rattle.share_table.proofs.shares.Shares.remove_hold.Goals as goal

pub returns-clause-removed : goal.returns-clause-removed
returns-clause-removed g c =
    remove_hold_call c.args.self.now c.self.inside.locks c.self.inside.masks c.self.inside.holds c.remove.new.self c.self.inside.work c.args.owner c.args.domain c.self.view_is c.ranges.domain c.remove.ensures
