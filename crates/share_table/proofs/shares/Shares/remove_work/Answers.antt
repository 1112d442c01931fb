use Rattle.share_table.proofs.Calls.{remove_work_call}
use Rattle.share_table.proofs.shares.Shares.remove_work.Goals as goal

pub returns-clause-removed : goal.returns-clause-removed
returns-clause-removed g c =
    remove_work_call c.args.self.now c.self.inside.locks c.self.inside.masks c.self.inside.holds c.self.inside.work c.remove_newest.new.self c.args.owner c.self.view_is c.remove_newest.ensures.gone
