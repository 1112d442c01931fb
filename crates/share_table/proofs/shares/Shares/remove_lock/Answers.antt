use Rattle.share_table.proofs.Calls.{remove_lock_call}
use Rattle.share_table.proofs.shares.Shares.remove_lock.Goals as goal

pub returns-clause-removed : goal.returns-clause-removed
returns-clause-removed g c =
    remove_lock_call c.args.self.now c.self.inside.locks c.remove.new.self c.self.inside.masks c.self.inside.holds c.self.inside.work c.args.who c.args.k c.self.view_is c.ranges.k c.remove.ensures
