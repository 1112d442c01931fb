use Rattle.share_table.specs.Locks.{refusal_of_lock}
use Rattle.share_table.proofs.Calls.{lock_call}
use Rattle.share_table.proofs.shares.Shares.lock.Goals as goal

pub returns-clause-serves : goal.returns-clause-serves
returns-clause-serves c =
    lock_call c.args.self.now c.self.inside.locks c.lock.new.self c.self.inside.masks c.self.inside.holds c.self.inside.work c.args.who c.args.k (refusal_of_lock c.lock.result) c.self.view_is c.ranges.k c.lock.ensures.serves
