use Rattle.share_table.specs.Locks.{refusal_of_unlock}
use Rattle.share_table.proofs.Calls.{unlock_call}
use Rattle.share_table.proofs.shares.Shares.unlock.Goals as goal

pub returns-clause-serves : goal.returns-clause-serves
returns-clause-serves c =
    unlock_call c.args.self.now c.self.inside.locks c.unlock.new.self c.self.inside.masks c.self.inside.holds c.self.inside.work c.args.who c.args.k (refusal_of_unlock c.unlock.result) c.self.view_is c.ranges.k c.unlock.ensures.serves
