use Rattle.share_table.proofs.Calls.{take_call}
use Rattle.share_table.proofs.shares.Shares.take_work.Goals as goal

pub returns : goal.returns
returns c = take_call c.args.self.now c.self.inside.locks c.self.inside.masks c.self.inside.holds c.self.inside.work c.take.new.self c.take.result c.self.view_is c.take.ensures
