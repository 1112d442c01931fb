use Rattle.sd_base.specs.History.{live_of}
use Rattle.share_table.proofs.Calls.{masked_call}
use Rattle.share_table.proofs.shares.Shares.masked.Goals as goal

pub returns-clause-reads : goal.returns-clause-reads
returns-clause-reads c = λ share h lawful proper holds. (masked_call c.args.self.now c.self.inside.locks c.self.inside.masks c.self.inside.holds c.self.inside.work c.any.result c.self.view_is c.any.ensures) (live_of h) holds
