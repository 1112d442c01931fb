use Rattle.sd_base.specs.History.{live_of}
use Rattle.share_table.proofs.Calls.{domain_call}
use Rattle.share_table.proofs.shares.Shares.domain_holds.Goals as goal

pub returns-clause-reads : goal.returns-clause-reads
returns-clause-reads c = λ share h lawful proper holds. (domain_call c.args.self.now c.self.inside.locks c.self.inside.masks c.self.inside.holds c.self.inside.work c.args.domain c.held.result c.self.view_is c.ranges.domain c.held.ensures.places c.held.ensures.value) (live_of h) holds
