use Rattle.sd_base.specs.History.{live_of}
use Rattle.sd_base.proofs.SoundLive.{lawful_sound}
use Rattle.share_table.proofs.Calls.{holds_lock_call}
use Rattle.share_table.proofs.shares.Shares.holds_lock.Goals as goal

pub returns-clause-reads : goal.returns-clause-reads
returns-clause-reads c = λ share h lawful proper holds. (holds_lock_call c.args.self.now c.self.inside.locks c.self.inside.masks c.self.inside.holds c.self.inside.work c.args.who c.any_of.result c.self.view_is c.any_of.ensures) (live_of h) (lawful_sound share h proper lawful) holds
