use Rattle.std.proofs.Common.{cond, None, Some}
use Rattle.sd_base.specs.declared.history.Refusal.TheVariants.{Unheld}
use Rattle.share_table.proofs.Calls.{unmask_call}
use Rattle.share_table.proofs.shares.Shares.unmask.Goals as goal

pub returns-clause-serves : goal.returns-clause-serves
returns-clause-serves c =
    unmask_call c.args.self.now c.self.inside.locks c.self.inside.masks c.unmask.new.self c.self.inside.holds c.self.inside.work c.args.who (cond c.unmask.result None (Some Unheld)) c.self.view_is c.unmask.ensures.serves
