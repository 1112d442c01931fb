use Rattle.std.proofs.Common.{cond, None, Some}
use Rattle.sd_base.specs.declared.history.Refusal.TheVariants.{Busy}
use Rattle.share_table.proofs.Calls.{mask_call}
use Rattle.share_table.proofs.shares.Shares.mask.Goals as goal

pub returns-clause-serves : goal.returns-clause-serves
returns-clause-serves c =
    mask_call c.args.self.now c.self.inside.locks c.self.inside.masks c.mask.new.self c.self.inside.holds c.self.inside.work c.args.who (cond c.mask.result None (Some Busy)) c.self.view_is c.mask.ensures.serves
