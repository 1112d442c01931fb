use Rattle.share_table.proofs.Calls.{remove_mask_call}
use Rattle.share_table.proofs.shares.Shares.remove_mask.Goals as goal

pub returns-clause-removed : goal.returns-clause-removed
returns-clause-removed g c =
    remove_mask_call c.args.self.now c.self.inside.locks c.self.inside.masks c.remove.new.self c.self.inside.holds c.self.inside.work c.args.who c.self.view_is c.remove.ensures
