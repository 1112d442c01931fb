use Rattle.share_table.proofs.Locked.{none_locked}
use Rattle.share_table.proofs.locks.Locks.new.Goals as goal

pub returns : goal.returns
returns c = none_locked
