use Rattle.share_table.proofs.Held.{none_counted, none_held}
use Rattle.share_table.proofs.holds.Holds.new.Goals as goal

pub invariant_of-result : goal.invariant_of-result
invariant_of-result c = none_counted

pub returns : goal.returns
returns c = none_held
