use Rattle.layout_laws.proofs.LimitLaws.{keeps_limits}
use Rattle.layout_laws.proofs.limits.a_table_keeps_the_limits.Goals as goal

pub returns : goal.returns
returns c = keeps_limits
