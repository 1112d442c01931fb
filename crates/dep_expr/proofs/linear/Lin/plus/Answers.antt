use Rattle.std.proofs.Common.{rules}
use Rattle.dep_expr.proofs.Values.{plus_value}
use Rattle.dep_expr.proofs.linear.Lin.plus.Goals as goal

pub returns-clause-value : goal.returns-clause-value
returns-clause-value c = plus_value _ _ _ (search rules)
