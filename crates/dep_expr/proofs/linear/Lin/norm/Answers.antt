use Rattle.std.proofs.Common.{rules}
use Rattle.dep_expr.proofs.Norming.{normed_same}
use Rattle.dep_expr.proofs.linear.Lin.norm.Goals as goal

pub returns-clause-solutions : goal.returns-clause-solutions
returns-clause-solutions c = normed_same _ _ (search rules)
