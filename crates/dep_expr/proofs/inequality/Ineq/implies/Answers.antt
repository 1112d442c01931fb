use Rattle.std.proofs.Common.{rules}
use Rattle.dep_expr.proofs.Implying.{implied}
use Rattle.dep_expr.proofs.inequality.Ineq.implies.Goals as goal

pub returns-then-is_same-clause-solutions : goal.returns-then-is_same-clause-solutions
returns-then-is_same-clause-solutions c = λ yes. implied c.args.self.now c.args.other.now (search rules)
