use Rattle.c_expr.proofs.ExpressionExistence.{one_tree}
use Rattle.c_expr.proofs.laws.one_expression.Goals as goal

pub returns : goal.returns
returns c = λ w x y d e. one_tree w x y d e
