use Rattle.c_expr.proofs.Spelled.{tree_words}
use Rattle.c_expr.proofs.laws.determines_words.Goals as goal

pub returns : goal.returns
returns c = λ w x d. tree_words w x d
