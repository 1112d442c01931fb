use Rattle.c_expr.proofs.Places.{before_any}
use Rattle.c_expr.proofs.laws.stands_before_any_words.Goals as goal

pub returns : goal.returns
returns c = λ s r x d. before_any s r x d
