use Rattle.c_token.proofs.Ends.{some_end}
use Rattle.c_token.proofs.tokenizer.some_end.Goals as goal

pub returns : goal.returns
returns c = λ t. some_end t
