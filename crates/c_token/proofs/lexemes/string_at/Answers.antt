use Rattle.c_token.proofs.WordLaws.{string_found, string_none}
use Rattle.c_token.proofs.lexemes.string_at.Goals as goal

pub returns-in_default-clause-none : goal.returns-in_default-clause-none
returns-in_default-clause-none c = λ _. string_none c.args.text.now c.in_default.ensures.length

pub returns-clause-found : goal.returns-clause-found
returns-clause-found c = string_found c.args.text.now c.in-Some.length c.in-Some.ensures.length
