use Rattle.c_token.proofs.WordLaws.{character_found, character_none, character_several}
use Rattle.c_token.proofs.lexemes.character_at.Goals as goal

pub returns-in_default-clause-none : goal.returns-in_default-clause-none
returns-in_default-clause-none c = λ _. character_none c.args.text.now c.in_default.ensures.length

pub returns-in_default-one_meant-clause-none : goal.returns-in_default-one_meant-clause-none
returns-in_default-one_meant-clause-none c =
    λ _. character_several c.args.text.now c.in-Some.length c.in-Some.ensures.length c.in_default-one_meant.ensures

pub returns-clause-found : goal.returns-clause-found
returns-clause-found c =
    character_found c.args.text.now c.in-Some.length c.in-Some-one_meant.byte c.in-Some.ensures.length c.in-Some-one_meant.ensures
