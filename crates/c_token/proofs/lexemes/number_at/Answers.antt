use Rattle.std.proofs.Common.{refl}
use Rattle.c_token.proofs.WordLaws.{number_found, number_none}
use Rattle.c_token.proofs.lexemes.number_at.Goals as goal

pub returns-in_default-clause-none : goal.returns-in_default-clause-none
returns-in_default-clause-none c =
    λ _. number_none c.args.text.now c.name_length-length.result c.requires c.name_length-length.ensures.front (c.in_default.ensures.none refl)

pub returns-clause-found : goal.returns-clause-found
returns-clause-found c =
    number_found c.args.text.now c.name_length-length.result c.in-Some.value c.in-Some.suffix c.requires c.name_length-length.ensures.front c.in-Some.ensures.found
