use Rattle.std.proofs.Common.{Some, None}
use Rattle.c_token.proofs.WordLaws.{name_found}
use Rattle.c_token.proofs.lexemes.name_at.Goals as goal

pub returns-in-Some : goal.returns-in-Some
returns-in-Some c =
    name_found c.args.text.now c.name_length-length.result (Some c.in-Some.keyword) c.requires c.name_length-length.ensures.front c.in-Some.ensures

pub returns-in-None : goal.returns-in-None
returns-in-None c =
    name_found c.args.text.now c.name_length-length.result None c.requires c.name_length-length.ensures.front c.in-None.ensures
