use Rattle.c_token.proofs.WordLaws.{word_of-string}
use Rattle.c_token.proofs.words.word.Goals as goal

pub returns-in_ok-bytes-in-String : goal.returns-in_ok-bytes-in-String
returns-in_ok-bytes-in-String c =
    word_of-string c.args.strings c.args.lexeme.now.kind c.args.lexeme.now.spelling.now c.in_ok-bytes-in-String.bytes c.in-String.is c.in_ok-bytes-in-String.ensures
