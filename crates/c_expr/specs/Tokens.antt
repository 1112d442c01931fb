-- Tokens without their lines.
use Rattle.std.specs.Prelude.{List, map}
use Rattle.c_tree.specs.declared.words.Token.{Token}
use Rattle.c_tree.specs.declared.words.Word.{Word}

-- The words of tokens.
abbrev pub words_of : List Token → List Word
words_of w = map (λ t. t.word) w
