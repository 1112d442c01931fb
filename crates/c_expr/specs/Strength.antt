-- How tightly a word binds to what stands before it: an operator by its row, counted from 1, and `.`, `->` and `[` more
-- tightly than all rows. Other words bind nothing, and have 0.
use Rattle.std.specs.Prelude.{ℕ, ◌+◌, ◌<◌, List, Option, None, Some}
use Rattle.c_tree.specs.declared.expressions.Binary.{Binary}
use Rattle.c_tree.specs.declared.signs.Sign.{Sign}
use Rattle.c_tree.specs.declared.signs.Sign.TheVariants as sign
use Rattle.c_tree.specs.declared.words.Token.{Token}
use Rattle.c_tree.specs.declared.words.Word.{Word}
use Rattle.c_tree.specs.declared.words.Word.TheVariants as word
use Rattle.c_tree.specs.Operators.{binary_of, row_of, rows}
use Rattle.c_tree.specs.Reading.{Front, front_of}
use Rattle.c_tree.specs.Reading.Front.{nothing, front}

-- That of a sign that is this operator, or none.
abbrev pub operator_strength : Option Binary → ℕ
operator_strength None = 0
operator_strength (Some o) = row_of o + 1

-- That of a sign.
abbrev pub sign_strength : Sign → ℕ
sign_strength sign.Dot = rows + 1
sign_strength sign.Arrow = rows + 1
sign_strength sign.BracketOpen = rows + 1
sign_strength s = operator_strength (binary_of s)

-- That of a word.
abbrev pub word_strength : Word → ℕ
word_strength (word.Sign s) = sign_strength s
word_strength _ = 0

-- That of a beginning's first word.
abbrev pub front_strength : Front → ℕ
front_strength nothing = 0
front_strength (front k u) = word_strength k

-- That of the first word.
abbrev pub strength_at : List Token → ℕ
strength_at w = front_strength (front_of w)

-- The words at which a phrase of the row l may go on: their first word binds more tightly than that row's operands need.
abbrev pub Tighter : ℕ → List Token → Type 0
Tighter l v = l < strength_at v
