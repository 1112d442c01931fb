-- Classes of words by what they can do after a phrase: at which words a phrase may go on.
use Rattle.std.specs.Prelude.{List, Bool, true, false, IsTrue}
use Rattle.c_tree.specs.declared.keywords.Keyword.TheVariants as keyword
use Rattle.c_tree.specs.declared.signs.Sign.TheVariants as sign
use Rattle.c_tree.specs.declared.words.Token.{Token}
use Rattle.c_tree.specs.declared.words.Word.{Word}
use Rattle.c_tree.specs.declared.words.Word.TheVariants as word
use Rattle.c_tree.specs.Reading.{Front, front_of}
use Rattle.c_tree.specs.Reading.Front.{nothing, front}

-- Whether a beginning is a word of the class.
abbrev pub begins_in : (Word → Bool) → Front → Bool
begins_in class nothing = false
begins_in class (front k u) = class k

-- The words begin with a word of the class.
abbrev pub At : (Word → Bool) → List Token → Type 0
At class w = IsTrue (begins_in class (front_of w))

-- `*`, after a number of a sum.
abbrev pub is_star : Word → Bool
is_star (word.Sign sign.Star) = true
is_star _ = false

-- `+` and `-`, the signs before a term.
abbrev pub is_plus_or_minus : Word → Bool
is_plus_or_minus (word.Sign sign.Plus) = true
is_plus_or_minus (word.Sign sign.Minus) = true
is_plus_or_minus _ = false

-- What a sum, or the end of a bound, may go on at.
abbrev pub is_in_sums : Word → Bool
is_in_sums (word.Sign sign.Star) = true
is_in_sums (word.Sign sign.Plus) = true
is_in_sums (word.Sign sign.Minus) = true
is_in_sums _ = false

-- The reserved words that begin an annotation.
abbrev pub is_annotation : Word → Bool
is_annotation (word.Keyword keyword.Safe) = true
is_annotation (word.Keyword keyword.Sentinel) = true
is_annotation (word.Keyword keyword.Nullterm) = true
is_annotation (word.Keyword keyword.Count) = true
is_annotation (word.Keyword keyword.Bound) = true
is_annotation _ = false

-- The reserved words that may stand after `unsigned`.
abbrev pub is_after_unsigned : Word → Bool
is_after_unsigned (word.Keyword keyword.Char) = true
is_after_unsigned (word.Keyword keyword.Short) = true
is_after_unsigned (word.Keyword keyword.Int) = true
is_after_unsigned (word.Keyword keyword.Long) = true
is_after_unsigned _ = false

-- What a type name may go on at: `*`, an annotation, or a further word of its base.
abbrev pub is_in_types : Word → Bool
is_in_types (word.Sign sign.Star) = true
is_in_types (word.Keyword keyword.Safe) = true
is_in_types (word.Keyword keyword.Sentinel) = true
is_in_types (word.Keyword keyword.Nullterm) = true
is_in_types (word.Keyword keyword.Count) = true
is_in_types (word.Keyword keyword.Bound) = true
is_in_types (word.Keyword keyword.Char) = true
is_in_types (word.Keyword keyword.Short) = true
is_in_types (word.Keyword keyword.Int) = true
is_in_types (word.Keyword keyword.Long) = true
is_in_types _ = false

-- The reserved words that a base begins with.
abbrev pub is_base : Word → Bool
is_base (word.Keyword keyword.Char) = true
is_base (word.Keyword keyword.Signed) = true
is_base (word.Keyword keyword.Unsigned) = true
is_base (word.Keyword keyword.Short) = true
is_base (word.Keyword keyword.Int) = true
is_base (word.Keyword keyword.Long) = true
is_base (word.Keyword keyword.Struct) = true
is_base _ = false

-- The words that a primary expression begins with.
abbrev pub is_primary : Word → Bool
is_primary (word.Number n s) = true
is_primary (word.Character c) = true
is_primary (word.String s k) = true
is_primary (word.Name n) = true
is_primary (word.Sign sign.ParenOpen) = true
is_primary _ = false

-- The words that an expression begins with.
abbrev pub is_expression : Word → Bool
is_expression (word.Number n s) = true
is_expression (word.Character c) = true
is_expression (word.String s k) = true
is_expression (word.Name n) = true
is_expression (word.Keyword keyword.Sizeof) = true
is_expression (word.Sign sign.ParenOpen) = true
is_expression (word.Sign sign.Minus) = true
is_expression (word.Sign sign.Tilde) = true
is_expression (word.Sign sign.Exclamation) = true
is_expression (word.Sign sign.Plus) = true
is_expression (word.Sign sign.Star) = true
is_expression (word.Sign sign.Ampersand) = true
is_expression _ = false
