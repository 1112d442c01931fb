-- What the words begin with, for the phrases of expressions that a few words of lookahead decide.
use Rattle.std.specs.Prelude.{zero, Bool, false, List, Option, None, Some}
use Rattle.c_tree.specs.declared.keywords.Keyword.TheVariants as keyword
use Rattle.c_tree.specs.declared.signs.Sign.TheVariants as sign
use Rattle.c_tree.specs.declared.words.Suffix.TheVariants as suffix
use Rattle.c_tree.specs.declared.words.Token.{Token}
use Rattle.c_tree.specs.declared.words.Word.TheVariants as word
use Rattle.c_tree.specs.Reading.{Front, front_of}
use Rattle.c_tree.specs.Reading.Front.{front}
use Rattle.c_expr.specs.Classes.{begins_in, is_base}

-- Whether a beginning is `(` with a base after it.
abbrev pub front_opens_type : Front → Bool
front_opens_type (front (word.Sign sign.ParenOpen) u) = begins_in is_base (front_of u)
front_opens_type _ = false

-- Whether the words begin with `(` and a base after it. So begins a cast, and no other expression.
abbrev pub opens_type : List Token → Bool
opens_type w = front_opens_type (front_of w)

-- After `( void * )`: a number of value 0 without suffix.
abbrev pub null_zero : Front → Option (List Token)
null_zero (front (word.Number zero suffix.Plain) v) = Some v
null_zero _ = None

-- After `( void *`.
abbrev pub null_close : Front → Option (List Token)
null_close (front (word.Sign sign.ParenClose) d) = null_zero (front_of d)
null_close _ = None

-- After `( void`.
abbrev pub null_star : Front → Option (List Token)
null_star (front (word.Sign sign.Star) c) = null_close (front_of c)
null_star _ = None

-- After `(`.
abbrev pub null_void : Front → Option (List Token)
null_void (front (word.Keyword keyword.Void) b) = null_star (front_of b)
null_void _ = None

-- The words after a null constant that a beginning holds.
abbrev pub null_front : Front → Option (List Token)
null_front (front (word.Sign sign.ParenOpen) a) = null_void (front_of a)
null_front _ = None

-- The words after the null constant that the words begin with.
abbrev pub null_of : List Token → Option (List Token)
null_of w = null_front (front_of w)
