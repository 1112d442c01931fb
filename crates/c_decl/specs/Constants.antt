-- What the words begin with, for the phrases of declarations that a few words of lookahead decide.
use Rattle.std.specs.Prelude.{ℕ, List, Option, None, Some}
use Rattle.c_tree.specs.declared.items.Const.{Const}
use Rattle.c_tree.specs.declared.items.Const.TheVariants as const
use Rattle.c_tree.specs.declared.keywords.Keyword.TheVariants as keyword
use Rattle.c_tree.specs.declared.signs.Sign.TheVariants as sign
use Rattle.c_tree.specs.declared.types.Number.{Number}
use Rattle.c_tree.specs.declared.words.Token.{Token}
use Rattle.c_tree.specs.declared.words.Word.TheVariants as word
use Rattle.c_tree.specs.Reading.{Front, front_of}
use Rattle.c_tree.specs.Reading.Front.{front}
use Rattle.c_decl.specs.declared.constants.Case.{Case}

-- After `[` and the number n of the words w.
abbrev pub size_close : Number → List Token → Front → Option Number × List Token
size_close n w (front (word.Sign sign.BracketClose) v) = (Some n, v)
size_close n w _ = (None, w)

-- After `[` of the words w.
abbrev pub size_number : List Token → Front → Option Number × List Token
size_number w (front (word.Number n s) r) = size_close (record { value = n; suffix = s }) w (front_of r)
size_number w _ = (None, w)

-- The size that the words w, of this beginning, hold.
abbrev pub size_front : List Token → Front → Option Number × List Token
size_front w (front (word.Sign sign.BracketOpen) u) = size_number w (front_of u)
size_front w _ = (None, w)

-- The size that the words begin with, if there is one, and the words after it.
abbrev pub size_of : List Token → Option Number × List Token
size_of w = size_front w (front_of w)

-- After `-`.
abbrev pub negative_of : Front → Option (Const × List Token)
negative_of (front (word.Number n s) v) = Some (const.Negative (record { value = n; suffix = s }), v)
negative_of _ = None

-- The constant that a beginning holds.
abbrev pub const_front : Front → Option (Const × List Token)
const_front (front (word.Number n s) v) = Some (const.Number (record { value = n; suffix = s }), v)
const_front (front (word.Sign sign.Minus) u) = negative_of (front_of u)
const_front (front (word.Character c) v) = Some (const.Character c, v)
const_front _ = None

-- The constant that the words begin with.
abbrev pub const_of : List Token → Option (Const × List Token)
const_of w = const_front (front_of w)

-- The value that a constant behind `=` gives, where there is one; else none, before all the words w.
abbrev pub value_with : List Token → Option (Const × List Token) → Option Const × List Token
value_with w None = (None, w)
value_with w (Some a) = (Some a.0, a.1)

-- The value that the words w, of this beginning, hold.
abbrev pub value_front : List Token → Front → Option Const × List Token
value_front w (front (word.Sign sign.Assign) u) = value_with w (const_of u)
value_front w _ = (None, w)

-- The value that the words begin with, if there is one, and the words after it.
abbrev pub value_of : List Token → Option Const × List Token
value_of w = value_front w (front_of w)

-- After `when ( t == c )`.
abbrev pub case_end : Case → Front → Option (Case × List Token)
case_end x (front (word.Sign sign.Semicolon) v) = Some (x, v)
case_end x _ = None

-- After `when ( t == c`.
abbrev pub case_close : Case → Front → Option (Case × List Token)
case_close x (front (word.Sign sign.ParenClose) h) = case_end x (front_of h)
case_close x _ = None

-- After `when ( t ==`, with the constant that stands there.
abbrev pub case_value : List ℕ → Option (Const × List Token) → Option (Case × List Token)
case_value m None = None
case_value m (Some a) = case_close (record { tag = m; value = a.0 }) (front_of a.1)

-- After `when ( t`.
abbrev pub case_equal : List ℕ → Front → Option (Case × List Token)
case_equal m (front (word.Sign sign.Equal) f) = case_value m (const_of f)
case_equal m _ = None

-- After `when (`.
abbrev pub case_tag : Front → Option (Case × List Token)
case_tag (front (word.Name m) e) = case_equal m (front_of e)
case_tag _ = None

-- After `when`.
abbrev pub case_open : Front → Option (Case × List Token)
case_open (front (word.Sign sign.ParenOpen) d) = case_tag (front_of d)
case_open _ = None

-- The case that a beginning holds.
abbrev pub case_front : Front → Option (Case × List Token)
case_front (front (word.Keyword keyword.When) c) = case_open (front_of c)
case_front _ = None

-- The case of an arm that the words begin with.
abbrev pub case_of : List Token → Option (Case × List Token)
case_of w = case_front (front_of w)
