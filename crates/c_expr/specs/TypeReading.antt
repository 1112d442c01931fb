-- What the words begin with, for the phrases of type names that one or two words of lookahead decide: the longest
-- such phrase and the words after it.
use Rattle.std.specs.Prelude.{ℕ, Bool, true, false, List, Option, None, Some}
use Rattle.c_tree.specs.declared.keywords.Keyword.TheVariants as keyword
use Rattle.c_tree.specs.declared.signs.Sign.TheVariants as sign
use Rattle.c_tree.specs.declared.types.Addr.{Addr}
use Rattle.c_tree.specs.declared.types.Base.{Base}
use Rattle.c_tree.specs.declared.types.Base.TheVariants as base
use Rattle.c_tree.specs.declared.types.Number.{Number}
use Rattle.c_tree.specs.declared.types.SignedTerm.{SignedTerm}
use Rattle.c_tree.specs.declared.types.Term.{Term}
use Rattle.c_tree.specs.declared.types.Term.TheVariants as term
use Rattle.c_tree.specs.declared.words.Token.{Token}
use Rattle.c_tree.specs.declared.words.Word.TheVariants as word
use Rattle.c_tree.specs.Reading.{Front, front_of}
use Rattle.c_tree.specs.Reading.Front.{front}

-- After `unsigned`, which the words v follow.
abbrev pub unsigned_after : List Token → Front → Base × List Token
unsigned_after v (front (word.Keyword keyword.Char) u) = (base.UnsignedChar, u)
unsigned_after v (front (word.Keyword keyword.Short) u) = (base.UnsignedShort, u)
unsigned_after v (front (word.Keyword keyword.Int) u) = (base.UnsignedInt, u)
unsigned_after v (front (word.Keyword keyword.Long) u) = (base.UnsignedLong, u)
unsigned_after v _ = (base.Unsigned, v)

-- After `signed`.
abbrev pub signed_base_after : Front → Option (Base × List Token)
signed_base_after (front (word.Keyword keyword.Char) u) = Some (base.SignedChar, u)
signed_base_after _ = None

-- After `struct`.
abbrev pub struct_after : Front → Option (Base × List Token)
struct_after (front (word.Name n) u) = Some (base.Struct n, u)
struct_after _ = None

-- The base that a beginning holds.
abbrev pub base_of_front : Front → Option (Base × List Token)
base_of_front (front (word.Keyword keyword.Char) v) = Some (base.Char, v)
base_of_front (front (word.Keyword keyword.Signed) v) = signed_base_after (front_of v)
base_of_front (front (word.Keyword keyword.Unsigned) v) = Some (unsigned_after v (front_of v))
base_of_front (front (word.Keyword keyword.Short) v) = Some (base.Short, v)
base_of_front (front (word.Keyword keyword.Int) v) = Some (base.Int, v)
base_of_front (front (word.Keyword keyword.Long) v) = Some (base.Long, v)
base_of_front (front (word.Keyword keyword.Struct) v) = struct_after (front_of v)
base_of_front _ = None

-- The base that the words begin with.
abbrev pub base_of : List Token → Option (Base × List Token)
base_of w = base_of_front (front_of w)

-- After the number n and `*`, where the words v follow the number.
abbrev pub product_after : Number → List Token → Front → Term × List Token
product_after n v (front (word.Name m) q) = (term.Product n m, q)
product_after n v _ = (term.Number n, v)

-- After the number n, which the words v follow.
abbrev pub number_after : Number → List Token → Front → Term × List Token
number_after n v (front (word.Sign sign.Star) r) = product_after n v (front_of r)
number_after n v _ = (term.Number n, v)

-- The term that a beginning holds.
abbrev pub term_of_front : Front → Option (Term × List Token)
term_of_front (front (word.Number n s) v) = Some (number_after (record { value = n; suffix = s }) v (front_of v))
term_of_front (front (word.Name n) v) = Some (term.Name n, v)
term_of_front _ = None

-- The term that the words begin with.
abbrev pub term_of : List Token → Option (Term × List Token)
term_of w = term_of_front (front_of w)

-- A term with a sign, where there is one.
abbrev pub with_sign : Bool → Option (Term × List Token) → Option (SignedTerm × List Token)
with_sign b None = None
with_sign b (Some a) = Some (record { negative = b; term = a.0 }, a.1)

-- The sign and the term that a beginning holds.
abbrev pub signed_of_front : Front → Option (SignedTerm × List Token)
signed_of_front (front (word.Sign sign.Plus) u) = with_sign false (term_of u)
signed_of_front (front (word.Sign sign.Minus) u) = with_sign true (term_of u)
signed_of_front _ = None

-- The sign and the term that the words begin with.
abbrev pub signed_of : List Token → Option (SignedTerm × List Token)
signed_of w = signed_of_front (front_of w)

-- The first term of a sum that the words w, of this beginning, hold.
abbrev pub first_of_front : List Token → Front → Option (SignedTerm × List Token)
first_of_front w (front (word.Sign sign.Minus) u) = with_sign true (term_of u)
first_of_front w _ = with_sign false (term_of w)

-- The first term of a sum that the words begin with.
abbrev pub first_of : List Token → Option (SignedTerm × List Token)
first_of w = first_of_front w (front_of w)

-- After the pointer's name n, which the words v follow, with the sign and the term that they begin with.
abbrev pub addr_after : List ℕ → List Token → Option (SignedTerm × List Token) → Addr × List Token
addr_after n v None = (record { pointer = n; offset = None }, v)
addr_after n v (Some a) = (record { pointer = n; offset = Some a.0 }, a.1)

-- The end of a bound that a beginning holds.
abbrev pub addr_of_front : Front → Option (Addr × List Token)
addr_of_front (front (word.Name n) v) = Some (addr_after n v (signed_of v))
addr_of_front _ = None

-- The end of a bound that the words begin with.
abbrev pub addr_of : List Token → Option (Addr × List Token)
addr_of w = addr_of_front (front_of w)
