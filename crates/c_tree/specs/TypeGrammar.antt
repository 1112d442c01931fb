-- The grammar of type names, one constructor for each alternative. Each relation says that the words w begin with a
-- phrase of that meaning, and that v is what stands after it.
use Rattle.std.specs.Prelude.{ℕ, List, ◌∷◌, None, Some, true, false}
use Rattle.c_tree.specs.declared.keywords.Keyword.TheVariants as keyword
use Rattle.c_tree.specs.declared.signs.Sign.TheVariants as sign
use Rattle.c_tree.specs.declared.types.Addr.{Addr}
use Rattle.c_tree.specs.declared.types.Annotation.{Annotation}
use Rattle.c_tree.specs.declared.types.Annotation.TheVariants as annotation
use Rattle.c_tree.specs.declared.types.Base.{Base}
use Rattle.c_tree.specs.declared.types.Base.TheVariants as base
use Rattle.c_tree.specs.declared.types.SignedTerm.{SignedTerm}
use Rattle.c_tree.specs.declared.types.Star.{Star}
use Rattle.c_tree.specs.declared.types.Sum.{Sum}
use Rattle.c_tree.specs.declared.types.Term.{Term}
use Rattle.c_tree.specs.declared.types.Term.TheVariants as term
use Rattle.c_tree.specs.declared.types.TypeName.{TypeName}
use Rattle.c_tree.specs.declared.words.Suffix.{Suffix}
use Rattle.c_tree.specs.declared.words.Token.{Token}
use Rattle.c_tree.specs.declared.words.Word.TheVariants as word
use Rattle.c_tree.specs.Reading.{Begins, Each, Enclosed}

-- Base: one or two reserved words, or 'struct' NAME (C99, 6.7.2).
pub data BaseAt : List Token → List Token → Base → Type 0 where
  char : {w v : List Token} → Begins w (word.Keyword keyword.Char) v → BaseAt w v base.Char
  signed_char : {w u v : List Token} → Begins w (word.Keyword keyword.Signed) u → Begins u (word.Keyword keyword.Char) v → BaseAt w v base.SignedChar
  unsigned_char : {w u v : List Token} → Begins w (word.Keyword keyword.Unsigned) u → Begins u (word.Keyword keyword.Char) v → BaseAt w v base.UnsignedChar
  short : {w v : List Token} → Begins w (word.Keyword keyword.Short) v → BaseAt w v base.Short
  unsigned_short : {w u v : List Token} → Begins w (word.Keyword keyword.Unsigned) u → Begins u (word.Keyword keyword.Short) v → BaseAt w v base.UnsignedShort
  int : {w v : List Token} → Begins w (word.Keyword keyword.Int) v → BaseAt w v base.Int
  long : {w v : List Token} → Begins w (word.Keyword keyword.Long) v → BaseAt w v base.Long
  unsigned : {w v : List Token} → Begins w (word.Keyword keyword.Unsigned) v → BaseAt w v base.Unsigned
  unsigned_int : {w u v : List Token} → Begins w (word.Keyword keyword.Unsigned) u → Begins u (word.Keyword keyword.Int) v → BaseAt w v base.UnsignedInt
  unsigned_long : {w u v : List Token} → Begins w (word.Keyword keyword.Unsigned) u → Begins u (word.Keyword keyword.Long) v → BaseAt w v base.UnsignedLong
  structure : {w u v : List Token} {n : List ℕ} → Begins w (word.Keyword keyword.Struct) u → Begins u (word.Name n) v → BaseAt w v (base.Struct n)

-- Term: NUMBER, NAME or NUMBER '*' NAME.
pub data TermAt : List Token → List Token → Term → Type 0 where
  number : {w v : List Token} {n : ℕ} {s : Suffix} → Begins w (word.Number n s) v → TermAt w v (term.Number (record { value = n; suffix = s }))
  name : {w v : List Token} {n : List ℕ} → Begins w (word.Name n) v → TermAt w v (term.Name n)
  product : {w u r v : List Token} {n : ℕ} {s : Suffix} {m : List ℕ} → Begins w (word.Number n s) u → Begins u (word.Sign sign.Star) r
      → Begins r (word.Name m) v → TermAt w v (term.Product (record { value = n; suffix = s }) m)

-- ('+' | '-') Term.
pub data SignedAt : List Token → List Token → SignedTerm → Type 0 where
  plus : {w u v : List Token} {t : Term} → Begins w (word.Sign sign.Plus) u → TermAt u v t → SignedAt w v (record { negative = false; term = t })
  minus : {w u v : List Token} {t : Term} → Begins w (word.Sign sign.Minus) u → TermAt u v t → SignedAt w v (record { negative = true; term = t })

-- ['-'] Term.
pub data FirstTermAt : List Token → List Token → SignedTerm → Type 0 where
  first : {w v : List Token} {t : Term} → TermAt w v t → FirstTermAt w v (record { negative = false; term = t })
  negative_first : {w u v : List Token} {t : Term} → Begins w (word.Sign sign.Minus) u → TermAt u v t → FirstTermAt w v (record { negative = true; term = t })

-- Sum: ['-'] Term (('+' | '-') Term)*.
pub data SumAt : List Token → List Token → Sum → Type 0 where
  sum : {w u v : List Token} {t : SignedTerm} {ts : List SignedTerm} → FirstTermAt w u t → Each SignedAt u v ts → SumAt w v (record { terms = t ∷ ts })

-- Addr: NAME [('+' | '-') Term].
pub data AddrAt : List Token → List Token → Addr → Type 0 where
  pointer : {w v : List Token} {n : List ℕ} → Begins w (word.Name n) v → AddrAt w v (record { pointer = n; offset = None })
  offset : {w u v : List Token} {n : List ℕ} {t : SignedTerm} → Begins w (word.Name n) u → SignedAt u v t → AddrAt w v (record { pointer = n; offset = Some t })

-- Addr ',' Addr.
pub data EndsAt : List Token → List Token → Addr × Addr → Type 0 where
  ends : {w u r v : List Token} {lo hi : Addr} → AddrAt w u lo → Begins u (word.Sign sign.Comma) r → AddrAt r v hi → EndsAt w v (lo, hi)

-- Annot: the five annotations.
pub data AnnotationAt : List Token → List Token → Annotation → Type 0 where
  safe : {w v : List Token} → Begins w (word.Keyword keyword.Safe) v → AnnotationAt w v annotation.Safe
  sentinel : {w v : List Token} → Begins w (word.Keyword keyword.Sentinel) v → AnnotationAt w v annotation.Sentinel
  nullterm : {w v : List Token} → Begins w (word.Keyword keyword.Nullterm) v → AnnotationAt w v annotation.Nullterm
  count : {w u v : List Token} {n : Sum} → Begins w (word.Keyword keyword.Count) u → Enclosed SumAt u v n → AnnotationAt w v (annotation.Count n)
  bound : {w u v : List Token} {lo hi : Addr} → Begins w (word.Keyword keyword.Bound) u → Enclosed EndsAt u v (lo, hi) → AnnotationAt w v (annotation.Bound lo hi)

-- '*' [Annot].
pub data StarAt : List Token → List Token → Star → Type 0 where
  plain : {w v : List Token} → Begins w (word.Sign sign.Star) v → StarAt w v (record { annotation = None })
  annotated : {w u v : List Token} {a : Annotation} → Begins w (word.Sign sign.Star) u → AnnotationAt u v a → StarAt w v (record { annotation = Some a })

-- TypeName: Base Stars, where Stars are any number of stars.
pub data TypeNameAt : List Token → List Token → TypeName → Type 0 where
  type_name : {w u v : List Token} {b : Base} {ss : List Star} → BaseAt w u b → Each StarAt u v ss → TypeNameAt w v (record { base = b; stars = ss })

-- '(' TypeName ')'.
abbrev pub InParens : List Token → List Token → TypeName → Type 0
InParens = Enclosed TypeNameAt
