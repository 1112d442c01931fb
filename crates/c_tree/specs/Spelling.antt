-- The words of a type name and of an expression, in order. A tree determines its words.
use Rattle.std.specs.Prelude.{ℕ, List, [], ◌∷◌, ◌++◌, cond, Option, None, Some}
use Rattle.c_tree.specs.declared.expressions.Binary.{Binary}
use Rattle.c_tree.specs.declared.expressions.Binary.TheVariants as binary
use Rattle.c_tree.specs.declared.expressions.Expr.{Expr}
use Rattle.c_tree.specs.declared.expressions.Expr.TheOpen.{Expr-F}
use Rattle.c_tree.specs.declared.expressions.Expr.TheFolds.{fold-Expr}
use Rattle.c_tree.specs.declared.expressions.Unary.{Unary}
use Rattle.c_tree.specs.declared.expressions.Unary.TheVariants as unary
use Rattle.c_tree.specs.declared.keywords.Keyword.{Keyword}
use Rattle.c_tree.specs.declared.keywords.Keyword.TheVariants as keyword
use Rattle.c_tree.specs.declared.signs.Sign.{Sign}
use Rattle.c_tree.specs.declared.signs.Sign.TheVariants as sign
use Rattle.c_tree.specs.declared.types.Addr.{Addr}
use Rattle.c_tree.specs.declared.types.Annotation.{Annotation}
use Rattle.c_tree.specs.declared.types.Annotation.TheVariants as annotation
use Rattle.c_tree.specs.declared.types.Base.{Base}
use Rattle.c_tree.specs.declared.types.Base.TheVariants as base
use Rattle.c_tree.specs.declared.types.Number.{Number}
use Rattle.c_tree.specs.declared.types.SignedTerm.{SignedTerm}
use Rattle.c_tree.specs.declared.types.Star.{Star}
use Rattle.c_tree.specs.declared.types.Term.{Term}
use Rattle.c_tree.specs.declared.types.Term.TheVariants as term
use Rattle.c_tree.specs.declared.types.TypeName.{TypeName}
use Rattle.c_tree.specs.declared.words.Suffix.TheVariants as suffix
use Rattle.c_tree.specs.declared.words.Word.{Word}
use Rattle.c_tree.specs.declared.words.Word.TheVariants as word

-- A sign, a reserved word and a number as one word.
abbrev pub a_sign : Sign → List Word
a_sign s = word.Sign s ∷ []

abbrev pub a_keyword : Keyword → List Word
a_keyword k = word.Keyword k ∷ []

abbrev pub a_name : List ℕ → List Word
a_name n = word.Name n ∷ []

abbrev pub a_number : Number → List Word
a_number n = word.Number n.value n.suffix ∷ []

-- The sign of an operator.
abbrev pub unary_sign : Unary → Sign
unary_sign unary.Minus = sign.Minus
unary_sign unary.Complement = sign.Tilde
unary_sign unary.Not = sign.Exclamation
unary_sign unary.Plus = sign.Plus
unary_sign unary.Dereference = sign.Star
unary_sign unary.Address = sign.Ampersand

abbrev pub binary_sign : Binary → Sign
binary_sign binary.LogicalOr = sign.Bars
binary_sign binary.LogicalAnd = sign.Ampersands
binary_sign binary.BitOr = sign.Bar
binary_sign binary.BitXor = sign.Caret
binary_sign binary.BitAnd = sign.Ampersand
binary_sign binary.Equal = sign.Equal
binary_sign binary.NotEqual = sign.NotEqual
binary_sign binary.Less = sign.Less
binary_sign binary.Greater = sign.Greater
binary_sign binary.LessEqual = sign.LessEqual
binary_sign binary.GreaterEqual = sign.GreaterEqual
binary_sign binary.ShiftLeft = sign.ShiftLeft
binary_sign binary.ShiftRight = sign.ShiftRight
binary_sign binary.Add = sign.Plus
binary_sign binary.Subtract = sign.Minus
binary_sign binary.Multiply = sign.Star
binary_sign binary.Divide = sign.Slash
binary_sign binary.Remainder = sign.Percent

-- The words of a base.
abbrev pub base_words : Base → List Word
base_words base.Char = a_keyword keyword.Char
base_words base.SignedChar = a_keyword keyword.Signed ++ a_keyword keyword.Char
base_words base.UnsignedChar = a_keyword keyword.Unsigned ++ a_keyword keyword.Char
base_words base.Short = a_keyword keyword.Short
base_words base.UnsignedShort = a_keyword keyword.Unsigned ++ a_keyword keyword.Short
base_words base.Int = a_keyword keyword.Int
base_words base.Long = a_keyword keyword.Long
base_words base.Unsigned = a_keyword keyword.Unsigned
base_words base.UnsignedInt = a_keyword keyword.Unsigned ++ a_keyword keyword.Int
base_words base.UnsignedLong = a_keyword keyword.Unsigned ++ a_keyword keyword.Long
base_words (base.Struct n) = a_keyword keyword.Struct ++ a_name n

-- The words of a term.
abbrev pub term_words : Term → List Word
term_words (term.Number n) = a_number n
term_words (term.Name n) = a_name n
term_words (term.Product n m) = a_number n ++ (a_sign sign.Star ++ a_name m)

-- The words of a term behind another.
abbrev pub signed_words : SignedTerm → List Word
signed_words t = cond t.negative (a_sign sign.Minus ++ term_words t.term) (a_sign sign.Plus ++ term_words t.term)

-- The words of the first term of a sum.
abbrev pub first_words : SignedTerm → List Word
first_words t = cond t.negative (a_sign sign.Minus ++ term_words t.term) (term_words t.term)

-- The words of the terms behind the first.
abbrev pub terms_words : List SignedTerm → List Word
terms_words [] = []
terms_words (t ∷ ts) = signed_words t ++ terms_words ts

-- The words of a list of terms.
abbrev pub sum_words : List SignedTerm → List Word
sum_words [] = []
sum_words (t ∷ ts) = first_words t ++ terms_words ts

-- The words of a term, where there is one.
abbrev pub offset_words : Option SignedTerm → List Word
offset_words None = []
offset_words (Some t) = signed_words t

-- The words of an end of a bound.
abbrev pub addr_words : Addr → List Word
addr_words a = a_name a.pointer ++ offset_words a.offset

-- Words in parentheses.
abbrev pub in_parentheses : List Word → List Word
in_parentheses ks = a_sign sign.ParenOpen ++ (ks ++ a_sign sign.ParenClose)

-- The words of an annotation.
abbrev pub annotation_words : Annotation → List Word
annotation_words annotation.Safe = a_keyword keyword.Safe
annotation_words annotation.Sentinel = a_keyword keyword.Sentinel
annotation_words annotation.Nullterm = a_keyword keyword.Nullterm
annotation_words (annotation.Count n) = a_keyword keyword.Count ++ in_parentheses (sum_words n.terms)
annotation_words (annotation.Bound lo hi) = a_keyword keyword.Bound ++ in_parentheses (addr_words lo ++ (a_sign sign.Comma ++ addr_words hi))

-- The words of an annotation, where there is one.
abbrev pub noted_words : Option Annotation → List Word
noted_words None = []
noted_words (Some a) = annotation_words a

-- The words of stars.
abbrev pub stars_words : List Star → List Word
stars_words [] = []
stars_words (s ∷ ss) = (a_sign sign.Star ++ noted_words s.annotation) ++ stars_words ss

-- The words of a type name.
abbrev pub type_words : TypeName → List Word
type_words t = base_words t.base ++ stars_words t.stars

-- The words of an expression, from those of its parts.
abbrev pub expression_words : Expr-F (List Word) → List Word
expression_words (Expr-F.Number n) = a_number n
expression_words (Expr-F.Character c) = word.Character c ∷ []
expression_words (Expr-F.String s k) = word.String s k ∷ []
expression_words (Expr-F.Name n) = a_name n
expression_words (Expr-F.Grouped x) = in_parentheses x
expression_words Expr-F.Null = a_sign sign.ParenOpen ++ (a_keyword keyword.Void ++ (a_sign sign.Star ++ (a_sign sign.ParenClose ++ word.Number 0 suffix.Plain ∷ [])))
expression_words (Expr-F.Unary o x) = a_sign (unary_sign o) ++ x
expression_words (Expr-F.Binary o x y) = x ++ (a_sign (binary_sign o) ++ y)
expression_words (Expr-F.Cast t x) = in_parentheses (type_words t) ++ x
expression_words (Expr-F.Sizeof t) = a_keyword keyword.Sizeof ++ in_parentheses (type_words t)
expression_words (Expr-F.Field x n) = x ++ (a_sign sign.Dot ++ a_name n)
expression_words (Expr-F.Arrow x n) = x ++ (a_sign sign.Arrow ++ a_name n)
expression_words (Expr-F.Index x y) = x ++ (a_sign sign.BracketOpen ++ (y ++ a_sign sign.BracketClose))

-- The words of an expression.
abbrev pub spelled : Expr → List Word
spelled = fold-Expr (List Word) expression_words
