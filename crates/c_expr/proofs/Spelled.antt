-- An expression's words are those that its tree determines, and none of them ends a run.
use Rattle.std.proofs.Common.{◌≡◌, ℕ, List, [], ◌∷◌, ◌++◌, false, Some, refl, ap, sym, ◌∙◌, subst, append_assoc, append-nil}
use Rattle.c_tree.specs.declared.expressions.Binary.{Binary}
use Rattle.c_tree.specs.declared.expressions.Binary.TheVariants as binary
use Rattle.c_tree.specs.declared.expressions.Expr.{Expr}
use Rattle.c_tree.specs.declared.expressions.Expr.TheOpen.{Expr-F}
use Rattle.c_tree.specs.declared.expressions.Expr.TheFolds.{fold-roll-Expr}
use Rattle.c_tree.specs.declared.expressions.Expr.TheVariants as expr
use Rattle.c_tree.specs.declared.expressions.Unary.{Unary}
use Rattle.c_tree.specs.declared.expressions.Unary.TheVariants as unary
use Rattle.c_tree.specs.declared.keywords.Keyword.TheVariants as keyword
use Rattle.c_tree.specs.declared.signs.Sign.{Sign}
use Rattle.c_tree.specs.declared.signs.Sign.TheVariants as sign
use Rattle.c_tree.specs.declared.types.Addr.{Addr}
use Rattle.c_tree.specs.declared.types.Annotation.{Annotation}
use Rattle.c_tree.specs.declared.types.Base.{Base}
use Rattle.c_tree.specs.declared.types.Number.{Number}
use Rattle.c_tree.specs.declared.types.SignedTerm.{SignedTerm}
use Rattle.c_tree.specs.declared.types.Star.{Star}
use Rattle.c_tree.specs.declared.types.Sum.{Sum}
use Rattle.c_tree.specs.declared.types.Term.{Term}
use Rattle.c_tree.specs.declared.types.TypeName.{TypeName}
use Rattle.c_tree.specs.declared.words.Suffix.TheVariants as suffix
use Rattle.c_tree.specs.declared.words.Token.{Token}
use Rattle.c_tree.specs.declared.words.Word.{Word}
use Rattle.c_tree.specs.declared.words.Word.TheVariants as word
use Rattle.c_tree.specs.ExpressionGrammar.{single_of, NullAt, null, Row, row, last_row, RowMore, row_end, row_more, UnaryExpr, prefixed, cast, size_of, plain, Postfix, postfix, PostfixMore, postfix_end, field, arrow, index, Primary, single, grouped, null_constant, Closed, closed, IsExpr}
use Rattle.c_tree.specs.Limits.{is_sign, ends_run}
use Rattle.c_tree.specs.Operators.{unary_of, binary_of, UnaryAt, BinaryAt}
use Rattle.c_tree.specs.Reading.{Begins, Each, each_end, each_more, Enclosed, enclosed}
use Rattle.c_tree.specs.Spelling.{a_sign, a_keyword, a_name, a_number, unary_sign, binary_sign, base_words, term_words, signed_words, first_words, terms_words, sum_words, addr_words, in_parentheses, annotation_words, stars_words, type_words, expression_words, spelled}
use Rattle.c_tree.specs.TypeGrammar as types
use Rattle.c_expr.specs.Tokens.{words_of}
use Rattle.c_tree.specs.TypeGrammar.{BaseAt, char, signed_char, unsigned_char, short, unsigned_short, int, long, unsigned, unsigned_int, unsigned_long, structure, TermAt, number, name, product, SignedAt, plus, minus, FirstTermAt, first, negative_first, SumAt, sum, AddrAt, pointer, offset, EndsAt, ends, AnnotationAt, safe, sentinel, nullterm, count, bound, StarAt, annotated, TypeNameAt, type_name, InParens}

-- no word ends a run
abbrev pub Quiet : List Word → Type 0
Quiet [] = Unit {0}
Quiet (k ∷ s) = (is_sign ends_run k ≡ false) × Quiet s

pub quiet_append : (s r : List Word) → Quiet s → Quiet r → Quiet (s ++ r)
quiet_append [] r p q = q
quiet_append (k ∷ s) r p q = (p.0, quiet_append s r p.1 q)

-- from w to v stand the words s, none of which ends a run
pub record Written (w v : List Token) (s : List Word) : Type 0 where
  pub same : words_of w ≡ s ++ words_of v
  pub quiet : Quiet s

one : (w v : List Token) (k : Word) → Begins w k v → is_sign ends_run k ≡ false → Written w v (k ∷ [])
one [] v k b q = cc
one (t ∷ w) v k b q = let is : t.word ≡ k = cc in let rest : w ≡ v = cc in record { same = ap (λ j. j ∷ words_of w) is ∙ ap (λ z. k ∷ words_of z) rest; quiet = (q, tt) }

pub word_there : {w v : List Token} {k : Word} → Begins w k v → is_sign ends_run k ≡ false → Written w v (k ∷ [])
word_there {w} {v} {k} b q = one w v k b q

pub both : {w u v : List Token} {s r : List Word} → Written w u s → Written u v r → Written w v (s ++ r)
both {v = v} {s = s} {r = r} p q = record { same = p.same ∙ ap (λ z. s ++ z) q.same ∙ sym (append_assoc s r (words_of v)); quiet = quiet_append s r p.quiet q.quiet }

pub written_as : {w v : List Token} {s r : List Word} → s ≡ r → Written w v s → Written w v r
written_as {w} {v} e p = subst (Written w v) e p

-- ---- type names
pub base_written : {w v : List Token} {x : Base} → BaseAt w v x → Written w v (base_words x)
base_written (char b) = word_there b refl
base_written (signed_char b c) = both (word_there b refl) (word_there c refl)
base_written (unsigned_char b c) = both (word_there b refl) (word_there c refl)
base_written (short b) = word_there b refl
base_written (unsigned_short b c) = both (word_there b refl) (word_there c refl)
base_written (int b) = word_there b refl
base_written (long b) = word_there b refl
base_written (unsigned b) = word_there b refl
base_written (unsigned_int b c) = both (word_there b refl) (word_there c refl)
base_written (unsigned_long b c) = both (word_there b refl) (word_there c refl)
base_written (structure b c) = both (word_there b refl) (word_there c refl)

term_written : {w v : List Token} {x : Term} → TermAt w v x → Written w v (term_words x)
term_written (number b) = word_there b refl
term_written (name b) = word_there b refl
term_written (product b c d) = both (word_there b refl) (both (word_there c refl) (word_there d refl))

signed_written : {w v : List Token} {x : SignedTerm} → SignedAt w v x → Written w v (signed_words x)
signed_written (plus b d) = both (word_there b refl) (term_written d)
signed_written (minus b d) = both (word_there b refl) (term_written d)

first_written : {w v : List Token} {x : SignedTerm} → FirstTermAt w v x → Written w v (first_words x)
first_written (first d) = term_written d
first_written (negative_first b d) = both (word_there b refl) (term_written d)

pub nothing_written : {w : List Token} → Written w w []
nothing_written = record { same = refl; quiet = tt }

terms_written : {w v : List Token} {ts : List SignedTerm} → Each SignedAt w v ts → Written w v (terms_words ts)
terms_written each_end = nothing_written
terms_written (each_more d e) = both (signed_written d) (terms_written e)

sum_written : {w v : List Token} {x : Sum} → SumAt w v x → Written w v (sum_words x.terms)
sum_written (sum d e) = both (first_written d) (terms_written e)

addr_written : {w v : List Token} {x : Addr} → AddrAt w v x → Written w v (addr_words x)
addr_written (pointer b) = word_there b refl
addr_written (offset b d) = both (word_there b refl) (signed_written d)

module _ {X : Type 0} (R : List Token → List Token → X → Type 0) (f : X → List Word) (written : (w v : List Token) (x : X) → R w v x → Written w v (f x)) where
  pub enclosed_written : {w v : List Token} {x : X} → Enclosed R w v x → Written w v (in_parentheses (f x))
  enclosed_written (enclosed {u = u} {r = r} {x = x} b d c) = both (word_there b refl) (both (written u r x d) (word_there c refl))

ends_written : (w v : List Token) (x : Addr × Addr) → EndsAt w v x → Written w v (addr_words x.0 ++ (a_sign sign.Comma ++ addr_words x.1))
ends_written w v x (ends d b e) = both (addr_written d) (both (word_there b refl) (addr_written e))

annotation_written : {w v : List Token} {x : Annotation} → AnnotationAt w v x → Written w v (annotation_words x)
annotation_written (safe b) = word_there b refl
annotation_written (sentinel b) = word_there b refl
annotation_written (nullterm b) = word_there b refl
annotation_written (count b d) = both (word_there b refl) (enclosed_written SumAt (λ n. sum_words n.terms) (λ w v x p. sum_written p) d)
annotation_written (bound b d) = both (word_there b refl) (enclosed_written {X = Addr × Addr} EndsAt (λ a. addr_words a.0 ++ (a_sign sign.Comma ++ addr_words a.1)) ends_written d)

pub stars_written : {w v : List Token} {ss : List Star} → Each StarAt w v ss → Written w v (stars_words ss)
stars_written each_end = nothing_written
stars_written (each_more (types.plain b) e) = both (word_there b refl) (stars_written e)
stars_written (each_more (annotated b d) e) = both (both (word_there b refl) (annotation_written d)) (stars_written e)

pub type_written : {w v : List Token} {x : TypeName} → TypeNameAt w v x → Written w v (type_words x)
type_written (type_name d e) = both (base_written d) (stars_written e)

pub parens_written : {w v : List Token} {x : TypeName} → InParens w v x → Written w v (in_parentheses (type_words x))
parens_written d = enclosed_written TypeNameAt (λ t. type_words t) (λ w v x p. type_written p) d

-- ---- operators

unary_is : (s : Sign) (o : Unary) → unary_of s ≡ Some o → s ≡ unary_sign o
unary_is sign.Minus o m = let is : unary.Minus ≡ o = cc in ap unary_sign is
unary_is sign.Tilde o m = let is : unary.Complement ≡ o = cc in ap unary_sign is
unary_is sign.Exclamation o m = let is : unary.Not ≡ o = cc in ap unary_sign is
unary_is sign.Plus o m = let is : unary.Plus ≡ o = cc in ap unary_sign is
unary_is sign.Star o m = let is : unary.Dereference ≡ o = cc in ap unary_sign is
unary_is sign.Ampersand o m = let is : unary.Address ≡ o = cc in ap unary_sign is
unary_is _ o m = cc

binary_is : (s : Sign) (o : Binary) → binary_of s ≡ Some o → s ≡ binary_sign o
binary_is sign.Bars o m = let is : binary.LogicalOr ≡ o = cc in ap binary_sign is
binary_is sign.Ampersands o m = let is : binary.LogicalAnd ≡ o = cc in ap binary_sign is
binary_is sign.Bar o m = let is : binary.BitOr ≡ o = cc in ap binary_sign is
binary_is sign.Caret o m = let is : binary.BitXor ≡ o = cc in ap binary_sign is
binary_is sign.Ampersand o m = let is : binary.BitAnd ≡ o = cc in ap binary_sign is
binary_is sign.Equal o m = let is : binary.Equal ≡ o = cc in ap binary_sign is
binary_is sign.NotEqual o m = let is : binary.NotEqual ≡ o = cc in ap binary_sign is
binary_is sign.Less o m = let is : binary.Less ≡ o = cc in ap binary_sign is
binary_is sign.Greater o m = let is : binary.Greater ≡ o = cc in ap binary_sign is
binary_is sign.LessEqual o m = let is : binary.LessEqual ≡ o = cc in ap binary_sign is
binary_is sign.GreaterEqual o m = let is : binary.GreaterEqual ≡ o = cc in ap binary_sign is
binary_is sign.ShiftLeft o m = let is : binary.ShiftLeft ≡ o = cc in ap binary_sign is
binary_is sign.ShiftRight o m = let is : binary.ShiftRight ≡ o = cc in ap binary_sign is
binary_is sign.Plus o m = let is : binary.Add ≡ o = cc in ap binary_sign is
binary_is sign.Minus o m = let is : binary.Subtract ≡ o = cc in ap binary_sign is
binary_is sign.Star o m = let is : binary.Multiply ≡ o = cc in ap binary_sign is
binary_is sign.Slash o m = let is : binary.Divide ≡ o = cc in ap binary_sign is
binary_is sign.Percent o m = let is : binary.Remainder ≡ o = cc in ap binary_sign is
binary_is _ o m = cc

unary_quiet : (o : Unary) → is_sign ends_run (word.Sign (unary_sign o)) ≡ false
unary_quiet unary.Minus = refl
unary_quiet _ = refl

binary_quiet : (o : Binary) → is_sign ends_run (word.Sign (binary_sign o)) ≡ false
binary_quiet binary.LogicalOr = refl
binary_quiet _ = refl

unary_written : {w v : List Token} {o : Unary} → UnaryAt w o v → Written w v (a_sign (unary_sign o))
unary_written {w} {v} {o} d = let is = unary_is d.sign o d.means in one w v (word.Sign (unary_sign o)) (subst (λ s. Begins w (word.Sign s) v) is d.begins) (unary_quiet o)

binary_written : {w v : List Token} {o : Binary} → BinaryAt w o v → Written w v (a_sign (binary_sign o))
binary_written {w} {v} {o} d = let is = binary_is d.sign o d.means in one w v (word.Sign (binary_sign o)) (subst (λ s. Begins w (word.Sign s) v) is d.begins) (binary_quiet o)

-- ---- the words of each form

number_spelled : (n : Number) → spelled (expr.Number n) ≡ a_number n
number_spelled n = ap spelled (sym (expr.rolls-Number n)) ∙ fold-roll-Expr (List Word) expression_words (Expr-F.Number n)

character_spelled : (c : ℕ) → spelled (expr.Character c) ≡ word.Character c ∷ []
character_spelled c = ap spelled (sym (expr.rolls-Character c)) ∙ fold-roll-Expr (List Word) expression_words (Expr-F.Character c)

string_spelled : (s : List ℕ) (k : ℕ) → spelled (expr.String s k) ≡ word.String s k ∷ []
string_spelled s k = ap spelled (sym (expr.rolls-String s k)) ∙ fold-roll-Expr (List Word) expression_words (Expr-F.String s k)

name_spelled : (n : List ℕ) → spelled (expr.Name n) ≡ a_name n
name_spelled n = ap spelled (sym (expr.rolls-Name n)) ∙ fold-roll-Expr (List Word) expression_words (Expr-F.Name n)

grouped_spelled : (x : Expr) → spelled (expr.Grouped x) ≡ in_parentheses (spelled x)
grouped_spelled x = ap spelled (sym (expr.rolls-Grouped x)) ∙ fold-roll-Expr (List Word) expression_words (Expr-F.Grouped x)

null_spelled : spelled (expr.Null) ≡ a_sign sign.ParenOpen ++ (a_keyword keyword.Void ++ (a_sign sign.Star ++ (a_sign sign.ParenClose ++ word.Number 0 suffix.Plain ∷ [])))
null_spelled = ap spelled (sym (expr.rolls-Null)) ∙ fold-roll-Expr (List Word) expression_words (Expr-F.Null)

unary_spelled : (o : Unary) (x : Expr) → spelled (expr.Unary o x) ≡ a_sign (unary_sign o) ++ spelled x
unary_spelled o x = ap spelled (sym (expr.rolls-Unary o x)) ∙ fold-roll-Expr (List Word) expression_words (Expr-F.Unary o x)

binary_spelled : (o : Binary) (x y : Expr) → spelled (expr.Binary o x y) ≡ spelled x ++ (a_sign (binary_sign o) ++ spelled y)
binary_spelled o x y = ap spelled (sym (expr.rolls-Binary o x y)) ∙ fold-roll-Expr (List Word) expression_words (Expr-F.Binary o x y)

cast_spelled : (t : TypeName) (x : Expr) → spelled (expr.Cast t x) ≡ in_parentheses (type_words t) ++ spelled x
cast_spelled t x = ap spelled (sym (expr.rolls-Cast t x)) ∙ fold-roll-Expr (List Word) expression_words (Expr-F.Cast t x)

sizeof_spelled : (t : TypeName) → spelled (expr.Sizeof t) ≡ a_keyword keyword.Sizeof ++ in_parentheses (type_words t)
sizeof_spelled t = ap spelled (sym (expr.rolls-Sizeof t)) ∙ fold-roll-Expr (List Word) expression_words (Expr-F.Sizeof t)

field_spelled : (x : Expr) (n : List ℕ) → spelled (expr.Field x n) ≡ spelled x ++ (a_sign sign.Dot ++ a_name n)
field_spelled x n = ap spelled (sym (expr.rolls-Field x n)) ∙ fold-roll-Expr (List Word) expression_words (Expr-F.Field x n)

arrow_spelled : (x : Expr) (n : List ℕ) → spelled (expr.Arrow x n) ≡ spelled x ++ (a_sign sign.Arrow ++ a_name n)
arrow_spelled x n = ap spelled (sym (expr.rolls-Arrow x n)) ∙ fold-roll-Expr (List Word) expression_words (Expr-F.Arrow x n)

index_spelled : (x y : Expr) → spelled (expr.Index x y) ≡ spelled x ++ (a_sign sign.BracketOpen ++ (spelled y ++ a_sign sign.BracketClose))
index_spelled x y = ap spelled (sym (expr.rolls-Index x y)) ∙ fold-roll-Expr (List Word) expression_words (Expr-F.Index x y)

-- ---- expressions
single_words : (k : Word) (x : Expr) → single_of k ≡ Some x → (k ∷ [] ≡ spelled x) × (is_sign ends_run k ≡ false)
single_words (word.Number n s) x m = let is : expr.Number (record { value = n; suffix = s }) ≡ x = cc in (sym (number_spelled (record { value = n; suffix = s })) ∙ ap spelled is, refl)
single_words (word.Character c) x m = let is : expr.Character c ≡ x = cc in (sym (character_spelled c) ∙ ap spelled is, refl)
single_words (word.String s k) x m = let is : expr.String s k ≡ x = cc in (sym (string_spelled s k) ∙ ap spelled is, refl)
single_words (word.Name n) x m = let is : expr.Name n ≡ x = cc in (sym (name_spelled n) ∙ ap spelled is, refl)
single_words _ x m = cc

null_written : {w v : List Token} → NullAt w v → Written w v (spelled expr.Null)
null_written (null a b c d e) = written_as (sym null_spelled) (both (word_there a refl) (both (word_there b refl) (both (word_there c refl) (both (word_there d refl) (word_there e refl)))))

-- the words behind a left operand x, up to the whole z
abbrev Behind : List Token → List Token → Expr → Expr → Type 0
Behind w v x z = (s : List Word) × Written w v s × (spelled z ≡ spelled x ++ s)

behind_end : (w : List Token) (x : Expr) → Behind w w x x
behind_end w x = ([], nothing_written, sym (append-nil (spelled x)))

behind_more : (w u v : List Token) (x y z : Expr) (s : List Word) → spelled y ≡ spelled x ++ s → Written w u s → Behind u v y z → Behind w v x z
behind_more w u v x y z s e p (r, q, f) = (s ++ r, both p q, f ∙ ap (λ k. k ++ r) e ∙ append_assoc (spelled x) s r)

whole : {w u v : List Token} (x z : Expr) → Written w u (spelled x) → Behind u v x z → Written w v (spelled z)
whole x z p (s, q, e) = written_as (sym e) (both p q)

mutual
  pub row_written : {l : ℕ} {w v : List Token} {x : Expr} → Row l w v x → Written w v (spelled x)
  row_written (row {x = x} {y = y} lt d m) = whole x y (row_written d) (more_written m)
  row_written (last_row e d) = unary_expression_written d

  more_written : {l : ℕ} {w v : List Token} {x z : Expr} → RowMore l x w v z → Behind w v x z
  more_written (row_end {w = w} {x = x}) = behind_end w x
  more_written (row_more {o = o} {w = w} {u = u} {v = v} {x = x} {y = y} {z = z} b e d m) =
      behind_more w u v x (expr.Binary o x y) z (a_sign (binary_sign o) ++ spelled y) (binary_spelled o x y) (both (binary_written b) (row_written d)) (more_written m)

  pub unary_expression_written : {w v : List Token} {x : Expr} → UnaryExpr w v x → Written w v (spelled x)
  unary_expression_written (prefixed {o = o} {x = x} b d) = written_as (sym (unary_spelled o x)) (both (unary_written b) (unary_expression_written d))
  unary_expression_written (cast {t = t} {x = x} i d) = written_as (sym (cast_spelled t x)) (both (parens_written i) (unary_expression_written d))
  unary_expression_written (size_of {t = t} b i) = written_as (sym (sizeof_spelled t)) (both (word_there b refl) (parens_written i))
  unary_expression_written (plain d) = postfix_written d

  postfix_written : {w v : List Token} {x : Expr} → Postfix w v x → Written w v (spelled x)
  postfix_written (postfix {x = x} {y = y} d m) = whole x y (primary_written d) (postfixes_written m)

  postfixes_written : {w v : List Token} {x z : Expr} → PostfixMore x w v z → Behind w v x z
  postfixes_written (postfix_end {w = w} {x = x}) = behind_end w x
  postfixes_written (field {n = n} {w = w} {u = u} {v = v} {x = x} {y = z} b c m) =
      behind_more w u v x (expr.Field x n) z (a_sign sign.Dot ++ a_name n) (field_spelled x n) (both (word_there b refl) (word_there c refl)) (postfixes_written m)
  postfixes_written (arrow {n = n} {w = w} {u = u} {v = v} {x = x} {y = z} b c m) =
      behind_more w u v x (expr.Arrow x n) z (a_sign sign.Arrow ++ a_name n) (arrow_spelled x n) (both (word_there b refl) (word_there c refl)) (postfixes_written m)
  postfixes_written (index {w = w} {u = u} {v = v} {x = x} {y = y} {z = z} b d m) =
      behind_more w u v x (expr.Index x y) z (a_sign sign.BracketOpen ++ (spelled y ++ a_sign sign.BracketClose)) (index_spelled x y)
      (both (word_there b refl) (closed_written d refl)) (postfixes_written m)

  primary_written : {w v : List Token} {x : Expr} → Primary w v x → Written w v (spelled x)
  primary_written (single {x = x} s) = let is = single_words s.word x s.means in written_as is.0 (word_there s.begins is.1)
  primary_written (grouped {x = x} b d) = written_as (sym (grouped_spelled x)) (both (word_there b refl) (closed_written d refl))
  primary_written (null_constant n) = null_written n

  pub closed_written : {s : Sign} {w v : List Token} {x : Expr} → Closed s w v x → is_sign ends_run (word.Sign s) ≡ false → Written w v (spelled x ++ a_sign s)
  closed_written (closed d b) q = both (row_written d) (word_there b q)

-- the words of an expression are those of its tree
pub tree_words : (w : List Token) (x : Expr) → IsExpr w x → words_of w ≡ spelled x
tree_words w x d = let p = row_written d in p.same ∙ append-nil (spelled x)
