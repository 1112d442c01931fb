-- What expressions and type names begin with, and that a cast begins as no other expression does.
use Rattle.std.proofs.Common.{◌≡◌, ℕ, ◌+◌, List, Some, Bool, IsTrue, true, refl, sym, subst}
use Rattle.c_tree.specs.declared.expressions.Expr.{Expr}
use Rattle.c_tree.specs.declared.expressions.Unary.{Unary}
use Rattle.c_tree.specs.declared.keywords.Keyword.TheVariants as keyword
use Rattle.c_tree.specs.declared.signs.Sign.{Sign}
use Rattle.c_tree.specs.declared.signs.Sign.TheVariants as sign
use Rattle.c_tree.specs.declared.types.Base.{Base}
use Rattle.c_tree.specs.declared.types.TypeName.{TypeName}
use Rattle.c_tree.specs.declared.words.Token.{Token}
use Rattle.c_tree.specs.declared.words.Word.{Word}
use Rattle.c_tree.specs.declared.words.Word.TheVariants as word
use Rattle.c_tree.specs.Operators.{unary_of, UnaryAt}
use Rattle.c_tree.specs.Reading.{Begins, enclosed}
use Rattle.c_tree.specs.Reading.Front.{front}
use Rattle.c_tree.specs.TypeGrammar.{BaseAt, char, signed_char, unsigned_char, short, unsigned_short, int, long, unsigned, unsigned_int, unsigned_long, structure, TypeNameAt, type_name, InParens}
use Rattle.c_tree.specs.ExpressionGrammar.{single_of, null, Row, row, last_row, UnaryExpr, prefixed, cast, size_of, plain, Postfix, postfix, Primary, single, grouped, null_constant, Closed, closed}
use Rattle.c_expr.specs.Classes.{begins_in, At, is_base, is_primary, is_expression}
use Rattle.c_expr.specs.ExpressionReading.{front_opens_type, opens_type}
use Rattle.c_expr.proofs.Begins.{in_class}
use Rattle.c_expr.proofs.Classes.{at_weaker, at_apart}

-- ---- type names
pub base_first : (w v : List Token) (b : Base) → BaseAt w v b → At is_base w
base_first w v b (char c) = rw c refl
base_first w v b (signed_char c d) = rw c refl
base_first w v b (unsigned_char c d) = rw c refl
base_first w v b (short c) = rw c refl
base_first w v b (unsigned_short c d) = rw c refl
base_first w v b (int c) = rw c refl
base_first w v b (long c) = rw c refl
base_first w v b (unsigned c) = rw c refl
base_first w v b (unsigned_int c d) = rw c refl
base_first w v b (unsigned_long c d) = rw c refl
base_first w v b (structure c d) = rw c refl

pub type_first : (w v : List Token) (t : TypeName) → TypeNameAt w v t → At is_base w
type_first w v t (type_name d s) = base_first w _ _ d

pub parens_open_type : (w v : List Token) (t : TypeName) → InParens w v t → opens_type w ≡ true
parens_open_type w v t (enclosed {u = u} {r = r} b d c) = rw b (type_first u r t d)

-- ---- expressions
single_primary : (k : Word) (x : Expr) → single_of k ≡ Some x → IsTrue (is_primary k)
single_primary (word.Number n s) x m = refl
single_primary (word.Character c) x m = refl
single_primary (word.String s k) x m = refl
single_primary (word.Name n) x m = refl
single_primary _ x m = cc

begins_class : (class : Word → Bool) (w u : List Token) (k : Word) → Begins w k u → IsTrue (class k) → At class w
begins_class class w u k b g = subst (λ f. IsTrue (begins_in class f)) (sym b) g

pub primary_first : (w v : List Token) (x : Expr) → Primary w v x → At is_primary w
primary_first w v x (single s) = begins_class is_primary w v s.word s.begins (single_primary s.word x s.means)
primary_first w v x (grouped b c) = rw b refl
primary_first w v x (null_constant (null a b c d e)) = rw a refl

pub postfix_first : (w v : List Token) (x : Expr) → Postfix w v x → At is_primary w
postfix_first w v x (postfix d m) = primary_first w _ _ d

primary_in : (k : Word) → IsTrue (is_primary k) → IsTrue (is_expression k)
primary_in (word.Number n s) g = refl
primary_in (word.Character c) g = refl
primary_in (word.String s k) g = refl
primary_in (word.Name n) g = refl
primary_in (word.Sign sign.ParenOpen) g = refl
primary_in _ g = cc

unary_in : (s : Sign) (o : Unary) → unary_of s ≡ Some o → IsTrue (is_expression (word.Sign s))
unary_in sign.Minus o m = refl
unary_in sign.Tilde o m = refl
unary_in sign.Exclamation o m = refl
unary_in sign.Plus o m = refl
unary_in sign.Star o m = refl
unary_in sign.Ampersand o m = refl
unary_in _ o m = cc

pub unary_first : (w v : List Token) (x : Expr) → UnaryExpr w v x → At is_expression w
unary_first w v x (prefixed {o = o} {u = u} b d) = begins_class is_expression w u (word.Sign b.sign) b.begins (unary_in b.sign o b.means)
unary_first w v x (cast (enclosed b t c) d) = rw b refl
unary_first w v x (size_of b d) = rw b refl
unary_first w v x (plain d) = at_weaker is_primary is_expression primary_in w (postfix_first w v x d)

pub row_first : (l : ℕ) (w v : List Token) (x : Expr) → Row l w v x → At is_expression w
row_first l w v x (row {u = u} {x = y} lt d m) = row_first (l + 1) w u y d
row_first l w v x (last_row e d) = unary_first w v x d

pub closed_first : (s : Sign) (w v : List Token) (x : Expr) → Closed s w v x → At is_expression w
closed_first s w v x (closed {u = u} d c) = row_first 0 w u x d

-- ---- a cast begins as no other expression does
no_base : (k : Word) → IsTrue (is_expression k) → IsTrue (is_base k) → ⊥
no_base (word.Keyword keyword.Sizeof) g h = cc
no_base (word.Keyword k) g h = cc
no_base _ g h = cc

pub no_type_first : (w : List Token) → At is_expression w → At is_base w → ⊥
no_type_first w g h = at_apart is_expression is_base no_base w g h

single_opens_none : (k : Word) (u : List Token) (x : Expr) → single_of k ≡ Some x → front_opens_type (front k u) ≡ true → ⊥
single_opens_none (word.Sign s) u x m h = cc
single_opens_none _ u x m h = cc

pub primary_no_type : (w v : List Token) (x : Expr) → Primary w v x → opens_type w ≡ true → ⊥
primary_no_type w v x (single s) h = single_opens_none s.word v x s.means (subst (λ f. front_opens_type f ≡ true) s.begins h)
primary_no_type w v x (grouped {u = u} {x = y} b c) h =
    let typed : At is_base u = subst (λ f. front_opens_type f ≡ true) b h in no_type_first u (closed_first sign.ParenClose u v y c) typed
primary_no_type w v x (null_constant (null {a = a} p b c d e)) h =
    let typed : At is_base a = subst (λ f. front_opens_type f ≡ true) p h in let clash = in_class is_base a b typed in cc

pub postfix_no_type : (w v : List Token) (x : Expr) → Postfix w v x → opens_type w ≡ true → ⊥
postfix_no_type w v x (postfix {u = u} {x = y} d m) h = primary_no_type w u y d h

operator_opens_none : (s : Sign) (u : List Token) (o : Unary) → unary_of s ≡ Some o → front_opens_type (front (word.Sign s) u) ≡ true → ⊥
operator_opens_none sign.ParenOpen u o m h = cc
operator_opens_none _ u o m h = cc

pub operator_no_type : (w u : List Token) (o : Unary) → UnaryAt w o u → opens_type w ≡ true → ⊥
operator_no_type w u o b h = operator_opens_none b.sign u o b.means (subst (λ f. front_opens_type f ≡ true) b.begins h)

pub size_no_type : (w u : List Token) → Begins w (word.Keyword keyword.Sizeof) u → opens_type w ≡ true → ⊥
size_no_type w u b h = let clash : front_opens_type (front (word.Keyword keyword.Sizeof) u) ≡ true = subst (λ f. front_opens_type f ≡ true) b h in cc

-- ---- an operator before an operand, and `sizeof`, begin no primary expression
operator_no_primary : (s : Sign) (o : Unary) → unary_of s ≡ Some o → IsTrue (is_primary (word.Sign s)) → ⊥
operator_no_primary sign.ParenOpen o m g = cc
operator_no_primary _ o m g = cc

pub no_operator_first : (w u v : List Token) (o : Unary) (x : Expr) → UnaryAt w o u → Postfix w v x → ⊥
no_operator_first w u v o x b d = operator_no_primary b.sign o b.means (in_class is_primary w b.begins (postfix_first w v x d))

pub no_size_first : (w u v : List Token) (x : Expr) → Begins w (word.Keyword keyword.Sizeof) u → Postfix w v x → ⊥
no_size_first w u v x b d = let clash = in_class is_primary w b (postfix_first w v x d) in cc
