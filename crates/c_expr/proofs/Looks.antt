-- What the next words are can be told: each look has an answer.
use Rattle.std.proofs.Common.{◌≡◌, ℕ, ◌⊎◌, List, Option, None, Some, Bool, true, false, T, eqb, refl, sym, ap, subst, ◌∙◌, inl, inr, eqb→eq, arith}
use Rattle.std.proofs.lemmas.Bool.Decides.{nat_tests}
use Rattle.c_tree.specs.declared.expressions.Binary.{Binary}
use Rattle.c_tree.specs.declared.expressions.Expr.{Expr}
use Rattle.c_tree.specs.declared.expressions.Unary.{Unary}
use Rattle.c_tree.specs.declared.keywords.Keyword.TheVariants as keyword
use Rattle.c_tree.specs.declared.signs.Sign.{Sign}
use Rattle.c_tree.specs.declared.signs.Sign.TheVariants as sign
use Rattle.c_tree.specs.declared.words.Token.{Token}
use Rattle.c_tree.specs.declared.words.Word.{Word}
use Rattle.c_tree.specs.declared.words.Word.TheVariants as word
use Rattle.c_tree.specs.ExpressionGrammar.{single_of, SingleAt}
use Rattle.c_tree.specs.Operators.{unary_of, binary_of, row_of, UnaryAt, BinaryAt}
use Rattle.c_tree.specs.Reading.{Front, front_of, Begins}
use Rattle.c_tree.specs.Reading.Front.{nothing, front}
use Rattle.c_expr.specs.declared.members.Member.{Member}
use Rattle.c_expr.specs.declared.members.Member.TheVariants as member
use Rattle.c_expr.specs.Looking.{Lacks}
use Rattle.c_expr.specs.Members.{IsMemberAt}
use Rattle.c_expr.proofs.LongestPostfix.{NoMember}
use Rattle.c_expr.proofs.LongestPrimary.{NoSingle}
use Rattle.c_expr.proofs.LongestRow.{NoRowOperator}
use Rattle.c_expr.proofs.LongestUnary.{NoOperator}

-- the words begin with k, or they do not
abbrev pub Sees : List Token → Word → Type 0
Sees w k = ((u : List Token) × Begins w k u) ⊎ Lacks w k

open_by : (w : List Token) (f : Front) → front_of w ≡ f → Sees w (word.Sign sign.ParenOpen)
open_by w (front (word.Sign sign.ParenOpen) u) h = inl (u, h)
open_by w _ h = inr (λ u b. cc)

pub sees_open : (w : List Token) → Sees w (word.Sign sign.ParenOpen)
sees_open w = open_by w (front_of w) refl

close_by : (w : List Token) (f : Front) → front_of w ≡ f → Sees w (word.Sign sign.ParenClose)
close_by w (front (word.Sign sign.ParenClose) u) h = inl (u, h)
close_by w _ h = inr (λ u b. cc)

pub sees_close : (w : List Token) → Sees w (word.Sign sign.ParenClose)
sees_close w = close_by w (front_of w) refl

bracket_by : (w : List Token) (f : Front) → front_of w ≡ f → Sees w (word.Sign sign.BracketOpen)
bracket_by w (front (word.Sign sign.BracketOpen) u) h = inl (u, h)
bracket_by w _ h = inr (λ u b. cc)

pub sees_bracket : (w : List Token) → Sees w (word.Sign sign.BracketOpen)
sees_bracket w = bracket_by w (front_of w) refl

bracket_close_by : (w : List Token) (f : Front) → front_of w ≡ f → Sees w (word.Sign sign.BracketClose)
bracket_close_by w (front (word.Sign sign.BracketClose) u) h = inl (u, h)
bracket_close_by w _ h = inr (λ u b. cc)

pub sees_bracket_close : (w : List Token) → Sees w (word.Sign sign.BracketClose)
sees_bracket_close w = bracket_close_by w (front_of w) refl

comma_by : (w : List Token) (f : Front) → front_of w ≡ f → Sees w (word.Sign sign.Comma)
comma_by w (front (word.Sign sign.Comma) u) h = inl (u, h)
comma_by w _ h = inr (λ u b. cc)

pub sees_comma : (w : List Token) → Sees w (word.Sign sign.Comma)
sees_comma w = comma_by w (front_of w) refl

star_by : (w : List Token) (f : Front) → front_of w ≡ f → Sees w (word.Sign sign.Star)
star_by w (front (word.Sign sign.Star) u) h = inl (u, h)
star_by w _ h = inr (λ u b. cc)

pub sees_star : (w : List Token) → Sees w (word.Sign sign.Star)
sees_star w = star_by w (front_of w) refl

sizeof_by : (w : List Token) (f : Front) → front_of w ≡ f → Sees w (word.Keyword keyword.Sizeof)
sizeof_by w (front (word.Keyword keyword.Sizeof) u) h = inl (u, h)
sizeof_by w _ h = inr (λ u b. cc)

pub sees_sizeof : (w : List Token) → Sees w (word.Keyword keyword.Sizeof)
sees_sizeof w = sizeof_by w (front_of w) refl

-- ---- operators
unary_by : (w u : List Token) (s : Sign) → Begins w (word.Sign s) u → (o : Option Unary) → unary_of s ≡ o → ((o : Unary) × (u : List Token) × UnaryAt w o u) ⊎ NoOperator w
unary_by w u s b None e = inr (λ o v c. let p = c.begins in let m = c.means in let same : c.sign ≡ s = cc in let clash : unary_of s ≡ Some o = cc in cc)
unary_by w u s b (Some o) e = inl (o, u, record { sign = s; begins = b; means = e })

operator_by : (w : List Token) (f : Front) → front_of w ≡ f → ((o : Unary) × (u : List Token) × UnaryAt w o u) ⊎ NoOperator w
operator_by w (front (word.Sign s) u) h = unary_by w u s h (unary_of s) refl
operator_by w _ h = inr (λ o v c. let p = c.begins in cc)

pub sees_operator : (w : List Token) → ((o : Unary) × (u : List Token) × UnaryAt w o u) ⊎ NoOperator w
sees_operator w = operator_by w (front_of w) refl

-- an operator of the row l
abbrev pub RowOperator : ℕ → List Token → Type 0
RowOperator l w = (o : Binary) × (s : List Token) × BinaryAt w o s × (row_of o ≡ l)

no_binary : (w u : List Token) (s : Sign) → Begins w (word.Sign s) u → binary_of s ≡ None → (o : Binary) (v : List Token) → BinaryAt w o v → ⊥
no_binary w u s b e o v c = let p = c.begins in let m = c.means in let same : c.sign ≡ s = cc in let clash : binary_of s ≡ Some o = cc in cc

row_by : (l : ℕ) (w u : List Token) (s : Sign) (o : Binary) → Begins w (word.Sign s) u → binary_of s ≡ Some o → (b : Bool) → eqb (row_of o) l ≡ b → RowOperator l w ⊎ NoRowOperator l w
row_by l w u s o h m true e = inl (o, u, record { sign = s; begins = h; means = m }, eqb→eq (row_of o) l (subst T (sym e) tt))
row_by l w u s o h m false e = inr (λ q v c k. let p = c.begins in let n = c.means in let same : c.sign ≡ s = cc in let one : q ≡ o = cc in
    let here : row_of o ≡ l = ap row_of (sym one) ∙ k in let yes : eqb (row_of o) l ≡ true = rw here (eqb-same l) in cc)
  where
    eqb-same : (n : ℕ) → eqb n n ≡ true
    eqb-same n = grind (arith, nat_tests)

binary_by : (l : ℕ) (w u : List Token) (s : Sign) → Begins w (word.Sign s) u → (o : Option Binary) → binary_of s ≡ o → RowOperator l w ⊎ NoRowOperator l w
binary_by l w u s b None e = inr (λ o v c k. no_binary w u s b e o v c)
binary_by l w u s b (Some o) e = row_by l w u s o b e (eqb (row_of o) l) refl

row_operator_by : (l : ℕ) (w : List Token) (f : Front) → front_of w ≡ f → RowOperator l w ⊎ NoRowOperator l w
row_operator_by l w (front (word.Sign s) u) h = binary_by l w u s h (binary_of s) refl
row_operator_by l w _ h = inr (λ o v c k. let p = c.begins in cc)

pub sees_row_operator : (l : ℕ) (w : List Token) → RowOperator l w ⊎ NoRowOperator l w
sees_row_operator l w = row_operator_by l w (front_of w) refl

-- ---- expressions of one word
single_by : (w u : List Token) (k : Word) → Begins w k u → (o : Option Expr) → single_of k ≡ o → ((x : Expr) × (u : List Token) × SingleAt w u x) ⊎ NoSingle w
single_by w u k b None e = inr (λ v x s. let p = s.begins in let m = s.means in let same : s.word ≡ k = cc in let clash : single_of k ≡ Some x = cc in cc)
single_by w u k b (Some x) e = inl (x, u, record { word = k; begins = b; means = e })

single_front : (w : List Token) (f : Front) → front_of w ≡ f → ((x : Expr) × (u : List Token) × SingleAt w u x) ⊎ NoSingle w
single_front w (front k u) h = single_by w u k h (single_of k) refl
single_front w nothing h = inr (λ v x s. let p = s.begins in cc)

pub sees_single : (w : List Token) → ((x : Expr) × (u : List Token) × SingleAt w u x) ⊎ NoSingle w
sees_single w = single_front w (front_of w) refl

-- ---- fields
abbrev pub AMember : List Token → Type 0
AMember w = (m : Member) × (u : List Token) × IsMemberAt w m u

no_field : (w s : List Token) → Begins w (word.Sign sign.Dot) s → ((n : List ℕ) → Lacks s (word.Name n)) → (m : Member) (u : List Token) → IsMemberAt w m u → ⊥
no_field w s h none (member.Field n) u (r, b, c) = let same : r ≡ s = cc in none n u (subst (λ z. Begins z (word.Name n) u) same c)
no_field w s h none (member.Arrow n) u (r, b, c) = cc

no_arrow : (w s : List Token) → Begins w (word.Sign sign.Arrow) s → ((n : List ℕ) → Lacks s (word.Name n)) → (m : Member) (u : List Token) → IsMemberAt w m u → ⊥
no_arrow w s h none (member.Field n) u (r, b, c) = cc
no_arrow w s h none (member.Arrow n) u (r, b, c) = let same : r ≡ s = cc in none n u (subst (λ z. Begins z (word.Name n) u) same c)

field_by : (w s : List Token) → Begins w (word.Sign sign.Dot) s → (f : Front) → front_of s ≡ f → AMember w ⊎ NoMember w
field_by w s h (front (word.Name n) u) k = inl (member.Field n, u, (s, h, k))
field_by w s h _ k = inr (no_field w s h (λ n u c. cc))

arrow_by : (w s : List Token) → Begins w (word.Sign sign.Arrow) s → (f : Front) → front_of s ≡ f → AMember w ⊎ NoMember w
arrow_by w s h (front (word.Name n) u) k = inl (member.Arrow n, u, (s, h, k))
arrow_by w s h _ k = inr (no_arrow w s h (λ n u c. cc))

no_member : (w : List Token) → Lacks w (word.Sign sign.Dot) → Lacks w (word.Sign sign.Arrow) → (m : Member) (u : List Token) → IsMemberAt w m u → ⊥
no_member w dot arrow (member.Field n) u (r, b, c) = dot r b
no_member w dot arrow (member.Arrow n) u (r, b, c) = arrow r b

member_by : (w : List Token) (f : Front) → front_of w ≡ f → AMember w ⊎ NoMember w
member_by w (front (word.Sign sign.Dot) s) h = field_by w s h (front_of s) refl
member_by w (front (word.Sign sign.Arrow) s) h = arrow_by w s h (front_of s) refl
member_by w _ h = inr (no_member w (λ u b. cc) (λ u b. cc))

pub sees_member : (w : List Token) → AMember w ⊎ NoMember w
sees_member w = member_by w (front_of w) refl
