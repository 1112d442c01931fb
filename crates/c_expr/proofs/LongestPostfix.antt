-- The longest postfix expression, one lemma for each way in which a reader goes on or ends.
use Rattle.std.proofs.Common.{◌≡◌, ℕ, ◌+◌, ◌<◌, ◌≤◌, List, length, None, Some, refl, ap, sym, subst, inl, inr, arith}
use Rattle.c_tree.specs.declared.expressions.Expr.{Expr}
use Rattle.c_tree.specs.declared.expressions.Expr.TheVariants as expr
use Rattle.c_tree.specs.declared.signs.Sign.{Sign}
use Rattle.c_tree.specs.declared.signs.Sign.TheVariants as sign
use Rattle.c_tree.specs.declared.words.Token.{Token}
use Rattle.c_tree.specs.declared.words.Word.TheVariants as word
use Rattle.c_tree.specs.Operators.{rows}
use Rattle.c_tree.specs.Reading.{Begins, Best, Within, Never}
use Rattle.c_tree.specs.ExpressionGrammar.{Postfix, postfix, PostfixMore, postfix_end, field, arrow, index, Primary, Closed}
use Rattle.c_expr.specs.declared.members.Member.{Member}
use Rattle.c_expr.specs.declared.members.Member.TheVariants as member
use Rattle.c_expr.specs.Looking.{Lacks}
use Rattle.c_expr.specs.Members.{IsMemberAt, selected}
use Rattle.c_expr.specs.Strength.{front_strength, strength_at, sign_strength, Tighter}
use Rattle.c_expr.proofs.Chains.{best_none}

-- the words begin with no field
abbrev pub NoMember : List Token → Type 0
NoMember w = (m : Member) (v : List Token) → IsMemberAt w m v → ⊥

stays : (w : List Token) (x : Expr) → NoMember w → Lacks w (word.Sign sign.BracketOpen) → (v : List Token) (z : Expr) → PostfixMore x w v z → Within (Tighter rows) v z (x, w)
stays w x none lacks v z postfix_end = inl (refl, refl)
stays w x none lacks v z (field {n = n} {s = s} {u = u} b c m) = absurd (none (member.Field n) u (s, b, c))
stays w x none lacks v z (arrow {n = n} {s = s} {u = u} b c m) = absurd (none (member.Arrow n) u (s, b, c))
stays w x none lacks v z (index {s = s} b c m) = absurd (lacks s b)

-- where nothing goes on
pub postfix_stays : (w : List Token) (x : Expr) → NoMember w → Lacks w (word.Sign sign.BracketOpen) → Best (PostfixMore x w) (Tighter rows) (Some (x, w))
postfix_stays w x none lacks = record { sound = postfix_end; covers = stays w x none lacks }

stuck : (w s : List Token) (x : Expr) → Begins w (word.Sign sign.BracketOpen) s → Best (Closed sign.BracketClose s) Never None → (v : List Token) (z : Expr) → PostfixMore x w v z
    → Within (Tighter rows) v z (x, w)
stuck w s x o best v z postfix_end = inl (refl, refl)
stuck w s x o best v z (field b c m) = cc
stuck w s x o best v z (arrow b c m) = cc
stuck w s x o best v z (index {s = s'} {u = u} {y = y} b c m) = let same : s' ≡ s = cc in absurd (best.covers u y (subst (λ q. Closed sign.BracketClose q u y) same c))

-- where an index is not closed
pub postfix_stuck : (w s : List Token) (x : Expr) → Begins w (word.Sign sign.BracketOpen) s → Best (Closed sign.BracketClose s) Never None
    → Best (PostfixMore x w) (Tighter rows) (Some (x, w))
postfix_stuck w s x o best = record { sound = postfix_end; covers = stuck w s x o best }

-- the signs of postfix forms bind most tightly
tightest : (w u : List Token) (s : Sign) → Begins w (word.Sign s) u → sign_strength s ≡ rows + 1 → Tighter rows w
tightest w u s b h = let at : strength_at w ≡ sign_strength s = ap front_strength b in omega arith

field_covers : (w s u : List Token) (n : List ℕ) (x : Expr) (a : Expr × List Token) → Begins w (word.Sign sign.Dot) s → Begins s (word.Name n) u → length u < length w → length a.1 ≤ length u
    → Best (PostfixMore (expr.Field x n) u) (Tighter rows) (Some a) → (v : List Token) (z : Expr) → PostfixMore x w v z → Within (Tighter rows) v z a
field_covers w s u n x a b c fewer shorter rest v z postfix_end = inr (omega arith, tightest w s sign.Dot b refl)
field_covers w s u n x a b c fewer shorter rest v z (field {n = n'} {s = s'} {u = u'} b' c' m) =
    let same : s ≡ s' = cc in let rest_same : u' ≡ u = cc in let name_same : n' ≡ n = cc in
    rest.covers v z (subst (λ q. PostfixMore (expr.Field x n) q v z) rest_same (subst (λ q. PostfixMore (expr.Field x q) u' v z) name_same m))
field_covers w s u n x a b c fewer shorter rest v z (arrow b' c' m) = cc
field_covers w s u n x a b c fewer shorter rest v z (index b' c' m) = cc

pub field_on : (w s u : List Token) (n : List ℕ) (x : Expr) (a : Expr × List Token) → Begins w (word.Sign sign.Dot) s → Begins s (word.Name n) u → length u < length w → length a.1 ≤ length u
    → Best (PostfixMore (expr.Field x n) u) (Tighter rows) (Some a) → Best (PostfixMore x w) (Tighter rows) (Some a)
field_on w s u n x a b c fewer shorter rest = record { sound = field b c rest.sound; covers = field_covers w s u n x a b c fewer shorter rest }

arrow_covers : (w s u : List Token) (n : List ℕ) (x : Expr) (a : Expr × List Token) → Begins w (word.Sign sign.Arrow) s → Begins s (word.Name n) u → length u < length w → length a.1 ≤ length u
    → Best (PostfixMore (expr.Arrow x n) u) (Tighter rows) (Some a) → (v : List Token) (z : Expr) → PostfixMore x w v z → Within (Tighter rows) v z a
arrow_covers w s u n x a b c fewer shorter rest v z postfix_end = inr (omega arith, tightest w s sign.Arrow b refl)
arrow_covers w s u n x a b c fewer shorter rest v z (field b' c' m) = cc
arrow_covers w s u n x a b c fewer shorter rest v z (arrow {n = n'} {s = s'} {u = u'} b' c' m) =
    let same : s ≡ s' = cc in let rest_same : u' ≡ u = cc in let name_same : n' ≡ n = cc in
    rest.covers v z (subst (λ q. PostfixMore (expr.Arrow x n) q v z) rest_same (subst (λ q. PostfixMore (expr.Arrow x q) u' v z) name_same m))
arrow_covers w s u n x a b c fewer shorter rest v z (index b' c' m) = cc

pub arrow_on : (w s u : List Token) (n : List ℕ) (x : Expr) (a : Expr × List Token) → Begins w (word.Sign sign.Arrow) s → Begins s (word.Name n) u → length u < length w → length a.1 ≤ length u
    → Best (PostfixMore (expr.Arrow x n) u) (Tighter rows) (Some a) → Best (PostfixMore x w) (Tighter rows) (Some a)
arrow_on w s u n x a b c fewer shorter rest = record { sound = arrow b c rest.sound; covers = arrow_covers w s u n x a b c fewer shorter rest }

pub member_on : (w u : List Token) (m : Member) (x : Expr) (a : Expr × List Token) → IsMemberAt w m u → length u < length w → length a.1 ≤ length u
    → Best (PostfixMore (selected x m) u) (Tighter rows) (Some a) → Best (PostfixMore x w) (Tighter rows) (Some a)
member_on w u (member.Field n) x a (s, b, c) fewer shorter rest = field_on w s u n x a b c fewer shorter rest
member_on w u (member.Arrow n) x a (s, b, c) fewer shorter rest = arrow_on w s u n x a b c fewer shorter rest

index_covers : (w s u : List Token) (x y : Expr) (a : Expr × List Token) → Begins w (word.Sign sign.BracketOpen) s → Best (Closed sign.BracketClose s) Never (Some (y, u)) → length u < length w
    → length a.1 ≤ length u → Best (PostfixMore (expr.Index x y) u) (Tighter rows) (Some a) → (v : List Token) (z : Expr) → PostfixMore x w v z → Within (Tighter rows) v z a
index_covers w s u x y a b best fewer shorter rest v z postfix_end = inr (omega arith, tightest w s sign.BracketOpen b refl)
index_covers w s u x y a b best fewer shorter rest v z (field b' c' m) = cc
index_covers w s u x y a b best fewer shorter rest v z (arrow b' c' m) = cc
index_covers w s u x y a b best fewer shorter rest v z (index {s = s'} {u = u'} {y = y'} b' c' m) =
    let same : s' ≡ s = cc in by (best.covers u' y' (subst (λ q. Closed sign.BracketClose q u' y') same c'))
  where
    by : Within Never u' y' (y, u) → Within (Tighter rows) v z a
    by (inl e) = rest.covers v z (subst (λ q. PostfixMore (expr.Index x y) q v z) (sym e.1) (subst (λ q. PostfixMore (expr.Index x q) u' v z) (sym e.0) m))
    by (inr p) = absurd p.1

pub index_on : (w s u : List Token) (x y : Expr) (a : Expr × List Token) → Begins w (word.Sign sign.BracketOpen) s → Best (Closed sign.BracketClose s) Never (Some (y, u)) → length u < length w
    → length a.1 ≤ length u → Best (PostfixMore (expr.Index x y) u) (Tighter rows) (Some a) → Best (PostfixMore x w) (Tighter rows) (Some a)
index_on w s u x y a b best fewer shorter rest = record { sound = index b best.sound rest.sound; covers = index_covers w s u x y a b best fewer shorter rest }

no_operand : (w : List Token) → Best (Primary w) Never None → (v : List Token) (z : Expr) → Postfix w v z → ⊥
no_operand w best v z (postfix {u = u} {x = x} d m) = best.covers u x d

pub postfix_none : (w : List Token) → Best (Primary w) Never None → Best (Postfix w) (Tighter rows) None
postfix_none w best = best_none (Postfix w) (Tighter rows) (no_operand w best)

postfix_covers : (w u : List Token) (x : Expr) (a : Expr × List Token) → Best (Primary w) Never (Some (x, u)) → Best (PostfixMore x u) (Tighter rows) (Some a)
    → (v : List Token) (z : Expr) → Postfix w v z → Within (Tighter rows) v z a
postfix_covers w u x a best rest v z (postfix {u = u'} {x = x'} d m) = by (best.covers u' x' d)
  where
    by : Within Never u' x' (x, u) → Within (Tighter rows) v z a
    by (inl e) = rest.covers v z (subst (λ q. PostfixMore x q v z) (sym e.1) (subst (λ q. PostfixMore q u' v z) (sym e.0) m))
    by (inr p) = absurd p.1

pub postfix_on : (w u : List Token) (x : Expr) (a : Expr × List Token) → Best (Primary w) Never (Some (x, u)) → Best (PostfixMore x u) (Tighter rows) (Some a)
    → Best (Postfix w) (Tighter rows) (Some a)
postfix_on w u x a best rest = record { sound = postfix best.sound rest.sound; covers = postfix_covers w u x a best rest }
