-- The longest expression of a row of binary operators, one lemma for each way in which a reader goes on or ends.
use Rattle.std.proofs.Common.{◌≡◌, ℕ, ◌+◌, ◌<◌, ◌≤◌, List, length, Option, None, Some, IfSome, refl, ap, sym, ◌∙◌, subst, inl, inr, arith}
use Rattle.c_tree.specs.declared.expressions.Binary.{Binary}
use Rattle.c_tree.specs.declared.expressions.Expr.{Expr}
use Rattle.c_tree.specs.declared.expressions.Expr.TheVariants as expr
use Rattle.c_tree.specs.declared.signs.Sign.{Sign}
use Rattle.c_tree.specs.declared.signs.Sign.TheVariants as sign
use Rattle.c_tree.specs.declared.words.Token.{Token}
use Rattle.c_tree.specs.Operators.{binary_of, row_of, BinaryAt, rows}
use Rattle.c_tree.specs.Reading.{Best, Within, Covered}
use Rattle.c_tree.specs.ExpressionGrammar.{Row, row, last_row, RowMore, row_end, row_more, UnaryExpr}
use Rattle.c_expr.specs.Strength.{operator_strength, sign_strength, front_strength, strength_at, Tighter}
use Rattle.c_expr.proofs.Chains.{best_none}

-- an operator binds as its row does
sign_row : (s : Sign) (o : Binary) → binary_of s ≡ Some o → sign_strength s ≡ row_of o + 1
sign_row sign.Dot o h = cc
sign_row sign.Arrow o h = cc
sign_row sign.BracketOpen o h = cc
sign_row _ o h = ap operator_strength h

binary_strength : (w s : List Token) (o : Binary) → BinaryAt w o s → strength_at w ≡ row_of o + 1
binary_strength w s o b = ap front_strength b.begins ∙ sign_row b.sign o b.means

-- the operator and what stands after it are determined
same_operator : (w s s' : List Token) (o o' : Binary) → BinaryAt w o s → BinaryAt w o' s' → (o' ≡ o) × (s' ≡ s)
same_operator w s s' o o' b c = let p = b.begins in let q = c.begins in let m = b.means in let n = c.means in
    let sign_same : b.sign ≡ c.sign = cc in let operator_same : o' ≡ o = cc in let rest_same : s' ≡ s = cc in (operator_same, rest_same)

-- after a longer operand a row cannot go on
ends_above : (l : ℕ) (x z : Expr) (u v : List Token) → l + 1 < strength_at u → RowMore l x u v z → (x ≡ z) × (u ≡ v)
ends_above l x z u v g row_end = (refl, refl)
ends_above l x z u v g (row_more {o = o} {s = s} b e d m) = let at = binary_strength u s o b in absurd (omega arith)

-- the longest operand, with the longest rest, gives the longest whole
joins : (l : ℕ) (k : Expr → Expr) (y y' z : Expr) (u u' v : List Token) (a : Expr × List Token) → Within (Tighter (l + 1)) u' y' (y, u)
    → Best (RowMore l (k y) u) (Tighter l) (Some a) → length a.1 ≤ length u → RowMore l (k y') u' v z → Within (Tighter l) v z a
joins l k y y' z u u' v a (inl e) rest shorter m = rest.covers v z (subst (λ q. RowMore l (k y) q v z) (sym e.1) (subst (λ q. RowMore l (k q) u' v z) (sym e.0) m))
joins l k y y' z u u' v a (inr p) rest shorter m = let stop = ends_above l (k y') z u' v p.1 m in
    let fewer = p.0 in let tighter = p.1 in let above : l < strength_at u' = omega arith in
    inr (subst (λ q. length a.1 < length q) stop.1 (omega arith), subst (Tighter l) stop.1 above)

-- ---- what stands after a left operand
-- the words begin with no operator of the row l
abbrev pub NoRowOperator : ℕ → List Token → Type 0
NoRowOperator l w = (o : Binary) (u : List Token) → BinaryAt w o u → row_of o ≡ l → ⊥

ends : (l : ℕ) (w : List Token) (x : Expr) → NoRowOperator l w → (v : List Token) (z : Expr) → RowMore l x w v z → Within (Tighter l) v z (x, w)
ends l w x none v z row_end = inl (refl, refl)
ends l w x none v z (row_more {o = o} {s = s} b e d m) = absurd (none o s b e)

pub more_end : (l : ℕ) (w : List Token) (x : Expr) → NoRowOperator l w → Best (RowMore l x w) (Tighter l) (Some (x, w))
more_end l w x none = record { sound = row_end; covers = ends l w x none }

stuck : (l : ℕ) (w s : List Token) (o : Binary) (x : Expr) → BinaryAt w o s → Best (Row (l + 1) s) (Tighter (l + 1)) None → (v : List Token) (z : Expr) → RowMore l x w v z
    → Within (Tighter l) v z (x, w)
stuck l w s o x b best v z row_end = inl (refl, refl)
stuck l w s o x b best v z (row_more {o = o'} {s = s'} {u = u} {y = y} c e d m) =
    let same = same_operator w s s' o o' b c in absurd (best.covers u y (subst (λ q. Row (l + 1) q u y) same.1 d))

pub more_stuck : (l : ℕ) (w s : List Token) (o : Binary) (x : Expr) → BinaryAt w o s → Best (Row (l + 1) s) (Tighter (l + 1)) None
    → Best (RowMore l x w) (Tighter l) (Some (x, w))
more_stuck l w s o x b best = record { sound = row_end; covers = stuck l w s o x b best }

on_covers : (l : ℕ) (w s u : List Token) (o : Binary) (x y : Expr) (a : Expr × List Token) → BinaryAt w o s → row_of o ≡ l → Best (Row (l + 1) s) (Tighter (l + 1)) (Some (y, u))
    → length u < length w → length a.1 ≤ length u → Best (RowMore l (expr.Binary o x y) u) (Tighter l) (Some a) → (v : List Token) (z : Expr) → RowMore l x w v z → Within (Tighter l) v z a
on_covers l w s u o x y a b e best fewer shorter rest v z row_end = let at = binary_strength w s o b in inr (omega arith, omega arith)
on_covers l w s u o x y a b e best fewer shorter rest v z (row_more {o = o'} {s = s'} {u = u'} {y = y'} c e' d m) =
    let same = same_operator w s s' o o' b c in
    joins l (λ q. expr.Binary o x q) y y' z u u' v a (best.covers u' y' (subst (λ q. Row (l + 1) q u' y') same.1 d)) rest shorter
    (subst (λ q. RowMore l (expr.Binary q x y') u' v z) same.0 m)

pub more_on : (l : ℕ) (w s u : List Token) (o : Binary) (x y : Expr) (a : Expr × List Token) → BinaryAt w o s → row_of o ≡ l → Best (Row (l + 1) s) (Tighter (l + 1)) (Some (y, u))
    → length u < length w → length a.1 ≤ length u → Best (RowMore l (expr.Binary o x y) u) (Tighter l) (Some a) → Best (RowMore l x w) (Tighter l) (Some a)
more_on l w s u o x y a b e best fewer shorter rest = record { sound = row_more b e best.sound rest.sound; covers = on_covers l w s u o x y a b e best fewer shorter rest }

-- ---- rows
no_left : (l : ℕ) (w : List Token) → l < rows → Best (Row (l + 1) w) (Tighter (l + 1)) None → (v : List Token) (z : Expr) → Row l w v z → ⊥
no_left l w lt best v z (row {u = u} {x = x} h d m) = best.covers u x d
no_left l w lt best v z (last_row e d) = absurd (omega arith)

pub row_none : (l : ℕ) (w : List Token) → l < rows → Best (Row (l + 1) w) (Tighter (l + 1)) None → Best (Row l w) (Tighter l) None
row_none l w lt best = best_none (Row l w) (Tighter l) (no_left l w lt best)

row_covers : (l : ℕ) (w u : List Token) (x : Expr) (a : Expr × List Token) → l < rows → Best (Row (l + 1) w) (Tighter (l + 1)) (Some (x, u)) → length a.1 ≤ length u
    → Best (RowMore l x u) (Tighter l) (Some a) → (v : List Token) (z : Expr) → Row l w v z → Within (Tighter l) v z a
row_covers l w u x a lt best shorter rest v z (row {u = u'} {x = x'} h d m) = joins l (λ q. q) x x' z u u' v a (best.covers u' x' d) rest shorter m
row_covers l w u x a lt best shorter rest v z (last_row e d) = absurd (omega arith)

pub row_some : (l : ℕ) (w u : List Token) (x : Expr) (a : Expr × List Token) → l < rows → Best (Row (l + 1) w) (Tighter (l + 1)) (Some (x, u)) → length a.1 ≤ length u
    → Best (RowMore l x u) (Tighter l) (Some a) → Best (Row l w) (Tighter l) (Some a)
row_some l w u x a lt best shorter rest = record { sound = row lt best.sound rest.sound; covers = row_covers l w u x a lt best shorter rest }

last_sound : (w : List Token) (a : Option (Expr × List Token)) → Best (UnaryExpr w) (Tighter rows) a → IfSome a (λ b. Row rows w b.1 b.0)
last_sound w None best = tt
last_sound w (Some a) best = last_row refl best.sound

last_covers : (l : ℕ) (w : List Token) (a : Option (Expr × List Token)) → l ≡ rows → Best (UnaryExpr w) (Tighter rows) a → (v : List Token) (z : Expr) → Row l w v z
    → Covered (Tighter rows) v z a
last_covers l w a e best v z (row h d m) = absurd (omega arith)
last_covers l w a e best v z (last_row h d) = best.covers v z d

pub row_last : (l : ℕ) (w : List Token) (a : Option (Expr × List Token)) → l ≡ rows → Best (UnaryExpr w) (Tighter rows) a → Best (Row l w) (Tighter l) a
row_last l w a e best = let P : ℕ → Type 0 = λ q. Best (Row q w) (Tighter q) a in subst P (sym e) (record { sound = last_sound w a best; covers = last_covers rows w a refl best })
