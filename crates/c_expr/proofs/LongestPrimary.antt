-- The longest primary expression, and an expression with the sign that closes it, one lemma for each way in which a
-- reader ends.
use Rattle.std.proofs.Common.{◌≡◌, List, Option, None, Some, IfSome, refl, ap, sym, subst, inl, inr, zero, arith}
use Rattle.c_tree.specs.declared.expressions.Expr.{Expr}
use Rattle.c_tree.specs.declared.expressions.Expr.TheVariants as expr
use Rattle.c_tree.specs.declared.keywords.Keyword.TheVariants as keyword
use Rattle.c_tree.specs.declared.signs.Sign.{Sign}
use Rattle.c_tree.specs.declared.signs.Sign.TheVariants as sign
use Rattle.c_tree.specs.declared.words.Suffix.TheVariants as suffix
use Rattle.c_tree.specs.declared.words.Token.{Token}
use Rattle.c_tree.specs.declared.words.Word.TheVariants as word
use Rattle.c_tree.specs.Reading.{Front, front_of, Begins, Best, Within, Never}
use Rattle.c_tree.specs.Reading.Front.{front}
use Rattle.c_tree.specs.ExpressionGrammar.{single_of, SingleAt, NullAt, null, Row, Primary, single, grouped, null_constant, Closed, closed}
use Rattle.c_expr.specs.Classes.{is_expression}
use Rattle.c_expr.specs.ExpressionReading.{null_of, null_front, null_void, null_star, null_close, null_zero}
use Rattle.c_expr.specs.Looking.{Lacks}
use Rattle.c_expr.specs.Strength.{front_strength, strength_at, sign_strength, Tighter}
use Rattle.c_expr.proofs.Begins.{in_class}
use Rattle.c_expr.proofs.Chains.{best_none, followed}
use Rattle.c_expr.proofs.Firsts.{closed_first}

-- ---- the null constant
null_complete : (w v : List Token) → NullAt w v → null_of w ≡ Some v
null_complete w v (null a b c d e) = rw (a, b, c, d, e) refl

zero_sound : (w a b c d : List Token) → Begins w (word.Sign sign.ParenOpen) a → Begins a (word.Keyword keyword.Void) b → Begins b (word.Sign sign.Star) c
    → Begins c (word.Sign sign.ParenClose) d → (f : Front) → front_of d ≡ f → IfSome (null_zero f) (λ v. NullAt w v)
zero_sound w a b c d p q r s (front (word.Number zero suffix.Plain) v) h = null p q r s h
zero_sound w a b c d p q r s _ h = tt

close_sound : (w a b c : List Token) → Begins w (word.Sign sign.ParenOpen) a → Begins a (word.Keyword keyword.Void) b → Begins b (word.Sign sign.Star) c
    → (f : Front) → front_of c ≡ f → IfSome (null_close f) (λ v. NullAt w v)
close_sound w a b c p q r (front (word.Sign sign.ParenClose) d) h = zero_sound w a b c d p q r h (front_of d) refl
close_sound w a b c p q r _ h = tt

star_sound : (w a b : List Token) → Begins w (word.Sign sign.ParenOpen) a → Begins a (word.Keyword keyword.Void) b → (f : Front) → front_of b ≡ f → IfSome (null_star f) (λ v. NullAt w v)
star_sound w a b p q (front (word.Sign sign.Star) c) h = close_sound w a b c p q h (front_of c) refl
star_sound w a b p q _ h = tt

void_sound : (w a : List Token) → Begins w (word.Sign sign.ParenOpen) a → (f : Front) → front_of a ≡ f → IfSome (null_void f) (λ v. NullAt w v)
void_sound w a p (front (word.Keyword keyword.Void) b) h = star_sound w a b p h (front_of b) refl
void_sound w a p _ h = tt

front_sound : (w : List Token) (f : Front) → front_of w ≡ f → IfSome (null_front f) (λ v. NullAt w v)
front_sound w (front (word.Sign sign.ParenOpen) a) h = void_sound w a h (front_of a) refl
front_sound w _ h = tt

pub null_there : (w v : List Token) → Some v ≡ null_of w → NullAt w v
null_there w v e = let h = front_sound w (front_of w) refl in let P : Option (List Token) → Type 0 = λ o. IfSome o (λ v. NullAt w v) in subst P (sym e) h

pub null_missing : (w : List Token) → None ≡ null_of w → (v : List Token) → NullAt w v → ⊥
null_missing w e v n = let there = null_complete w v n in cc

-- ---- primary expressions
-- the words begin with no expression of one word
abbrev pub NoSingle : List Token → Type 0
NoSingle w = (v : List Token) (x : Expr) → SingleAt w v x → ⊥

abbrev pub NoNull : List Token → Type 0
NoNull w = (v : List Token) → NullAt w v → ⊥

single_covers : (w u : List Token) (x : Expr) → SingleAt w u x → (v : List Token) (y : Expr) → Primary w v y → Within Never v y (x, u)
single_covers w u x s v y (single r) = let b = s.begins in let c = r.begins in let m = s.means in let n = r.means in
    let word_same : s.word ≡ r.word = cc in let rest_same : u ≡ v = cc in let tree_same : x ≡ y = cc in inl (tree_same, rest_same)
single_covers w u x s v y (grouped b c) = let a = s.begins in let m = s.means in let clash : single_of (word.Sign sign.ParenOpen) ≡ Some x = cc in cc
single_covers w u x s v y (null_constant (null b c d e f)) = let a = s.begins in let m = s.means in let clash : single_of (word.Sign sign.ParenOpen) ≡ Some x = cc in cc

pub primary_single : (w u : List Token) (x : Expr) → SingleAt w u x → Best (Primary w) Never (Some (x, u))
primary_single w u x s = record { sound = single s; covers = single_covers w u x s }

-- no expression begins with `void`
no_void : (u v a : List Token) (s : Sign) (x : Expr) → Closed s u v x → Begins u (word.Keyword keyword.Void) a → ⊥
no_void u v a s x c b = let clash = in_class is_expression u b (closed_first s u v x c) in cc

null_covers : (w u : List Token) → NoSingle w → NullAt w u → (v : List Token) (y : Expr) → Primary w v y → Within Never v y (expr.Null, u)
null_covers w u none n v y (single r) = absurd (none v y r)
null_covers w u none (null {a = a} {b = b} p q r s t) v y (grouped {u = a'} {x = x} o c) =
    let same : a ≡ a' = cc in absurd (no_void a' v b sign.ParenClose x c (subst (λ z. Begins z (word.Keyword keyword.Void) b) same q))
null_covers w u none n v y (null_constant m) = let here = null_complete w u n in let there = null_complete w v m in let same : u ≡ v = cc in inl (refl, same)

pub primary_null : (w u : List Token) → NoSingle w → NullAt w u → Best (Primary w) Never (Some (expr.Null, u))
primary_null w u none n = record { sound = null_constant n; covers = null_covers w u none n }

no_primary : (w : List Token) → NoSingle w → NoNull w → Lacks w (word.Sign sign.ParenOpen) → (v : List Token) (y : Expr) → Primary w v y → ⊥
no_primary w none void lacks v y (single r) = none v y r
no_primary w none void lacks v y (grouped b c) = lacks _ b
no_primary w none void lacks v y (null_constant m) = void v m

pub primary_none : (w : List Token) → NoSingle w → NoNull w → Lacks w (word.Sign sign.ParenOpen) → Best (Primary w) Never None
primary_none w none void lacks = best_none (Primary w) Never (no_primary w none void lacks)

no_group : (w u : List Token) → NoSingle w → NoNull w → Begins w (word.Sign sign.ParenOpen) u → Best (Closed sign.ParenClose u) Never None → (v : List Token) (y : Expr) → Primary w v y → ⊥
no_group w u none void o best v y (single r) = none v y r
no_group w u none void o best v y (grouped {u = u'} {x = x} b c) = let same : u' ≡ u = cc in best.covers v x (subst (λ q. Closed sign.ParenClose q v x) same c)
no_group w u none void o best v y (null_constant m) = void v m

pub primary_open : (w u : List Token) → NoSingle w → NoNull w → Begins w (word.Sign sign.ParenOpen) u → Best (Closed sign.ParenClose u) Never None → Best (Primary w) Never None
primary_open w u none void o best = best_none (Primary w) Never (no_group w u none void o best)

group_covers : (w u r : List Token) (x : Expr) → NoSingle w → NoNull w → Begins w (word.Sign sign.ParenOpen) u → Best (Closed sign.ParenClose u) Never (Some (x, r))
    → (v : List Token) (y : Expr) → Primary w v y → Within Never v y (expr.Grouped x, r)
group_covers w u r x none void o best v y (single s) = absurd (none v y s)
group_covers w u r x none void o best v y (grouped {u = u'} {x = z} b c) = let same : u' ≡ u = cc in by (best.covers v z (subst (λ q. Closed sign.ParenClose q v z) same c))
  where
    by : Within Never v z (x, r) → Within Never v (expr.Grouped z) (expr.Grouped x, r)
    by (inl e) = inl (ap (λ q. expr.Grouped q) e.0, e.1)
    by (inr p) = absurd p.1
group_covers w u r x none void o best v y (null_constant m) = absurd (void v m)

pub primary_grouped : (w u r : List Token) (x : Expr) → NoSingle w → NoNull w → Begins w (word.Sign sign.ParenOpen) u → Best (Closed sign.ParenClose u) Never (Some (x, r))
    → Best (Primary w) Never (Some (expr.Grouped x, r))
primary_grouped w u r x none void o best = record { sound = grouped o best.sound; covers = group_covers w u r x none void o best }

-- ---- an expression and the sign that closes it
sign_closes : (s : Sign) → sign_strength s ≡ 0 → (v u : List Token) → Begins v (word.Sign s) u → Tighter 0 v → ⊥
sign_closes s h v u b g = let at : strength_at v ≡ sign_strength s = ap front_strength b in absurd (omega arith)

no_inside : (s : Sign) (w : List Token) → Best (Row 0 w) (Tighter 0) None → (v : List Token) (x : Expr) → Closed s w v x → ⊥
no_inside s w best v x (closed {u = u} d c) = best.covers u x d

pub closed_none : (s : Sign) (w : List Token) → Best (Row 0 w) (Tighter 0) None → Best (Closed s w) Never None
closed_none s w best = best_none (Closed s w) Never (no_inside s w best)

closing : (s : Sign) → sign_strength s ≡ 0 → (w r : List Token) (x : Expr) → Best (Row 0 w) (Tighter 0) (Some (x, r)) → (v : List Token) (y : Expr) → Closed s w v y
    → (x ≡ y) × Begins r (word.Sign s) v
closing s h w r x best v y (closed {u = u} d c) = followed (Row 0 w) (Tighter 0) (word.Sign s) (sign_closes s h) r u v x y best d c

pub closed_open : (s : Sign) (w r : List Token) (x : Expr) → sign_strength s ≡ 0 → Best (Row 0 w) (Tighter 0) (Some (x, r)) → Lacks r (word.Sign s) → Best (Closed s w) Never None
closed_open s w r x h best lacks = best_none (Closed s w) Never (λ v y d. lacks v (closing s h w r x best v y d).1)

closed_covers : (s : Sign) (w r q : List Token) (x : Expr) → sign_strength s ≡ 0 → Best (Row 0 w) (Tighter 0) (Some (x, r)) → Begins r (word.Sign s) q → (v : List Token) (y : Expr)
    → Closed s w v y → Within Never v y (x, q)
closed_covers s w r q x h best c v y d = let found = closing s h w r x best v y d in let behind = found.1 in let same : q ≡ v = cc in inl (found.0, same)

pub closed_shut : (s : Sign) (w r q : List Token) (x : Expr) → sign_strength s ≡ 0 → Best (Row 0 w) (Tighter 0) (Some (x, r)) → Begins r (word.Sign s) q
    → Best (Closed s w) Never (Some (x, q))
closed_shut s w r q x h best c = record { sound = closed best.sound c; covers = closed_covers s w r q x h best c }
