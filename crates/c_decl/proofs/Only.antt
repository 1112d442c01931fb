-- At most one phrase of a kind stands at a place: what follows from the longest, and for declarations.
use Rattle.std.proofs.Common.{◌≡◌, ℕ, ◌<◌, List, ◌∷◌, None, Some, refl, sym, ap, ◌∙◌, subst, inl, inr, arith}
use Rattle.c_tree.specs.declared.expressions.Expr.{Expr}
use Rattle.c_tree.specs.declared.signs.Sign.{Sign}
use Rattle.c_tree.specs.declared.types.TypeName.{TypeName}
use Rattle.c_tree.specs.declared.words.Token.{Token}
use Rattle.c_tree.specs.declared.words.Word.TheVariants as word
use Rattle.c_tree.specs.ExpressionGrammar.{Row, last_row, UnaryExpr, Closed, closed}
use Rattle.c_tree.specs.Operators.{rows}
use Rattle.c_tree.specs.Reading.{Begins, Within, Never, Each, each_end, each_more}
use Rattle.c_tree.specs.TypeGrammar.{TypeNameAt}
use Rattle.c_expr.specs.Classes.{At, is_in_types}
use Rattle.c_expr.specs.Strength.{front_strength, sign_strength, Tighter}
use Rattle.c_expr.proofs.Begins.{in_class}
use Rattle.c_expr.proofs.ExpressionExistence.{row_exists}
use Rattle.c_expr.proofs.TypeExistence.{Longest, type_exists}

-- any two phrases of R at w are one
abbrev pub Only : {X : Type 0} → (List Token → List Token → X → Type 0) → List Token → Type 0
Only {X} R w = (v v' : List Token) (x x' : X) → R w v x → R w v' x' → (x ≡ x') × (v ≡ v')

both_within : {X : Type 0} (goes : List Token → Type 0) (v v' : List Token) (x x' : X) (a : X × List Token) → Within goes v x a → Within goes v' x' a → (goes v → ⊥) → (goes v' → ⊥)
    → (x ≡ x') × (v ≡ v')
both_within goes v v' x x' a (inl p) (inl q) g h = (sym p.0 ∙ q.0, sym p.1 ∙ q.1)
both_within goes v v' x x' a (inr p) q g h = absurd (g p.1)
both_within goes v v' x x' a (inl p) (inr q) g h = absurd (h q.1)

-- two phrases that end where no phrase goes on are one
pub only_ending : {X : Type 0} (R : List Token → List Token → X → Type 0) (goes : List Token → Type 0) (w : List Token) → Longest R goes w → (v v' : List Token) (x x' : X)
    → R w v x → (goes v → ⊥) → R w v' x' → (goes v' → ⊥) → (x ≡ x') × (v ≡ v')
only_ending R goes w (None, best) v v' x x' d g e h = absurd (best.covers v x d)
only_ending R goes w (Some a, best) v v' x x' d g e h = both_within goes v v' x x' a (best.covers v x d) (best.covers v' x' e) g h

-- phrases of one end
pub only_one : {X : Type 0} (R : List Token → List Token → X → Type 0) (w : List Token) → Longest R Never w → Only R w
only_one R w longest v v' x x' d e = only_ending R Never w longest v v' x x' d (λ g. g) e (λ g. g)

-- any number of phrases that are one, up to words at which none begins
module _ {X : Type 0} (R : List Token → List Token → X → Type 0) (only : (w : List Token) → Only R w) where
  pub each_only : {w v v' : List Token} {xs xs' : List X} → Each R w v xs → Each R w v' xs' → ((u : List Token) (x : X) → R v u x → ⊥) → ((u : List Token) (x : X) → R v' u x → ⊥)
      → (xs ≡ xs') × (v ≡ v')
  each_only each_end each_end g h = (refl, refl)
  each_only each_end (each_more e r) g h = absurd (g _ _ e)
  each_only (each_more d r) each_end g h = absurd (h _ _ d)
  each_only (each_more {w = w} {u = u} {v = v} {x = x} {xs = xs} d r) (each_more {u = u'} {v = v'} {x = x'} {xs = xs'} e s) g h =
      let first = only w u u' x x' d e in
      let rest = each_only r (subst (λ q. Each R q v' xs') (sym first.1) s) g h in
      (ap (λ y. y ∷ xs) first.0 ∙ ap (λ ys. x' ∷ ys) rest.0, rest.1)

-- no expression goes on at a sign that binds nothing
pub closes_row : (l : ℕ) (s : Sign) (v u : List Token) → sign_strength s ≡ 0 → Begins v (word.Sign s) u → Tighter l v → ⊥
closes_row l s v u e b h = let tight : l < sign_strength s = subst (λ f. l < front_strength f) b h in omega arith

-- an expression and the sign that closes it
pub closed_only : (s : Sign) → sign_strength s ≡ 0 → (w : List Token) → Only (Closed s) w
closed_only s h w v v' x x' (closed {u = u} d b) (closed {u = u'} e c) =
    let same = only_ending (Row 0) (Tighter 0) w (row_exists 0 (omega arith) w) u u' x x' d (closes_row 0 s u v h b) e (closes_row 0 s u' v' h c) in
    let here : u ≡ u' = same.1 in
    (same.0, cc)

-- a unary expression before a sign that binds nothing
pub unary_only : (s : Sign) → sign_strength s ≡ 0 → (w u u' r r' : List Token) (x x' : Expr) → UnaryExpr w u x → Begins u (word.Sign s) r → UnaryExpr w u' x' → Begins u' (word.Sign s) r' → (x ≡ x') × (u ≡ u')
unary_only s h w u u' r r' x x' d b e c =
    only_ending (Row rows) (Tighter rows) w (row_exists rows (omega arith) w) u u' x x' (last_row refl d) (closes_row rows s u r h b) (last_row refl e) (closes_row rows s u' r' h c)

-- no type name goes on at a name
pub closes_type : (v u : List Token) (n : List ℕ) → Begins v (word.Name n) u → At is_in_types v → ⊥
closes_type v u n b g = let clash = in_class is_in_types v b g in cc

-- a type name before a name
pub type_only : (w u u' r r' : List Token) (t t' : TypeName) (n n' : List ℕ) → TypeNameAt w u t → Begins u (word.Name n) r → TypeNameAt w u' t' → Begins u' (word.Name n') r' → (t ≡ t') × (u ≡ u')
type_only w u u' r r' t t' n n' d b e c = only_ending TypeNameAt (At is_in_types) w (type_exists w) u u' t t' d (closes_type u r n b) e (closes_type u' r' n' c)
