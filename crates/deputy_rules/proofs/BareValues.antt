-- The bare form of an expression has the value that the expression has without its checks.
use Rattle.std.proofs.Common.{◌≡◌, ℕ, List, [], ℤ, pos, Ok, Err, refl, sym, ap, subst, ◌∙◌}
use Rattle.checked_tree.specs.declared.expressions.CheckedExpr.{CheckedExpr, map-CheckedExpr, roll-CheckedExpr}
use Rattle.checked_tree.specs.declared.expressions.CheckedExpr.TheOpen as E
use Rattle.checked_tree.specs.declared.expressions.CheckedExpr.TheFolds.{fold-CheckedExpr, fold-roll-CheckedExpr, ind-CheckedExpr}
use Rattle.checked_tree.specs.Outcome.{Outcome, Got, ◌>>=◌}
use Rattle.checked_tree.specs.Bare.{bare, bare_level}
use Rattle.checked_tree.specs.Conditions.{State, eval_level, peek}
use Rattle.checked_tree.proofs.Equations.{at-Number, at-Null, at-Local, at-Block, at-Through, at-Element, at-Field, at-Load, at-AddressOf, at-Moved, at-Unary, at-Binary, at-Compare, at-Logical}

two : {A B : Type 0} (f : A → A → B) (a b c d : A) → a ≡ b → c ≡ d → f a c ≡ f b d
two f a b c d p q = ap (λ x. f x c) p ∙ ap (λ y. f b y) q

module _ (st : State) where
  abbrev SameBare : CheckedExpr → Type 0
  SameBare e = peek st (bare e) ≡ peek st e

  abbrev Bared : Type 0
  Bared = (e : CheckedExpr) × SameBare e

  abbrev bare_of : E.CheckedExpr-F Bared → CheckedExpr
  bare_of x = bare_level (map-CheckedExpr Bared CheckedExpr (λ k. bare k.0) x)

  abbrev whole_of : E.CheckedExpr-F Bared → Got
  whole_of x = eval_level (λ _. Ok tt) st (map-CheckedExpr Bared Got (λ k. peek st k.0) x)

  bare_by : (x : E.CheckedExpr-F Bared) → peek st (bare_of x) ≡ whole_of x
  unfolding peek
  bare_by (E.Number value scalar) = at-Number Got (eval_level (λ _. Ok tt) st) value scalar
  bare_by E.Null = at-Null Got (eval_level (λ _. Ok tt) st)
  bare_by (E.Local slot) = at-Local Got (eval_level (λ _. Ok tt) st) slot
  bare_by (E.Block base) = at-Block Got (eval_level (λ _. Ok tt) st) base
  bare_by (E.Through p ids) = at-Through Got (eval_level (λ _. Ok tt) st) (bare p.0) [] ∙ ap (λ (g : Got). g >>= λ v. Ok v) p.1
  bare_by (E.Element p i size ids) = at-Element Got (eval_level (λ _. Ok tt) st) (bare p.0) (bare i.0) size [] ∙ two (λ (g h : Got). eval_level (λ _. Ok tt) st (E.Element g h size [])) _ _ _ _ p.1 i.1
  bare_by (E.Field p offset ids) = at-Field Got (eval_level (λ _. Ok tt) st) (bare p.0) offset [] ∙ ap (λ (g : Got). eval_level (λ _. Ok tt) st (E.Field g offset [])) p.1
  bare_by (E.Load scalar p) = at-Load Got (eval_level (λ _. Ok tt) st) scalar (bare p.0) ∙ ap (λ (g : Got). eval_level (λ _. Ok tt) st (E.Load scalar g)) p.1
  bare_by (E.AddressOf p) = at-AddressOf Got (eval_level (λ _. Ok tt) st) (bare p.0) ∙ p.1
  bare_by (E.Moved sum p i size ids) = at-Moved Got (eval_level (λ _. Ok tt) st) sum (bare p.0) (bare i.0) size [] ∙ two (λ (g h : Got). eval_level (λ _. Ok tt) st (E.Moved sum g h size [])) _ _ _ _ p.1 i.1
  bare_by (E.Unary op scalar a) = at-Unary Got (eval_level (λ _. Ok tt) st) op scalar (bare a.0) ∙ ap (λ (g : Got). eval_level (λ _. Ok tt) st (E.Unary op scalar g)) a.1
  bare_by (E.Binary op scalar a b ids) = at-Binary Got (eval_level (λ _. Ok tt) st) op scalar (bare a.0) (bare b.0) [] ∙ two (λ (g h : Got). eval_level (λ _. Ok tt) st (E.Binary op scalar g h [])) _ _ _ _ a.1 b.1
  bare_by (E.Compare op scalar a b) = at-Compare Got (eval_level (λ _. Ok tt) st) op scalar (bare a.0) (bare b.0) ∙ two (λ (g h : Got). eval_level (λ _. Ok tt) st (E.Compare op scalar g h)) _ _ _ _ a.1 b.1
  bare_by (E.Logical op a b) = at-Logical Got (eval_level (λ _. Ok tt) st) op (bare a.0) (bare b.0) ∙ two (λ (g h : Got). eval_level (λ _. Ok tt) st (E.Logical op g h)) _ _ _ _ a.1 b.1

  bared_parts : E.CheckedExpr-F Bared → E.CheckedExpr-F CheckedExpr
  bared_parts x = map-CheckedExpr Bared CheckedExpr (λ k. k.0) x

  same_bare : (x : E.CheckedExpr-F Bared) → bare_level (map-CheckedExpr CheckedExpr CheckedExpr bare (bared_parts x)) ≡ bare_of x
  unfolding bared_parts
  same_bare E.Null = refl
  same_bare _ = refl

  same_whole : (x : E.CheckedExpr-F Bared) → eval_level (λ _. Ok tt) st (map-CheckedExpr CheckedExpr Got (peek st) (bared_parts x)) ≡ whole_of x
  unfolding bared_parts
  same_whole E.Null = refl
  same_whole _ = refl

  bare_at : (y : E.CheckedExpr-F CheckedExpr) → bare (roll-CheckedExpr y) ≡ bare_level (map-CheckedExpr CheckedExpr CheckedExpr bare y)
  unfolding bare
  bare_at y = fold-roll-CheckedExpr CheckedExpr bare_level y

  peek_at : (y : E.CheckedExpr-F CheckedExpr) → peek st (roll-CheckedExpr y) ≡ eval_level (λ _. Ok tt) st (map-CheckedExpr CheckedExpr Got (peek st) y)
  unfolding peek
  peek_at y = fold-roll-CheckedExpr Got (eval_level (λ _. Ok tt) st) y

  pub peek_bare : (e : CheckedExpr) → SameBare e
  unfolding bared_parts
  peek_bare = ind-CheckedExpr SameBare (λ z x is. subst (λ l. SameBare (roll-CheckedExpr l)) is (here x))
    where
      here : (x : E.CheckedExpr-F Bared) → SameBare (roll-CheckedExpr (map-CheckedExpr Bared CheckedExpr (λ k. k.0) x))
      here x = ap (peek st) (bare_at (bared_parts x) ∙ same_bare x) ∙ bare_by x ∙ sym (peek_at (bared_parts x) ∙ same_whole x)
