-- Evaluation with all checks at each form, and what tests in a row give.
use Rattle.std.proofs.Common.{◌≡◌, ℕ, ◌-◌, ◌==◌, Bool, true, false, List, [], ◌∷◌, ◌++◌, ℤ, pos, ◌+ℤ◌, ◌*ℤ◌, Ok, Err, slice_index_or}
use Rattle.std.proofs.Common.{if◌then◌else◌, refl, sym, ap, subst}
use Rattle.checked_tree.specs.declared.stops.Stop.TheVariants.{Failed, Wild}
use Rattle.checked_tree.specs.declared.expressions.Arithmetic.{Arithmetic}
use Rattle.checked_tree.specs.declared.expressions.CheckedExpr.{CheckedExpr}
use Rattle.checked_tree.specs.declared.expressions.Comparison.{Comparison}
use Rattle.checked_tree.specs.declared.expressions.Logic.{Logic}
use Rattle.checked_tree.specs.declared.expressions.PointerSum.{PointerSum}
use Rattle.checked_tree.specs.declared.expressions.Unary.{Unary}
use Rattle.checked_tree.specs.declared.expressions.CheckedExpr.TheOpen as E
use Rattle.checked_tree.specs.declared.expressions.CheckedExpr.TheVariants as V
use Rattle.checked_tree.specs.declared.shapes.Scalar.{Scalar}
use Rattle.checked_tree.specs.declared.units.CheckedFn.{CheckedFn}
use Rattle.checked_tree.specs.Outcome.{Outcome, Got, ◌>>=◌, Safe}
use Rattle.checked_tree.specs.Numbers.{address, converted, unary, arithmetic, comparison}
use Rattle.checked_tree.specs.Memory.{load}
use Rattle.checked_tree.specs.Conditions.{State, eval_level, parts, moved, logical}
use Rattle.checked_tree.specs.Eval.{eval, is_kept, tests, test, check_of}
use Rattle.checked_tree.proofs.Equations.{at-Number, at-Null, at-Local, at-Block, at-Through, at-Element, at-Field, at-Load, at-AddressOf}
use Rattle.checked_tree.proofs.Equations.{at-Moved, at-Unary, at-Binary, at-Compare, at-Logical}
use Rattle.checked_tree.proofs.Outcomes.{safe_bind}

-- what is safe before a continuation is safe before another that is as safe
pub safe_again : {A B C : Type 0} (r : Outcome A) (g : A → Outcome B) (h : A → Outcome C) (Q : B → Type 0) (R : C → Type 0)
    → Safe (r >>= g) Q → ((a : A) → Safe (g a) Q → Safe (h a) R) → Safe (r >>= h) R
safe_again (Ok a) g h Q R s k = k a s
safe_again (Err (Failed line kind)) g h Q R s k = tt
safe_again (Err Wild) g h Q R s k = s

pub safe_weaker : {A : Type 0} (r : Outcome A) (Q R : A → Type 0) → Safe r Q → ((a : A) → r ≡ Ok a → Q a → R a) → Safe r R
safe_weaker (Ok a) Q R s k = k a refl s
safe_weaker (Err (Failed line kind)) Q R s k = tt
safe_weaker (Err Wild) Q R s k = s

pub safe_same : {A : Type 0} (r t : Outcome A) (Q : A → Type 0) → t ≡ r → Safe r Q → Safe t Q
safe_same {A = A} r t Q e s = subst (λ (x : Outcome A). Safe x Q) (sym e) s

module _ (f : CheckedFn) (st : State) where
  -- tests that are passed where a fact holds
  abbrev pub Pass : List ℕ → Type 0 → Type 0
  Pass ids P = Safe (tests [] f st ids) (λ _. P)

  pub pass_none : (P : Type 0) → P → Pass [] P
  unfolding tests
  pass_none P p = p

  kept_all : (id : ℕ) → is_kept [] id ≡ true
  kept_all id = by (id == 0)
    where
      by : (b : Bool) → (if b then true else slice_index_or [] (id - 1) true) ≡ true
      by true = refl
      by false = refl

  -- each check is tested
  tests_more : (id : ℕ) (ids : List ℕ) → tests [] f st (id ∷ ids) ≡ (test f st (check_of f id) >>= λ _. tests [] f st ids)
  unfolding tests
  tests_more id ids = ap (λ (b : Bool). (if b then test f st (check_of f id) else Ok tt) >>= λ _. tests [] f st ids) (kept_all id)

  pub pass_one : (id : ℕ) (P : Type 0) → Safe (test f st (check_of f id)) (λ _. P) → Pass (id ∷ []) P
  unfolding tests
  pass_one id P s = safe_same _ _ _ (tests_more id []) (safe_bind (test f st (check_of f id)) (λ _. Ok tt) (λ _. P) (λ _. P) s (λ u p. p))

  pub pass_then : (a b : List ℕ) (P R : Type 0) → Pass a P → (P → Pass b R) → Pass (a ++ b) (P × R)
  unfolding tests
  pass_then [] b P R p k = safe_weaker (tests [] f st b) (λ _. R) (λ _. P × R) (k p) (λ u e r. (p, r))
  pass_then (id ∷ a) b P R p k =
      safe_same _ _ _ (tests_more id (a ++ b))
      (safe_again (test f st (check_of f id)) (λ _. tests [] f st a) (λ _. tests [] f st (a ++ b)) (λ _. P) (λ _. P × R)
      (safe_same (tests [] f st (id ∷ a)) (test f st (check_of f id) >>= λ _. tests [] f st a) (λ _. P) (sym (tests_more id a)) p)
      (λ u s. pass_then a b P R s k))

  pub eval-Number : (z : ℤ) (s : Scalar) → eval [] f st (V.Number z s) ≡ Ok (converted s z)
  unfolding eval
  eval-Number z s = at-Number Got (eval_level (tests [] f st) st) z s

  pub eval-Local : (slot : ℕ) → eval [] f st (V.Local slot) ≡ eval_level (tests [] f st) st (E.Local slot)
  unfolding eval
  eval-Local slot = at-Local Got (eval_level (tests [] f st) st) slot

  pub eval-Through : (p : CheckedExpr) (ids : List ℕ) → eval [] f st (V.Through p ids) ≡ (eval [] f st p >>= λ v. tests [] f st ids >>= λ
      _. Ok v)
  unfolding eval
  eval-Through p ids = at-Through Got (eval_level (tests [] f st) st) p ids

  pub eval-Load : (s : Scalar) (p : CheckedExpr) → eval [] f st (V.Load s p) ≡ (eval [] f st p >>= λ a. load st.memory s a)
  unfolding eval
  eval-Load s p = at-Load Got (eval_level (tests [] f st) st) s p

  pub eval-Binary : (op : Arithmetic) (s : Scalar) (a b : CheckedExpr) (ids : List ℕ)
      → eval [] f st (V.Binary op s a b ids) ≡ (eval [] f st a >>= λ x. eval [] f st b >>= λ y. tests [] f st ids >>= λ _. arithmetic op s
      x y)
  unfolding eval
  eval-Binary op s a b ids = at-Binary Got (eval_level (tests [] f st) st) op s a b ids

  pub eval-Null : eval [] f st V.Null ≡ Ok (pos 0)
  unfolding eval
  eval-Null = at-Null Got (eval_level (tests [] f st) st)

  pub eval-Block : (base : ℕ) → eval [] f st (V.Block base) ≡ Ok (pos base)
  unfolding eval
  eval-Block base = at-Block Got (eval_level (tests [] f st) st) base

  pub eval-AddressOf : (p : CheckedExpr) → eval [] f st (V.AddressOf p) ≡ eval [] f st p
  unfolding eval
  eval-AddressOf p = at-AddressOf Got (eval_level (tests [] f st) st) p

  pub eval-Element : (p i : CheckedExpr) (size : ℕ) (ids : List ℕ)
      → eval [] f st (V.Element p i size ids) ≡ (eval [] f st p >>= λ v. eval [] f st i >>= λ n. tests [] f st ids >>= λ _. address
      (v +ℤ (pos size *ℤ n)))
  unfolding eval
  eval-Element p i size ids = at-Element Got (eval_level (tests [] f st) st) p i size ids

  pub eval-Field : (p : CheckedExpr) (offset : ℕ) (ids : List ℕ) → eval [] f st (V.Field p offset ids) ≡ (eval [] f st p >>= λ a. tests []
      f st ids >>= λ _. address (a +ℤ pos offset))
  unfolding eval
  eval-Field p offset ids = at-Field Got (eval_level (tests [] f st) st) p offset ids

  pub eval-Moved : (how : PointerSum) (p i : CheckedExpr) (size : ℕ) (ids : List ℕ)
      → eval [] f st (V.Moved how p i size ids) ≡ (parts how (eval [] f st p) (eval [] f st i) >>= λ x. tests [] f st ids >>= λ _. address
      (moved how size x.0 x.1))
  unfolding eval
  eval-Moved how p i size ids = at-Moved Got (eval_level (tests [] f st) st) how p i size ids

  pub eval-Unary : (op : Unary) (s : Scalar) (a : CheckedExpr) → eval [] f st (V.Unary op s a) ≡ (eval [] f st a >>= λ x. Ok (unary op s x))
  unfolding eval
  eval-Unary op s a = at-Unary Got (eval_level (tests [] f st) st) op s a

  pub eval-Compare : (op : Comparison) (s : Scalar) (a b : CheckedExpr)
      → eval [] f st (V.Compare op s a b) ≡ (eval [] f st a >>= λ x. eval [] f st b >>= λ y. Ok (comparison op s x y))
  unfolding eval
  eval-Compare op s a b = at-Compare Got (eval_level (tests [] f st) st) op s a b

  pub eval-Logical : (op : Logic) (a b : CheckedExpr) → eval [] f st (V.Logical op a b) ≡ (eval [] f st a >>= λ x. logical op x
      (eval [] f st b))
  unfolding eval
  eval-Logical op a b = at-Logical Got (eval_level (tests [] f st) st) op a b
