-- A linear form that has a value has its value at the atoms' numbers; so a condition that has a value says what its inequality says.
use Rattle.std.proofs.Common.{◌≡◌, ◌⊎◌, inl, inr, ℕ, nat_lt, Bool, true, false, ◌||◌, IsTrue, List, [], ◌∷◌, ℤ, pos, ◌+ℤ◌, ◌*ℤ◌, ◌≤ℤ◌, int_le, unsigned_abs, Option, Some, None, option_map, Ok, Err, slice_get, if◌then◌else◌, ◌↔◌, refl, sym, ap, subst, ◌∙◌, arith}
use Rattle.std.proofs.lemmas.Int.{ints}
use Rattle.std.proofs.lemmas.Bool.Decides.{Decides-int_eq}
use Rattle.dep_expr.specs.Linear.{LinearForm, Assignment, terms_value, value_of}
use Rattle.dep_expr.specs.Merged.{merged}
use Rattle.dep_expr.specs.Inequality.{Satisfies, IsExcused}
use Rattle.dep_expr.specs.declared.inequality.Ineq.{Ineq}
use Rattle.dep_expr.proofs.Norming.{normed_solutions}
use Rattle.dep_expr.proofs.Merging.{value_of-merged}
use Rattle.dep_expr.proofs.Deciding.{order_tells}
use Rattle.checked_tree.specs.declared.expressions.CheckedExpr.{CheckedExpr}
use Rattle.checked_tree.specs.declared.stops.Stop.TheVariants.{Wild}
use Rattle.checked_tree.specs.declared.checks.Cond.TheVariants.{Le}
use Rattle.checked_tree.specs.Outcome.{Outcome, Got, ◌>>=◌}
use Rattle.checked_tree.specs.Numbers.{sum_limit, limited}
use Rattle.checked_tree.specs.Conditions.{State, atom_value, sum_from, form_value, optional_value, is_excused, condition}
use Rattle.checked_tree.specs.Redundant.{comparable}
use Rattle.checked_tree.specs.Known.{number_or_zero, atom_numbers}

-- two outcomes one after the other that give a value: the first gives one too
pub record Chained {A B : Type 0} (r : Outcome A) (g : A → Outcome B) (b : B) : Type 0 where
  pub value : A
  pub first : r ≡ Ok value
  pub second : g value ≡ Ok b

pub chained : {A B : Type 0} (r : Outcome A) (g : A → Outcome B) (b : B) → (r >>= g) ≡ Ok b → Chained r g b
chained (Ok a) g b h = record { value = a; first = refl; second = h }
chained (Err e) g b h = absurd cc

abbrev limited_by : Bool → ℤ → Got
limited_by b z = if b then Ok z else Err Wild

-- a sum that is below the limit is itself
pub limited_same : (z w : ℤ) → limited z ≡ Ok w → z ≡ w
limited_same z w h = by (nat_lt (unsigned_abs z) sum_limit) h
  where
    by : (b : Bool) → limited_by b z ≡ Ok w → z ≡ w
    by true e = cc
    by false e = absurd cc

module _ (atoms : List CheckedExpr) (s : State) where
  abbrev at : Assignment
  at = atom_numbers atoms s

  abbrev rest_of : ℤ × ℕ → List (ℤ × ℕ) → ℤ → ℤ → Got
  rest_of t ts sum w = limited (sum +ℤ (t.0 *ℤ w)) >>= λ next. sum_from atoms s ts next

  pub sum_from_value : (ts : List (ℤ × ℕ)) (sum v : ℤ) → sum_from atoms s ts sum ≡ Ok v → v ≡ terms_value ts at +ℤ sum
  sum_from_value [] sum v h = let e : sum ≡ v = cc in omega (arith, ints, e)
  sum_from_value (t ∷ ts) sum v h =
      let b = chained (atom_value s (slice_get atoms t.1)) (rest_of t ts sum) v h in
      let c = chained (limited (sum +ℤ (t.0 *ℤ b.value))) (λ next. sum_from atoms s ts next) v b.second in
      let number : at t.1 ≡ b.value = ap number_or_zero b.first in
      let product : t.0 *ℤ at t.1 ≡ t.0 *ℤ b.value = ap (λ z. t.0 *ℤ z) number in
      omega (arith, ints, sum_from_value ts c.value v c.second, limited_same (sum +ℤ (t.0 *ℤ b.value)) c.value c.first, product)

  pub form_value_value : (l : LinearForm) (v : ℤ) → form_value atoms s l ≡ Ok v → v ≡ value_of l at
  unfolding form_value value_of
  form_value_value l v h =
      let b = chained (limited l.constant) (λ first. sum_from atoms s l.terms first) v h in
      omega (arith, ints, sum_from_value l.terms b.value v b.second, limited_same l.constant b.value b.first)

  -- a guard that is 0
  excused_tells : (guard : Option LinearForm) (g : Option ℤ) → optional_value atoms s guard ≡ Ok g → IsExcused guard at ↔ IsTrue (is_excused g)
  excused_tells None g h = let e : None ≡ g = cc in subst (λ (o : Option ℤ). ⊥ ↔ IsTrue (is_excused o)) e (λ x. absurd x, λ x. absurd cc)
  excused_tells (Some l) g h =
      let b = chained (form_value atoms s l) (λ v. Ok (Some v)) g h in
      let e : Some b.value ≡ g = cc in
      let d = Decides-int_eq b.value (pos 0) in
      let v = form_value_value l b.value b.first in
      subst (λ (o : Option ℤ). (value_of l at ≡ pos 0) ↔ IsTrue (is_excused o)) e ((λ x. d.1 (v ∙ x)), (λ x. sym v ∙ d.0 x))

  or_left : (a b : Bool) → a ≡ true → (a || b) ≡ true
  or_left true b h = refl
  or_left false b h = absurd cc

  or_right : (a b : Bool) → b ≡ true → (a || b) ≡ true
  or_right true b h = refl
  or_right false b h = h

  or_cases : (a b : Bool) → (a || b) ≡ true → (a ≡ true) ⊎ (b ≡ true)
  or_cases true b h = inl refl
  or_cases false b h = inr h

  -- what a condition says, once it has a value
  le_tells : (i : Ineq) (b : Bool) → condition atoms s (Le i) ≡ Ok b → Satisfies at i ↔ (b ≡ true)
  unfolding condition
  le_tells i b h =
      let p = chained (form_value atoms s i.left) (λ v. optional_value atoms s i.guard >>= λ g. Ok (is_excused g || int_le v (pos 0))) b h in
      let q = chained (optional_value atoms s i.guard) (λ g. Ok (is_excused g || int_le p.value (pos 0))) b p.second in
      let e : (is_excused q.value || int_le p.value (pos 0)) ≡ b = cc in
      let v = form_value_value i.left p.value p.first in
      let x = excused_tells i.guard q.value q.first in
      let d = order_tells p.value (pos 0) in (
        (λ k. sym e ∙ elim k [
          | inl excused ↦ or_left (is_excused q.value) (int_le p.value (pos 0)) (x.0 excused)
          | inr below ↦ or_right (is_excused q.value) (int_le p.value (pos 0)) (d.1 (subst (λ (z : ℤ). z ≤ℤ pos 0) (sym v) below))
        ]),
        (λ k. elim (or_cases (is_excused q.value) (int_le p.value (pos 0)) (e ∙ k)) [
          | inl excused ↦ inl (x.1 excused)
          | inr below ↦ inr (subst (λ (z : ℤ). z ≤ℤ pos 0) v (d.0 below))
        ]),
      )

  -- a condition that holds: its inequality does
  pub condition_satisfies : (i : Ineq) → condition atoms s (Le i) ≡ Ok true → Satisfies at i
  condition_satisfies i h = (le_tells i true h).1 refl

  -- and the other way round, where the condition has a value
  pub satisfies_condition : (i : Ineq) (b : Bool) → Satisfies at i → condition atoms s (Le i) ≡ Ok b → b ≡ true
  satisfies_condition i b k h = (le_tells i b h).0 k

  pub normal_guard : (guard : Option LinearForm) → IsExcused (option_map merged guard) at ↔ IsExcused guard at
  normal_guard None = ((λ x. x), (λ x. x))
  normal_guard (Some g) = ((λ x. sym (value_of-merged g at) ∙ x), (λ x. value_of-merged g at ∙ x))

  -- an inequality as the rules compare it has the same solutions
  pub comparable_solutions : (i : Ineq) → Satisfies at (comparable i) ↔ Satisfies at i
  unfolding comparable
  comparable_solutions i = (
    (λ k. elim k [ inl excused ↦ inl ((normal_guard i.guard).0 excused) | inr below ↦ inr ((normed_solutions i.left at).0 below) ]),
    (λ k. elim k [ inl excused ↦ inl ((normal_guard i.guard).1 excused) | inr below ↦ inr ((normed_solutions i.left at).1 below) ]),
  )
