-- The value of a linear form over atoms is its value at the numbers that the atoms have, where each sum on the way is below the limit.
use Rattle.std.proofs.Common.{◌≡◌, ℕ, ◌<◌, Bool, List, [], ◌∷◌, ℤ, ◌+ℤ◌, ◌*ℤ◌, unsigned_abs, Ok, Err, slice_get, if◌then◌else◌, sym, ap, subst, ◌∙◌, arith}
use Rattle.std.proofs.lemmas.Bool.{lt-ltb}
use Rattle.std.proofs.lemmas.Int.{ints}
use Rattle.dep_expr.specs.Linear.{LinearForm, Assignment, terms_value, value_of}
use Rattle.checked_tree.specs.declared.expressions.CheckedExpr.{CheckedExpr}
use Rattle.checked_tree.specs.declared.stops.Stop.TheVariants.{Wild}
use Rattle.checked_tree.specs.Outcome.{Got, ◌>>=◌}
use Rattle.checked_tree.specs.Numbers.{sum_limit, limited}
use Rattle.checked_tree.specs.Conditions.{State, atom_value, sum_from, form_value}

-- each atom of the terms has its number
abbrev pub HaveNumbers : List CheckedExpr → State → Assignment → List (ℤ × ℕ) → Type 0
HaveNumbers atoms s at [] = Unit {0}
HaveNumbers atoms s at (t ∷ ts) = (atom_value s (slice_get atoms t.1) ≡ Ok (at t.1)) × HaveNumbers atoms s at ts

-- a number below the limit
abbrev pub IsLimited : ℤ → Type 0
IsLimited z = unsigned_abs z < sum_limit

-- each sum on the way is
abbrev pub StayLimited : Assignment → List (ℤ × ℕ) → ℤ → Type 0
StayLimited at [] sum = Unit {0}
StayLimited at (t ∷ ts) sum = IsLimited (sum +ℤ (t.0 *ℤ at t.1)) × StayLimited at ts (sum +ℤ (t.0 *ℤ at t.1))

pub limited_is : (z : ℤ) → IsLimited z → limited z ≡ Ok z
limited_is z l = ap (λ (b : Bool). if b then Ok z else Err Wild) (lt-ltb (unsigned_abs z) sum_limit l)

pub sum_from-numbers : (atoms : List CheckedExpr) (s : State) (at : Assignment) (ts : List (ℤ × ℕ)) (sum : ℤ)
    → HaveNumbers atoms s at ts → StayLimited at ts sum → sum_from atoms s ts sum ≡ Ok (terms_value ts at +ℤ sum)
sum_from-numbers atoms s at [] sum h l = ap (λ (z : ℤ). Ok z) (omega (arith, ints))
sum_from-numbers atoms s at (t ∷ ts) sum h l =
    let next : ℤ = sum +ℤ (t.0 *ℤ at t.1) in
    subst (λ (g : Got). (g >>= λ v. limited (sum +ℤ (t.0 *ℤ v)) >>= λ n. sum_from atoms s ts n) ≡ Ok (terms_value (t ∷ ts) at +ℤ sum)) (sym h.0)
    (subst (λ (g : Got). (g >>= λ n. sum_from atoms s ts n) ≡ Ok (terms_value (t ∷ ts) at +ℤ sum)) (sym (limited_is next l.0))
    (sum_from-numbers atoms s at ts next h.1 l.1 ∙ ap (λ (z : ℤ). Ok z) (omega (arith, ints))))

-- the value of a form
pub form_value-numbers : (atoms : List CheckedExpr) (s : State) (at : Assignment) (l : LinearForm)
    → HaveNumbers atoms s at l.terms → IsLimited l.constant → StayLimited at l.terms l.constant → form_value atoms s l ≡ Ok (value_of l at)
unfolding form_value value_of
form_value-numbers atoms s at l h c r =
    subst (λ (g : Got). (g >>= λ first. sum_from atoms s l.terms first) ≡ Ok (terms_value l.terms at +ℤ l.constant)) (sym (limited_is l.constant c)) (sum_from-numbers atoms s at l.terms l.constant h r)
