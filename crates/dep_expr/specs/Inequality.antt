-- What an inequality says of an assignment, and when one implies another.
use Rattle.std.specs.Prelude.{◌≡◌, ◌⊎◌, ℕ, ◌==◌, Bool, true, false, ◌&&◌, List, [], ◌∷◌, Option, Some, None, ℤ, pos, int_le, ◌≤ℤ◌}
use Rattle.std.specs.Ordering.{int_eq}
use Rattle.dep_expr.specs.Linear.{LinearForm, Assignment, value_of}
use Rattle.dep_expr.specs.declared.inequality.Ineq.{Ineq}

-- the guard is there, and is 0
abbrev pub IsExcused : Option LinearForm → Assignment → Type 0
IsExcused None at = ⊥
IsExcused (Some guard) at = value_of guard at ≡ pos 0

-- an assignment satisfies the inequality: its left side is at most 0, or its guard is 0
abbrev pub Satisfies : Assignment → Ineq → Type 0
Satisfies at i = IsExcused i.guard at ⊎ (value_of i.left at ≤ℤ pos 0)

-- the guard is none, or the same
abbrev pub IsNoWeaker : Option LinearForm → Option LinearForm → Type 0
IsNoWeaker g h = (g ≡ None) ⊎ (g ≡ h)

-- the first implies the second as far as the rule on redundant checks knows: the terms are equal,
-- the constant is at least as great, and the first has no guard or the same
pub record Implies (strong weak : Ineq) : Type 0 where
  pub terms : strong.left.terms ≡ weak.left.terms
  pub constant : weak.left.constant ≤ℤ strong.left.constant
  pub guard : IsNoWeaker strong.guard weak.guard

-- ---- implication as a test, which computes
abbrev pub same_terms : List (ℤ × ℕ) → List (ℤ × ℕ) → Bool
same_terms [] [] = true
same_terms [] (u ∷ us) = false
same_terms (t ∷ ts) [] = false
same_terms (t ∷ ts) (u ∷ us) = int_eq t.0 u.0 && (t.1 == u.1 && same_terms ts us)

abbrev pub same_form : LinearForm → LinearForm → Bool
same_form a b = same_terms a.terms b.terms && int_eq a.constant b.constant

abbrev pub no_weaker : Option LinearForm → Option LinearForm → Bool
no_weaker None h = true
no_weaker (Some g) None = false
no_weaker (Some g) (Some h) = same_form g h

-- whether the first inequality implies the second
unfoldable pub implies : Ineq → Ineq → Bool
implies strong weak =
    same_terms strong.left.terms weak.left.terms
    && (int_le weak.left.constant strong.left.constant && no_weaker strong.guard weak.guard)
