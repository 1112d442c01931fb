-- Facts over slots that are small enough to be compared, and what stands for them over atoms.
use Rattle.std.specs.Prelude.{ℕ, ◌<◌, ◌^◌, List, ℤ, unsigned_abs, Option, Some, None}
use Rattle.dep_expr.specs.Linear.{LinearForm}
use Rattle.dep_expr.specs.Weight.{weight}

-- a form whose merged form is small
pub record LightForm (l : LinearForm) : Type 0 where
  pub terms : weight l.terms < 2 ^ 62
  pub constant : unsigned_abs l.constant < 2 ^ 100

unfoldable pub IsLight : LinearForm → Type 0
IsLight l = LightForm l

abbrev pub IsLightFact : Option LinearForm → Type 0
IsLightFact None = Unit {0}
IsLightFact (Some l) = IsLight l

abbrev pub renamed_form : ℤ → Option (List (ℤ × ℕ)) → Option LinearForm
renamed_form constant None = None
renamed_form constant (Some ts) = Some (record { terms = ts; constant = constant })
