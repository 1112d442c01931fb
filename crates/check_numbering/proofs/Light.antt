-- A light form with one more term.
use Rattle.std.proofs.Common.{◌≡◌, ◌+◌, ◌<◌, ◌^◌, ℕ, [], ◌∷◌, ℤ, pos, unsigned_abs, arith, subst, sym}
use Rattle.dep_expr.specs.Linear.{LinearForm, plus, term_form}
use Rattle.dep_expr.specs.Weight.{weight}
use Rattle.dep_expr.proofs.Weights.{weight-append, abs-add}
use Rattle.deputy_rules.specs.Numbering.{Forming}
use Rattle.check_numbering.specs.Weighed.{IsWeighed}

pub light-term : (f : Forming) (form : LinearForm) (k : ℤ) (a n : ℕ) → IsWeighed f → form ≡ plus f.form (term_form (k, a)) → n ≡ unsigned_abs k
    → f.coefficients + n < 2 ^ 62 → IsWeighed (record { form = form; coefficients = f.coefficients + n; constants = f.constants })
light-term f form k a n light is size room =
    subst (λ x. IsWeighed (record { form = x; coefficients = f.coefficients + n; constants = f.constants })) (sym is) (record {
      counted = omega (arith, weight-append f.form.terms ((k, a) ∷ []), light.counted, size);
      coefficients = room;
      sized = omega (arith, abs-add f.form.constant (pos 0), light.sized);
      constants = light.constants;
    })
