-- A form that is being added up is light: its coefficients weigh no more than was counted, and its constant neither.
use Rattle.std.specs.Prelude.{◌<◌, ◌≤◌, ◌^◌, unsigned_abs}
use Rattle.dep_expr.specs.Weight.{weight}
use Rattle.deputy_rules.specs.Numbering.{Forming}

pub record IsWeighed (f : Forming) : Type 0 where
  pub counted : weight f.form.terms ≤ f.coefficients
  pub coefficients : f.coefficients < 2 ^ 62
  pub sized : unsigned_abs f.form.constant ≤ f.constants
  pub constants : f.constants < 2 ^ 100
