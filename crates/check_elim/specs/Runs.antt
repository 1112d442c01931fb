-- What an inequality implies as far as terms and constants go.
use Rattle.std.specs.Prelude.{Bool, false, ◌&&◌, int_le, Option, Some, None}
use Rattle.dep_expr.specs.declared.inequality.Ineq.{Ineq}
use Rattle.check_elim.specs.Facts.{same_terms}

abbrev pub line_implies : Ineq → Option Ineq → Bool
line_implies strong None = false
line_implies strong (Some i) = same_terms strong.left.terms i.left.terms && int_le i.left.constant strong.left.constant
