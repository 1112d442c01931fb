-- A pointer that a short expression in a function hands over or gives back, with the sums that bound it.
use Rattle.std.specs.Prelude.{◌≡◌, ◌⊎◌, Bool, List, [], Some}
use Rattle.c_tree.specs.declared.expressions.Expr.{Expr}
use Rattle.c_tree.specs.Short.{IsShortExpr}
use Rattle.deputy_types.specs.declared.element.Element.{Element}
use Rattle.deputy_types.specs.Options.{and_then}
use Rattle.deputy_rules.specs.declared.asked.Asked.{Asked}
use Rattle.deputy_rules.specs.declared.derived.Derived.{Derived}
use Rattle.deputy_rules.specs.declared.handed.Handed.{Handed}
use Rattle.deputy_rules.specs.Calls.{freed_value}
use Rattle.deputy_rules.specs.Coercion.{handed}
use Rattle.deputy_rules.specs.Context.{Context}
use Rattle.deputy_rules.specs.Expressions.{derive}
use Rattle.deputy_rules.specs.Values.{value_of}

-- where the expression stands, what it derives is the pointer: handed over as one to some element, nullterm or not, or given back
pub record HandsOver (ctx : Context) (e : Expr) (h : Handed) : Type 0 where
  pub short : IsShortExpr e
  pub found : Derived
  pub asked : List Asked
  pub derives : derive ctx e [] ≡ Some (found, asked)
  pub hands : ((key : Element) × (nullterm : Bool) × (handed ctx key nullterm found ≡ Some h))
      ⊎ (and_then (value_of ctx found) freed_value ≡ Some h)
