-- What is laid out of a short unit, and where the statements of its functions stand.
use Rattle.std.specs.Prelude.{◌≡◌, Contains, Some, Ok}
use Rattle.c_tree.specs.declared.items.Function.{Function}
use Rattle.c_tree.specs.declared.items.Item.TheVariants as item
use Rattle.c_tree.specs.declared.items.Unit.{Unit as TextUnit}
use Rattle.c_tree.specs.ShortUnit.{IsShortUnit}
use Rattle.deputy_rules.specs.declared.signature.Returned.{Returned}
use Rattle.deputy_rules.specs.Functions.{text_of}
use Rattle.deputy_rules.specs.Heads.{result_of}
use Rattle.deputy_rules.specs.Statements.{Home}
use Rattle.deputy_types.specs.Table.{Table}
use Rattle.deputy_types.specs.UnitLayout.{layout}
use Rattle.light_checks.specs.Standing.{Stands}

-- a function of a short unit with this table, whose declarations stand, and the result that it declares
pub record IsFunctionOf (u : TextUnit) (t : Table) (f : Function) (r : Returned) : Type 0 where
  pub short : IsShortUnit u
  pub table : layout u ≡ Ok t
  pub function : Contains u.items (item.Function f)
  pub stands : Stands t f
  pub result : result_of t f.head ≡ Some r

-- where a body of the unit with this result stands
abbrev pub home_of : TextUnit → Table → Returned → Home
home_of u t r = record { functions = (text_of t u.items).functions; result = r }
