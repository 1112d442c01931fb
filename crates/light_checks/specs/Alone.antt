-- Where an expression may be checked by itself (`check_expr` of rules_stmt): in a function of a short unit, whose declarations stand, with
-- the unit's table and the function's slots.
use Rattle.std.specs.Prelude.{◌≡◌, Ok, Contains}
use Rattle.c_tree.specs.declared.items.Function.{Function}
use Rattle.c_tree.specs.declared.items.Item.TheVariants as item
use Rattle.c_tree.specs.declared.items.Unit.{Unit as TextUnit}
use Rattle.c_tree.specs.ShortUnit.{IsShortUnit}
use Rattle.c_tree.specs.Slots.{locals_of}
use Rattle.deputy_rules.specs.Context.{Context}
use Rattle.deputy_rules.specs.Heads.{slot_shapes}
use Rattle.deputy_types.specs.UnitLayout.{layout}
use Rattle.light_checks.specs.Standing.{Stands}

pub record IsInFunction (ctx : Context) : Type 0 where
  pub unit : TextUnit
  pub short : IsShortUnit unit
  pub table : layout unit ≡ Ok ctx.table
  pub function : Function
  pub holds : Contains unit.items (item.Function function)
  pub stands : Stands ctx.table function
  pub locals : ctx.locals ≡ locals_of function
  pub slots : ctx.slots ≡ slot_shapes ctx.table function
