-- A checked unit that the rules derive: there are a short text and its table of types from which they derive it.
use Rattle.std.specs.Prelude.{◌≡◌, Ok}
use Rattle.c_tree.specs.declared.items.Unit.{Unit as TextUnit}
use Rattle.c_tree.specs.ShortUnit.{IsShortUnit}
use Rattle.checked_tree.specs.declared.units.CheckedUnit.{CheckedUnit}
use Rattle.deputy_rules.specs.Functions.{DerivesUnit}
use Rattle.deputy_types.specs.Table.{Table}
use Rattle.deputy_types.specs.UnitLayout.{layout}

pub record IsDerivedUnit (unit : CheckedUnit) : Type 0 where
  pub text : TextUnit
  pub table : Table
  pub short : IsShortUnit text
  pub types : layout text ≡ Ok table
  pub derived : DerivesUnit table text unit
