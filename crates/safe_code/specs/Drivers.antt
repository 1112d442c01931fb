-- A driver, as a contract sees it: the number of its file, and its checked unit.
use Rattle.std.specs.Prelude.{ℕ}
use Rattle.checked_tree.specs.declared.units.CheckedUnit.{CheckedUnit}

pub record Driver : Type 0 where
  pub file : ℕ
  pub unit : CheckedUnit
