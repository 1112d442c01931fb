-- `show`, and what is printed of the tables after a failure.
-- Here: names_of, show
use Rattle.std.specs.Prelude.{ℕ, List, [], ◌∷◌, Option, Some, None, slice_get}
use Rattle.kernel_tables.specs.TableRows.{tables_of}
use Rattle.run_report.specs.Tables.{table_items}
use Rattle.checked_tree.specs.declared.units.CheckedFn.{CheckedFn}
use Rattle.world_core.specs.WorldState.{Plan, unit_of}
use Rattle.world_core.specs.Script.{Script, says, by_plan, by_history}

abbrev pub name_of : Option CheckedFn → List ℕ
name_of None = []
name_of (Some f) = f.name

-- the name of a driver's function by its number
abbrev pub names_of : Plan → ℕ → ℕ → List ℕ
names_of plan owner function = name_of (slice_get (unit_of plan owner).functions function)

-- `show`: the line `tables`, then a line for each row of the tables of the history
unfoldable pub show : Script
show = by_plan (λ plan. by_history (λ h. says (table_items (names_of plan) (tables_of h))))
