-- The function of a name.
use Rattle.std.specs.Prelude.{ℕ, Bool, List, Option, bytes_eq, position}
use Rattle.checked_tree.specs.declared.units.CheckedFn.{CheckedFn}
use Rattle.checked_tree.specs.declared.units.CheckedUnit.{CheckedUnit}

-- whether a function has this name
abbrev pub is_named : List ℕ → CheckedFn → Bool
is_named name f = bytes_eq f.name name

-- the place of the first of these functions that has it
abbrev pub place_of : List CheckedFn → List ℕ → Option ℕ
place_of functions name = position (is_named name) functions

-- the number of the first function with this name
abbrev pub function_named : CheckedUnit → List ℕ → Option ℕ
function_named unit name = place_of unit.functions name
