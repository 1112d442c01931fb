-- What rows have at a place, and the numbers by which tables are gone through.
use Rattle.std.specs.Prelude.{ℕ, zero, suc, ◌-◌, List, [], ◌∷◌}
use Rattle.std.specs.List.{range_with_len}
use Rattle.kernel_tables.specs.declared.row.Found.{Found}
use Rattle.kernel_tables.specs.declared.row.Found.TheVariants.{At, Past}
use Rattle.kernel_tables.specs.declared.row.Row.{Row}

-- the row at a place that is counted from 0, or how far past the last row the place lies
abbrev pub look_up : List Row → ℕ → Found
look_up [] k = Past k
look_up (r ∷ rows) zero = At r
look_up (r ∷ rows) (suc k) = look_up rows k

-- the numbers from the first on, up to the second and without it
unfoldable pub numbers : ℕ → ℕ → List ℕ
numbers first end = range_with_len first (end - first)
