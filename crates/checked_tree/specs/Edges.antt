-- The bounds that an annotation gives, over whole numbers: nothing wraps.
use Rattle.std.specs.Prelude.{ℕ, List, [], ◌∷◌, ℤ, ◌+ℤ◌, ◌*ℤ◌, Option, Some, None}
use Rattle.checked_tree.specs.declared.shapes.Edge.{Edge}

-- the sum so far, and the terms still to add, where each sibling has a value
abbrev pub edge_from : (ℕ → ℤ) → List (ℤ × ℕ) → ℤ → ℤ
edge_from sibling [] sum = sum
edge_from sibling (t ∷ ts) sum = edge_from sibling ts (sum +ℤ (t.0 *ℤ sibling t.1))

-- where the sum begins: the pointer itself, or a sibling
abbrev pub edge_base : (ℕ → ℤ) → ℤ → Option ℕ → ℤ
edge_base sibling own None = own
edge_base sibling own (Some k) = sibling k

-- the value of one side of a pointer's bounds, from the pointer's own value and those of its siblings
unfoldable pub edge_value : (ℕ → ℤ) → ℤ → Edge → ℤ
edge_value sibling own e = edge_from sibling e.terms (edge_base sibling own e.base +ℤ e.bytes)
