-- Slots and members are numbered in 32 bits.
use Rattle.std.specs.Prelude.{ℕ, ◌<◌, ◌^◌, List, length, Option}
use Rattle.checked_tree.specs.declared.shapes.Shape.{Shape}
use Rattle.deputy_types.specs.Table.{Table, members_of}

-- There are less than 2^32 slots, and less than 2^32 members of each struct.
pub record AreFewSlots (table : Table) (slots : List (Option Shape)) : Type 0 where
  pub slots_fit : length slots < 2 ^ 32
  pub members_fit : (s : ℕ) → length (members_of table s) < 2 ^ 32
