-- Members and functions are numbered in 32 bits.
use Rattle.std.specs.Prelude.{ℕ, ◌<◌, ◌^◌, List, length}
use Rattle.c_tree.specs.declared.items.Item.{Item}
use Rattle.deputy_types.specs.Table.{Table, members_of}
use Rattle.deputy_types.specs.UnitLayout.{functions_of}

-- Each struct has less than 2^32 members, and there are less than 2^32 functions with bodies.
pub record AreFewItems (table : Table) (items : List Item) : Type 0 where
  pub members_fit : (s : ℕ) → length (members_of table s) < 2 ^ 32
  pub functions_fit : length (functions_of items) < 2 ^ 32
