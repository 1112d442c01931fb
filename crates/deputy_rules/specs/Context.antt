-- Where an expression stands: the types of its text, and its function's slots.
use Rattle.std.specs.Prelude.{ℕ, List, Option, slice_get}
use Rattle.std.specs.Option.{option_flatten}
use Rattle.c_tree.specs.Slots.{Locals}
use Rattle.checked_tree.specs.declared.shapes.Shape.{Shape}
use Rattle.deputy_types.specs.Table.{Table}

pub record Context : Type 0 where
  -- the types, globals and strings of the text
  pub table : Table
  -- the names of the parameters and locals, and their hidden slots
  pub locals : Locals
  -- by slot: its shape, where its declaration is derived
  pub slots : List (Option Shape)
  -- the line of the statement
  pub line : ℕ
  -- how many checks the function has before the statement
  pub first : ℕ

-- the shape of a slot
abbrev pub slot_shape : Context → ℕ → Option Shape
slot_shape ctx slot = option_flatten (slice_get ctx.slots slot)
