-- A function whose declarations stand: it has at most 128 slots, and each parameter and local is the first of its name and of a type that
-- the rules derive.
use Rattle.std.specs.Prelude.{◌≡◌, false, None}
use Rattle.c_tree.specs.declared.items.Function.{Function}
use Rattle.c_tree.specs.Slots.{locals_of}
use Rattle.deputy_rules.specs.Heads.{is_over, slot_shapes, wrong_declaration}
use Rattle.deputy_types.specs.Table.{Table}

pub record Stands (t : Table) (f : Function) : Type 0 where
  pub few : is_over f ≡ false
  pub stands : wrong_declaration (locals_of f) (slot_shapes t f) f ≡ None
