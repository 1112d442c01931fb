-- Good frames, wherever in its function a statement stands and whatever is granted beside.
use Rattle.std.proofs.Common.{ℕ, List, ℤ, Option, Some, None}
use Rattle.std.specs.List.{Contains}
use Rattle.sd_base.specs.Blocks.{Block}
use Rattle.byte_memory.specs.Tested.{Memory}
use Rattle.c_tree.specs.Slots.{Locals, hidden_slot}
use Rattle.checked_tree.specs.declared.shapes.Bounds.TheVariants as bounds
use Rattle.checked_tree.specs.declared.shapes.Shape.{Shape}
use Rattle.checked_tree.specs.declared.shapes.Shape.TheVariants as shape
use Rattle.checked_tree.specs.Conditions.{State}
use Rattle.deputy_types.specs.Table.{Table}
use Rattle.deputy_rules.specs.Context.{Context}
use Rattle.driver_safety.specs.Goodness.{IsFrame, SlotHolds, FitsHidden}
use Rattle.driver_safety.proofs.memory.Growing.{fits_more}

module _ (t : Table) (locals : Locals) (slots : List (Option Shape)) where
  abbrev place : ℕ → ℕ → Context
  place line first = record { table = t; locals = locals; slots = slots; line = line; first = first }

  abbrev seen : List ℤ → Memory → State
  seen ls m = record { locals = ls; memory = m }

  module _ (a b c d : ℕ) (blocks more : List Block) (all : (x : Block) → Contains blocks x
      → Contains more x) (ls : List ℤ) (m n : Memory) where
    hidden_moved : (k elem : ℕ) (o : Option ℕ) → FitsHidden (place a b) blocks (seen ls m) k elem o
        → FitsHidden (place c d) more (seen ls n) k elem o
    hidden_moved k elem None h = h
    hidden_moved k elem (Some i) h = fits_more blocks more t.elems t.structs elem _ _ _ _ all h

    holds_moved : (k : ℕ) (x : Shape) → SlotHolds (place a b) blocks (seen ls m) k x → SlotHolds (place c d) more (seen ls n) k x
    holds_moved k (shape.Int s) h = h
    holds_moved k (shape.Struct s) h = h
    holds_moved k shape.Address h = h
    holds_moved k (shape.Pointer elem bounds.Hidden) h = (h.0, hidden_moved k elem (hidden_slot locals k) h.1)
    holds_moved k (shape.Pointer elem bounds.Nullterm) h = (h.0, fits_more blocks more t.elems t.structs elem _ _ _ _ all h.1)
    holds_moved k (shape.Pointer elem (bounds.Within lo hi)) h = (h.0, fits_more blocks more t.elems t.structs elem _ _ _ _ all h.1)

    -- a frame reads neither the line nor the memory, and goes on fitting where more is granted
    pub frame_moved : IsFrame (place a b) blocks (seen ls m) → IsFrame (place c d) more (seen ls n)
    frame_moved h = record { values = h.values; long = h.long; holds = λ k x e. holds_moved k x (h.holds k x e) }
