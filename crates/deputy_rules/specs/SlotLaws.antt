-- Slots by number: the slots of a function, as they are listed, are those that are looked up by name and by number.
use Rattle.std.specs.Prelude.{◌≡◌, ℕ, ◌+◌, true, false, List, length, Option, Some, None, slice_get}
use Rattle.c_tree.specs.declared.items.Function.{Function}
use Rattle.c_tree.specs.declared.items.Local.{Local}
use Rattle.c_tree.specs.declared.items.Param.{Param}
use Rattle.c_tree.specs.Slots.{Slot, parameter, local, low_bound, high_bound, is_automatic, hidden_slots, slots, locals_of, hidden_slot}

-- the slot k is this one, with this name, if it has one
pub record IsSlot (f : Function) (k : ℕ) (s : Slot) (name : Option (List ℕ)) : Type 0 where
  pub listed : slice_get (slots f) k ≡ Some s
  pub named : slice_get (locals_of f).names k ≡ name

-- the hidden slots of an automatic local: two, one behind the other
pub record HasHidden (f : Function) (k : ℕ) (l : Local) : Type 0 where
  pub first : ℕ
  pub looked_up : hidden_slot (locals_of f) k ≡ Some first
  pub low : IsSlot f first (low_bound l) None
  pub high : IsSlot f (first + 1) (high_bound l) None

-- parameters have the first slots, locals those behind; hidden slots stand behind all
pub record AreSlots (f : Function) : Type 0 where
  pub parameters : (k : ℕ) (p : Param) → slice_get f.head.params k ≡ Some p
      → IsSlot f k (parameter p) (Some p.name) × (hidden_slot (locals_of f) k ≡ None)
  pub locals : (j : ℕ) (l : Local) → slice_get f.locals j ≡ Some l → IsSlot f (length f.head.params + j) (local l) (Some l.name)
  pub plain : (j : ℕ) (l : Local) → slice_get f.locals j ≡ Some l → is_automatic l ≡ false
      → hidden_slot (locals_of f) (length f.head.params + j) ≡ None
  pub automatic : (j : ℕ) (l : Local) → slice_get f.locals j ≡ Some l → is_automatic l ≡ true → HasHidden f (length f.head.params + j) l
  pub all : length (slots f) ≡ length f.head.params + (length f.locals + length (hidden_slots f.locals))
