-- The slots of a function: its parameters, its locals, then two hidden slots for each local pointer that is written
-- without bounds of its own, for the address of its first byte and the address behind its last. Each kind stands in the order
-- of the text. Names may clash here: a slot's name is looked up as the first that is spelled so.
use Rattle.std.specs.Prelude.{ℕ, ◌+◌, Bool, false, List, [], ◌∷◌, ◌++◌, map, length, replicate, Option, None, Some, is_none, position, bytes_eq, slice_get, if◌then◌else◌}
use Rattle.std.specs.Option.{option_flatten}
use Rattle.c_tree.specs.declared.items.Function.{Function}
use Rattle.c_tree.specs.declared.items.Local.{Local}
use Rattle.c_tree.specs.declared.items.Param.{Param}
use Rattle.c_tree.specs.declared.types.Star.{Star}
use Rattle.c_tree.specs.Bytes.{Text}

-- Whether there is a star and the last has no annotation. The last star is the pointer's own.
abbrev pub ends_bare : List Star → Bool
ends_bare [] = false
ends_bare (s ∷ []) = is_none s.annotation
ends_bare (s ∷ t ∷ ss) = ends_bare (t ∷ ss)

-- Whether a local is an automatic pointer: one that is written without bounds of its own.
abbrev pub is_automatic : Local → Bool
is_automatic l = ends_bare l.type_name.stars

-- What a slot is for.
pub data Slot : Type 0 where
  parameter : Param → Slot
  local : Local → Slot
  low_bound : Local → Slot
  high_bound : Local → Slot

-- The hidden slots of these locals.
abbrev pub hidden_slots : List Local → List Slot
hidden_slots [] = []
hidden_slots (l ∷ ls) = if is_automatic l then low_bound l ∷ high_bound l ∷ hidden_slots ls else hidden_slots ls

-- The slots, in order. A slot's number is its place here.
abbrev pub slots : Function → List Slot
slots f = map parameter f.head.params ++ (map local f.locals ++ hidden_slots f.locals)

-- The names of the slots that have one: of parameters, then of locals.
abbrev pub slot_names : Function → List Text
slot_names f = map (λ (p : Param). p.name) f.head.params ++ map (λ (l : Local). l.name) f.locals

-- For each of these locals the first of its two hidden slots, if it has any, where the first hidden slot of all is `at`.
abbrev pub hidden_from : ℕ → List Local → List (Option ℕ)
hidden_from at [] = []
hidden_from at (l ∷ ls) = if is_automatic l then Some at ∷ hidden_from (at + 2) ls else None ∷ hidden_from at ls

-- For each parameter and each local the first of its two hidden slots, if it has any.
abbrev pub hidden_firsts : Function → List (Option ℕ)
hidden_firsts f = replicate (length f.head.params) None ++ hidden_from (length f.head.params + length f.locals) f.locals

-- What is looked up of a function's slots.
pub record Locals : Type 0 where
  -- by slot
  pub names : List Text
  -- by slot: the first of its two hidden slots, if it has any
  pub hidden : List (Option ℕ)

abbrev pub locals_of : Function → Locals
locals_of f = record { names = slot_names f; hidden = hidden_firsts f }

-- The slot of a name: the first that is named so.
unfoldable pub slot_named : Locals → Text → Option ℕ
slot_named t x = position (bytes_eq x) t.names

-- The first of the two hidden slots of a slot, if it has any.
unfoldable pub hidden_slot : Locals → ℕ → Option ℕ
hidden_slot t slot = option_flatten (slice_get t.hidden slot)
