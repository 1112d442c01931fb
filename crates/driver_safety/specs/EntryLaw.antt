-- The law of entry: the first frame of a function that is called with what its parameters take is good.
use Rattle.std.specs.Prelude.{◌≡◌, ℕ, List, ℤ, pos, Option, Some, length, slice_get, slice_index_or}
use Rattle.sd_base.specs.Blocks.{Block}
use Rattle.byte_memory.specs.Tested.{Memory}
use Rattle.c_tree.specs.Slots.{hidden_slot}
use Rattle.checked_tree.specs.declared.shapes.Bounds.TheVariants as bounds
use Rattle.checked_tree.specs.declared.shapes.Shape.{Shape}
use Rattle.checked_tree.specs.declared.shapes.Shape.TheVariants as shape
use Rattle.checked_tree.specs.declared.units.CheckedFn.{CheckedFn}
use Rattle.checked_tree.specs.Step.{first_locals}
use Rattle.deputy_rules.specs.Context.{Context, slot_shape}
use Rattle.driver_safety.specs.Goodness.{IsFrame}
use Rattle.driver_safety.specs.Handing.{TakeEach}
use Rattle.driver_safety.specs.TypeFacts.{HasSlots}

-- the slots of a function begin with its parameters, an automatic pointer has hidden ones, and all have a place
pub record IsEnteredIn (ctx : Context) (params : List (Option Shape)) (f : CheckedFn) : Type 0 where
  pub slots : HasSlots ctx
  pub parameters : (k : ℕ) (s : Option Shape) → slice_get params k ≡ Some s → slice_get ctx.slots k ≡ Some s
  pub automatic : (k elem : ℕ) → slot_shape ctx k ≡ Some (shape.Pointer elem bounds.Hidden) → (h : ℕ) × (hidden_slot ctx.locals k ≡ Some h)
  pub many : length ctx.slots ≡ length f.slots

abbrev pub EachFirstFrameIsGood : Type 0
EachFirstFrameIsGood = (ctx : Context) (params : List (Option Shape)) (f : CheckedFn) → IsEnteredIn ctx params f
    → (blocks : List Block) (m : Memory) (vs : List ℤ) → TakeEach ctx.table blocks (λ k. slice_index_or vs k (pos 0)) params vs
    → IsFrame ctx blocks (record { locals = first_locals f vs; memory = m })
