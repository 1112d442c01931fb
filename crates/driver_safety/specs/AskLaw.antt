-- The law of what the kernel is asked: each call of a good activity is lawful. A handler takes a number, so the call that the kernel makes
-- of it may begin; and a text may be read up to its end.
use Rattle.std.specs.Prelude.{◌≡◌, ◌≢◌, IsTrue, ℕ, ◌+◌, ◌<◌, List, [], ◌∷◌, ℤ, pos, Ok, slice_index_or}
use Rattle.byte_memory.specs.Tested.{Memory, is_inside}
use Rattle.sd_base.specs.Blocks.{Block}
use Rattle.c_tree.specs.declared.items.Unit.{Unit as TextUnit}
use Rattle.checked_tree.specs.declared.kernel.KernelCall.{KernelCall}
use Rattle.checked_tree.specs.declared.units.CheckedUnit.{CheckedUnit}
use Rattle.checked_tree.specs.Step.{Activity, Wants, step}
use Rattle.deputy_types.specs.Fitting.{IsInText}
use Rattle.deputy_types.specs.Table.{Table}
use Rattle.driver_safety.specs.Activities.{IsActivity}
use Rattle.driver_safety.specs.Asking.{IsHandlerAt, IsLawfulCall}
use Rattle.driver_safety.specs.Goodness.{IsMemory}
use Rattle.driver_safety.specs.RunLaw.{AreNumbersFor}
use Rattle.driver_safety.specs.StepLaw.{signatures_of, terms_of, IsAccepted}

-- a call that a step asks for
abbrev pub EachCallIsLawful : Type 0
EachCallIsLawful =
    (u : TextUnit) (t : Table) (c : CheckedUnit) → IsAccepted u t c → (blocks : List Block) (frames waiting : Activity) (m : Memory)
    (call : KernelCall)
    → IsActivity c (terms_of u t) blocks frames → IsMemory t blocks m → step c frames m ≡ Ok (Wants waiting call)
    → IsLawfulCall t blocks (signatures_of u t) call

-- a handler may be called from outside with one number
abbrev pub EachHandlerTakesANumber : Type 0
EachHandlerTakesANumber =
    (u : TextUnit) (t : Table) (c : CheckedUnit) → IsAccepted u t c → (k : ℕ) → IsHandlerAt (signatures_of u t) k → (v : ℤ)
    → AreNumbersFor u t c k (v ∷ [])

-- a text may be read from any of its bytes on: each byte up to the first 0 is inside
abbrev pub EachTextIsReadable : Type 0
EachTextIsReadable =
    (t : Table) (blocks : List Block) (m : Memory) → IsMemory t blocks m → (a : ℕ) → IsInText blocks (pos a) → (n : ℕ)
    → ((j : ℕ) → j < n → slice_index_or m.bytes (a + j) 0 ≢ 0) → IsTrue (is_inside m (a + n) 1)
