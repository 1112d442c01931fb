-- What a step leaves alone: each byte that was not granted. So it is of every unit, in every state; and what lies outside the blocks of a
-- driver, which is 0 behind a load, stays 0.
use Rattle.std.specs.Prelude.{◌≡◌, IsTrue, ℕ, ◌<◌, false, length, Ok, slice_index_or}
use Rattle.byte_memory.specs.Tested.{Memory, is_inside}
use Rattle.checked_tree.specs.declared.units.CheckedUnit.{CheckedUnit}
use Rattle.checked_tree.specs.Step.{Activity, Next, Went, Wants, Ended, step}

-- what was granted is there
abbrev pub IsThere : Memory → Type 0
IsThere m = (k : ℕ) → IsTrue (is_inside m k 1) → k < length m.bytes

-- the same ranges are granted, and each byte in none of them is as it was
pub record StaysOutside (m after : Memory) : Type 0 where
  pub granted : after.granted ≡ m.granted
  pub long : length after.bytes ≡ length m.bytes
  pub same : (k : ℕ) → is_inside m k 1 ≡ false → slice_index_or after.bytes k 0 ≡ slice_index_or m.bytes k 0

-- the memory behind a step
abbrev pub memory_behind : Memory → Next → Memory
memory_behind m (Went frames after) = after
memory_behind m (Wants frames call) = m
memory_behind m (Ended result) = m

abbrev pub EachStepStaysInside : Type 0
EachStepStaysInside = (c : CheckedUnit) (frames : Activity) (m : Memory) (n : Next) → IsThere m → step c frames m ≡ Ok n
    → StaysOutside m (memory_behind m n)
