-- What a read gives, and what it leaves.
use Rattle.std.specs.Prelude.{◌≡◌, ℕ, ◌<◌, ◌≤◌, List, [], length, take, Option, is_some}

-- n bytes from the front of what was left stand at the front of the buffer; none only at the end, or where the buffer has no room
pub record Gives (left buffer : List ℕ) (n : ℕ) : Type 0 where
  pub fits : n ≤ length left
  pub bytes : take n buffer ≡ take n left
  pub «end» : n ≡ 0 → 0 < length buffer → left ≡ []

-- reading a name leaves what is left of every other name as it was, and what is told is told
pub record LeavesOthers (name : List ℕ) (before after : List ℕ → Option (List ℕ)) : Type 0 where
  pub told : is_some (after name) ≡ is_some (before name)
  pub others : (other : List ℕ) → (other ≡ name → ⊥) → after other ≡ before other
