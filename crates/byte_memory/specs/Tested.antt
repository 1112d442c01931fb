-- What a tested memory is, and which accesses lie inside what it was granted.
use Rattle.std.specs.Prelude.{ℕ, ◌+◌, ◌<◌, ◌≤◌, ◌≡◌, ◌↔◌, ◌⊎◌, IsTrue, Bool, ◌&&◌, nat_le, List, length, All, Any}
use Rattle.std.specs.List.{list_any}
use Rattle.byte_memory.specs.declared.tested.GrantedRange.{GrantedRange}
use Rattle.byte_memory.specs.declared.tested.TheConstants.{MAX_GRANTED}

-- the bytes, and the ranges of them that were granted, the earliest first
pub record Memory : Type 0 where
  pub bytes : List ℕ
  pub granted : List GrantedRange

-- the n bytes from `at` on lie in the range; no sum wraps
abbrev pub contains : ℕ → ℕ → GrantedRange → Bool
contains at n range = nat_le range.base at && nat_le (at + n) (range.base + range.size)

-- one granted range has all n bytes from `at` on; two that meet do not count as one
abbrev pub is_inside : Memory → ℕ → ℕ → Bool
is_inside memory at n = list_any (contains at n) memory.granted

-- the sizes of an access, in bytes
abbrev pub IsAccessSize : ℕ → Type 0
IsAccessSize n = (n ≡ 1) ⊎ (n ≡ 2) ⊎ (n ≡ 4)

-- what every tested memory keeps: its size is that of the arena, each granted range lies in it, and there is room for as
-- many ranges as may be granted
pub record IsSound (bytes : List ℕ) (size : ℕ) (granted : List GrantedRange) (room : ℕ) : Type 0 where
  pub sized : length bytes ≡ size
  pub within : All (λ range. range.base + range.size ≤ size) granted
  pub few : length granted ≤ MAX_GRANTED
  pub roomy : MAX_GRANTED ≤ room

-- the address k lies in the range
abbrev pub HasAddress : GrantedRange → ℕ → Type 0
HasAddress range k = (range.base ≤ k) × (k < range.base + range.size)

-- an access of some bytes is inside exactly where one granted range has the address of every byte of it
abbrev pub InsideIsWithinOneRange : Type 0
InsideIsWithinOneRange =
    (memory : Memory) (at n : ℕ) → 0 < n
    → IsTrue (is_inside memory at n) ↔ Any (λ range. (k : ℕ) → at ≤ k → k < at + n → HasAddress range k) memory.granted
