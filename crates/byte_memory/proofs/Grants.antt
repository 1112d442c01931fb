-- An access that is inside lies in the memory, where each granted range does.
use Rattle.std.proofs.Common.{◌≡◌, ℕ, ◌+◌, ◌-◌, ◌<◌, ◌≤◌, true, List, length, subst, arith}
use Rattle.std.specs.Prelude.{IsTrue, nat_le}
use Rattle.std.specs.List.{list_any, Any}
use Rattle.std.proofs.lemmas.Bool.{and_parts}
use Rattle.std.proofs.lemmas.Bool.Decides.{nat_tests}
use Rattle.std.proofs.lemmas.List.Folds.{Any-from_list_any, list_any-from_Any}
use Rattle.byte_memory.specs.declared.tested.GrantedRange.{GrantedRange}
use Rattle.byte_memory.specs.Tested.{contains, IsSound, HasAddress, InsideIsWithinOneRange}

-- the range that an access lies in begins before it and ends after it
pub contains_bounds : (at n : ℕ) (range : GrantedRange) → contains at n range ≡ true → (range.base ≤ at) × (at + n ≤ range.base + range.size)
contains_bounds at n range is =
    let parts = and_parts (nat_le range.base at) (nat_le (at + n) (range.base + range.size)) is in grind (arith, nat_tests)

pub inside_within : (bytes : List ℕ) (size : ℕ) (granted : List GrantedRange) (room at n : ℕ) → IsSound bytes size granted room → IsTrue (list_any (contains at n) granted) → at + n ≤ length bytes
inside_within bytes size granted room at n sound inside =
    let found : Any (λ range. contains at n range ≡ true) granted = Any-from_list_any (contains at n) granted inside in
    let range : GrantedRange = found.1 in
    let within : range.base + range.size ≤ size = subst (λ (r : GrantedRange). r.base + r.size ≤ size) found.3 (sound.within found.0 range found.2) in
    let bounds : (range.base ≤ at) × (at + n ≤ range.base + range.size) = contains_bounds at n range found.4 in
    omega arith

-- a range has every byte of an access exactly where the access lies in it
contains_every : (at n : ℕ) (range : GrantedRange) → contains at n range ≡ true → (k : ℕ) → at ≤ k → k < at + n → HasAddress range k
contains_every at n range is k from to =
    let bounds : (range.base ≤ at) × (at + n ≤ range.base + range.size) = contains_bounds at n range is in (omega arith, omega arith)

every_contains : (at n : ℕ) (range : GrantedRange) → 0 < n → ((k : ℕ) → at ≤ k → k < at + n → HasAddress range k) → contains at n range ≡ true
every_contains at n range some every =
    let first : HasAddress range at = every at (omega arith) (omega arith) in
    let last : HasAddress range (at + (n - 1)) = every (at + (n - 1)) (omega arith) (omega arith) in
    grind (arith, nat_tests)

pub within_one_range : InsideIsWithinOneRange
within_one_range memory at n some = (
  (λ inside.
      let found : Any (λ range. contains at n range ≡ true) memory.granted = Any-from_list_any (contains at n) memory.granted inside in
      (found.0, found.1, found.2, found.3, contains_every at n found.1 found.4)),
  (λ found. list_any-from_Any (contains at n) memory.granted (found.0, found.1, found.2, found.3, every_contains at n found.1 some found.4)),
)
