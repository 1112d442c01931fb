-- Memory seen from its addresses: what stands at an address after writes, and what a load gives after a store.
use Rattle.std.specs.Prelude.{ℕ, ◌+◌, ◌-◌, ◌%◌, ◌^◌, ◌<◌, ◌≤◌, ◌≡◌, ◌&&◌, Bool, nat_le, nat_lt, List, [], ◌∷◌, length, slice_index, All, ◌⊎◌, if◌then◌else◌}
use Rattle.byte_memory.specs.Bytes.{little_endian, low_bytes, bytes_at, overwritten}

-- what one call writes: some bytes, from the address `at` on
pub record Write : Type 0 where
  pub at : ℕ
  pub bytes : List ℕ

-- whether the write has the address k
abbrev pub has_address : Write → ℕ → Bool
has_address write k = nat_le write.at k && nat_lt k (write.at + length write.bytes)

-- the memory after writes, the latest of them first
abbrev pub after_writes : List ℕ → List Write → List ℕ
after_writes memory [] = memory
after_writes memory (write ∷ earlier) = overwritten (after_writes memory earlier) write.at write.bytes

-- what stands at the address k: the byte of the latest write that has it, and else what stood there at first
abbrev pub last_written : List ℕ → List Write → ℕ → ℕ
last_written memory [] k = slice_index memory k
last_written memory (write ∷ earlier) k = if has_address write k then slice_index write.bytes (k - write.at) else last_written memory earlier k

-- after any writes within the memory, each address holds the byte that was last written there
abbrev pub EachByteIsTheLastWritten : Type 0
EachByteIsTheLastWritten =
    (memory : List ℕ) (writes : List Write) → All (λ write. write.at + length write.bytes ≤ length memory) writes
    → (k : ℕ) → k < length memory → slice_index (after_writes memory writes) k ≡ last_written memory writes k

-- a load of n bytes gives the low 8 * n bits of the number that was stored there
abbrev pub ALoadGivesWhatWasStored : Type 0
ALoadGivesWhatWasStored =
    (memory : List ℕ) (at n v : ℕ) → at + n ≤ length memory
    → little_endian (bytes_at (overwritten memory at (low_bytes n v)) at n) ≡ v % 256 ^ n

-- a write leaves every load of other bytes as it was
abbrev pub AWriteLeavesOtherLoads : Type 0
AWriteLeavesOtherLoads =
    (memory : List ℕ) (write : Write) (at n : ℕ) → write.at + length write.bytes ≤ length memory → at + n ≤ length memory
    → (at + n ≤ write.at) ⊎ (write.at + length write.bytes ≤ at)
    → bytes_at (overwritten memory write.at write.bytes) at n ≡ bytes_at memory at n
