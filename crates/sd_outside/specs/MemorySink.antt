-- What a sink in memory holds, and what a write to it does.
use Rattle.std.specs.Prelude.{ℕ, ◌-◌, Bool, ◌||◌, ◌&&◌, min, nat_lt, nat_le, if◌then◌else◌, List, ◌++◌, length, take, Option, None, Some}
use Rattle.sd_outside.specs.Counts.{counted}
use Rattle.sd_outside.specs.MemoryShelf.{is_to_fail}

-- a sink in memory: what was written, how many bytes it has room for, the numbers of the calls that are to fail, the
-- most bytes that a write takes, how many writes were called and the count of faults
pub record MemorySink : Type 0 where
  pub bytes : List ℕ
  pub room : ℕ
  pub fail : List ℕ
  pub most : ℕ
  pub calls : ℕ
  pub faults : ℕ

-- is there a byte to write and no room?
abbrev pub is_past_room : MemorySink → List ℕ → Bool
is_past_room sink piece = nat_lt 0 (length piece) && nat_le sink.room (length sink.bytes)

-- how many bytes of a piece a write takes
abbrev pub taken : MemorySink → List ℕ → ℕ
taken sink piece = min sink.most (min (length piece) (sink.room - length sink.bytes))

-- the answer of the next write: none where its number is among those that are to fail, or there is a byte to write and
-- no room
abbrev pub write_answer : MemorySink → List ℕ → Option ℕ
write_answer sink piece = if is_to_fail sink.fail (counted sink.calls 1) || is_past_room sink piece then None else Some (taken sink piece)

-- the sink after a write with that answer
abbrev pub after_write : MemorySink → List ℕ → Option ℕ → MemorySink
after_write sink piece None = record sink { calls = counted sink.calls 1; faults = counted sink.faults 1 }
after_write sink piece (Some n) = record sink { bytes = sink.bytes ++ take n piece; calls = counted sink.calls 1 }
