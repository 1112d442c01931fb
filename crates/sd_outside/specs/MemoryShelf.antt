-- What a shelf in memory holds, and what a read of it does.
use Rattle.std.specs.Prelude.{ℕ, Bool, if◌then◌else◌, ◌==◌, List, Option, None, Some, option_map}
use Rattle.std.specs.List.{list_any}
use Rattle.sd_outside.specs.Counts.{counted}
use Rattle.sd_outside.specs.Texts.{Text, left_of, read_on, moved}

-- a shelf in memory: what is left of its texts, the numbers of the calls that are to fail, the most bytes that a read
-- moves, how many reads were called, the count of bytes given and the count of faults
pub record MemoryShelf : Type 0 where
  pub texts : List Text
  pub fail : List ℕ
  pub most : ℕ
  pub calls : ℕ
  pub given : ℕ
  pub faults : ℕ

-- is this the number of a call that is to fail?
abbrev pub is_to_fail : List ℕ → ℕ → Bool
is_to_fail fail call = list_any (λ n. n == call) fail

-- the answer of the next read of a name into a buffer of that length: none where its number is among those that are to
-- fail or the name is not there
abbrev pub read_answer : MemoryShelf → List ℕ → ℕ → Option ℕ
read_answer shelf name room = if is_to_fail shelf.fail (counted shelf.calls 1) then None else option_map (moved shelf.most room) (left_of shelf.texts name)

-- the shelf after a read with that answer
abbrev pub after_read : MemoryShelf → List ℕ → Option ℕ → MemoryShelf
after_read shelf name None = record shelf { calls = counted shelf.calls 1; faults = counted shelf.faults 1 }
after_read shelf name (Some n) = record shelf { texts = read_on shelf.texts name n; calls = counted shelf.calls 1; given = counted shelf.given n }
