-- What a step leaves of its memory.
-- Here: IsKept
use Rattle.std.specs.Prelude.{◌≡◌, length}
use Rattle.byte_memory.specs.Tested.{Memory}

-- as many bytes, and the same ranges granted
pub record IsKept (m n : Memory) : Type 0 where
  pub granted : n.granted ≡ m.granted
  pub bytes : length n.bytes ≡ length m.bytes
