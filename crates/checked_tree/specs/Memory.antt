-- The memory of a driver: its bytes and the ranges of them that were granted to it. An access that no one range contains has no meaning.
use Rattle.std.specs.Prelude.{ℕ, ◌==◌, Bool, List, ℤ, pos, Ok, Err, if◌then◌else◌}
use Rattle.std.specs.List.{list_all}
use Rattle.byte_memory.specs.Bytes.{little_endian, low_bytes, bytes_at, overwritten, zeros}
use Rattle.byte_memory.specs.Tested.{Memory, is_inside}
use Rattle.checked_tree.specs.declared.stops.Stop.TheVariants.{Wild}
use Rattle.checked_tree.specs.declared.shapes.Scalar.{Scalar}
use Rattle.checked_tree.specs.Outcome.{Outcome, Got, ◌>>=◌}
use Rattle.checked_tree.specs.Numbers.{word_of, converted, scalar_size, low_bits}

-- the address of n bytes that are inside
unfoldable pub reached : Memory → ℤ → ℕ → Outcome ℕ
reached m at n = word_of at >>= λ a. if is_inside m a n then Ok a else Err Wild

-- the n bytes from an address on, where they are inside
unfoldable pub read : Memory → ℤ → ℕ → Outcome (List ℕ)
read m at n = reached m at n >>= λ a. Ok (bytes_at m.bytes a n)

-- the memory with these bytes from an address on, where n bytes are inside
unfoldable pub written : Memory → ℤ → ℕ → List ℕ → Outcome Memory
written m at n new = reached m at n >>= λ a. Ok (record m { bytes = overwritten m.bytes a new })

-- the value of a type from its bytes
abbrev pub value_from : Scalar → List ℕ → ℤ
value_from scalar bytes = converted scalar (pos (little_endian bytes))

-- the value of a place of this type
unfoldable pub load : Memory → Scalar → ℤ → Got
load m scalar at = read m at (scalar_size scalar) >>= λ bytes. Ok (value_from scalar bytes)

-- the memory with a value in a place of this type: its low bytes
unfoldable pub store : Memory → Scalar → ℤ → ℤ → Outcome Memory
store m scalar at v = written m at (scalar_size scalar) (low_bytes (scalar_size scalar) (low_bits 32 v))

-- the memory with n zero bytes from an address on
unfoldable pub cleared : Memory → ℤ → ℕ → Outcome Memory
cleared m at n = written m at n (zeros n)

-- whether n bytes are all 0
unfoldable pub is_clear : Memory → ℤ → ℕ → Outcome Bool
is_clear m at n = read m at n >>= λ bytes. Ok (list_all (λ b. b == 0) bytes)
