-- The text that a driver prints: read from its memory byte by byte up to the first 0.
use Rattle.std.specs.Prelude.{ℕ, ◌+◌, zero, suc, Bool, cond, eqb, ltb, List, [], ◌∷◌, length, take, get_or, Option, Some, None}
use Rattle.std.specs.Option.{option_map}
use Rattle.sd_base.specs.Padded.{padded}
use Rattle.byte_memory.specs.Bytes.{bytes_at}
use Rattle.byte_memory.specs.Tested.{Memory, is_inside}
use Rattle.wrappers.specs.declared.call_out.TextBytes.{TextBytes}

-- the byte at an address
abbrev pub byte_at : Memory → ℕ → ℕ
byte_at memory at = get_or (bytes_at memory.bytes at 1) 0 0

-- a byte that was read: a 0 ends the text, any other stands before the rest of it
abbrev pub behind : ℕ → Option (List ℕ) → Option (List ℕ)
behind byte rest = cond (eqb byte 0) (Some []) (option_map (λ bytes. byte ∷ bytes) rest)

-- the bytes from an address on before the first 0, of which at most so many are read; none where a byte that is read is not inside
unfoldable pub text_from : Memory → ℕ → ℕ → Option (List ℕ)
text_from memory zero at = Some []
text_from memory (suc n) at = cond (is_inside memory at 1) (behind (byte_at memory at) (text_from memory n (at + 1))) None

-- what is told of a text: its first 32 bytes, and whether there are more
abbrev pub told : List ℕ → TextBytes
told text = record { bytes = padded 32 (take 32 text); len = length (take 32 text); more = ltb 32 (length text) }
