-- The words of the contracts on small memories, computed.
use Rattle.std.proofs.Common.{◌≡◌, [], ◌∷◌, true, false, refl}
use Rattle.byte_memory.specs.Bytes.{little_endian, low_bytes, bytes_at, overwritten, zeros}
use Rattle.byte_memory.specs.Tested.{Memory, is_inside}
use Rattle.byte_memory.specs.Writes.{last_written}

first_byte_counts_least : little_endian (0x44 ∷ 0x33 ∷ 0x22 ∷ 0x11 ∷ []) ≡ 0x11223344
unfolding little_endian
first_byte_counts_least = refl

high_bits_are_left_out : low_bytes 2 0xaabbccdd ≡ 0xdd ∷ 0xcc ∷ []
unfolding low_bytes
high_bits_are_left_out = refl

two_bytes_from_three : bytes_at (1 ∷ 2 ∷ 3 ∷ 4 ∷ 5 ∷ 6 ∷ []) 3 2 ≡ 4 ∷ 5 ∷ []
unfolding bytes_at
two_bytes_from_three = refl

two_bytes_over_the_middle : overwritten (1 ∷ 2 ∷ 3 ∷ 4 ∷ []) 1 (8 ∷ 9 ∷ []) ≡ 1 ∷ 8 ∷ 9 ∷ 4 ∷ []
unfolding overwritten
two_bytes_over_the_middle = refl

zeros_to_the_end : overwritten (1 ∷ 2 ∷ 3 ∷ 4 ∷ []) 2 (zeros 2) ≡ 1 ∷ 2 ∷ 0 ∷ 0 ∷ []
unfolding overwritten zeros
zeros_to_the_end = refl

-- two granted ranges that meet at 24
meeting : Memory
meeting = record { bytes = []; granted = record { base = 16; size = 8 } ∷ record { base = 24; size = 8 } ∷ [] }

inside_the_first : is_inside meeting 20 4 ≡ true
unfolding meeting
inside_the_first = refl

across_both : is_inside meeting 21 4 ≡ false
unfolding meeting
across_both = refl

past_the_last : is_inside meeting 4294967295 1 ≡ false
unfolding meeting
past_the_last = refl

latest_write_wins : last_written (0 ∷ 0 ∷ 0 ∷ []) (record { at = 1; bytes = 7 ∷ [] } ∷ record { at = 0; bytes = 5 ∷ 6 ∷ [] } ∷ []) 1 ≡ 7
latest_write_wins = refl
