-- The loads and stores byte by byte: what the bytes from a place on are, and what one write after another leaves.
use Rattle.std.proofs.Common.{◌≡◌, ℕ, suc, ◌+◌, ◌*◌, ◌/◌, ◌%◌, ◌-◌, ◌≤◌, ◌<◌, List, [], ◌∷◌, ◌++◌, length, take, drop, get_or, set, refl, sym, ◌∙◌, arith, append_assoc, length-append, length-take, length-drop}
use Rattle.std.proofs.Math.Seq.{drop-cons}
use Rattle.std.proofs.lemmas.List.{append-nil, drop-drop, drop_all, length-replicate, take_at}
use Rattle.std.proofs.lemmas.List.Edits.{sets-eq}
use borrow.Rule.Slice.PartMut.{post_of}
use Rattle.byte_memory.specs.Bytes.{little_endian, low_bytes, bytes_at, overwritten, zeros}

-- the bytes from `at` on: none, and the first of them before the others
bytes_at-zero : (bytes : List ℕ) (at : ℕ) → bytes_at bytes at 0 ≡ []
unfolding bytes_at
bytes_at-zero bytes at = refl

bytes_at-suc : (bytes : List ℕ) (at n : ℕ) → at < length bytes → bytes_at bytes at (suc n) ≡ get_or bytes at 0 ∷ bytes_at bytes (suc at) n
unfolding bytes_at
bytes_at-suc bytes at n inside = rw (drop-cons bytes at 0 inside)

-- what two and four bytes stand for
pub load_1 : (bytes : List ℕ) (at : ℕ) → at + 1 ≤ length bytes → little_endian (bytes_at bytes at 1) ≡ get_or bytes at 0
unfolding little_endian
load_1 bytes at within = rw (bytes_at-suc bytes at 0 (omega arith), bytes_at-zero) (omega arith)

pub load_2 : (bytes : List ℕ) (at : ℕ) → at + 2 ≤ length bytes → little_endian (bytes_at bytes at 2) ≡ get_or bytes at 0 + get_or bytes (at + 1) 0 * 256
unfolding little_endian
load_2 bytes at within =
    let next : at + 1 ≡ suc at = omega arith in
    rw (bytes_at-suc bytes at 1 (omega arith), bytes_at-suc bytes (suc at) 0 (omega arith), bytes_at-zero, next) (omega arith)

pub load_4 : (bytes : List ℕ) (at : ℕ) → at + 4 ≤ length bytes
    → little_endian (bytes_at bytes at 4) ≡ get_or bytes at 0 + get_or bytes (at + 1) 0 * 256 + get_or bytes (at + 2) 0 * 65536 + get_or bytes (at + 3) 0 * 16777216
unfolding little_endian
load_4 bytes at within =
    let next : at + 1 ≡ suc at = omega arith in let next2 : at + 2 ≡ suc (suc at) = omega arith in let next3 : at + 3 ≡ suc (suc (suc at)) = omega arith in
    rw (bytes_at-suc bytes at 3 (omega arith), bytes_at-suc bytes (suc at) 2 (omega arith), bytes_at-suc bytes (suc (suc at)) 1 (omega arith), bytes_at-suc bytes (suc (suc (suc at))) 0 (omega arith), bytes_at-zero, next, next2, next3) (omega arith)

-- the low bytes of a number, as the machine makes them
low_bytes_2 : (v : ℕ) → low_bytes 2 v ≡ v % 256 ∷ v / 256 % 256 ∷ []
unfolding low_bytes
low_bytes_2 v = refl

low_bytes_4 : (v : ℕ) → low_bytes 4 v ≡ v % 256 ∷ v / 256 % 256 ∷ v / 65536 % 256 ∷ v / 16777216 % 256 ∷ []
unfolding low_bytes
low_bytes_4 v =
    let third : v / 256 / 256 ≡ v / 65536 = omega arith in let fourth : v / 65536 / 256 ≡ v / 16777216 = omega arith in
    rw (third, fourth)

-- one write after another, as one overwriting
overwritten_2 : (bytes : List ℕ) (at a b : ℕ) → at + 2 ≤ length bytes → overwritten bytes at (a ∷ b ∷ []) ≡ set (set bytes at a) (at + 1) b
unfolding overwritten
overwritten_2 bytes at a b within =
    let next : at + 1 ≡ suc at = omega arith in rw next (sym (sets-eq (a ∷ b ∷ []) bytes at within))

overwritten_4 : (bytes : List ℕ) (at a b c d : ℕ) → at + 4 ≤ length bytes
    → overwritten bytes at (a ∷ b ∷ c ∷ d ∷ []) ≡ set (set (set (set bytes at a) (at + 1) b) (at + 2) c) (at + 3) d
unfolding overwritten
overwritten_4 bytes at a b c d within =
    let next : at + 1 ≡ suc at = omega arith in let next2 : at + 2 ≡ suc (suc at) = omega arith in let next3 : at + 3 ≡ suc (suc (suc at)) = omega arith in
    rw (next, next2, next3) (sym (sets-eq (a ∷ b ∷ c ∷ d ∷ []) bytes at within))

pub store_1 : (bytes : List ℕ) (at v : ℕ) → at + 1 ≤ length bytes → overwritten bytes at (low_bytes 1 v) ≡ set bytes at (v % 256)
unfolding overwritten low_bytes
store_1 bytes at v within = sym (sets-eq (v % 256 ∷ []) bytes at within)

pub store_2 : (bytes : List ℕ) (at v : ℕ) → at + 2 ≤ length bytes → overwritten bytes at (low_bytes 2 v) ≡ set (set bytes at (v % 256)) (at + 1) (v / 256 % 256)
store_2 bytes at v within = rw (low_bytes_2 v) (overwritten_2 bytes at _ _ within)

pub store_4 : (bytes : List ℕ) (at v : ℕ) → at + 4 ≤ length bytes
    → overwritten bytes at (low_bytes 4 v) ≡ set (set (set (set bytes at (v % 256)) (at + 1) (v / 256 % 256)) (at + 2) (v / 65536 % 256)) (at + 3) (v / 16777216 % 256)
store_4 bytes at v within = rw (low_bytes_4 v) (overwritten_4 bytes at _ _ _ _ within)

pub length-bytes_at : (bytes : List ℕ) (at n : ℕ) → at + n ≤ length bytes → length (bytes_at bytes at n) ≡ n
unfolding bytes_at
length-bytes_at bytes at n within = omega (arith, length-take n (drop at bytes), length-drop at bytes)

pub length-overwritten : (bytes new : List ℕ) (at : ℕ) → at + length new ≤ length bytes → length (overwritten bytes at new) ≡ length bytes
unfolding overwritten
length-overwritten bytes new at within =
    simp (length-append, length-take, length-drop) (omega arith)

-- a write to the part from `at` on, as the compiler sees it: what was before it, the part as it is now, and what was after it
part_written : (bytes new : List ℕ) (at n : ℕ) → length new ≡ n → take at bytes ++ (new ++ post_of at (at + n - at) bytes) ≡ overwritten bytes at new
unfolding overwritten
part_written bytes new at n size =
    let count : at + n - at ≡ n = omega arith in
    rw (count, drop-drop n at bytes, size) (sym (append_assoc (take at bytes) new (drop (at + n) bytes)))

-- the same in a vector, which keeps its length
pub part_kept : (bytes new : List ℕ) (at n len : ℕ) → length new ≡ n → at + n ≤ length bytes → length bytes ≡ len
    → take len ((take at bytes ++ (new ++ post_of at (at + n - at) bytes)) ++ drop (length (take at bytes ++ (new ++ post_of at (at + n - at) bytes))) bytes) ≡ overwritten bytes at new
part_kept bytes new at n len size within kept =
    let written = part_written bytes new at n size in
    rw written (take_at (overwritten bytes at new) _ len (length-overwritten bytes new at (omega arith) ∙ kept))

pub length-zeros : (n : ℕ) → length (zeros n) ≡ n
unfolding zeros
length-zeros n = length-replicate n 0

-- zeros over all bytes leave zeros
pub overwritten-zeros : (bytes : List ℕ) (n : ℕ) → length bytes ≡ n → overwritten bytes 0 (zeros n) ≡ zeros n
unfolding overwritten
overwritten-zeros bytes n size =
    let past : length bytes ≤ 0 + length (zeros n) = omega (arith, length-zeros n) in
    rw (drop_all (0 + length (zeros n)) bytes past) (append-nil (zeros n))

-- what `clear` leaves
pub ruleset cleared = overwritten-zeros
