-- What stands at each address after a write, and the laws of loads and stores that follow.
use Rattle.std.proofs.Common.{◌≡◌, ℕ, zero, suc, ◌+◌, ◌-◌, ◌*◌, ◌/◌, ◌%◌, ◌^◌, ◌<◌, ◌≤◌, inl, inr, cond, true, false, List, [], ◌∷◌, ◌++◌, length, take, drop, get_or, refl, sym, ap, ◌∙◌, arith, append_assoc, length-append, length-take, length-drop, get_or-take, get_or-drop}
use Rattle.std.specs.Prelude.{All}
use Rattle.std.proofs.Math.Arith.{mod-mul}
use Rattle.std.proofs.Math.Nat.{pow-suc}
use Rattle.std.proofs.lemmas.Bool.{cases_lt}
use Rattle.std.proofs.lemmas.Bool.Decides.{nat_tests}
use Rattle.std.proofs.lemmas.List.{same_lists, get_or_append_left, get_or-append_right, take_at, drop_at, length-take-le}
use Rattle.std.proofs.lemmas.List.Elements.{All-head, All-tail}
use Rattle.byte_memory.specs.Bytes.{little_endian, low_bytes, bytes_at, overwritten}
use Rattle.byte_memory.specs.Writes.{Write, has_address, after_writes, last_written, EachByteIsTheLastWritten, ALoadGivesWhatWasStored, AWriteLeavesOtherLoads}
use Rattle.byte_memory.proofs.Words.{length-overwritten}

-- the three parts of what a write leaves, by address
at_below : (memory new : List ℕ) (at k d : ℕ) → at + length new ≤ length memory → k < at → get_or (overwritten memory at new) k d ≡ get_or memory k d
unfolding overwritten
at_below memory new at k d within below =
    let size : length (take at memory) ≡ at = length-take-le at memory (omega arith) in
    get_or_append_left (take at memory ++ new) (drop (at + length new) memory) d k (omega (arith, length-append (take at memory) new))
    ∙ (get_or_append_left (take at memory) new d k (omega arith) ∙ get_or-take at memory k d below)

at_new : (memory new : List ℕ) (at k d : ℕ) → at + length new ≤ length memory → at ≤ k → k < at + length new → get_or (overwritten memory at new) k d ≡ get_or new (k - at) d
unfolding overwritten
at_new memory new at k d within from to =
    let size : length (take at memory) ≡ at = length-take-le at memory (omega arith) in
    get_or_append_left (take at memory ++ new) (drop (at + length new) memory) d k (omega (arith, length-append (take at memory) new))
    ∙ get_or-append_right (take at memory) new at k d size from

at_above : (memory new : List ℕ) (at k d : ℕ) → at + length new ≤ length memory → at + length new ≤ k → get_or (overwritten memory at new) k d ≡ get_or memory k d
unfolding overwritten
at_above memory new at k d within above =
    let size : length (take at memory ++ new) ≡ at + length new = omega (arith, length-append (take at memory) new, length-take-le at memory (omega arith)) in
    let place : (at + length new) + (k - (at + length new)) ≡ k = omega arith in
    get_or-append_right (take at memory ++ new) (drop (at + length new) memory) (at + length new) k d size above
    ∙ (get_or-drop (at + length new) memory (k - (at + length new)) d ∙ ap (λ (i : ℕ). get_or memory i d) place)

-- a load of other bytes
pub other_loads : AWriteLeavesOtherLoads
unfolding bytes_at
other_loads memory write at n within inside apart =
    let after : List ℕ = overwritten memory write.at write.bytes in
    let kept : length after ≡ length memory = length-overwritten memory write.bytes write.at within in
    let same : length (take n (drop at after)) ≡ length (take n (drop at memory)) =
    omega (arith, length-take n (drop at after), length-take n (drop at memory), length-drop at after, length-drop at memory) in
    same_lists (take n (drop at after)) (take n (drop at memory)) same (λ k d below.
    let short : k < n = omega (arith, length-take n (drop at after)) in
    let here : get_or after (at + k) d ≡ get_or memory (at + k) d =
    elim apart [ inl before ↦ at_below memory write.bytes write.at (at + k) d within (omega arith) | inr past ↦ at_above memory write.bytes write.at (at + k) d within (omega arith) ] in
    get_or-take n (drop at after) k d short ∙ (get_or-drop at after k d ∙ (here ∙ (sym (get_or-drop at memory k d) ∙ sym (get_or-take n (drop at memory) k d short)))))

-- the byte at an address after one write more
has_below : (write : Write) (k : ℕ) → k < write.at → has_address write k ≡ false
has_below write k below = grind (arith, nat_tests)

has_above : (write : Write) (k : ℕ) → write.at + length write.bytes ≤ k → has_address write k ≡ false
has_above write k above = grind (arith, nat_tests)

has_new : (write : Write) (k : ℕ) → write.at ≤ k → k < write.at + length write.bytes → has_address write k ≡ true
has_new write k from to = grind (arith, nat_tests)

one_more : (memory : List ℕ) (write : Write) (k before : ℕ) → write.at + length write.bytes ≤ length memory → get_or memory k 0 ≡ before
    → get_or (overwritten memory write.at write.bytes) k 0 ≡ cond (has_address write k) (get_or write.bytes (k - write.at) 0) before
one_more memory write k before within was =
    elim (cases_lt k write.at) [
      | inl below ↦ rw (has_below write k below) (at_below memory write.bytes write.at k 0 within below ∙ was)
      | inr from ↦
          elim (cases_lt k (write.at + length write.bytes)) [
            | inl to ↦ rw (has_new write k from to) (at_new memory write.bytes write.at k 0 within from to)
            | inr above ↦ rw (has_above write k above) (at_above memory write.bytes write.at k 0 within above ∙ was)
          ]
    ]

length-after_writes : (memory : List ℕ) (writes : List Write) → All (λ write. write.at + length write.bytes ≤ length memory) writes → length (after_writes memory writes) ≡ length memory
length-after_writes memory [] within = refl
length-after_writes memory (write ∷ earlier) within =
    let Within : Write → Type 0 = λ w. w.at + length w.bytes ≤ length memory in
    let before : length (after_writes memory earlier) ≡ length memory = length-after_writes memory earlier (All-tail Within write earlier within) in
    let fits : write.at + length write.bytes ≤ length memory = All-head Within write earlier within in
    length-overwritten (after_writes memory earlier) write.bytes write.at (omega arith) ∙ before

pub each_byte : EachByteIsTheLastWritten
each_byte memory [] within k inside = refl
each_byte memory (write ∷ earlier) within k inside =
    let Within : Write → Type 0 = λ w. w.at + length w.bytes ≤ length memory in
    let before : length (after_writes memory earlier) ≡ length memory = length-after_writes memory earlier (All-tail Within write earlier within) in
    let fits : write.at + length write.bytes ≤ length memory = All-head Within write earlier within in
    one_more (after_writes memory earlier) write k (last_written memory earlier k) (omega arith) (each_byte memory earlier (All-tail Within write earlier within) k inside)

-- a load of what was just stored
pub bytes_at-overwritten : (memory new : List ℕ) (at n : ℕ) → length new ≡ n → at + n ≤ length memory → bytes_at (overwritten memory at new) at n ≡ new
unfolding bytes_at overwritten
bytes_at-overwritten memory new at n size within =
    let front : length (take at memory) ≡ at = length-take-le at memory (omega arith) in
    rw (append_assoc (take at memory) new (drop (at + length new) memory), drop_at (take at memory) (new ++ drop (at + length new) memory) at front) (take_at new (drop (at + length new) memory) n size)

pub length-low_bytes : (n v : ℕ) → length (low_bytes n v) ≡ n
unfolding low_bytes
length-low_bytes zero v = refl
length-low_bytes (suc n) v = ap suc (length-low_bytes n (v / 256))

above_zero : (n : ℕ) → 0 < 256 ^ n
above_zero zero = omega arith
above_zero (suc n) = omega (arith, pow-suc 256 n, above_zero n)

pub little_endian-low_bytes : (n v : ℕ) → little_endian (low_bytes n v) ≡ v % 256 ^ n
unfolding little_endian low_bytes
little_endian-low_bytes zero v = omega arith
little_endian-low_bytes (suc n) v =
    let rest : little_endian (low_bytes n (v / 256)) ≡ v / 256 % 256 ^ n = little_endian-low_bytes n (v / 256) in
    let digits : v % (256 ^ n * 256) ≡ (v / 256 % 256 ^ n) * 256 + v % 256 = mod-mul v (above_zero n) (omega arith) in
    rw (pow-suc 256 n, digits, rest) (omega arith)

pub load_after_store : ALoadGivesWhatWasStored
load_after_store memory at n v within =
    rw (bytes_at-overwritten memory (low_bytes n v) at n (length-low_bytes n v) within) (little_endian-low_bytes n v)
