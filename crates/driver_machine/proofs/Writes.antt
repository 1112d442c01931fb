-- Writing no bytes leaves memory as it was.
use Rattle.std.proofs.Common.{◌≡◌, ℕ, ◌+◌, List, [], ◌++◌, take, drop, sym, ap, ◌∙◌, arith}
use Rattle.std.proofs.lemmas.List.{append-nil, take-append-drop}
use Rattle.byte_memory.specs.Bytes.{low_bytes, overwritten}
use Rattle.byte_memory.specs.Tested.{Memory}

overwritten-nothing : (bytes : List ℕ) (at : ℕ) → overwritten bytes at [] ≡ bytes
unfolding overwritten
overwritten-nothing bytes at =
    let same : at + 0 ≡ at = omega arith in
    ap (λ (n : ℕ). take at bytes ++ [] ++ drop n bytes) same ∙ (ap (λ (l : List ℕ). l ++ drop at bytes) (append-nil (take at bytes)) ∙ take-append-drop at bytes)

pub nothing_written : (m : Memory) (at size bits : ℕ) → size ≡ 0 → m ≡ record m { bytes = overwritten m.bytes at (low_bytes size bits) }
unfolding low_bytes
nothing_written m at size bits none =
    ap (λ (l : List ℕ). record m { bytes = l }) (sym (overwritten-nothing m.bytes at))
    ∙ ap (λ (n : ℕ). record m { bytes = overwritten m.bytes at (low_bytes n bits) }) (sym none)
