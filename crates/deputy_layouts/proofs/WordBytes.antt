-- The lowest bytes of a number, one after another.
use Rattle.std.proofs.Common.{◌≡◌, ℕ, suc, ◌%◌, ◌/◌, List, [], ◌∷◌, ◌++◌, sym, ap, ◌∙◌}
use Rattle.std.proofs.lemmas.List.{append_assoc}
use Rattle.byte_memory.specs.Bytes.{low_bytes}

pub next_byte : (bytes : List ℕ) (n m v : ℕ) → n ≡ suc m → (bytes ++ (v % 256) ∷ []) ++ low_bytes m (v / 256) ≡ bytes ++ low_bytes n v
unfolding low_bytes
next_byte bytes n m v e = append_assoc bytes ((v % 256) ∷ []) (low_bytes m (v / 256)) ∙ ap (λ k. bytes ++ low_bytes k v) (sym e)
