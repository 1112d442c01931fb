-- A slab whose keys are listed, each once.
use Rattle.std.specs.Prelude.{◌≡◌, ℕ, ◌≤◌, cond, eqb, List, length, is_some, count_by}
use Rattle.slab.specs.Slab.{Slab, get, slab_len}

-- each key with a value is listed once, no other is listed, and the slab keeps room for 320 values
pub record HoldsEach {T : Type 0} (slots : Slab T) (keys : List ℕ) : Type 0 where
  pub once : (key : ℕ) → count_by (λ k. eqb k key) keys ≡ cond (is_some (get slots key)) 1 0
  pub all : slab_len slots ≡ length keys
  pub room : 320 ≤ slots.capacity
