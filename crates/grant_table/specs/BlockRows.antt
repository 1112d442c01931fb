-- The blocks of one owner by their bases, and what each call answers by them and leaves of them.
use Rattle.std.specs.Prelude.{◌≡◌, ℕ, ◌+◌, ◌*◌, ◌<◌, ◌≤◌, Bool, true, false, cond, ◌&&◌, eqb, ltb, List, [], ◌∷◌, length, get_or, ℤ, pos, negsuc, Option, Some, None, Result, Ok, Err}
use Rattle.std.specs.List.{list_any, find}
use Rattle.sd_base.specs.declared.history.BlockState.{BlockState}
use Rattle.sd_base.specs.Blocks.{round_up, count_of, is_image, is_freed}
use Rattle.grant_table.specs.declared.blocks.BlockRow.{BlockRow}
use Rattle.grant_table.specs.declared.blocks.ReleaseRefusal.{ReleaseRefusal}
use Rattle.grant_table.specs.declared.blocks.ReleaseRefusal.TheVariants.{NotBlock, Freed}

-- the address just past a block
abbrev pub row_end : BlockRow → ℕ
row_end r = r.base + r.size

-- the base of the next block where the first could begin at `first`: the end of the last block, rounded up to a multiple of 16
abbrev pub next_base_of : ℕ → List BlockRow → ℕ
next_base_of first [] = first
next_base_of first (r ∷ rows) = next_base_of (round_up (row_end r)) rows

-- the blocks lie one behind the other, from `first` on, each has a byte, and all end within the arena
abbrev pub IsArena : ℕ → List BlockRow → Type 0
IsArena first [] = Unit {0}
IsArena first (r ∷ rows) = (first ≤ r.base) × (0 < r.size) × (row_end r ≤ 1048576) × IsArena (row_end r) rows

-- the base that n elements of so many bytes get, or none: there is no element, the owner has 4,096 blocks, or the arena would end
abbrev pub base_for : List BlockRow → ℕ → ℤ → Option ℕ
base_for rows size (pos n) =
    cond (ltb 0 n && (ltb (length rows) 4096 && ltb (next_base_of 16 rows + size * n) 1048577)) (Some (next_base_of 16 rows)) None
base_for rows size (negsuc n) = None

abbrev pub block_row_of : ℕ → ℕ → ℤ → BlockState → BlockRow
block_row_of base size n state = record { base = base; size = size * count_of n; state = state }

abbrev pub row_has_base : ℕ → BlockRow → Bool
row_has_base base r = eqb r.base base

-- the first place at which a test passes, if there is one
pub record IsFirstPlace {X : Type 0} (p : X → Bool) (xs : List X) (i : ℕ) : Type 0 where
  pub within : i < length xs
  pub here : (d : X) → p (get_or xs i d) ≡ true
  pub before : (k : ℕ) (d : X) → k < i → p (get_or xs k d) ≡ false

abbrev pub FindsPlace : {X : Type 0} → (X → Bool) → List X → Option ℕ → Type 0
FindsPlace p xs None = list_any p xs ≡ false
FindsPlace p xs (Some i) = IsFirstPlace p xs i

-- the blocks, where the one of this base is used for something else now
abbrev pub with_state_of : ℕ → BlockState → List BlockRow → List BlockRow
with_state_of base state [] = []
with_state_of base state (r ∷ rows) = cond (row_has_base base r) (record r { state = state } ∷ rows) (r ∷ with_state_of base state rows)

-- a block can be given back where it was allocated and not given back
abbrev pub release_of : Option BlockRow → Result (Unit {0}) ReleaseRefusal
release_of None = Err NotBlock
release_of (Some r) = cond (is_image r.state) (Err NotBlock) (cond (is_freed r.state) (Err Freed) (Ok tt))

abbrev pub release_answer : ℕ → List BlockRow → Result (Unit {0}) ReleaseRefusal
release_answer base rows = release_of (find (row_has_base base) rows)

abbrev pub is_freed_row : Option BlockRow → Bool
is_freed_row None = false
is_freed_row (Some r) = is_freed r.state

-- the block of this base was given back
abbrev pub is_freed_at : ℕ → List BlockRow → Bool
is_freed_at base rows = is_freed_row (find (row_has_base base) rows)

-- the last block has this base
abbrev pub ends_with : ℕ → List BlockRow → Bool
ends_with base [] = false
ends_with base (r ∷ []) = row_has_base base r
ends_with base (r ∷ s ∷ rows) = ends_with base (s ∷ rows)
