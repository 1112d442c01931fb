-- The blocks that a history grants to an owner.
use Rattle.std.specs.Prelude.{ℕ, ◌+◌, ◌*◌, ◌/◌, Bool, true, false, cond, ◌&&◌, eqb, ltb, List, [], ◌∷◌, length, ℤ, pos, negsuc}
use Rattle.sd_base.specs.declared.history.BlockState.{BlockState}
use Rattle.sd_base.specs.declared.history.BlockState.TheVariants.{Image, Live, Freed}
use Rattle.sd_base.specs.declared.history.Layout.{Layout}
use Rattle.sd_base.specs.declared.history.Update.{Update}
use Rattle.sd_base.specs.declared.history.Update.TheVariants.{Grant, Free}
use Rattle.sd_base.specs.History.{Entry, is_owner}

-- a block: its first byte's address in the owner's arena, what it is an array of, how many, and what it is used for
pub record Block : Type 0 where
  pub base : ℕ
  pub layout : Layout
  pub count : ℕ
  pub state : BlockState

-- the bytes of a block
abbrev pub block_size : Block → ℕ
block_size b = b.layout.size * b.count

-- the address just past a block
abbrev pub block_end : Block → ℕ
block_end b = b.base + block_size b

-- the next multiple of 16
abbrev pub round_up : ℕ → ℕ
round_up n = (n + 15) / 16 * 16

-- the base of the next block: the end of the newest block, at least 16, rounded up to a multiple of 16
abbrev pub next_base : List Block → ℕ
next_base [] = 16
next_base (b ∷ bs) = round_up (block_end b)

-- the elements of a block for which n were asked
abbrev pub count_of : ℤ → ℕ
count_of (pos n) = n
count_of (negsuc n) = 0

-- what a new block is used for
abbrev pub first_state : Bool → BlockState
first_state true = Image
first_state false = Live

abbrev pub has_base : ℕ → Block → Bool
has_base base b = eqb b.base base

-- the blocks, where the one of this base is used for something else now
abbrev pub with_state : ℕ → BlockState → List Block → List Block
with_state base state [] = []
with_state base state (b ∷ bs) = cond (has_base base b) (record b { state = state } ∷ bs) (b ∷ with_state base state bs)

-- an owner's blocks after one more update of it
abbrev pub blocks_after : Update → List Block → List Block
blocks_after (Grant layout n image) bs =
    record { base = next_base bs; layout = layout; count = count_of n; state = first_state image } ∷ bs
blocks_after (Free base) bs = with_state base Freed bs
blocks_after _ bs = bs

-- the blocks that these entries grant to an owner, the newest first. Nothing takes one away: what was given back stays granted
abbrev pub granted : List Entry → ℕ → List Block
granted [] owner = []
granted (e ∷ h) owner = cond (is_owner owner e) (blocks_after e.update (granted h owner)) (granted h owner)

abbrev pub is_image : BlockState → Bool
is_image Image = true
is_image Live = false
is_image Freed = false

abbrev pub is_freed : BlockState → Bool
is_freed Image = false
is_freed Live = false
is_freed Freed = true

-- one more block of n elements fits: there is an element, the owner has fewer than 4,096 blocks, and the block ends within the arena
abbrev pub has_room : List Block → Layout → ℤ → Bool
has_room bs layout (pos n) = ltb 0 n && (ltb (length bs) 4096 && ltb (next_base bs + layout.size * n) 1048577)
has_room bs layout (negsuc n) = false
