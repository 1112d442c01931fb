-- What every kernel call keeps to, whatever its row says: the update that it makes is one that the history accepts, the clock stays, and a block is
-- granted exactly where a pointer to one is answered.
-- Here: ranges_of, answered_ranges, IsAccepted, IsInStep
use Rattle.std.specs.Prelude.{◌≡◌, ℕ, ◌-◌, ◌<◌, ◌≤◌, true, cond, ltb, List, [], ◌∷◌, ◌++◌, length, map, reverse, Option, Some, None}
use Rattle.sd_base.specs.declared.actors.Fat.{Fat}
use Rattle.sd_base.specs.declared.history.Update.{Update}
use Rattle.sd_base.specs.History.{History, clock_of}
use Rattle.sd_base.specs.Blocks.{Block, block_size, granted}
use Rattle.sd_base.specs.Allowed.{refusal, is_proper}
use Rattle.byte_memory.specs.declared.tested.GrantedRange.{GrantedRange}
use Rattle.wrappers.specs.declared.call_out.CallOut.{CallOut}
use Rattle.wrappers.specs.declared.call_out.CallOut.TheVariants.{Pointer}
use Rattle.wrappers.specs.Served.{Served, with_update}

-- a block as a range of its owner's memory
abbrev pub range_of : Block → GrantedRange
range_of b = record { base = b.base; size = block_size b }

-- the ranges that a history grants to an owner, the earliest first
abbrev pub ranges_of : History → ℕ → List GrantedRange
ranges_of h owner = reverse (map range_of (granted h owner))

-- the range that a pointer spans; null spans none
abbrev pub spanned : Fat → List GrantedRange
spanned p = cond (ltb p.lo p.hi) (record { base = p.lo; size = p.hi - p.lo } ∷ []) []

-- the range that is granted with an answer, if one is
abbrev pub answered_ranges : CallOut → List GrantedRange
answered_ranges (Pointer p) = spanned p
answered_ranges _ = []

-- the owner may ever ask for the update, and the history allows it
pub record IsAccepted (share : ℕ) (h : History) (owner : ℕ) (u : Update) : Type 0 where
  pub proper : is_proper owner u ≡ true
  pub allowed : refusal share h owner u ≡ None

abbrev pub AcceptsUpdate : ℕ → History → ℕ → Option Update → Type 0
AcceptsUpdate share h owner None = Unit {0}
AcceptsUpdate share h owner (Some u) = IsAccepted share h owner u

-- where a pointer to some bytes is answered, the owner had fewer than 4,096 blocks, and they end within the arena
abbrev pub FitsArena : List Block → CallOut → Type 0
FitsArena bs (Pointer p) = p.lo < p.hi → (length bs < 4096) × (p.hi ≤ 1048576)
FitsArena bs _ = Unit {0}

-- what a call comes to for an owner is in step with a history
pub record IsInStep (share : ℕ) (h : History) (owner : ℕ) (s : Served) : Type 0 where
  pub accepted : AcceptsUpdate share h owner s.update
  pub clock : clock_of (with_update owner s.update h) ≡ clock_of h
  pub ranges : ranges_of (with_update owner s.update h) owner ≡ ranges_of h owner ++ answered_ranges s.out
  pub fits : FitsArena (granted h owner) s.out
