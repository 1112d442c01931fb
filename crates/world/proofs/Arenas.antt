-- What a lawful history grants to a driver lies in the driver's arena.
-- Here: granted-within, granted-there
use Rattle.std.proofs.Common.{◌≡◌, ℕ, ◌+◌, ◌*◌, ◌<◌, ◌≤◌, Bool, true, false, cond, ◌||◌, List, [], ◌∷◌, map, reverse, length, ℤ, pos, negsuc, Some, None, refl, sym, ap, ◌∙◌, subst, arith}
use Rattle.std.specs.List.{list_any}
use Rattle.std.proofs.lemmas.Bool.Decides.{nat_tests}
use Rattle.sd_base.specs.declared.history.BlockState.{BlockState}
use Rattle.sd_base.specs.declared.history.BlockState.TheVariants.{Freed}
use Rattle.sd_base.specs.declared.history.Layout.{Layout}
use Rattle.sd_base.specs.declared.history.Refusal.TheVariants.{NoRoom}
use Rattle.sd_base.specs.declared.history.Update.{Update}
use Rattle.sd_base.specs.declared.history.Update.TheVariants.{Grant, Free}
use Rattle.sd_base.specs.History.{History, is_owner, live_of}
use Rattle.sd_base.specs.Blocks.{Block, block_end, next_base, count_of, has_base, with_state, blocks_after, granted, has_room}
use Rattle.sd_base.specs.Allowed.{refusal, IsLawful}
use Rattle.sd_base.proofs.Removal.{list_any-reverse}
use Rattle.byte_memory.specs.Tested.{contains}
use Rattle.byte_memory.proofs.Grants.{contains_bounds}
use Rattle.grant_table.proofs.GrantPartKept.{granted-live_of}
use Rattle.driver_safety.specs.OutsideLaw.{IsThere}
use Rattle.world_core.specs.WorldState.{range_of}

-- each of these blocks ends in the arena
abbrev pub AreWithin : List Block → Type 0
AreWithin [] = Unit {0}
AreWithin (b ∷ bs) = (block_end b ≤ 1048576) × AreWithin bs

within-with_state : (base : ℕ) (state : BlockState) (bs : List Block) → AreWithin bs → AreWithin (with_state base state bs)
within-with_state base state [] all = tt
within-with_state base state (b ∷ bs) all =
    elim (has_base base b) as (λ t. AreWithin (cond t (record b { state = state } ∷ bs) (b ∷ with_state base state bs)))
    [ true ↦ all | false ↦ (all.0, within-with_state base state bs all.1) ]

room-within : (bs : List Block) (layout : Layout) (n : ℤ) → has_room bs layout n ≡ true → next_base bs + layout.size * count_of n ≤ 1048576
room-within bs layout (pos n) room = grind (arith, nat_tests)
room-within bs layout (negsuc n) room = cc

has-room : (bs : List Block) (layout : Layout) (n : ℤ) → cond (has_room bs layout n) None (Some NoRoom) ≡ None → has_room bs layout n ≡ true
has-room bs layout n h = grind arith

-- an update that is allowed leaves them so
within-after : (share : ℕ) (h : History) (owner : ℕ) (u : Update) → refusal share h owner u ≡ None → AreWithin (granted h owner) → AreWithin (blocks_after u (granted h owner))
within-after share h owner (Grant layout n image) allowed all =
    (room-within (granted h owner) layout n (ap (λ bs. has_room bs layout n) (sym (granted-live_of h owner)) ∙ has-room (granted (live_of h) owner) layout n allowed), all)
within-after share h owner (Free base) allowed all = within-with_state base Freed (granted h owner) all
within-after share h owner _ allowed all = all

-- each block that a lawful history grants ends in the arena
pub granted-within : (share : ℕ) (h : History) (owner : ℕ) → IsLawful share h → AreWithin (granted h owner)
granted-within share [] owner lawful = tt
granted-within share (e ∷ h) owner lawful =
    elim (is_owner owner e) as (λ b. is_owner owner e ≡ b → AreWithin (cond b (blocks_after e.update (granted h owner)) (granted h owner))) [
      | true ↦ λ is.
          let same : e.owner ≡ owner = grind (arith, nat_tests) in
          within-after share h owner e.update (subst (λ o. refusal share h o e.update ≡ None) same lawful.0) (granted-within share h owner lawful.1)
      | false ↦ λ is. granted-within share h owner lawful.1
    ] refl

-- so does each byte of them
byte-within : (bs : List Block) (k : ℕ) → AreWithin bs → list_any (contains k 1) (map range_of bs) ≡ true → k < 1048576
byte-within [] k all inside = cc
byte-within (b ∷ bs) k all inside = by (contains k 1 (range_of b)) refl (byte-within bs k all.1)
  where
    by : (x : Bool) → contains k 1 (range_of b) ≡ x → (list_any (contains k 1) (map range_of bs) ≡ true → k < 1048576) → k < 1048576
    by true e later =
        let bounds = contains_bounds k 1 (range_of b) e in
        let end = all.0 in
        let last = bounds.1 in
        omega (arith, end, last)
    by false e later = later (ap (λ x. x || list_any (contains k 1) (map range_of bs)) (sym e) ∙ inside)

-- what is granted is there
pub granted-there : (share : ℕ) (h : History) (owner : ℕ) (bytes : List ℕ) → IsLawful share h → length bytes ≡ 1048576
    → IsThere (record { bytes = bytes; granted = reverse (map range_of (granted h owner)) })
granted-there share h owner bytes lawful long k inside =
    subst (λ n. k < n) (sym long)
    (byte-within (granted h owner) k (granted-within share h owner lawful) (sym (list_any-reverse (contains k 1) (map range_of (granted h owner))) ∙ inside))
