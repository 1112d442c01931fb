-- What is live after a lawful history is sound, and stays so where an owner's newest entry is taken away.
use Rattle.std.proofs.Common.{◌≡◌, ℕ, ◌≤◌, Bool, true, false, cond, eqb, ltb, List, [], ◌∷◌, ℤ, Some, None, refl, ap, ◌∙◌, arith}
use Rattle.std.proofs.lemmas.Bool.Decides.{nat_tests}
use Rattle.std.specs.List.{list_any, find, count_by}
use Rattle.sd_base.specs.declared.history.Layout.{Layout}
use Rattle.sd_base.specs.declared.history.Refusal.TheVariants.{NoRoom}
use Rattle.sd_base.specs.declared.history.Update.{Update}
use Rattle.sd_base.specs.declared.history.Update.TheVariants.{Grant, Free, Line, Ports, Device, Param, Timer, Lock, Hold, Work, Taken, Mask, Clock}
use Rattle.sd_base.specs.Selection.{without_first, without_last}
use Rattle.sd_base.specs.History.{Entry, History, OfBlocks, OfFrees, Key, same_resource, live_key, key_of, entry, is_owner, is_of, after_entry, live_of, clock_of}
use Rattle.sd_base.specs.Blocks.{Block, blocks_after, has_base, has_room, granted}
use Rattle.sd_base.specs.Allowed.{is_lock, free_refusal, refusal_on, IsLawful, is_proper, IsProper, is_astray}
use Rattle.sd_base.specs.Sound.{BlockAllowed, BlocksAllowed, IsSound}
use Rattle.sd_base.proofs.Removal.{list_any-without_first, count_by-without_first}
use Rattle.sd_base.proofs.Live.{apart-same, is_of-resource}
use Rattle.sd_base.proofs.Granted.{granted-without_first_other, granted-without_last_other, leaves}
use Rattle.sd_base.proofs.Range.{none_astray}
use Rattle.sd_base.proofs.Single.{one_each, one_holder}

-- an entry under a key that is neither a block's nor a release's leaves the blocks
leaves_key : (o : ℕ) (k : Key) → same_resource k.resource OfBlocks ≡ false → same_resource k.resource OfFrees ≡ false → (e : Entry) → is_of o k e ≡ true →
    (bs : List Block) → blocks_after e.update bs ≡ bs
leaves_key o k blocks frees e h bs =
    leaves e.update bs (apart-same (live_key e.update).resource k.resource OfBlocks (is_of-resource o k e h) blocks)
    (apart-same (live_key e.update).resource k.resource OfFrees (is_of-resource o k e h) frees)

-- whether a grant or a release is allowed rests on the owner's blocks alone
same_blocks : (owner : ℕ) (u : Update) (xs ys : List Entry) → granted xs owner ≡ granted ys owner → BlockAllowed owner u ys → BlockAllowed owner u xs
same_blocks owner (Grant layout n image) xs ys same h = (h.0, ap (λ bs. has_room bs layout n) same ∙ h.1)
same_blocks owner (Free base) xs ys same h = ap (λ bs. free_refusal (find (has_base base) bs)) same ∙ h
same_blocks owner _ xs ys same h = tt

blocks-without_first : (p : Entry → Bool) → ((e : Entry) → p e ≡ true → (bs : List Block) → blocks_after e.update bs ≡ bs) → (live : List Entry) →
    BlocksAllowed live → BlocksAllowed (without_first p live)
blocks-without_first p none [] f = tt
blocks-without_first p none (e ∷ live) f =
    elim (p e) as (λ b. BlocksAllowed (cond b live (e ∷ without_first p live))) [
      | true ↦ f.1
      | false ↦ (
        same_blocks e.owner e.update (without_first p live) live (granted-without_first_other p none live e.owner) f.0,
        blocks-without_first p none live f.1,
      )
    ]

blocks-without_last : (p : Entry → Bool) → ((e : Entry) → p e ≡ true → (bs : List Block) → blocks_after e.update bs ≡ bs) → (live : List Entry) →
    BlocksAllowed live → BlocksAllowed (without_last p live)
blocks-without_last p none [] f = tt
blocks-without_last p none (e ∷ live) f =
    elim (list_any p live) as (λ a. BlocksAllowed (cond a (e ∷ without_last p live) (cond (p e) live (e ∷ live)))) [
      | true ↦ (
        same_blocks e.owner e.update (without_last p live) live (granted-without_last_other p none live e.owner) f.0,
        blocks-without_last p none live f.1,
      )
      | false ↦ elim (p e) as (λ b. BlocksAllowed (cond b live (e ∷ live))) [ true ↦ f.1 | false ↦ f ]
    ]

has_bytes : (owner : ℕ) (layout : Layout) (n : ℤ) (image : Bool) → is_proper owner (Grant layout n image) ≡ true → ltb 0 layout.size ≡ true
has_bytes owner layout n image p = grind arith

granted_room : (bs : List Block) (layout : Layout) (n : ℤ) → cond (has_room bs layout n) None (Some NoRoom) ≡ None → has_room bs layout n ≡ true
granted_room bs layout n h = grind arith

-- what is accepted leaves the grants and the releases allowed
blocks-after_entry : (share : ℕ) (live : List Entry) (clock owner : ℕ) (u : Update) → is_proper owner u ≡ true → refusal_on share live clock owner u ≡ None → BlocksAllowed live → BlocksAllowed (after_entry (entry owner u) live)
blocks-after_entry share live clock owner (Grant layout n image) p h f = ((has_bytes owner layout n image p, granted_room (granted live owner) layout n h), f)
blocks-after_entry share live clock owner (Free base) p h f = (h, f)
blocks-after_entry share live clock owner (Line line handler) p h f = (tt, f)
blocks-after_entry share live clock owner (Ports base n) p h f = (tt, f)
blocks-after_entry share live clock owner (Device id) p h f = (tt, f)
blocks-after_entry share live clock owner (Lock lock task) p h f = (tt, f)
blocks-after_entry share live clock owner (Hold domain) p h f = (tt, f)
blocks-after_entry share live clock owner (Work handler arg) p h f = (tt, f)
blocks-after_entry share live clock owner (Mask task) p h f = (tt, f)
blocks-after_entry share live clock owner (Clock now) p h f = f
blocks-after_entry share live clock owner Taken p h f = blocks-without_last _ (leaves_key owner (key_of Taken) refl refl) live f
blocks-after_entry share live clock owner (Param key value) p h f = (tt, blocks-without_first _ (leaves_key owner (key_of (Param key value)) refl refl) live f)
blocks-after_entry share live clock owner (Timer id due handler arg) p h f = (tt, blocks-without_first _ (leaves_key owner (key_of (Timer id due handler arg)) refl refl) live f)
blocks-after_entry share live clock owner u p h f = blocks-without_first _ (leaves_key owner (key_of u) refl refl) live f

blocks_allowed : (share : ℕ) (h : History) → IsProper h → IsLawful share h → BlocksAllowed (live_of h)
blocks_allowed share [] p l = tt
blocks_allowed share (e ∷ h) p l = blocks-after_entry share (live_of h) (clock_of h) e.owner e.update p.0 l.0 (blocks_allowed share h p.1 l.1)

-- what is live after a lawful history is sound
pub lawful_sound : (share : ℕ) (h : History) → IsProper h → IsLawful share h → IsSound (live_of h)
lawful_sound share h p l = record {
  in_range = none_astray share h l;
  blocks = blocks_allowed share h p l;
  singles = one_each share h l;
  locks = one_holder share h l;
}

-- another owner's newest entry, taken away, leaves an owner's blocks
granted-without_newest : (live : List Entry) (o p : ℕ) → eqb p o ≡ false → granted (without_first (is_owner o) live) p ≡ granted live p
granted-without_newest [] o p apart = refl
granted-without_newest (e ∷ live) o p apart = grind (arith, nat_tests, granted-without_newest live o p apart)

blocks-without_newest : (o : ℕ) (live : List Entry) → BlocksAllowed live → BlocksAllowed (without_first (is_owner o) live)
blocks-without_newest o [] f = tt
blocks-without_newest o (e ∷ live) f =
    elim (is_owner o e) as (λ b. is_owner o e ≡ b → BlocksAllowed (cond b live (e ∷ without_first (is_owner o) live))) [
      | true ↦ λ is. f.1
      | false ↦ λ is. (
        same_blocks e.owner e.update (without_first (is_owner o) live) live (granted-without_newest live o e.owner is) f.0,
        blocks-without_newest o live f.1,
      )
    ] refl

-- sound entries stay sound where an owner's newest is taken away
pub sound-without_newest : (o : ℕ) (live : List Entry) → IsSound live → IsSound (without_first (is_owner o) live)
sound-without_newest o live s = record {
  in_range = list_any-without_first (is_owner o) is_astray live s.in_range;
  blocks = blocks-without_newest o live s.blocks;
  singles = λ owner key single. (let few : count_by (is_of owner key) live ≤ 1 = s.singles owner key single in
      omega (arith, count_by-without_first (is_owner o) (is_of owner key) live));
  locks = λ lock. (let few : count_by (is_lock lock) live ≤ 1 = s.locks lock in omega (arith, count_by-without_first (is_owner o) (is_lock lock) live));
}
