-- The activity of the first frames of a row, as frames change: a frame above them changes nothing, the top frame is the first of the activity.
use Rattle.std.proofs.Common.{◌≡◌, ◌⊎◌, inl, inr, ℕ, zero, suc, ◌+◌, ◌≤◌, ◌<◌, List, [], ◌∷◌, length, Option, Some, None, slice_get, slice_set, refl, sym, ap, ◌∙◌, subst, arith}
use Rattle.checked_tree.specs.declared.units.CheckedUnit.{CheckedUnit}
use Rattle.checked_tree.specs.Step as step
use Rattle.checked_tree.specs.Step.{Activity}
use Rattle.driver_machine.specs.declared.frame.Frame.{Frame}
use Rattle.driver_machine.specs.Standing.{standing, IsStanding}
use Rattle.driver_machine.specs.Tasks.{on_top, activity, StandsAt, AreStanding}

le_or_lt : (n k : ℕ) → (n ≤ k) ⊎ (k < n)
le_or_lt zero k = inl (omega arith)
le_or_lt (suc n) zero = inr (omega arith)
le_or_lt (suc n) (suc k) = by (le_or_lt n k)
  where
    by : (n ≤ k) ⊎ (k < n) → (suc n ≤ suc k) ⊎ (suc k < suc n)
    by (inl h) = inl (omega arith)
    by (inr h) = inr (omega arith)

-- ---- one element of a list is set
pub set_same : {X : Type 0} (xs : List X) (k : ℕ) (x : X) → k < length xs → slice_get (slice_set xs k x) k ≡ Some x
set_same [] k x l = absurd (omega arith)
set_same (y ∷ xs) zero x l = refl
set_same (y ∷ xs) (suc k) x l = set_same xs k x (omega arith)

set_above : {X : Type 0} (xs : List X) (k j : ℕ) (x : X) → j < k → slice_get (slice_set xs k x) j ≡ slice_get xs j
set_above [] k j x l = refl
set_above (y ∷ xs) zero j x l = absurd (omega arith)
set_above (y ∷ xs) (suc k) zero x l = refl
set_above (y ∷ xs) (suc k) (suc j) x l = set_above xs k j x (omega arith)

pub missing : {X : Type 0} (xs : List X) (k : ℕ) → slice_get xs k ≡ None → length xs ≤ k
missing [] k h = omega arith
missing (x ∷ xs) zero h = absurd cc
missing (x ∷ xs) (suc k) h = let rest = missing xs k h in omega (arith, rest)

module _ (unit : CheckedUnit) where
  -- frames above the first n do not matter
  pub activity_below : (frames : List Frame) (k n : ℕ) (x : Frame) → n ≤ k → activity unit (slice_set frames k x) n ≡ activity unit frames n
  unfolding activity
  activity_below frames k zero x l = refl
  activity_below frames k (suc n) x l =
      ap (λ (o : Option Frame). on_top unit o (activity unit (slice_set frames k x) n)) (set_above frames k n x (omega arith))
      ∙ ap (on_top unit (slice_get frames n)) (activity_below frames k n x (omega arith))

  pub standing_below : (frames : List Frame) (k n : ℕ) (x : Frame) → n ≤ k → AreStanding unit frames n → AreStanding unit (slice_set frames k x) n
  unfolding AreStanding
  standing_below frames k zero x l all = tt
  standing_below frames k (suc n) x l all = (
    subst (λ (o : Option Frame). StandsAt unit o) (sym (set_above frames k n x (omega arith))) all.0,
    standing_below frames k n x (omega arith) all.1,
  )

  -- the top one
  activity_top_at : (frames : List Frame) (top : ℕ) (x : Frame) → slice_get frames top ≡ Some x
      → activity unit frames (suc top) ≡ standing unit x ∷ activity unit frames top
  unfolding activity
  activity_top_at frames top x is = ap (λ (o : Option Frame). on_top unit o (activity unit frames top)) is

  pub activity_top : (frames : List Frame) (live top : ℕ) (x : Frame) → live ≡ top + 1 → slice_get frames top ≡ Some x
      → activity unit frames live ≡ standing unit x ∷ activity unit frames top
  activity_top frames live top x more is =
      let same : live ≡ suc top = omega (arith, more) in
      ap (activity unit frames) same ∙ activity_top_at frames top x is

  standing_top_at : (frames : List Frame) (top : ℕ) (x : Frame) → slice_get frames top ≡ Some x → AreStanding unit frames (suc top)
      → IsStanding unit x × AreStanding unit frames top
  unfolding AreStanding
  standing_top_at frames top x is all = (subst (λ (o : Option Frame). StandsAt unit o) is all.0, all.1)

  pub standing_top : (frames : List Frame) (live top : ℕ) (x : Frame) → live ≡ top + 1 → slice_get frames top ≡ Some x → AreStanding unit frames live
      → IsStanding unit x × AreStanding unit frames top
  standing_top frames live top x more is all =
      let same : live ≡ suc top = omega (arith, more) in
      standing_top_at frames top x is (subst (AreStanding unit frames) same all)

  standing_first : (frames : List Frame) (top : ℕ) → AreStanding unit frames (suc top) → StandsAt unit (slice_get frames top) × AreStanding unit frames top
  unfolding AreStanding
  standing_first frames top all = all

  pub stands_at_top : (frames : List Frame) (live top : ℕ) → live ≡ top + 1 → AreStanding unit frames live → StandsAt unit (slice_get frames top)
  stands_at_top frames live top more all =
      let same : live ≡ suc top = omega (arith, more) in
      (standing_first frames top (subst (AreStanding unit frames) same all)).0

  pub standing_under : (frames : List Frame) (live top : ℕ) → live ≡ top + 1 → AreStanding unit frames live → AreStanding unit frames top
  standing_under frames live top more all =
      let same : live ≡ suc top = omega (arith, more) in
      (standing_first frames top (subst (AreStanding unit frames) same all)).1

  -- another frame on top
  set_top_at : (frames : List Frame) (top : ℕ) (x : Frame) → top < length frames
      → activity unit (slice_set frames top x) (suc top) ≡ standing unit x ∷ activity unit frames top
  set_top_at frames top x l =
      activity_top_at (slice_set frames top x) top x (set_same frames top x l)
      ∙ ap (λ (a : Activity). standing unit x ∷ a) (activity_below frames top top x (omega arith))

  pub set_top : (frames : List Frame) (live top : ℕ) (x : Frame) → live ≡ top + 1 → top < length frames
      → activity unit (slice_set frames top x) live ≡ standing unit x ∷ activity unit frames top
  set_top frames live top x more l =
      let same : live ≡ suc top = omega (arith, more) in
      ap (activity unit (slice_set frames top x)) same ∙ set_top_at frames top x l

  stand_top_at : (frames : List Frame) (top : ℕ) (x : Frame) → top < length frames → IsStanding unit x → AreStanding unit frames top
      → AreStanding unit (slice_set frames top x) (suc top)
  unfolding AreStanding
  stand_top_at frames top x l one all =
      (subst (λ (o : Option Frame). StandsAt unit o) (sym (set_same frames top x l)) one, standing_below frames top top x (omega arith) all)

  pub stand_top : (frames : List Frame) (live top : ℕ) (x : Frame) → live ≡ top + 1 → top < length frames → IsStanding unit x → AreStanding unit frames top
      → AreStanding unit (slice_set frames top x) live
  stand_top frames live top x more l one all =
      let same : suc top ≡ live = omega (arith, more) in
      subst (AreStanding unit (slice_set frames top x)) same (stand_top_at frames top x l one all)

  -- as many frames as are live
  longer : (frames : List Frame) (n : ℕ) (o : Option Frame) → slice_get frames n ≡ o → n < length frames → length (activity unit frames n) ≡ n
      → length (on_top unit o (activity unit frames n)) ≡ suc n
  longer frames n None is l rest = absurd (let past = missing frames n is in omega (arith, past))
  longer frames n (Some x) is l rest = ap suc rest

  pub activity_length : (frames : List Frame) (n : ℕ) → n ≤ length frames → length (activity unit frames n) ≡ n
  unfolding activity
  activity_length frames zero l = refl
  activity_length frames (suc n) l = longer frames n (slice_get frames n) refl (omega arith) (activity_length frames n (omega arith))

  -- a frame that stands for the same is as good
  seen_set : (xs : List Frame) (k n : ℕ) (x x' : Frame) → slice_get xs k ≡ Some x → standing unit x' ≡ standing unit x → (below : Activity)
      → on_top unit (slice_get (slice_set xs k x') n) below ≡ on_top unit (slice_get xs n) below
  seen_set [] k n x x' is same below = absurd cc
  seen_set (y ∷ xs) zero zero x x' is same below =
      let first : x ≡ y = cc in
      ap (λ (f : step.Frame). f ∷ below) (same ∙ ap (standing unit) first)
  seen_set (y ∷ xs) zero (suc n) x x' is same below = refl
  seen_set (y ∷ xs) (suc k) zero x x' is same below = refl
  seen_set (y ∷ xs) (suc k) (suc n) x x' is same below = seen_set xs k n x x' is same below

  pub same_activity : (frames : List Frame) (k : ℕ) (x x' : Frame) (n : ℕ) → slice_get frames k ≡ Some x → standing unit x' ≡ standing unit x
      → activity unit (slice_set frames k x') n ≡ activity unit frames n
  unfolding activity
  same_activity frames k x x' zero is same = refl
  same_activity frames k x x' (suc n) is same =
      seen_set frames k n x x' is same (activity unit (slice_set frames k x') n)
      ∙ ap (on_top unit (slice_get frames n)) (same_activity frames k x x' n is same)

  stands_set : (xs : List Frame) (k n : ℕ) (x' : Frame) → IsStanding unit x' → StandsAt unit (slice_get xs n) → StandsAt unit (slice_get (slice_set xs k x') n)
  stands_set [] k n x' one all = all
  stands_set (y ∷ xs) zero zero x' one all = one
  stands_set (y ∷ xs) zero (suc n) x' one all = all
  stands_set (y ∷ xs) (suc k) zero x' one all = all
  stands_set (y ∷ xs) (suc k) (suc n) x' one all = stands_set xs k n x' one all

  pub standing_set : (frames : List Frame) (k : ℕ) (x' : Frame) (n : ℕ) → IsStanding unit x' → AreStanding unit frames n
      → AreStanding unit (slice_set frames k x') n
  unfolding AreStanding
  standing_set frames k x' zero one all = tt
  standing_set frames k x' (suc n) one all = (stands_set frames k n x' one all.0, standing_set frames k x' n one all.1)

  -- one of them
  at_or_below : (frames : List Frame) (n k : ℕ) (x : Frame) → (n ≤ k) ⊎ (k < n) → k < suc n → slice_get frames k ≡ Some x → StandsAt unit (slice_get frames n)
      → (k < n → IsStanding unit x) → IsStanding unit x
  at_or_below frames n k x (inl past) l is one rest =
      let same : n ≡ k = omega arith in
      subst (λ (o : Option Frame). StandsAt unit o) (ap (slice_get frames) same ∙ is) one
  at_or_below frames n k x (inr below) l is one rest = rest below

  pub standing_at : (frames : List Frame) (n k : ℕ) (x : Frame) → k < n → slice_get frames k ≡ Some x → AreStanding unit frames n → IsStanding unit x
  unfolding AreStanding
  standing_at frames zero k x l is all = absurd (omega arith)
  standing_at frames (suc n) k x l is all = at_or_below frames n k x (le_or_lt n k) l is all.0 (λ below. standing_at frames n k x below is all.1)
