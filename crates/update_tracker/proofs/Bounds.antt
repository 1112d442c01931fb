-- How many entries of each kind an owner can have live, and how many in all.
use Rattle.std.proofs.Common.{◌≡◌, ℕ, ◌+◌, ◌*◌, ◌<◌, ◌≤◌, Bool, true, false, cond, not, ◌&&◌, eqb, ltb, List, [], ◌∷◌, length, ℤ, pos, negsuc, None, refl, ap, sym, subst, arith}
use Rattle.std.proofs.lemmas.Bool.Decides.{nat_tests}
use Rattle.std.proofs.lemmas.Int.{ints}
use Rattle.std.proofs.lemmas.List.{length-map}
use Rattle.std.specs.List.{list_any, filter, find, count_by}
use Rattle.sd_base.specs.declared.history.BlockState.TheVariants.{Freed}
use Rattle.sd_base.specs.declared.history.Update.{Update}
use Rattle.sd_base.specs.declared.history.Update.TheVariants.{Grant, Free, Line, Lock, Hold, Work, Mask}
use Rattle.sd_base.specs.History.{Entry, History, entry, Resource, OfBlocks, OfFrees, OfLines, OfPorts, OfDevices, OfParams, OfTimers, OfLocks, OfHolds, OfWork, OfMasks, OfNothing, same_resource, live_key, line_key, hold_key, mask_key, work_key, is_owner, is_of, is_of_kind, live_of, net_of}
use Rattle.sd_base.specs.Blocks.{Block, blocks_after, with_state, has_base, is_freed, next_base, count_of, first_state, granted, has_room}
use Rattle.sd_base.specs.Allowed.{is_lock, free_refusal, is_astray, IsLawful, IsProper}
use Rattle.sd_base.specs.Sound.{BlockAllowed, BlocksAllowed, IsSound}
use Rattle.sd_base.proofs.Counting.{count_by-cons, count_below, count_below-all, count_below-le}
use Rattle.sd_base.proofs.Removal.{list_any-wider}
use Rattle.sd_base.proofs.Single.{count_by-none}
use Rattle.sd_base.proofs.SoundLive.{lawful_sound}
use Rattle.update_tracker.specs.NetPart.{in_front, is_block_update, is_block_entry, note_item, block_items, note_after, notes_of}
use Rattle.update_tracker.proofs.Caps.{KeepsCaps, keeps_caps, improper, all_proper, is_gone, none_gone}
use Rattle.update_tracker.proofs.NetShown.{eqb_itself, length-block_items}

-- counts by a narrower test, and under a filter

count-narrower : {X : Type 0} (p q : X → Bool) → ((x : X) → p x ≡ true → q x ≡ true) → (xs : List X) → count_by p xs ≤ count_by q xs
count-narrower p q within [] = omega arith
count-narrower p q within (x ∷ xs) = grind (arith, within x, count_by-cons p x xs, count_by-cons q x xs, count-narrower p q within xs)

count-within : {X : Type 0} (q r : X → Bool) (xs : List X) → count_by r (filter q xs) ≡ count_by (λ x. q x && r x) xs
count-within q r [] = refl
count-within q r (x ∷ xs) = grind (arith, count_by-cons (λ y. q y && r y) x xs, count_by-cons r x (filter q xs), count-within q r xs)

length-within : {X : Type 0} (q : X → Bool) (xs : List X) → length (filter q xs) ≡ count_by q xs
length-within q [] = refl
length-within q (x ∷ xs) = grind (arith, count_by-cons q x xs, length-within q xs)

none-within : {X : Type 0} (q : X → Bool) (f : X → ℕ) (n : ℕ) (xs : List X) → list_any (λ x. q x && not (ltb (f x) n)) xs ≡ false → list_any (λ x. ltb n (f x + 1)) (filter q xs) ≡ false
none-within q f n [] h = refl
none-within q f n (x ∷ xs) h = grind (arith, nat_tests, none-within q f n xs)

-- n numbers, and at most b of each
pigeons : (q : Entry → Bool) (f : Entry → ℕ) (n b : ℕ) (live : List Entry) → list_any (λ e. q e && not (ltb (f e) n)) live ≡ false → ((k : ℕ) → k < n → count_by (λ e. q e && eqb (f e) k) live ≤ b) → count_by q live ≤ n * b
pigeons q f n b live below each =
    let all : count_below f n (filter q live) ≡ length (filter q live) = count_below-all f n (filter q live) (none-within q f n live below) in
    let few : count_below f n (filter q live) ≤ n * b =
    count_below-le f b n (filter q live) (λ k h. subst (λ m. m ≤ b) (sym (count-within q (λ e. eqb (f e) k) live)) (each k h)) in
    omega (arith, length-within q live)

-- a number as a place below a bound, or the bound
index : ℕ → ℤ → ℕ
index bound (pos n) = n
index bound (negsuc n) = bound

-- Lines.

line_index : Entry → ℕ
line_index e = index 64 (live_key e.update).number

line_astray : (by o : ℕ) (u : Update) → (is_of_kind o OfLines (entry by u) && not (ltb (line_index (entry by u)) 64)) ≡ true → is_astray (entry by u) ≡ true
unfolding line_index index
line_astray by o (Line (pos l) handler) h = grind arith
line_astray by o (Line (negsuc l) handler) h = refl
line_astray by o _ h = cc

line_at : (by o k : ℕ) (u : Update) → k < 64 → (is_of_kind o OfLines (entry by u) && eqb (line_index (entry by u)) k) ≡ true → is_of o (line_key (pos k)) (entry by u) ≡ true
unfolding line_index index
line_at by o k (Line (pos l) handler) fits h = grind (arith, nat_tests, ints)
line_at by o k (Line (negsuc l) handler) fits h = grind (arith, nat_tests)
line_at by o k _ fits h = cc

few_lines : (o : ℕ) (live : List Entry) → IsSound live → count_by (is_of_kind o OfLines) live ≤ 64
few_lines o live s =
    omega (
      arith,
      pigeons (is_of_kind o OfLines) line_index 64 1 live
          (list_any-wider is_astray (λ e. is_of_kind o OfLines e && not (ltb (line_index e) 64)) (λ e h. line_astray e.owner o e.update h) live s.in_range)
          (λ k fits. (let one : count_by (is_of o (line_key (pos k))) live ≤ 1 = s.singles o (line_key (pos k)) refl in
          omega (arith, count-narrower (λ e. is_of_kind o OfLines e && eqb (line_index e) k) (is_of o (line_key (pos k))) (λ e h. line_at e.owner o k e.update fits h) live))),
    )

-- Locks.

lock_astray : (by o : ℕ) (u : Update) → (is_of_kind o OfLocks (entry by u) && not (ltb (line_index (entry by u)) 64)) ≡ true → is_astray (entry by u) ≡ true
unfolding line_index index
lock_astray by o (Lock (pos l) task) h = grind arith
lock_astray by o (Lock (negsuc l) task) h = refl
lock_astray by o _ h = cc

lock_at : (by o k : ℕ) (u : Update) → k < 64 → (is_of_kind o OfLocks (entry by u) && eqb (line_index (entry by u)) k) ≡ true → is_lock (pos k) (entry by u) ≡ true
unfolding line_index index
lock_at by o k (Lock (pos l) task) fits h = grind (arith, nat_tests, ints)
lock_at by o k (Lock (negsuc l) task) fits h = grind (arith, nat_tests)
lock_at by o k _ fits h = cc

few_locks : (o : ℕ) (live : List Entry) → IsSound live → count_by (is_of_kind o OfLocks) live ≤ 64
few_locks o live s =
    omega (
      arith,
      pigeons (is_of_kind o OfLocks) line_index 64 1 live
          (list_any-wider is_astray (λ e. is_of_kind o OfLocks e && not (ltb (line_index e) 64)) (λ e h. lock_astray e.owner o e.update h) live s.in_range)
          (λ k fits. (let one : count_by (is_lock (pos k)) live ≤ 1 = s.locks (pos k) in
          omega (arith, count-narrower (λ e. is_of_kind o OfLocks e && eqb (line_index e) k) (is_lock (pos k)) (λ e h. lock_at e.owner o k e.update fits h) live))),
    )

-- Holds.

hold_astray : (by o : ℕ) (u : Update) → (is_of_kind o OfHolds (entry by u) && not (ltb (line_index (entry by u)) 64)) ≡ true → is_astray (entry by u) ≡ true
unfolding line_index index
hold_astray by o (Hold (pos d)) h = grind arith
hold_astray by o (Hold (negsuc d)) h = refl
hold_astray by o _ h = cc

hold_at : (by o k : ℕ) (u : Update) → k < 64 → (is_of_kind o OfHolds (entry by u) && eqb (line_index (entry by u)) k) ≡ true → is_of o (hold_key (pos k)) (entry by u) ≡ true
unfolding line_index index
hold_at by o k (Hold (pos d)) fits h = grind (arith, nat_tests, ints)
hold_at by o k (Hold (negsuc d)) fits h = grind (arith, nat_tests)
hold_at by o k _ fits h = cc

few_holds : (o : ℕ) (live : List Entry) → IsSound live → KeepsCaps o live → count_by (is_of_kind o OfHolds) live ≤ 512
few_holds o live s caps =
    omega (
      arith,
      pigeons (is_of_kind o OfHolds) line_index 64 8 live
          (list_any-wider is_astray (λ e. is_of_kind o OfHolds e && not (ltb (line_index e) 64)) (λ e h. hold_astray e.owner o e.update h) live s.in_range)
          (λ k fits. (let eight : count_by (is_of o (hold_key (pos k))) live ≤ 8 = caps.holds (pos k) in
          omega (arith, count-narrower (λ e. is_of_kind o OfHolds e && eqb (line_index e) k) (is_of o (hold_key (pos k))) (λ e h. hold_at e.owner o k e.update fits h) live))),
    )

-- Masks.

task_of : Entry → ℕ
task_of e = (live_key e.update).task

mask_improper : (by o : ℕ) (u : Update) → (is_of_kind o OfMasks (entry by u) && not (ltb (task_of (entry by u)) 9)) ≡ true → improper (entry by u) ≡ true
unfolding task_of
mask_improper by o (Mask task) h = grind arith
mask_improper by o _ h = cc

mask_at : (by o k : ℕ) (u : Update) → (is_of_kind o OfMasks (entry by u) && eqb (task_of (entry by u)) k) ≡ true → is_of o (mask_key k) (entry by u) ≡ true
unfolding task_of
mask_at by o k (Mask task) h = grind arith
mask_at by o k _ h = cc

few_masks : (o : ℕ) (live : List Entry) → IsSound live → list_any improper live ≡ false → count_by (is_of_kind o OfMasks) live ≤ 9
few_masks o live s proper =
    omega (
      arith,
      pigeons (is_of_kind o OfMasks) task_of 9 1 live
          (list_any-wider improper (λ e. is_of_kind o OfMasks e && not (ltb (task_of e) 9)) (λ e h. mask_improper e.owner o e.update h) live proper)
          (λ k fits. (let one : count_by (is_of o (mask_key k)) live ≤ 1 = s.singles o (mask_key k) refl in
          omega (arith, count-narrower (λ e. is_of_kind o OfMasks e && eqb (task_of e) k) (is_of o (mask_key k)) (λ e h. mask_at e.owner o k e.update h) live))),
    )

-- Items of work.

work_at : (by o : ℕ) (u : Update) → is_of_kind o OfWork (entry by u) ≡ true → is_of o work_key (entry by u) ≡ true
work_at by o (Work handler arg) h = h
work_at by o _ h = cc

few_work : (o : ℕ) (live : List Entry) → KeepsCaps o live → count_by (is_of_kind o OfWork) live ≤ 64
few_work o live caps = (let cap = caps.work in omega (arith, count-narrower (is_of_kind o OfWork) (is_of o work_key) (λ e h. work_at e.owner o e.update h) live))

-- Blocks, and those of them that were given back.

length-with_state : (base : ℕ) (bs : List Block) → length (with_state base Freed bs) ≡ length bs
length-with_state base [] = refl
length-with_state base (b ∷ bs) = grind (arith, length-with_state base bs)

abbrev pub is_grant_freed : Block → Bool
is_grant_freed b = is_freed b.state

one_freed : (base : ℕ) (bs : List Block) → free_refusal (find (has_base base) bs) ≡ None → count_by is_grant_freed (with_state base Freed bs) ≡ 1 + count_by is_grant_freed bs
one_freed base [] h = cc
one_freed base (b ∷ bs) h =
    elim (has_base base b) as (λ t. has_base base b ≡ t → count_by (λ (x : Block). is_freed x.state) (cond t (record b { state = Freed } ∷ bs) (b ∷ with_state base Freed bs)) ≡ 1 + count_by (λ (x : Block). is_freed x.state) (b ∷ bs)) [
      | true ↦ λ is. (
          let free : is_freed b.state ≡ false = grind arith in
          grind (arith, count_by-cons (λ (x : Block). is_freed x.state) b bs, count_by-cons (λ (x : Block). is_freed x.state) (record b { state = Freed }) bs))
      | false ↦ λ is. grind (arith, one_freed base bs, count_by-cons (λ (x : Block). is_freed x.state) b bs, count_by-cons (λ (x : Block). is_freed x.state) b (with_state base Freed bs))
    ] refl

-- the blocks of an owner, as its live entries count them
pub record CountsBlocks (o : ℕ) (live : List Entry) : Type 0 where
  pub blocks : count_by (is_of_kind o OfBlocks) live ≡ length (granted live o)
  pub cap : length (granted live o) ≤ 4096
  pub freed : count_by (is_of_kind o OfFrees) live ≡ count_by is_grant_freed (granted live o)

first_free : (image : Bool) → is_freed (first_state image) ≡ false
first_free true = refl
first_free false = refl

room_left : (bs : List Block) (layout : _) (n : ℤ) → has_room bs layout n ≡ true → length bs < 4096
room_left bs layout (pos n) h = grind (arith, nat_tests)
room_left bs layout (negsuc n) h = cc

granted_own : (o : ℕ) (u : Update) (live : List Entry) → granted (entry o u ∷ live) o ≡ blocks_after u (granted live o)
granted_own o u live = ap (λ b. cond b (blocks_after u (granted live o)) (granted live o)) (eqb_itself o)

-- an owner's own entry
own_counts : (o : ℕ) (u : Update) (live : List Entry) → BlockAllowed o u live → CountsBlocks o live → CountsBlocks o (entry o u ∷ live)
own_counts o (Grant layout n image) live allowed counts =
    let e = entry o (Grant layout n image) in
    let block : Block = record { base = next_base (granted live o); layout = layout; count = count_of n; state = first_state image } in
    let now : granted (e ∷ live) o ≡ block ∷ granted live o = granted_own o (Grant layout n image) live in
    let one : is_of_kind o OfBlocks e ≡ true = eqb_itself o in
    let room : length (granted live o) < 4096 = room_left (granted live o) layout n allowed.1 in
    let before = counts.blocks in
    let freed_before = counts.freed in record {
      blocks = subst (λ bs. count_by (is_of_kind o OfBlocks) (e ∷ live) ≡ length bs) (sym now) (grind (arith, count_by-cons (is_of_kind o OfBlocks) e live));
      cap = subst (λ bs. length bs ≤ 4096) (sym now) (omega arith);
      freed = subst (λ bs. count_by (is_of_kind o OfFrees) (e ∷ live) ≡ count_by (λ (x : Block). is_freed x.state) bs) (sym now)
          (grind (arith, count_by-cons (is_of_kind o OfFrees) e live, count_by-cons (λ (x : Block). is_freed x.state) block (granted live o), first_free image));
    }
own_counts o (Free base) live allowed counts =
    let e = entry o (Free base) in
    let now : granted (e ∷ live) o ≡ with_state base Freed (granted live o) = granted_own o (Free base) live in
    let one : is_of_kind o OfFrees e ≡ true = eqb_itself o in
    let before = counts.blocks in
    let cap_before = counts.cap in
    let freed_before = counts.freed in
    let more : count_by (λ (x : Block). is_freed x.state) (with_state base Freed (granted live o)) ≡ 1 + count_by (λ (x : Block). is_freed x.state) (granted live o) = one_freed base (granted live o) allowed in record {
      blocks = subst (λ bs. count_by (is_of_kind o OfBlocks) (e ∷ live) ≡ length bs) (sym now) (grind (arith, count_by-cons (is_of_kind o OfBlocks) e live, length-with_state base (granted live o)));
      cap = subst (λ bs. length bs ≤ 4096) (sym now) (omega (arith, length-with_state base (granted live o)));
      freed = subst (λ bs. count_by (is_of_kind o OfFrees) (e ∷ live) ≡ count_by (λ (x : Block). is_freed x.state) bs) (sym now) (grind (arith, count_by-cons (is_of_kind o OfFrees) e live));
    }
own_counts o u live allowed counts =
    let now : granted (entry o u ∷ live) o ≡ granted live o = granted_own o u live in
    let before = counts.blocks in
    let freed_before = counts.freed in record {
      blocks = subst (λ bs. count_by (is_of_kind o OfBlocks) (entry o u ∷ live) ≡ length bs) (sym now) (omega (arith, count_by-cons (is_of_kind o OfBlocks) (entry o u) live));
      cap = subst (λ bs. length bs ≤ 4096) (sym now) counts.cap;
      freed = subst (λ bs. count_by (is_of_kind o OfFrees) (entry o u ∷ live) ≡ count_by (λ (x : Block). is_freed x.state) bs) (sym now) (omega (arith, count_by-cons (is_of_kind o OfFrees) (entry o u) live));
    }

-- another owner's
others_counts : (o by : ℕ) (u : Update) (live : List Entry) → eqb by o ≡ false → CountsBlocks o live → CountsBlocks o (entry by u ∷ live)
others_counts o by u live apart counts =
    let now : granted (entry by u ∷ live) o ≡ granted live o = ap (λ b. cond b (blocks_after u (granted live o)) (granted live o)) apart in
    let before = counts.blocks in
    let freed_before = counts.freed in record {
      blocks = subst (λ bs. count_by (is_of_kind o OfBlocks) (entry by u ∷ live) ≡ length bs) (sym now) (grind (arith, count_by-cons (is_of_kind o OfBlocks) (entry by u) live));
      cap = subst (λ bs. length bs ≤ 4096) (sym now) counts.cap;
      freed = subst (λ bs. count_by (is_of_kind o OfFrees) (entry by u ∷ live) ≡ count_by is_grant_freed bs) (sym now) (grind (arith, count_by-cons (is_of_kind o OfFrees) (entry by u) live));
    }

counts_after : (o by : ℕ) (u : Update) (live : List Entry) → BlockAllowed by u live → CountsBlocks o live → CountsBlocks o (entry by u ∷ live)
counts_after o by u live allowed counts =
    elim (eqb by o) as (λ b. eqb by o ≡ b → CountsBlocks o (entry by u ∷ live)) [
      | true ↦ λ is. (let same : o ≡ by = grind (arith, nat_tests) in
          subst (λ n. CountsBlocks o (entry n u ∷ live)) same (own_counts o u live (subst (λ n. BlockAllowed n u live) (sym same) allowed) counts))
      | false ↦ λ is. others_counts o by u live is counts
    ] refl

counts_blocks : (o : ℕ) (live : List Entry) → BlocksAllowed live → CountsBlocks o live
counts_blocks o [] allowed = record { blocks = refl; cap = omega arith; freed = refl }
counts_blocks o (e ∷ live) allowed = counts_after o e.owner e.update live allowed.0 (counts_blocks o live allowed.1)

count-most : {X : Type 0} (p : X → Bool) (xs : List X) → count_by p xs ≤ length xs
count-most p [] = omega arith
count-most p (x ∷ xs) = grind (arith, count_by-cons p x xs, count-most p xs)

few_blocks : (o : ℕ) (live : List Entry) → BlocksAllowed live → (count_by (is_of_kind o OfBlocks) live ≤ 4096) × (count_by (is_of_kind o OfFrees) live ≤ 4096)
few_blocks o live allowed =
    let counts = counts_blocks o live allowed in
    let blocks = counts.blocks in
    let cap = counts.cap in
    let freed = counts.freed in
    (omega arith, omega (arith, count-most is_grant_freed (granted live o)))

-- The kinds together.

-- one where an update of this owner is live as one of this kind
abbrev has : Update → Bool → Resource → ℕ
has u own resource = cond (same_resource (live_key u).resource resource && own) 1 0

one_block : (own : Bool) (u : Update) → cond (is_block_update u && own) 1 0 ≤ has u own OfBlocks + has u own OfFrees
one_block true (Grant layout n image) = omega arith
one_block true (Free base) = omega arith
one_block false (Grant layout n image) = omega arith
one_block false (Free base) = omega arith
one_block true _ = omega arith
one_block false _ = omega arith

blocks_sum : (o : ℕ) (live : List Entry) → count_by (is_block_entry o) live ≤ count_by (is_of_kind o OfBlocks) live + count_by (is_of_kind o OfFrees) live
blocks_sum o [] = omega arith
blocks_sum o (e ∷ live) =
    omega (arith, one_block (is_owner o e) e.update, count_by-cons (is_block_entry o) e live, count_by-cons (is_of_kind o OfBlocks) e live, count_by-cons (is_of_kind o OfFrees) e live, blocks_sum o live)

one_note : (own : Bool) (u : Update) (after : ℕ) (notes : List _) → length (in_front (note_after (cond own (note_item u) None) after) notes) ≤
    has u own OfLines + has u own OfPorts + has u own OfDevices + has u own OfParams + has u own OfTimers + has u own OfLocks + has u own OfHolds + has u own OfWork + has u own OfMasks + length notes
one_note false _ after notes = omega arith
one_note true (Line line handler) after notes = omega arith
one_note true _ after notes = omega arith

notes_sum : (o : ℕ) (live : List Entry) → length (notes_of o live) ≤
    count_by (is_of_kind o OfLines) live + count_by (is_of_kind o OfPorts) live + count_by (is_of_kind o OfDevices) live + count_by (is_of_kind o OfParams) live + count_by (is_of_kind o OfTimers) live
    + count_by (is_of_kind o OfLocks) live + count_by (is_of_kind o OfHolds) live + count_by (is_of_kind o OfWork) live + count_by (is_of_kind o OfMasks) live
notes_sum o [] = omega arith
notes_sum o (e ∷ live) =
    omega (
      arith,
      one_note (is_owner o e) e.update (count_by (is_block_entry o) live) (notes_of o live),
      count_by-cons (is_of_kind o OfLines) e live,
      count_by-cons (is_of_kind o OfPorts) e live,
      count_by-cons (is_of_kind o OfDevices) e live,
      count_by-cons (is_of_kind o OfParams) e live,
      count_by-cons (is_of_kind o OfTimers) e live,
      count_by-cons (is_of_kind o OfLocks) e live,
      count_by-cons (is_of_kind o OfHolds) e live,
      count_by-cons (is_of_kind o OfWork) e live,
      count_by-cons (is_of_kind o OfMasks) e live,
      notes_sum o live,
    )

pub few_notes : (share : ℕ) (h : History) (o : ℕ) → IsLawful share h → IsProper h → length (notes_of o (live_of h)) ≤ 873
few_notes share h o lawful proper =
    let sound = lawful_sound share h proper lawful in
    let caps = keeps_caps share h lawful o in
    let ports = caps.ports in
    let devices = caps.devices in
    let params = caps.params in
    let timers = caps.timers in
    omega (arith, notes_sum o (live_of h), few_lines o (live_of h) sound, few_locks o (live_of h) sound, few_holds o (live_of h) sound caps, few_work o (live_of h) caps, few_masks o (live_of h) sound (all_proper h proper))

pub few_block_items : (share : ℕ) (h : History) (o : ℕ) → IsLawful share h → IsProper h → length (block_items o (live_of h)) ≤ 8192
few_block_items share h o lawful proper =
    let sound = lawful_sound share h proper lawful in
    let few = few_blocks o (live_of h) sound.blocks in
    let blocks = few.0 in
    let frees = few.1 in
    omega (arith, length-block_items o (live_of h), blocks_sum o (live_of h))

-- All entries of an owner.

one_entry : (own : Bool) (u : Update) (after : ℕ) (notes : List _) → cond own 1 0 + length notes ≤
    cond (is_block_update u && own) 1 0 + length (in_front (note_after (cond own (note_item u) None) after) notes) + cond (same_resource (live_key u).resource OfNothing) 1 0
one_entry false (Grant layout n image) after notes = omega arith
one_entry false (Free base) after notes = omega arith
one_entry true (Grant layout n image) after notes = omega arith
one_entry true (Free base) after notes = omega arith
one_entry false _ after notes = omega arith
one_entry true _ after notes = omega arith

entries_sum : (o : ℕ) (live : List Entry) → count_by (is_owner o) live ≤ count_by (is_block_entry o) live + length (notes_of o live) + count_by is_gone live
entries_sum o [] = omega arith
entries_sum o (e ∷ live) =
    omega (
      arith,
      one_entry (is_owner o e) e.update (count_by (is_block_entry o) live) (notes_of o live),
      count_by-cons (is_owner o) e live,
      count_by-cons (is_block_entry o) e live,
      count_by-cons (λ (x : Entry). same_resource (live_key x.update).resource OfNothing) e live,
      entries_sum o live,
    )

-- an owner has at most 9,065 entries in its net list
pub net_is_short : (share : ℕ) (h : History) (o : ℕ) → IsLawful share h → IsProper h → length (net_of h o) ≤ 9065
net_is_short share h o lawful proper =
    omega (
      arith,
      length-map (filter (is_owner o) (live_of h)) (λ (e : Entry). e.update),
      length-within (is_owner o) (live_of h),
      entries_sum o (live_of h),
      count_by-none is_gone (live_of h) (none_gone h),
      few_notes share h o lawful proper,
      few_block_items share h o lawful proper,
      length-block_items o (live_of h),
    )
