-- The queue as it turns, and what it keeps to.
use Rattle.std.proofs.Common.{◌≡◌, ◌≢◌, ℕ, zero, suc, ◌++◌, length, take, drop, get_or, ◌+◌, ◌-◌, ◌<◌, ◌≤◌, Bool, true, false, cond, not, eqb, ltb, List, [], ◌∷◌, Option, Some, None, refl, ap, sym, ◌∙◌, subst, arith, append-nil, append_assoc, length-append}
use Rattle.std.proofs.lemmas.Bool.Decides.{nat_tests}
use Rattle.std.proofs.lemmas.List.Edits.{remove-append_left}
use Rattle.std.proofs.lemmas.List.Folds.{list_any-append}
use Rattle.std.proofs.lemmas.Option.{slice_get_within, get_or_from_slice_get}
use Rattle.std.specs.Prelude.{count_by, slice_get, MatchOption}
use Rattle.circular_buffer.specs.Buffer.{Buffer, buffer}
use Rattle.std.specs.List.{list_any, remove}
use Rattle.sd_base.specs.Selection.{without_last}
use Rattle.sd_base.proofs.Counting.{count_by-cons, count_by-append, count_below-le, count_below-all}
use Rattle.sd_base.proofs.Removal.{remove_last, list_any-without_last, count_by-without_last}
use Rattle.share_table.specs.declared.queue.Work.{Work}
use Rattle.share_table.specs.Queue.{is_owned, is_astray, IsQueue, turned}

-- What is left of a queue that has turned i times, where the item at one place went out.
abbrev pub turned_without : List Work → ℕ → ℕ → List Work
turned_without items newest i = drop i items ++ remove (take i items) newest

remove-past : (xs : List Work) (i : ℕ) → length xs ≤ i → remove xs i ≡ xs
remove-past [] zero h = refl
remove-past [] (suc i) h = refl
remove-past (x ∷ xs) zero h = absurd (omega arith)
remove-past (x ∷ xs) (suc i) h = ap (λ l. x ∷ l) (remove-past xs i (omega arith))

take-more : (xs : List Work) (i : ℕ) (x : Work) → slice_get xs i ≡ Some x → take (i + 1) xs ≡ take i xs ++ x ∷ []
take-more [] i x h = cc
take-more (y ∷ ys) zero x h = (let same : y ≡ x = grind arith in ap (λ z. z ∷ []) same)
take-more (y ∷ ys) (suc i) x h =
    let long : take (suc i + 1) (y ∷ ys) ≡ y ∷ take (i + 1) ys = ap (λ n. take n (y ∷ ys)) (let e : suc i + 1 ≡ suc (i + 1) = omega arith in e) in
    long ∙ ap (λ l. y ∷ l) (take-more ys i x h)

drop-one : (xs : List Work) (i : ℕ) (x : Work) → slice_get xs i ≡ Some x → drop i xs ≡ x ∷ drop (i + 1) xs
drop-one [] i x h = cc
drop-one (y ∷ ys) zero x h = (let same : y ≡ x = grind arith in ap (λ z. z ∷ ys) same)
drop-one (y ∷ ys) (suc i) x h =
    let long : drop (suc i + 1) (y ∷ ys) ≡ drop (i + 1) ys = ap (λ n. drop n (y ∷ ys)) (let e : suc i + 1 ≡ suc (i + 1) = omega arith in e) in
    drop-one ys i x h ∙ ap (λ l. x ∷ l) (sym long)

at_within : (xs : List Work) (i : ℕ) → i < length xs → (x : Work) × (slice_get xs i ≡ Some x)
at_within [] i h = absurd (omega arith)
at_within (y ∷ ys) zero h = (y, refl)
at_within (y ∷ ys) (suc i) h = at_within ys i (omega arith)

taken_length : (xs : List Work) (i : ℕ) → i ≤ length xs → length (take i xs) ≡ i
taken_length [] zero h = refl
taken_length [] (suc i) h = absurd (omega arith)
taken_length (x ∷ xs) zero h = refl
taken_length (x ∷ xs) (suc i) h = (let rest = taken_length xs i (omega arith) in omega arith)

remove-end : (xs : List Work) (i : ℕ) (x : Work) → length xs ≡ i → remove (xs ++ x ∷ []) i ≡ xs
remove-end [] zero x h = refl
remove-end [] (suc i) x h = absurd (omega arith)
remove-end (y ∷ xs) zero x h = absurd (omega arith)
remove-end (y ∷ xs) (suc i) x h = ap (λ l. y ∷ l) (remove-end xs i x (omega arith))

kept_or_gone : (xs : List Work) (i newest : ℕ) (x : Work) → length xs ≡ i → remove (xs ++ x ∷ []) newest ≡ remove xs newest ++ cond (not (eqb i newest)) (x ∷ []) []
kept_or_gone xs i newest x long =
    elim (ltb newest i) as (λ b. ltb newest i ≡ b → remove (xs ++ x ∷ []) newest ≡ remove xs newest ++ cond (not (eqb i newest)) (x ∷ []) []) [
      | true ↦ λ is. (
          let below : newest < i = grind (arith, nat_tests) in
          let other : eqb i newest ≡ false = grind (arith, nat_tests) in
          remove-append_left xs (x ∷ []) newest (omega arith) ∙ ap (λ b. remove xs newest ++ cond (not b) (x ∷ []) []) (sym other))
      | false ↦ λ is. (
          let past : i ≤ newest = grind (arith, nat_tests) in
          elim (eqb i newest) as (λ b. eqb i newest ≡ b → remove (xs ++ x ∷ []) newest ≡ remove xs newest ++ cond (not b) (x ∷ []) []) [
            | true ↦ λ here. (
                let same : i ≡ newest = grind (arith, nat_tests) in
                remove-end xs newest x (long ∙ same) ∙ sym (append-nil (remove xs newest) ∙ remove-past xs newest (omega arith)))
            | false ↦ λ there. (
                let differ : i ≢ newest = grind (arith, nat_tests) in
                let further : i < newest = omega arith in
                remove-past (xs ++ x ∷ []) newest (let whole = length-append xs (x ∷ []) in omega arith) ∙ ap (λ l. l ++ x ∷ []) (sym (remove-past xs newest (omega arith))))
          ] refl)
    ] refl

-- one more turn
pub turned-more : (items : List Work) (newest i : ℕ) → i < length items → turned (not (eqb i newest)) (turned_without items newest i) ≡ turned_without items newest (i + 1)
turned-more items newest i within =
    let at = at_within items i within in
    let front = drop-one items i at.0 at.1 in
    let more = take-more items i at.0 at.1 in
    ap (λ l. turned (not (eqb i newest)) (l ++ remove (take i items) newest)) front
    ∙ append_assoc (drop (i + 1) items) (remove (take i items) newest) (cond (not (eqb i newest)) (at.0 ∷ []) [])
    ∙ ap (λ l. drop (i + 1) items ++ l) (sym (kept_or_gone (take i items) i newest at.0 (taken_length items i (omega arith))) ∙ ap (λ l. remove l newest) (sym more))

-- after as many turns as there are items
pub drop-all : (xs : List Work) → drop (length xs) xs ≡ []
drop-all [] = refl
drop-all (x ∷ xs) = drop-all xs

pub take-all : (xs : List Work) → take (length xs) xs ≡ xs
take-all [] = refl
take-all (x ∷ xs) = ap (λ l. x ∷ l) (take-all xs)

pub all_turned : (items : List Work) (newest : ℕ) → turned_without items newest (length items) ≡ remove items newest
all_turned items newest = ap (λ l. l ++ remove (take (length items) items) newest) (drop-all items) ∙ ap (λ l. remove l newest) (take-all items)

-- What the queue keeps to.

pub IsQueue-without_last : (owner : ℕ) (items : List Work) (capacity : ℕ) → IsQueue items capacity → IsQueue (without_last (is_owned owner) items) capacity
IsQueue-without_last owner items capacity queue = record {
  in_range = list_any-without_last (is_owned owner) is_astray items queue.in_range;
  few = λ o. (let fewer = count_by-without_last (is_owned owner) (is_owned o) items in let few = queue.few o in omega arith);
  room = queue.room;
}

counts_none : (b : Bool) → b ≡ false → cond {A = ℕ} b 1 0 ≡ 0
counts_none b h = ap (λ x. cond {A = ℕ} x 1 0) h

-- one more of an owner that has fewer than 64
one_more_each : (work : Work) (items : List Work) (owner : ℕ) → count_by (is_owned owner) items ≤ 64 → count_by (is_owned work.owner) items < 64 →
    count_by (is_owned owner) items + cond {A = ℕ} (is_owned owner work) 1 0 ≤ 64
one_more_each work items owner few below =
    elim (is_owned owner work) as (λ b. is_owned owner work ≡ b → count_by (is_owned owner) items + cond {A = ℕ} b 1 0 ≤ 64) [
      | false ↦ λ other. omega arith
      | true ↦ λ own. (
          let same : work.owner ≡ owner = grind (arith, nat_tests) in
          let here : count_by (is_owned owner) items < 64 = subst (λ o. count_by (is_owned o) items < 64) same below in
          omega arith)
    ] refl

pub IsQueue-push : (work : Work) (items : List Work) (capacity : ℕ) → IsQueue items capacity → 0 < work.owner → work.owner ≤ 4 → count_by (is_owned work.owner) items < 64 →
    IsQueue (items ++ work ∷ []) capacity
IsQueue-push work items capacity queue some few below = record {
  in_range = (
      let here : is_astray work ≡ false = grind (arith, nat_tests) in
      let all = list_any-append is_astray items (work ∷ []) in
      let rest = queue.in_range in
      grind arith);
  few = λ o. (
      let all = count_by-append (is_owned o) items (work ∷ []) in
      let one = count_by-cons (is_owned o) work [] in
      let more = one_more_each work items o (queue.few o) below in
      let whole : count_by (is_owned o) (items ++ work ∷ []) ≡ count_by (is_owned o) items + cond {A = ℕ} (is_owned o work) 1 0 = omega arith in
      rw whole more);
  room = queue.room;
}

-- an owner from 1 to 4 by its place among the drivers
abbrev place_of : Work → ℕ
place_of work = work.owner - 1

placed : (items : List Work) → list_any is_astray items ≡ false → list_any (λ work. ltb 4 (place_of work + 1)) items ≡ false
placed [] h = refl
placed (x ∷ xs) h = grind (arith, nat_tests, placed xs)

counted_at : (items : List Work) (k : ℕ) → list_any is_astray items ≡ false → count_by (λ work. eqb (place_of work) k) items ≡ count_by (is_owned (k + 1)) items
counted_at [] k h = refl
counted_at (x ∷ xs) k h =
    let same : eqb (place_of x) k ≡ is_owned (k + 1) x = grind (arith, nat_tests) in
    grind (arith, same, count_by-cons (λ work. eqb (place_of work) k) x xs, count_by-cons (is_owned (k + 1)) x xs, counted_at xs k)

-- where an owner has fewer than 64, there is room for one more
pub room_for : (work : Work) (items : List Work) (capacity : ℕ) → IsQueue items capacity → 0 < work.owner → work.owner ≤ 4 → count_by (is_owned work.owner) items < 64 → length items < capacity
room_for work items capacity queue some few below =
    let pushed = IsQueue-push work items capacity queue some few below in
    let all = count_below-all place_of 4 (items ++ work ∷ []) (placed (items ++ work ∷ []) pushed.in_range) in
    let each = count_below-le place_of 64 4 (items ++ work ∷ []) (λ k h. (let at = counted_at (items ++ work ∷ []) k pushed.in_range in let one = pushed.few (k + 1) in omega arith)) in
    let whole = length-append items (work ∷ []) in
    let room = queue.room in
    omega arith

pub IsQueue-pop : (items : List Work) (capacity : ℕ) → IsQueue items capacity → IsQueue (drop 1 items) capacity
IsQueue-pop [] capacity queue = queue
IsQueue-pop (x ∷ xs) capacity queue = record {
  in_range = (let all = queue.in_range in grind arith);
  few = λ o. (let more = count_by-cons (is_owned o) x xs in let few = queue.few o in omega arith);
  room = queue.room;
}

-- one item further to the front, which is not the owner's
pub not_owned-drop : (owner : ℕ) (items : List Work) (i place : ℕ) (x : Work) → slice_get items i ≡ Some x → is_owned owner x ≡ false → i + 1 ≡ place →
    list_any (is_owned owner) (drop place items) ≡ false → list_any (is_owned owner) (drop i items) ≡ false
not_owned-drop owner items i place x at other next later =
    let rest : list_any (is_owned owner) (drop (i + 1) items) ≡ false = subst (λ n. list_any (is_owned owner) (drop n items) ≡ false) (sym next) later in
    ap (list_any (is_owned owner)) (drop-one items i x at) ∙ (let here = other in grind arith)

-- The queue after i turns, as the loops have it.

pub without-turned : (b new : Buffer Work) (items : List Work) (capacity newest i : ℕ) → b ≡ buffer (turned_without items newest i) capacity → i < length items →
    new ≡ buffer (turned (not (eqb i newest)) b.items) b.capacity → new ≡ buffer (turned_without items newest (i + 1)) capacity
without-turned b new items capacity newest i is within next =
    next ∙ ap (λ (q : Buffer Work). buffer (turned (not (eqb i newest)) q.items) q.capacity) is ∙ ap (λ (l : List Work). buffer l capacity) (turned-more items newest i within)

-- the item at a place, as a search answers it
own_at : (items : List Work) (i : ℕ) (owner : ℕ) (at : Option Work) → slice_get items i ≡ at → MatchOption at (true ≡ false) (λ work. is_owned owner work ≡ true) →
    (work : Work) × (i < length items) × (is_owned owner (get_or items i work) ≡ true)
own_at items i owner None is h = cc
own_at items i owner (Some work) is h =
    (work, slice_get_within items i work is, ap (is_owned owner) (get_or_from_slice_get items i work work is) ∙ h)

pub without_newest : (owner : ℕ) (items v : List Work) (newest : ℕ) → items ≡ v → list_any (is_owned owner) (drop (suc newest) v) ≡ false →
    MatchOption (slice_get v newest) (true ≡ false) (λ work. is_owned owner work ≡ true) → remove items newest ≡ without_last (is_owned owner) items
without_newest owner items v newest view later own =
    let later_here : list_any (is_owned owner) (drop (suc newest) items) ≡ false = subst (λ (w : List Work). list_any (is_owned owner) (drop (suc newest) w) ≡ false) (sym view) later in
    let at = own_at items newest owner (slice_get v newest) (ap (λ (w : List Work). slice_get w newest) view) own in
    remove_last (is_owned owner) items newest at.0 at.1 at.2 later_here

pub newest_gone : (owner : ℕ) (items v : List Work) (b : Buffer Work) (capacity newest i : ℕ) → items ≡ v → b ≡ buffer (turned_without items newest i) capacity → i ≡ length items →
    list_any (is_owned owner) (drop (suc newest) v) ≡ false → MatchOption (slice_get v newest) (true ≡ false) (λ work. is_owned owner work ≡ true) →
    b ≡ buffer (without_last (is_owned owner) items) capacity
newest_gone owner items v b capacity newest i view is all later own =
    is ∙ ap (λ (n : ℕ). buffer (turned_without items newest n) capacity) all
    ∙ ap (λ (l : List Work). buffer l capacity) (all_turned items newest ∙ without_newest owner items v newest view later own)
