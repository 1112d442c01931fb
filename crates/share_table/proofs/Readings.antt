-- What the reading calls say of a history: whether any mask is held, whether an activity holds a lock, a domain's holds in all.
use Rattle.std.proofs.Common.{◌≡◌, ℕ, zero, suc, length, ◌+◌, ◌*◌, ◌/◌, ◌%◌, ◌<◌, ◌≤◌, Bool, true, false, cond, ◌&&◌, eqb, ltb, List, [], ◌∷◌, ℤ, pos, negsuc, Option, Some, None, refl, ap, sym, ◌∙◌, arith, get_or}
use Rattle.std.proofs.lemmas.Bool.Decides.{nat_tests}
use Rattle.std.proofs.lemmas.Int.{ints}
use Rattle.std.specs.Prelude.{count_by}
use Rattle.std.specs.List.{list_any, find}
use Rattle.sd_base.specs.declared.actors.Who.{Who}
use Rattle.sd_base.specs.declared.history.Update.{Update}
use Rattle.sd_base.specs.declared.history.Update.TheVariants.{Lock, Mask}
use Rattle.sd_base.specs.Selection.{passes}
use Rattle.sd_base.specs.History.{Entry, live_key, hold_key, mask_key, lock_key, entry, has_key, is_of}
use Rattle.sd_base.specs.Allowed.{is_lock}
use Rattle.sd_base.proofs.Counting.{count_by-cons}
use Rattle.sd_base.specs.Sound.{IsSound}
use Rattle.share_table.proofs.OtherKinds.{list_any-found_none}
use Rattle.share_table.proofs.Locked.{lock_of, holds-it}
use Rattle.share_table.specs.Masks.{mask_at, HoldsMasks, any_held, is_mask}
use Rattle.share_table.specs.Locks.{lock_at, holder_of, HoldsLocks, has_holder, is_who, takes_lock}
use Rattle.share_table.specs.Holds.{holds_at, HoldsHolds, held_by_all}

-- Masks.

-- what is true at a place is true of some place
any-at : (masks : List Bool) (place : ℕ) → get_or masks place false ≡ true → any_held masks ≡ true
any-at [] place h = cc
any-at (x ∷ xs) zero h = grind arith
any-at (x ∷ xs) (suc place) h = grind (arith, any-at xs place h)

some-place : (masks : List Bool) → any_held masks ≡ true → (place : ℕ) × (get_or masks place false ≡ true)
some-place [] h = cc
some-place (true ∷ xs) h = (0, refl)
some-place (false ∷ xs) h = (let rest = some-place xs h in (suc rest.0, rest.1))

within_masks : (owner task : ℕ) (e : Entry) → is_of owner (mask_key task) e ≡ true → is_mask e ≡ true
within_masks owner task e h = grind arith

some-mask_of : (by : ℕ) (u : Update) → is_mask (entry by u) ≡ true → (task : ℕ) × (is_of by (mask_key task) (entry by u) ≡ true)
some-mask_of by (Mask task) h = (task, grind (arith, nat_tests))
some-mask_of by _ h = cc

some-mask : (live : List Entry) → list_any is_mask live ≡ true → (owner : ℕ) × ((task : ℕ) × (list_any (is_of owner (mask_key task)) live ≡ true))
some-mask [] h = cc
some-mask (e ∷ live) h =
    elim (is_mask e) as (λ b. is_mask e ≡ b → (owner : ℕ) × ((task : ℕ) × (list_any (is_of owner (mask_key task)) (e ∷ live) ≡ true))) [
      | true ↦ λ is. (let own = some-mask_of e.owner e.update is in (e.owner, (own.0, (let here = own.1 in grind arith))))
      | false ↦ λ is. (let rest = some-mask live (grind arith) in (rest.0, (rest.1.0, (let there = rest.1.1 in grind arith))))
    ] refl

mask_at-place : (masks : List Bool) (place : ℕ) → mask_at masks (place / 9) (place % 9) ≡ get_or masks place false
mask_at-place masks place =
    let fits : ltb (place % 9) 9 ≡ true = (let below : place % 9 < 9 = omega arith in grind (arith, nat_tests)) in
    let whole : place / 9 * 9 + place % 9 ≡ place = omega arith in
    ap (λ b. cond b (get_or masks (place / 9 * 9 + place % 9) false) false) fits ∙ ap (λ n. get_or masks n false) whole

mask_at-some : (masks : List Bool) (owner task : ℕ) → mask_at masks owner task ≡ true → get_or masks (owner * 9 + task) false ≡ true
mask_at-some masks owner task h =
    elim (ltb task 9) as (λ b. cond b (get_or masks (owner * 9 + task) false) false ≡ true → get_or masks (owner * 9 + task) false ≡ true) [
      | true ↦ λ k. k
      | false ↦ λ k. cc
    ] h

list_any-narrower : (p q : Entry → Bool) → ((x : Entry) → p x ≡ true → q x ≡ true) → (xs : List Entry) → list_any p xs ≡ true → list_any q xs ≡ true
list_any-narrower p q within [] h = cc
list_any-narrower p q within (x ∷ xs) h = grind (arith, within x, list_any-narrower p q within xs)

pub masked-is : (masks : List Bool) (live : List Entry) → HoldsMasks masks live → any_held masks ≡ list_any is_mask live
masked-is masks live holds =
    elim (any_held masks) as (λ b. any_held masks ≡ b → b ≡ list_any is_mask live) [
      | true ↦ λ is. (
          let at = some-place masks is in
          let held = sym (holds (at.0 / 9) (at.0 % 9)) ∙ mask_at-place masks at.0 ∙ at.1 in
          sym (list_any-narrower (is_of (at.0 / 9) (mask_key (at.0 % 9))) is_mask (within_masks (at.0 / 9) (at.0 % 9)) live held))
      | false ↦ λ is.
          elim (list_any is_mask live) as (λ m. list_any is_mask live ≡ m → false ≡ m) [
            | true ↦ λ some. (
                let at = some-mask live some in
                let held = any-at masks (at.0 * 9 + at.1.0) (mask_at-some masks at.0 at.1.0 (holds at.0 at.1.0 ∙ at.1.1)) in
                sym is ∙ held)
            | false ↦ λ none. refl
          ] refl
    ] refl

-- Locks.

has-at : (who : Who) (locks : List (Option Who)) (place : ℕ) → passes (is_who who) (get_or locks place None) ≡ true → has_holder who locks ≡ true
has-at who [] place h = cc
has-at who (x ∷ xs) zero h = grind arith
has-at who (x ∷ xs) (suc place) h = grind (arith, has-at who xs place h)

some-held : (who : Who) (locks : List (Option Who)) → has_holder who locks ≡ true → (place : ℕ) × (passes (is_who who) (get_or locks place None) ≡ true)
some-held who [] h = cc
some-held who (x ∷ xs) h =
    elim (passes (is_who who) x) as (λ b. passes (is_who who) x ≡ b → (place : ℕ) × (passes (is_who who) (get_or (x ∷ xs) place None) ≡ true)) [
      | true ↦ λ is. (0, is)
      | false ↦ λ is. (let rest = some-held who xs (grind arith) in (suc rest.0, rest.1))
    ] refl

taker_of : (who : Who) (lock : ℤ) (by : ℕ) (u : Update) → is_lock lock (entry by u) ≡ true → is_who who (record { owner = by; task = (live_key u).task }) ≡ true → takes_lock who (entry by u) ≡ true
taker_of who lock by (Lock l t) h k = grind arith
taker_of who lock by _ h k = cc

found-taker : (who : Who) (lock : ℤ) (live : List Entry) → passes (is_who who) (holder_of (find (is_lock lock) live)) ≡ true → list_any (takes_lock who) live ≡ true
found-taker who lock [] h = cc
found-taker who lock (e ∷ live) h =
    elim (is_lock lock e) as (λ b. is_lock lock e ≡ b → passes (is_who who) (holder_of (cond b (Some e) (find (is_lock lock) live))) ≡ true → list_any (takes_lock who) (e ∷ live) ≡ true) [
      | true ↦ λ is own. (let here = taker_of who lock e.owner e.update is own in grind arith)
      | false ↦ λ is own. (let rest = found-taker who lock live own in grind arith)
    ] refl h

no_holder : (o : Option Entry) → holder_of o ≡ None → o ≡ None
no_holder None h = refl
no_holder (Some e) h = cc

some-taker_of : (who : Who) (by : ℕ) (u : Update) → takes_lock who (entry by u) ≡ true → (lock : ℤ) × (is_of who.owner (lock_key lock who.task) (entry by u) ≡ true)
some-taker_of who by (Lock lock task) h = (lock, grind (arith, nat_tests, ints))
some-taker_of who by _ h = cc

some-taker : (who : Who) (live : List Entry) → list_any (takes_lock who) live ≡ true → (lock : ℤ) × (list_any (is_of who.owner (lock_key lock who.task)) live ≡ true)
some-taker who [] h = cc
some-taker who (e ∷ live) h =
    elim (takes_lock who e) as (λ b. takes_lock who e ≡ b → (lock : ℤ) × (list_any (is_of who.owner (lock_key lock who.task)) (e ∷ live) ≡ true)) [
      | true ↦ λ is. (let own = some-taker_of who e.owner e.update is in (own.0, (let here = own.1 in grind arith)))
      | false ↦ λ is. (let rest = some-taker who live (grind arith) in (rest.0, (let there = rest.1 in grind arith)))
    ] refl

-- the activity has a live entry of the lock exactly where the table has it there
holds-any : (who : Who) (locks : List (Option Who)) (lock : ℤ) (live : List Entry) → IsSound live → HoldsLocks locks live →
    list_any (is_of who.owner (lock_key lock who.task)) live ≡ passes (is_who who) (lock_at locks lock)
holds-any who locks (pos k) live sound holds = holds-it locks who.owner who.task k live sound holds
holds-any who locks (negsuc k) live sound holds =
    list_any-found_none (is_lock (negsuc k)) (is_of who.owner (lock_key (negsuc k) who.task)) (λ x h. lock_of who.owner who.task (negsuc k) x h) live
    (no_holder (find (is_lock (negsuc k)) live) (sym (holds (negsuc k))))

-- a held number is no negative one
held-place : (who : Who) (locks : List (Option Who)) (lock : ℤ) → passes (is_who who) (lock_at locks lock) ≡ true → has_holder who locks ≡ true
held-place who locks (pos k) h = has-at who locks k h
held-place who locks (negsuc k) h = cc

pub held-is : (who : Who) (locks : List (Option Who)) (live : List Entry) → IsSound live → HoldsLocks locks live → has_holder who locks ≡ list_any (takes_lock who) live
held-is who locks live sound holds =
    elim (has_holder who locks) as (λ b. has_holder who locks ≡ b → b ≡ list_any (takes_lock who) live) [
      | true ↦ λ is. (
          let at = some-held who locks is in
          sym (found-taker who (pos at.0) live (ap (passes (is_who who)) (sym (holds (pos at.0))) ∙ at.1)))
      | false ↦ λ is.
          elim (list_any (takes_lock who) live) as (λ m. list_any (takes_lock who) live ≡ m → false ≡ m) [
            | true ↦ λ some. (let at = some-taker who live some in sym is ∙ held-place who locks at.0 (sym (holds-any who locks at.0 live sound holds) ∙ at.1))
            | false ↦ λ none. refl
          ] refl
    ] refl

-- Holds.

past_end : (xs : List ℕ) (k d : ℕ) → length xs ≤ k → get_or xs k d ≡ d
past_end [] k d h = refl
past_end (x ∷ xs) zero d h = absurd (omega arith)
past_end (x ∷ xs) (suc k) d h = past_end xs k d (omega arith)

one_owner : (b : Bool) (owner : ℕ) → (5 ≤ owner → cond {A = ℕ} (b && eqb owner owner) 1 0 ≡ 0) →
    cond {A = ℕ} b 1 0 ≡ cond {A = ℕ} (b && eqb owner 0) 1 0 + cond {A = ℕ} (b && eqb owner 1) 1 0 + cond {A = ℕ} (b && eqb owner 2) 1 0 + cond {A = ℕ} (b && eqb owner 3) 1 0 + cond {A = ℕ} (b && eqb owner 4) 1 0
one_owner false owner past = refl
one_owner true owner past = grind (arith, nat_tests)

-- an entry is one owner's of five, or none's
one_of_five : (domain : ℤ) (e : Entry) → (5 ≤ e.owner → cond {A = ℕ} (is_of e.owner (hold_key domain) e) 1 0 ≡ 0) →
    cond {A = ℕ} (has_key (hold_key domain) e) 1 0
    ≡ cond {A = ℕ} (is_of 0 (hold_key domain) e) 1 0 + cond {A = ℕ} (is_of 1 (hold_key domain) e) 1 0 + cond {A = ℕ} (is_of 2 (hold_key domain) e) 1 0 + cond {A = ℕ} (is_of 3 (hold_key domain) e) 1 0 + cond {A = ℕ} (is_of 4 (hold_key domain) e) 1 0
one_of_five domain e past = one_owner (has_key (hold_key domain) e) e.owner past

none_past : (counts : List ℕ) (owner : ℕ) (domain : ℤ) → length counts ≡ 320 → 5 ≤ owner → holds_at counts owner domain ≡ 0
none_past counts owner (negsuc k) long past = refl
none_past counts owner (pos k) long past =
    elim (ltb k 64) as (λ b. (let n : ℕ = cond b (get_or counts (owner * 64 + k) 0) 0 in n) ≡ 0) [
      | true ↦ past_end counts (owner * 64 + k) 0 (omega arith)
      | false ↦ refl
    ]

domain_sum : (domain : ℤ) (live : List Entry) → ((owner : ℕ) → 5 ≤ owner → count_by (is_of owner (hold_key domain)) live ≡ 0) →
    count_by (has_key (hold_key domain)) live
    ≡ count_by (is_of 0 (hold_key domain)) live + count_by (is_of 1 (hold_key domain)) live + count_by (is_of 2 (hold_key domain)) live + count_by (is_of 3 (hold_key domain)) live + count_by (is_of 4 (hold_key domain)) live
domain_sum domain [] few = refl
domain_sum domain (e ∷ live) few =
    let rest = domain_sum domain live (λ owner h. (let more = count_by-cons (is_of owner (hold_key domain)) e live in let none = few owner h in omega arith)) in
    let all = count_by-cons (has_key (hold_key domain)) e live in
    let a = count_by-cons (is_of 0 (hold_key domain)) e live in
    let b = count_by-cons (is_of 1 (hold_key domain)) e live in
    let c = count_by-cons (is_of 2 (hold_key domain)) e live in
    let d = count_by-cons (is_of 3 (hold_key domain)) e live in
    let f = count_by-cons (is_of 4 (hold_key domain)) e live in
    let one = one_of_five domain e (λ h. (let more = count_by-cons (is_of e.owner (hold_key domain)) e live in let none = few e.owner h in omega arith)) in
    omega arith

past_five : (counts : List ℕ) (live : List Entry) (owner : ℕ) (domain : ℤ) → length counts ≡ 320 → HoldsHolds counts live → 5 ≤ owner → count_by (is_of owner (hold_key domain)) live ≡ 0
past_five counts live owner domain long holds past = sym (holds owner domain) ∙ none_past counts owner domain long past

pub domain-is : (counts : List ℕ) (live : List Entry) (domain : ℤ) → length counts ≡ 320 → HoldsHolds counts live → held_by_all counts domain ≡ count_by (has_key (hold_key domain)) live
domain-is counts live domain long holds =
    let whole = domain_sum domain live (λ owner past. past_five counts live owner domain long holds past) in
    let a = holds 0 domain in
    let b = holds 1 domain in
    let c = holds 2 domain in
    let d = holds 3 domain in
    let f = holds 4 domain in
    omega arith
