-- In a lawful history an owner has each key of a single kind at most once, and a lock has at most one holder.
use Rattle.std.proofs.Common.{◌≡◌, ℕ, ◌+◌, ◌≤◌, Bool, true, false, cond, ◌&&◌, eqb, List, [], ◌∷◌, ℤ, Option, Some, None, refl, ap, sym, ◌∙◌, subst, arith}
use Rattle.std.proofs.lemmas.Bool.Decides.{nat_tests, Decides-int_eq}
use Rattle.std.proofs.lemmas.Int.{ints}
use Rattle.std.specs.List.{list_any, find, count_by}
use Rattle.std.specs.Ordering.{int_eq}
use Rattle.sd_base.specs.declared.history.Update.{Update}
use Rattle.sd_base.specs.declared.history.Update.TheVariants.{Line, Ports, Device, Lock, Mask}
use Rattle.sd_base.specs.Selection.{without_first}
use Rattle.sd_base.specs.History.{Entry, History, Resource, OfBlocks, OfFrees, OfLines, OfPorts, OfDevices, OfParams, OfTimers, OfLocks, OfHolds, OfWork, OfMasks, OfClock, OfNothing, place_of, same_resource, Key, same_key, ports_key, device_key, lock_key, entry, has_key, is_of, Role, Begins, Replaces, Ends, EndsOldest, Passes, key_by_role, key_of, role_of, live_key, after_role, live_of, clock_of}
use Rattle.sd_base.specs.Allowed.{overlaps, meets, is_range, is_lock, held_by, refusal_on, IsLawful}
use Rattle.sd_base.specs.Sound.{is_single}
use Rattle.sd_base.proofs.Counting.{count_by-cons}
use Rattle.sd_base.proofs.Removal.{list_any-wider, count_by-without_first, count_by-without_last}

-- where none passes, the count is 0, and the other way round
pub count_by-none : {X : Type 0} (p : X → Bool) (xs : List X) → list_any p xs ≡ false → count_by p xs ≡ 0
count_by-none p [] h = refl
count_by-none p (x ∷ xs) h = grind (arith, count_by-cons p x xs, count_by-none p xs)

pub count_by-some : {X : Type 0} (p : X → Bool) (xs : List X) → list_any p xs ≡ true → 1 ≤ count_by p xs
count_by-some p [] h = cc
count_by-some p (x ∷ xs) h = grind (arith, count_by-cons p x xs, count_by-some p xs)

-- where one passes, the first that does is one fewer
pub count_by-without_first_one : {X : Type 0} (p : X → Bool) (xs : List X) → count_by p xs ≤ 1 → count_by p (without_first p xs) ≡ 0
count_by-without_first_one p [] h = refl
count_by-without_first_one p (x ∷ xs) h =
    elim (p x) as (λ b. p x ≡ b → count_by p (cond b xs (x ∷ without_first p xs)) ≡ 0) [
      | true ↦ λ is. (let more : cond (p x) 1 0 + count_by p xs ≤ 1 = subst (λ n. n ≤ 1) (count_by-cons p x xs) h in grind arith)
      | false ↦ λ is. grind (arith, count_by-cons p x xs, count_by-cons p x (without_first p xs), count_by-without_first_one p xs)
    ] refl

-- a kind by its place
resource_at : ℕ → Resource
resource_at n =
    cond (eqb n 0) OfBlocks (cond (eqb n 1) OfFrees (cond (eqb n 2) OfLines (cond (eqb n 3) OfPorts (cond (eqb n 4) OfDevices
    (cond (eqb n 5) OfParams (cond (eqb n 6) OfTimers (cond (eqb n 7) OfLocks (cond (eqb n 8) OfHolds (cond (eqb n 9) OfWork
    (cond (eqb n 10) OfMasks (cond (eqb n 11) OfClock OfNothing)))))))))))

resource_at-place_of : (r : Resource) → resource_at (place_of r) ≡ r
unfolding resource_at
resource_at-place_of OfBlocks = refl
resource_at-place_of OfFrees = refl
resource_at-place_of OfLines = refl
resource_at-place_of OfPorts = refl
resource_at-place_of OfDevices = refl
resource_at-place_of OfParams = refl
resource_at-place_of OfTimers = refl
resource_at-place_of OfLocks = refl
resource_at-place_of OfHolds = refl
resource_at-place_of OfWork = refl
resource_at-place_of OfMasks = refl
resource_at-place_of OfClock = refl
resource_at-place_of OfNothing = refl

-- two kinds that compare equal are one
pub same_resource-is : (a b : Resource) → same_resource a b ≡ true → a ≡ b
same_resource-is a b h =
    let same : place_of a ≡ place_of b = grind (arith, nat_tests) in
    sym (resource_at-place_of a) ∙ ap resource_at same ∙ resource_at-place_of b

abbrev key_with : Resource → ℕ → ℤ → ℤ → Key
key_with r t n c = record { resource = r; task = t; number = n; count = c }

key_is : (a b : Key) → a.resource ≡ b.resource → a.task ≡ b.task → a.number ≡ b.number → a.count ≡ b.count → a ≡ b
key_is a b r t n c =
    ap (λ x. key_with x a.task a.number a.count) r ∙ ap (λ x. key_with b.resource x a.number a.count) t
    ∙ ap (λ x. key_with b.resource b.task x a.count) n ∙ ap (λ x. key_with b.resource b.task b.number x) c

-- two keys that compare equal are one
pub same_key-is : (a b : Key) → same_key a b ≡ true → a ≡ b
same_key-is a b h =
    let r : same_resource a.resource b.resource ≡ true = grind arith in
    let t : a.task ≡ b.task = grind (arith, nat_tests) in
    let n : int_eq a.number b.number ≡ true = grind arith in
    let c : int_eq a.count b.count ≡ true = grind arith in
    key_is a b (same_resource-is a.resource b.resource r) t ((Decides-int_eq a.number b.number).0 n) ((Decides-int_eq a.count b.count).0 c)

list_any-find_none : {X : Type 0} (p : X → Bool) (xs : List X) → find p xs ≡ None → list_any p xs ≡ false
list_any-find_none p [] h = refl
list_any-find_none p (x ∷ xs) h = grind (arith, list_any-find_none p xs)

held_by-none : (o : Option Entry) → held_by o ≡ None → o ≡ None
held_by-none None h = refl
held_by-none (Some e) h = cc

pub within_line : (owner : ℕ) (key : Key) (x : Entry) → is_of owner key x ≡ true → has_key key x ≡ true
within_line owner key x h = grind arith

overlaps_itself : (base n : ℤ) → is_range base n ≡ true → overlaps base n base n ≡ true
overlaps_itself base n h = grind (arith, ints)

meets_itself : (owner : ℕ) (base n : ℤ) → is_range base n ≡ true → (x : Entry) → is_of owner (ports_key base n) x ≡ true → meets base n x ≡ true
meets_itself owner base n fits x h =
    let same : live_key x.update ≡ ports_key base n = same_key-is (live_key x.update) (ports_key base n) (grind arith) in
    subst (λ k. (same_resource k.resource OfPorts && overlaps k.number k.count base n) ≡ true) (sym same) (overlaps_itself base n fits)

holds_lock : (owner task : ℕ) (lock : ℤ) (x : Entry) → is_of owner (lock_key lock task) x ≡ true → is_lock lock x ≡ true
holds_lock owner task lock x h = grind arith

-- what is accepted and begins has no other of its owner and its key beside it, where the kind is single
alone : (share : ℕ) (live : List Entry) (clock owner : ℕ) (u : Update) → is_single (key_of u).resource ≡ true → role_of u ≡ Begins → refusal_on share live clock owner u ≡ None →
    list_any (is_of owner (key_of u)) live ≡ false
alone share live clock owner (Line line handler) s r h = grind arith
alone share live clock owner (Ports base n) s r h =
    list_any-wider (meets base n) (is_of owner (ports_key base n)) (meets_itself owner base n (grind arith)) live (grind arith)
alone share live clock owner (Device id) s r h =
    list_any-wider (has_key (device_key id)) (is_of owner (device_key id)) (within_line owner (device_key id)) live (grind arith)
alone share live clock owner (Lock lock task) s r h =
    list_any-wider (is_lock lock) (is_of owner (lock_key lock task)) (holds_lock owner task lock) live
    (list_any-find_none (is_lock lock) live (held_by-none (find (is_lock lock) live) (grind arith)))
alone share live clock owner (Mask task) s r h = grind arith
alone share live clock owner _ s r h = cc

-- at most one, after an entry that is alone where it begins
one_after : (r : Role) (e : Entry) (live : List Entry) (owner : ℕ) (key : Key) → live_key e.update ≡ key_by_role r (key_of e.update) →
    (r ≡ Begins → is_single (key_of e.update).resource ≡ true → list_any (is_of e.owner (key_of e.update)) live ≡ false) →
    is_single key.resource ≡ true → count_by (is_of owner key) live ≤ 1 → count_by (is_of owner key) (after_role r e live) ≤ 1
one_after Begins e live owner key is first single few =
    elim (is_of owner key e) as (λ b. is_of owner key e ≡ b → count_by (is_of owner key) (e ∷ live) ≤ 1) [
      | true ↦ λ here.
          let same : key_of e.update ≡ key = sym is ∙ same_key-is (live_key e.update) key (grind arith) in
          let by : e.owner ≡ owner = grind (arith, nat_tests) in
          let none : list_any (is_of e.owner (key_of e.update)) live ≡ false = first refl (ap (λ k. is_single k.resource) same ∙ single) in
          let here_none : list_any (is_of owner key) live ≡ false = subst (λ o. list_any (is_of o key) live ≡ false) by (subst (λ k. list_any (is_of e.owner k) live ≡ false) same none) in
          grind (arith, count_by-cons (is_of owner key) e live, count_by-none (is_of owner key) live here_none)
      | false ↦ λ here. grind (arith, count_by-cons (is_of owner key) e live)
    ] refl
one_after Replaces e live owner key is first single few =
    elim (is_of owner key e) as (λ b. is_of owner key e ≡ b → count_by (is_of owner key) (e ∷ without_first (is_of e.owner (key_of e.update)) live) ≤ 1) [
      | true ↦ λ here.
          let same : key_of e.update ≡ key = sym is ∙ same_key-is (live_key e.update) key (grind arith) in
          let by : e.owner ≡ owner = grind (arith, nat_tests) in
          let gone : count_by (is_of owner key) (without_first (is_of e.owner (key_of e.update)) live) ≡ 0 =
          subst (λ k. count_by (is_of owner key) (without_first (is_of e.owner k) live) ≡ 0) (sym same)
          (subst (λ o. count_by (is_of owner key) (without_first (is_of o key) live) ≡ 0) (sym by) (count_by-without_first_one (is_of owner key) live few)) in
          grind (arith, count_by-cons (is_of owner key) e (without_first (is_of e.owner (key_of e.update)) live))
      | false ↦ λ here.
          grind (arith, count_by-cons (is_of owner key) e (without_first (is_of e.owner (key_of e.update)) live), count_by-without_first (is_of e.owner (key_of e.update)) (is_of owner key) live)
    ] refl
one_after Ends e live owner key is first single few = omega (arith, count_by-without_first (is_of e.owner (key_of e.update)) (is_of owner key) live)
one_after EndsOldest e live owner key is first single few = omega (arith, count_by-without_last (is_of e.owner (key_of e.update)) (is_of owner key) live)
one_after Passes e live owner key is first single few = few

-- in a lawful history an owner has each key of a single kind at most once
pub one_each : (share : ℕ) (h : History) → IsLawful share h → (owner : ℕ) (key : Key) → is_single key.resource ≡ true → count_by (is_of owner key) (live_of h) ≤ 1
one_each share [] l owner key single = omega arith
one_each share (e ∷ h) l owner key single =
    one_after (role_of e.update) e (live_of h) owner key refl (λ r s. alone share (live_of h) (clock_of h) e.owner e.update s r l.0) single (one_each share h l.1 owner key single)

-- what is accepted and holds a lock has no other holder of it beside it
lock_alone : (share : ℕ) (live : List Entry) (clock owner : ℕ) (u : Update) (lock : ℤ) → refusal_on share live clock owner u ≡ None → is_lock lock (entry owner u) ≡ true →
    list_any (is_lock lock) live ≡ false
lock_alone share live clock owner (Lock k task) lock h here =
    let same : k ≡ lock = (Decides-int_eq k lock).0 (grind arith) in
    subst (λ n. list_any (is_lock n) live ≡ false) same (list_any-find_none (is_lock k) live (held_by-none (find (is_lock k) live) (grind arith)))
lock_alone share live clock owner _ lock h here = cc

lock_after : (r : Role) (e : Entry) (live : List Entry) (lock : ℤ) → (is_lock lock e ≡ true → list_any (is_lock lock) live ≡ false) →
    count_by (is_lock lock) live ≤ 1 → count_by (is_lock lock) (after_role r e live) ≤ 1
lock_after Begins e live lock first few =
    elim (is_lock lock e) as (λ b. is_lock lock e ≡ b → count_by (is_lock lock) (e ∷ live) ≤ 1) [
      | true ↦ λ here. grind (arith, count_by-cons (is_lock lock) e live, count_by-none (is_lock lock) live (first here))
      | false ↦ λ here. grind (arith, count_by-cons (is_lock lock) e live)
    ] refl
lock_after Replaces e live lock first few =
    let fewer : count_by (is_lock lock) (without_first (is_of e.owner (key_of e.update)) live) ≤ count_by (is_lock lock) live = count_by-without_first (is_of e.owner (key_of e.update)) (is_lock lock) live in
    elim (is_lock lock e) as (λ b. is_lock lock e ≡ b → count_by (is_lock lock) (e ∷ without_first (is_of e.owner (key_of e.update)) live) ≤ 1) [
      | true ↦ λ here. grind (arith, count_by-cons (is_lock lock) e (without_first (is_of e.owner (key_of e.update)) live), count_by-none (is_lock lock) live (first here))
      | false ↦ λ here. grind (arith, count_by-cons (is_lock lock) e (without_first (is_of e.owner (key_of e.update)) live))
    ] refl
lock_after Ends e live lock first few = omega (arith, count_by-without_first (is_of e.owner (key_of e.update)) (is_lock lock) live)
lock_after EndsOldest e live lock first few = omega (arith, count_by-without_last (is_of e.owner (key_of e.update)) (is_lock lock) live)
lock_after Passes e live lock first few = few

-- in a lawful history a lock has at most one holder
pub one_holder : (share : ℕ) (h : History) → IsLawful share h → (lock : ℤ) → count_by (is_lock lock) (live_of h) ≤ 1
one_holder share [] l lock = omega arith
one_holder share (e ∷ h) l lock =
    lock_after (role_of e.update) e (live_of h) lock (lock_alone share (live_of h) (clock_of h) e.owner e.update lock l.0) (one_holder share h l.1 lock)
