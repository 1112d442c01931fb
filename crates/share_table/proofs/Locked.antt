-- The locks of a history, at each number.
use Rattle.std.proofs.Common.{◌≡◌, ◌≢◌, ℕ, zero, suc, length, set, replicate, ◌+◌, ◌<◌, ◌≤◌, Bool, true, false, cond, List, [], ◌∷◌, ℤ, pos, negsuc, Option, Some, None, refl, ap, sym, ◌∙◌, subst, arith, get_or, get_or-set_same, get_or-set_other}
use Rattle.std.proofs.lemmas.Bool.Decides.{nat_tests}
use Rattle.std.proofs.lemmas.Int.{ints}
use Rattle.std.specs.Prelude.{count_by}
use Rattle.std.specs.List.{list_any, find}
use Rattle.std.specs.Ordering.{int_eq}
use Rattle.sd_base.specs.declared.actors.Who.{Who}
use Rattle.sd_base.specs.declared.history.Refusal.TheVariants.{Bad, Unheld}
use Rattle.sd_base.specs.declared.history.Update.{Update}
use Rattle.sd_base.specs.declared.history.Update.TheVariants.{Lock, Unlock}
use Rattle.sd_base.specs.Selection.{without_first, is_below, passes}
use Rattle.sd_base.specs.History.{Entry, OfLocks, Key, same_resource, key_of, lock_key, live_key, entry, is_of, after_entry, live_of}
use Rattle.sd_base.specs.Allowed.{is_lock}
use Rattle.sd_base.specs.Sound.{IsSound}
use Rattle.sd_base.specs.Part.{Serves, Loses}
use Rattle.sd_base.proofs.Counting.{count_by-cons}
use Rattle.sd_base.proofs.SoundLive.{lawful_sound}
use Rattle.share_table.specs.Locks.{lock_at, holder_of, HoldsLocks, is_who}
use Rattle.share_table.proofs.OtherKinds.{Within, find-after, find-without, find-apart, find-none, list_any-first, list_any-found_none}

within : (lock : ℤ) → Within OfLocks (is_lock lock)
within lock e h = grind arith

pub locks-after : (locks : List (Option Who)) (e : Entry) (live : List Entry) → same_resource (key_of e.update).resource OfLocks ≡ false → HoldsLocks locks live → HoldsLocks locks (after_entry e live)
locks-after locks e live apart holds lock = holds lock ∙ ap holder_of (sym (find-after OfLocks (is_lock lock) refl (within lock) e live apart))

pub locks-without : (locks : List (Option Who)) (owner : ℕ) (key : Key) (live : List Entry) → same_resource key.resource OfLocks ≡ false → HoldsLocks locks live →
    HoldsLocks locks (without_first (is_of owner key) live)
locks-without locks owner key live apart holds lock = holds lock ∙ ap holder_of (sym (find-without OfLocks (is_lock lock) (within lock) owner key live apart))

apart_numbers : (place k : ℕ) → int_eq (pos place) (pos k) ≡ false → k ≢ place
apart_numbers place k h = grind (arith, nat_tests, ints)

same_numbers : (place k : ℕ) → int_eq (pos place) (pos k) ≡ true → place ≡ k
same_numbers place k h = grind (arith, nat_tests, ints)

negative : (place k : ℕ) → int_eq (pos place) (negsuc k) ≡ false
negative place k = grind (arith, ints)

pub lock_of : (owner task : ℕ) (lock : ℤ) (x : Entry) → is_of owner (lock_key lock task) x ≡ true → is_lock lock x ≡ true
lock_of owner task lock x h = grind arith

-- where one passes the narrower test, the wider one counts one fewer without it
fewer_locks : (p q : Entry → Bool) → ((x : Entry) → p x ≡ true → q x ≡ true) → (xs : List Entry) → list_any p xs ≡ true → count_by q (without_first p xs) + 1 ≡ count_by q xs
fewer_locks p q within [] h = cc
fewer_locks p q within (x ∷ xs) h =
    grind (arith, within x, count_by-cons q x xs, count_by-cons q x (without_first p xs), fewer_locks p q within xs)

-- the only lock of its number
only_lock : (owner task place : ℕ) (live : List Entry) → IsSound live → list_any (is_of owner (lock_key (pos place) task)) live ≡ true →
    find (is_lock (pos place)) (without_first (is_of owner (lock_key (pos place) task)) live) ≡ None
only_lock owner task place live sound there =
    let fewer = fewer_locks (is_of owner (lock_key (pos place) task)) (is_lock (pos place)) (lock_of owner task (pos place)) live there in
    let few = sound.locks (pos place) in
    find-none (is_lock (pos place)) (without_first (is_of owner (lock_key (pos place) task)) live) (omega arith)

who_holds_of : (owner task by : ℕ) (u : Update) (lock : ℤ) → is_lock lock (entry by u) ≡ true → is_of owner (lock_key lock task) (entry by u) ≡ is_who (record { owner = owner; task = task }) (record { owner = by; task = (live_key u).task })
who_holds_of owner task by (Lock l t) lock h = grind arith
who_holds_of owner task by _ lock h = cc

who_holds : (owner task : ℕ) (e : Entry) (lock : ℤ) → is_lock lock e ≡ true → is_of owner (lock_key lock task) e ≡ is_who (record { owner = owner; task = task }) (record { owner = e.owner; task = (live_key e.update).task })
who_holds owner task e lock h = who_holds_of owner task e.owner e.update lock h

found-passes : (p : Entry → Bool) (xs : List Entry) (e : Entry) → find p xs ≡ Some e → p e ≡ true
found-passes p [] e h = cc
found-passes p (x ∷ xs) e h =
    elim (p x) as (λ b. p x ≡ b → p e ≡ true) [
      | true ↦ λ is. (let same : x ≡ e = grind arith in ap p (sym same) ∙ is)
      | false ↦ λ is. found-passes p xs e (grind arith)
    ] refl

holds-it_of : (locks : List (Option Who)) (owner task place : ℕ) (live : List Entry) → IsSound live → HoldsLocks locks live → (found : Option Entry) → find (is_lock (pos place)) live ≡ found →
    list_any (is_of owner (lock_key (pos place) task)) live ≡ passes (is_who (record { owner = owner; task = task })) (get_or locks place None)
holds-it_of locks owner task place live sound holds None is =
    let none = list_any-found_none (is_lock (pos place)) (is_of owner (lock_key (pos place) task)) (lock_of owner task (pos place)) live is in
    none ∙ ap (passes (is_who (record { owner = owner; task = task }))) (sym (holds (pos place) ∙ ap holder_of is))
holds-it_of locks owner task place live sound holds (Some e) is =
    let first = list_any-first (is_lock (pos place)) (is_of owner (lock_key (pos place) task)) (lock_of owner task (pos place)) live e (sound.locks (pos place)) is in
    first ∙ who_holds owner task e (pos place) (found-passes (is_lock (pos place)) live e is)
    ∙ ap (passes (is_who (record { owner = owner; task = task }))) (sym (holds (pos place) ∙ ap holder_of is))

-- the activity holds the lock exactly where the table has it there
pub holds-it : (locks : List (Option Who)) (owner task place : ℕ) (live : List Entry) → IsSound live → HoldsLocks locks live →
    list_any (is_of owner (lock_key (pos place) task)) live ≡ passes (is_who (record { owner = owner; task = task })) (get_or locks place None)
holds-it locks owner task place live sound holds = holds-it_of locks owner task place live sound holds (find (is_lock (pos place)) live) refl

pub unlock_unheld : (locks : List (Option Who)) (owner task place : ℕ) → is_below 64 (pos place) ≡ true →
    passes (is_who (record { owner = owner; task = task })) (get_or locks place None) ≡ false → Serves HoldsLocks locks owner (Unlock (pos place) task) (Some Unheld) locks
unlock_unheld locks owner task place fits other share h lawful proper holds = (
  sym (ap (λ b. cond b (cond (list_any (is_of owner (lock_key (pos place) task)) (live_of h)) None (Some Unheld)) (Some Bad)) fits
      ∙ ap (λ b. cond b None (Some Unheld)) (holds-it locks owner task place (live_of h) (lawful_sound share h proper lawful) holds ∙ other)),
  λ ok. cc,
)

apart_locks : (owner task place : ℕ) (lock : ℤ) → int_eq (pos place) lock ≡ false → (x : Entry) → is_of owner (lock_key (pos place) task) x ≡ true → is_lock lock x ≡ false
apart_locks owner task place lock other x h = grind (arith, nat_tests, ints)

freed_at : (locks : List (Option Who)) (owner task place : ℕ) (lock : ℤ) (live : List Entry) → length locks ≡ 64 → place < 64 →
    list_any (is_of owner (lock_key (pos place) task)) live ≡ true → IsSound live → HoldsLocks locks live →
    lock_at (set locks place None) lock ≡ holder_of (find (is_lock lock) (without_first (is_of owner (lock_key (pos place) task)) live))
freed_at locks owner task place (negsuc k) live long short there sound holds =
    holds (negsuc k) ∙ ap holder_of (sym (find-apart (is_of owner (lock_key (pos place) task)) (is_lock (negsuc k)) (apart_locks owner task place (negsuc k) (negative place k)) live))
freed_at locks owner task place (pos k) live long short there sound holds =
    elim (int_eq (pos place) (pos k)) as (λ b. int_eq (pos place) (pos k) ≡ b → get_or (set locks place None) k None ≡ holder_of (find (is_lock (pos k)) (without_first (is_of owner (lock_key (pos place) task)) live))) [
      | true ↦ λ is.
          subst (λ n. get_or (set locks place None) n None ≡ holder_of (find (is_lock (pos n)) (without_first (is_of owner (lock_key (pos place) task)) live))) (same_numbers place k is)
          (get_or-set_same locks place None None (omega arith) ∙ ap holder_of (sym (only_lock owner task place live sound there)))
      | false ↦ λ is.
          get_or-set_other locks place k None None (apart_numbers place k is) ∙ holds (pos k)
          ∙ ap holder_of (sym (find-apart (is_of owner (lock_key (pos place) task)) (is_lock (pos k)) (apart_locks owner task place (pos k) is) live))
    ] refl

pub loses_lock : (locks : List (Option Who)) (owner task place : ℕ) → length locks ≡ 64 → place < 64 → passes (is_who (record { owner = owner; task = task })) (get_or locks place None) ≡ true →
    Loses HoldsLocks locks owner (lock_key (pos place) task) (set locks place None)
loses_lock locks owner task place long short own live sound holds lock =
    let there = holds-it locks owner task place live sound holds ∙ own in
    freed_at locks owner task place lock live long short there sound holds

pub unlock_done : (locks : List (Option Who)) (owner task place : ℕ) → length locks ≡ 64 → place < 64 → is_below 64 (pos place) ≡ true →
    passes (is_who (record { owner = owner; task = task })) (get_or locks place None) ≡ true → Serves HoldsLocks locks owner (Unlock (pos place) task) None (set locks place None)
unlock_done locks owner task place long short fits own share h lawful proper holds = (
  sym (ap (λ b. cond b (cond (list_any (is_of owner (lock_key (pos place) task)) (live_of h)) None (Some Unheld)) (Some Bad)) fits
      ∙ ap (λ b. cond b None (Some Unheld)) (holds-it locks owner task place (live_of h) (lawful_sound share h proper lawful) holds ∙ own)),
  λ ok. loses_lock locks owner task place long short own (live_of h) (lawful_sound share h proper lawful) holds,
)

-- What dropping an owner leaves.

past_end : {X : Type 0} (xs : List X) (k : ℕ) (d : X) → length xs ≤ k → get_or xs k d ≡ d
past_end [] k d h = refl
past_end (x ∷ xs) zero d h = absurd (omega arith)
past_end (x ∷ xs) (suc k) d h = past_end xs k d (omega arith)

pub replicate-at : {X : Type 0} (n k : ℕ) (x : X) → get_or (replicate n x) k x ≡ x
replicate-at zero k x = refl
replicate-at (suc n) zero x = refl
replicate-at (suc n) (suc k) x = replicate-at n k x

pub none_locked : HoldsLocks (replicate 64 None) []
none_locked (pos k) = replicate-at 64 k None
none_locked (negsuc k) = refl
