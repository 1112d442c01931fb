-- The queue of a history: its front, its end, and an owner's newest item.
use Rattle.std.proofs.Common.{◌≡◌, ℕ, ◌++◌, reverse, Bool, true, false, cond, not, eqb, ltb, List, [], ◌∷◌, ℤ, Option, Some, None, refl, ap, sym, ◌∙◌, arith}
use Rattle.std.proofs.lemmas.Bool.Decides.{nat_tests}
use Rattle.std.proofs.lemmas.List.{reverse-reverse}
use Rattle.std.specs.Prelude.{count_by}
use Rattle.std.specs.List.{list_any, filter_map}
use Rattle.sd_base.specs.declared.history.Refusal.{Refusal}
use Rattle.sd_base.specs.declared.history.Refusal.TheVariants.{Bad, Full}
use Rattle.sd_base.specs.declared.history.Update.{Update}
use Rattle.sd_base.specs.declared.history.Update.TheVariants.{Work as Queues, Taken}
use Rattle.sd_base.specs.Selection.{without_first, without_last, find_last, passes}
use Rattle.sd_base.specs.History.{Entry, OfWork, Key, same_resource, key_of, work_key, live_key, entry, is_owner, has_key, is_of, after_entry, live_of}
use Rattle.sd_base.specs.Allowed.{unless_owner}
use Rattle.sd_base.specs.Part.{Serves, Loses}
use Rattle.sd_base.proofs.Counting.{count_by-reverse, reverse-cons}
use Rattle.sd_base.proofs.Removal.{reverse-without_last}
use Rattle.sd_base.proofs.Rows.{filter_map-without_first, filter_map-without_last, count_by-filter_map}
use Rattle.sd_base.proofs.Live.{rows-after_entry_other, rows-without_other}
use Rattle.share_table.specs.declared.queue.Work.{Work}
use Rattle.share_table.specs.Queue.{is_owned, work_row_of, work_row, HoldsWork, put_refusal}

same_of : (owner by : ℕ) (u : Update) → is_of owner work_key (entry by u) ≡ passes (is_owned owner) (work_row_of by u)
same_of owner by (Queues handler arg) = refl
same_of owner by _ = refl

same : (owner : ℕ) (e : Entry) → is_of owner work_key e ≡ passes (is_owned owner) (work_row e)
same owner e = same_of owner e.owner e.update

none_of : (by : ℕ) (u : Update) → same_resource (live_key u).resource OfWork ≡ false → work_row_of by u ≡ None
none_of by (Queues handler arg) h = cc
none_of by _ h = refl

none : (e : Entry) → same_resource (live_key e.update).resource OfWork ≡ false → work_row e ≡ None
none e h = none_of e.owner e.update h

owner_at : Option Work → ℕ
owner_at None = 0
owner_at (Some work) = work.owner

kept_of : (owner by : ℕ) (u : Update) (work : Work) → work_row_of by u ≡ Some work → not (is_owner owner (entry by u)) ≡ not (is_owned owner work)
unfolding owner_at
kept_of owner by (Queues handler arg) work h = (let at : by ≡ work.owner = ap owner_at h in ap (λ n. not (eqb n owner)) at)
kept_of owner by _ work h = cc

kept : (owner : ℕ) (e : Entry) (work : Work) → work_row e ≡ Some work → not (is_owner owner e) ≡ not (is_owned owner work)
kept owner e work h = kept_of owner e.owner e.update work h

pub work-after : (items : List Work) (e : Entry) (live : List Entry) → same_resource (key_of e.update).resource OfWork ≡ false → HoldsWork items live → HoldsWork items (after_entry e live)
work-after items e live apart holds = holds ∙ ap reverse (sym (rows-after_entry_other work_row OfWork refl none e live apart))

pub work-without : (items : List Work) (owner : ℕ) (key : Key) (live : List Entry) → same_resource key.resource OfWork ≡ false → HoldsWork items live →
    HoldsWork items (without_first (is_of owner key) live)
work-without items owner key live apart holds = holds ∙ ap reverse (sym (rows-without_other work_row OfWork none owner key live apart))

abbrev pub work_of : ℕ → ℕ → ℤ → Work
work_of owner handler arg = record { owner = owner; handler = handler; arg = arg }

-- how many an owner has in the queue
count-queued : (owner : ℕ) (items : List Work) (live : List Entry) → HoldsWork items live → count_by (is_of owner work_key) live ≡ count_by (is_owned owner) items
count-queued owner items live holds =
    sym (count_by-filter_map work_row (is_of owner work_key) (is_owned owner) (same owner) live)
    ∙ sym (count_by-reverse (is_owned owner) (filter_map work_row live)) ∙ ap (count_by (is_owned owner)) (sym holds)

pub serves_queue : (old new : List Work) (owner handler : ℕ) (arg : ℤ) (answer : Option Refusal) → answer ≡ put_refusal old owner →
    (answer ≡ None → new ≡ old ++ work_of owner handler arg ∷ []) → Serves HoldsWork old owner (Queues handler arg) answer new
serves_queue old new owner handler arg answer is put share h lawful proper holds = (
  is ∙ ap (λ n. cond (ltb n 64) None (Some Full)) (sym (count-queued owner old (live_of h) holds)),
  λ ok. put ok ∙ ap (λ items. items ++ work_of owner handler arg ∷ []) holds ∙ sym (reverse-cons (work_of owner handler arg) (filter_map work_row (live_of h))),
)

-- The front is the oldest that waits.

abbrev any_work : Work → Bool
any_work work = true

has-row_of : (by : ℕ) (u : Update) → has_key work_key (entry by u) ≡ passes any_work (work_row_of by u)
has-row_of by (Queues handler arg) = refl
has-row_of by _ = refl

has-row : (e : Entry) → has_key work_key e ≡ passes any_work (work_row e)
has-row e = has-row_of e.owner e.update

abbrev is_empty : {X : Type 0} → List X → Bool
is_empty [] = true
is_empty (x ∷ xs) = false

-- the first and the last of a list
abbrev head_of : {X : Type 0} → List X → Option X
head_of [] = None
head_of (x ∷ xs) = Some x

abbrev last_of : {X : Type 0} → List X → Option X
last_of [] = None
last_of (x ∷ xs) = cond (is_empty xs) (Some x) (last_of xs)

head-append : {X : Type 0} (xs ys : List X) → is_empty xs ≡ false → head_of (xs ++ ys) ≡ head_of xs
head-append [] ys h = cc
head-append (x ∷ xs) ys h = refl

empty-push : {X : Type 0} (xs : List X) (x : X) → is_empty (xs ++ x ∷ []) ≡ false
empty-push [] x = refl
empty-push (y ∷ xs) x = refl

head-push : {X : Type 0} (xs : List X) (x : X) → is_empty xs ≡ true → head_of (xs ++ x ∷ []) ≡ Some x
head-push [] x h = refl
head-push (y ∷ xs) x h = cc

empty-reverse : {X : Type 0} (xs : List X) → is_empty (reverse xs) ≡ is_empty xs
empty-reverse [] = refl
empty-reverse (x ∷ xs) = ap is_empty (reverse-cons x xs) ∙ empty-push (reverse xs) x

last-reverse : {X : Type 0} (xs : List X) → head_of (reverse xs) ≡ last_of xs
last-reverse [] = refl
last-reverse (x ∷ xs) =
    elim (is_empty xs) as (λ b. is_empty xs ≡ b → head_of (reverse (x ∷ xs)) ≡ cond b (Some x) (last_of xs)) [
      | true ↦ λ is. ap head_of (reverse-cons x xs) ∙ head-push (reverse xs) x (empty-reverse xs ∙ is)
      | false ↦ λ is. ap head_of (reverse-cons x xs) ∙ head-append (reverse xs) (x ∷ []) (empty-reverse xs ∙ is) ∙ last-reverse xs
    ] refl

head-reverse : {X : Type 0} (xs : List X) (x : X) (rest : List X) → reverse xs ≡ x ∷ rest → last_of xs ≡ Some x
head-reverse xs x rest h = sym (last-reverse xs) ∙ ap head_of h

owner-row_of : (by : ℕ) (u : Update) (work : Work) → work_row_of by u ≡ Some work → by ≡ work.owner
unfolding owner_at
owner-row_of by (Queues handler arg) work h = ap owner_at h
owner-row_of by _ work h = cc

find_last-any : (p : Entry → Bool) (xs : List Entry) (e : Entry) → find_last p xs ≡ Some e → list_any p xs ≡ true
find_last-any p [] e h = cc
find_last-any p (x ∷ xs) e h = grind (arith, find_last-any p xs e)

none_queued : (live : List Entry) → is_empty (filter_map work_row live) ≡ true → list_any (has_key work_key) live ≡ false
none_queued [] h = refl
none_queued (e ∷ live) h =
    elim (work_row e) as (λ o. work_row e ≡ o → list_any (has_key work_key) (e ∷ live) ≡ false) [
      | None ↦ λ is. (let mine : has_key work_key e ≡ false = has-row e ∙ ap (passes any_work) is in grind (arith, none_queued live))
      | Some w ↦ λ is. (let listed : filter_map work_row (e ∷ live) ≡ w ∷ filter_map work_row live = grind arith in cc (sym h ∙ ap is_empty listed))
    ] refl

-- the oldest entry that queued something is that of the last row
oldest : (live : List Entry) (work : Work) → last_of (filter_map work_row live) ≡ Some work → (e : Entry) × (find_last (has_key work_key) live ≡ Some e) × (e.owner ≡ work.owner)
oldest [] work h = cc
oldest (e ∷ live) work h =
    elim (work_row e) as (λ o. work_row e ≡ o → last_of (filter_map work_row (e ∷ live)) ≡ Some work → (x : Entry) × (find_last (has_key work_key) (e ∷ live) ≡ Some x) × (x.owner ≡ work.owner)) [
      | None ↦ λ is last. (
          let rest = oldest live work (grind arith) in
          let mine : has_key work_key e ≡ false = has-row e ∙ ap (passes any_work) is in
          let some = find_last-any (has_key work_key) live rest.0 rest.1 in
          (rest.0, grind (arith, rest.1), rest.2))
      | Some w ↦ λ is last. (
          let mine : has_key work_key e ≡ true = has-row e ∙ ap (passes any_work) is in
          let listed : filter_map work_row (e ∷ live) ≡ w ∷ filter_map work_row live = grind arith in
          elim (is_empty (filter_map work_row live)) as (λ b. is_empty (filter_map work_row live) ≡ b → (x : Entry) × (find_last (has_key work_key) (e ∷ live) ≡ Some x) × (x.owner ≡ work.owner)) [
            | true ↦ λ alone. (
                let lone : w ≡ work = grind (arith, ap last_of listed) in
                let others_none = none_queued live alone in
                (e, grind arith, owner-row_of e.owner e.update w is ∙ ap (λ (x : Work). x.owner) lone))
            | false ↦ λ more. (
                let further : last_of (filter_map work_row live) ≡ Some work = grind (arith, ap last_of listed) in
                let rest = oldest live work further in
                let some = find_last-any (has_key work_key) live rest.0 rest.1 in
                (rest.0, grind (arith, rest.1), rest.2))
          ] refl)
    ] refl h

first_goes : (work : Work) (rest : List Work) → without_first (is_owned work.owner) (work ∷ rest) ≡ rest
first_goes work rest = (let own : is_owned work.owner work ≡ true = grind (arith, nat_tests) in ap (λ b. cond b rest (work ∷ without_first (is_owned work.owner) rest)) own)

pub serves_take : (items rest : List Work) (work : Work) → items ≡ work ∷ rest → Serves HoldsWork items work.owner Taken None rest
serves_take items rest work is share h lawful proper holds =
    let front : reverse (filter_map work_row (live_of h)) ≡ work ∷ rest = sym holds ∙ is in
    let first = oldest (live_of h) work (head-reverse (filter_map work_row (live_of h)) work rest front) in
    let own : is_owner work.owner first.0 ≡ true = (let same_owner = first.2 in grind (arith, nat_tests)) in (
      sym (ap (unless_owner work.owner) first.1 ∙ ap (λ b. cond b None (Some Bad)) own),
      λ ok. sym (ap reverse (filter_map-without_last work_row (is_of work.owner work_key) (is_owned work.owner) (same work.owner) (live_of h))
          ∙ reverse-without_last (is_owned work.owner) (filter_map work_row (live_of h))
          ∙ ap (without_first (is_owned work.owner)) front ∙ first_goes work rest),
    )

reverse-without_first : (p : Work → Bool) (xs : List Work) → reverse (without_first p xs) ≡ without_last p (reverse xs)
reverse-without_first p xs =
    let back : reverse (without_last p (reverse xs)) ≡ without_first p xs = reverse-without_last p (reverse xs) ∙ ap (without_first p) (reverse-reverse xs) in
    sym (ap reverse back) ∙ reverse-reverse (without_last p (reverse xs))

pub loses_work : (old new : List Work) (owner : ℕ) → new ≡ without_last (is_owned owner) old → Loses HoldsWork old owner work_key new
loses_work old new owner is live sound holds =
    is ∙ ap (without_last (is_owned owner)) holds
    ∙ sym (ap reverse (filter_map-without_first work_row (is_of owner work_key) (is_owned owner) (same owner) live) ∙ reverse-without_first (is_owned owner) (filter_map work_row live))
