-- What a host stands for after an update that grants no block, and after a driver was taken back.
-- Here: ranges-kept, memories-kept, host-updated, memories-without, host-without
use Rattle.std.proofs.Common.{◌≡◌, ◌≢◌, ℕ, zero, suc, ◌+◌, ◌-◌, ◌≤◌, Bool, true, false, cond, ◌&&◌, eqb, List, [], ◌∷◌, map, reverse, set, length, Option, Some, None, is_none, Ok, Err, OnErr, OnOk, refl, sym, ap, ◌∙◌, subst, arith, true≢false}
use Rattle.std.proofs.Common.{◌<◌, ◌++◌, get_or, slice_get, replicate}
use Rattle.std.proofs.lemmas.List.{replicate-append-replicate}
use Rattle.device_model.specs.Scripted.{nothing_scripted}
use Rattle.std.proofs.lemmas.Bool.Decides.{nat_tests}
use Rattle.sd_base.specs.declared.history.Refusal.{Refusal}
use Rattle.sd_base.specs.declared.history.Update.{Update}
use Rattle.sd_base.specs.declared.history.Update.TheVariants as update
use Rattle.sd_base.specs.History.{History, entry, is_owner, live_of, clock_after, clock_of, Without}
use Rattle.sd_base.specs.Blocks.{Block, has_base, with_state, blocks_after, granted}
use Rattle.sd_base.specs.declared.history.BlockState.{BlockState}
use Rattle.sd_base.specs.declared.history.BlockState.TheVariants.{Freed}
use Rattle.sd_base.specs.Allowed.{refusal, is_proper, IsLawful, IsProper}
use Rattle.sd_base.specs.History.{net_of}
use Rattle.sd_base.proofs.WithoutOwner.{clock_of-Without, IsProper-Without, IsLawful-Without}
use Rattle.sd_base.proofs.Granted.{granted-Without, granted-Without_same}
use Rattle.update_tracker.specs.Answered.{Answer, unless, refused, reply_to, answered}
use Rattle.update_tracker.specs.declared.undo.Undo.{Undo}
use Rattle.update_tracker.specs.NetPart.{net_items}
use Rattle.update_tracker.specs.Entries.{AreItemsOf}
use Rattle.update_tracker.specs.Tracking.{TrackedRows, Stands, ServesTracked, OfEachHistory}
use Rattle.update_tracker.proofs.ItemsOfEntries.{net_items_are}
use Rattle.byte_memory.proofs.Words.{length-zeros}
use Rattle.byte_memory.specs.declared.tested.GrantedRange.{GrantedRange}
use Rattle.byte_memory.specs.Tested.{Memory}
use Rattle.world_core.specs.WorldState.{range_of, empty_arena}
use Rattle.world_core.specs.Script.{is_accepted, updated}
use Rattle.driver_host.specs.Granting.{grants_block, last_moment, IsTimely}
use Rattle.driver_host.specs.declared.host.Host.{Host}
use Rattle.byte_memory.specs.Bytes.{zeros}
use Rattle.driver_host.specs.Hosting.{emptied_in, cleared_at, memory_from, memories_from, cleared, AreArenas, IsHost, Updates, TakesBack}
use Rattle.world_core.proofs.Lawful.{updated-lawful}

-- ---- blocks that are granted

abbrev ranges : List Block → List GrantedRange
ranges bs = map range_of bs

ranges-with_state : (base : ℕ) (state : BlockState) (bs : List Block) → ranges (with_state base state bs) ≡ ranges bs
ranges-with_state base state [] = refl
ranges-with_state base state (b ∷ bs) =
    elim (has_base base b) as (λ t. ranges (cond t (record b { state = state } ∷ bs) (b ∷ with_state base state bs)) ≡ ranges (b ∷ bs))
    [ true ↦ refl | false ↦ ap (λ rs. range_of b ∷ rs) (ranges-with_state base state bs) ]

ranges-after : (u : Update) (bs : List Block) → grants_block u ≡ false → ranges (blocks_after u bs) ≡ ranges bs
ranges-after (update.Grant layout n image) bs e = absurd (true≢false e)
ranges-after (update.Free base) bs e = ranges-with_state base Freed bs
ranges-after _ bs e = refl

-- an update that grants no block leaves what is granted to every owner
pub ranges-kept : (o : ℕ) (u : Update) (h : History) (owner : ℕ) → grants_block u ≡ false →
    ranges (granted (entry o u ∷ h) owner) ≡ ranges (granted h owner)
ranges-kept o u h owner e =
    elim (is_owner owner (entry o u)) as (λ t. ranges (cond t (blocks_after u (granted h owner)) (granted h owner)) ≡ ranges (granted h owner))
    [ true ↦ ranges-after u (granted h owner) e | false ↦ refl ]

-- histories that grant the same to all owners from this one on give them the same memories
memories-same : (h h' : History) → ((owner : ℕ) → ranges (granted h owner) ≡ ranges (granted h' owner)) → (from : ℕ) (m : List (List ℕ)) →
    memories_from from h m ≡ memories_from from h' m
memories-same h h' same from [] = refl
memories-same h h' same from (b ∷ m) =
    let one : memory_from from h b ≡ memory_from from h' b = ap (λ rs. record { bytes = b; granted = reverse rs }) (same from) in
    let more = memories-same h h' same (suc from) m in
    cc

pub memories-kept : (share o : ℕ) (u : Update) (h : History) (m : List (List ℕ)) → grants_block u ≡ false →
    memories_from 1 h m ≡ memories_from 1 (updated share o u h) m
unfolding updated
memories-kept share o u h m e =
    elim (is_accepted share h o u) as (λ b. memories_from 1 h m ≡ memories_from 1 (elim b as (λ x. History) [ true ↦ entry o u ∷ h | false ↦ h ]) m)
    [ true ↦ memories-same h (entry o u ∷ h) (λ owner. sym (ranges-kept o u h owner e)) 1 m | false ↦ refl ]

-- ---- an update

accepts : (share o : ℕ) (u : Update) (h : History) (r : Option Refusal) → is_proper o u ≡ true → refusal share h o u ≡ r →
    is_accepted share h o u ≡ is_none r
accepts share o u h r proper is = ap (λ b. b && is_none (refusal share h o u)) proper ∙ ap is_none is

-- the history with an update that is accepted, or as it was
by_test : ℕ → Update → History → Bool → History
by_test o u h b = elim b as (λ x. History) [ true ↦ entry o u ∷ h | false ↦ h ]

updated-by : (share o : ℕ) (u : Update) (h : History) (b : Bool) → is_accepted share h o u ≡ b → updated share o u h ≡ by_test o u h b
unfolding updated by_test
updated-by share o u h b e = ap (λ x. elim x as (λ y. History) [ true ↦ entry o u ∷ h | false ↦ h ]) e

pub record Made (share : ℕ) (h : History) (owner : ℕ) (u : Update) (answer : Answer) (new : TrackedRows) : Type 0 where
  pub tables : Stands new (updated share owner u h)
  pub refusal_is : refused answer ≡ refusal share h owner u

made-by : (share : ℕ) (h : History) (owner : ℕ) (u : Update) (old new : TrackedRows) (r : Option Refusal) (answer : Answer)
    → is_proper owner u ≡ true → refusal share h owner u ≡ r → Stands old h → answer ≡ unless r (reply_to h owner u)
    → OnErr answer (new ≡ old) → OnOk answer (Stands new (entry owner u ∷ h)) → Made share h owner u answer new
unfolding by_test
made-by share h owner u old new None (Ok reply) proper is stands e kept made = record {
  tables = subst (Stands new) (sym (updated-by share owner u h true (accepts share owner u h None proper is))) made;
  refusal_is = sym is;
}
made-by share h owner u old new (Some x) (Err y) proper is stands e kept made = record {
  tables = subst (Stands new) (sym (updated-by share owner u h false (accepts share owner u h (Some x) proper is)))
      (subst (λ t. Stands t h) (sym kept) stands);
  refusal_is = cc;
}
made-by share h owner u old new None (Err y) proper is stands e kept made = absurd cc
made-by share h owner u old new (Some x) (Ok reply) proper is stands e kept made = absurd cc

pub made : (share : ℕ) (h : History) (owner : ℕ) (u : Update) (old new : TrackedRows) (answer : Answer)
    → is_proper owner u ≡ true → old.kernel.claims.share ≡ share → IsLawful share h → IsProper h → Stands old h
    → ServesTracked old owner u answer new → OnErr answer (new ≡ old) → Made share h owner u answer new
made share h owner u old new answer proper same lawful fit stands serves kept =
    let here = serves h (subst (λ n. IsLawful n h) (sym same) lawful) fit stands in
    made-by share h owner u old new (refusal share h owner u) answer proper refl stands
    (here.0 ∙ ap (λ n. answered n h owner u) same) kept here.1

-- ---- the clock

clock-timely : (u : Update) (clock : ℕ) → IsTimely u → clock ≤ last_moment → clock_after u clock ≤ last_moment
clock-timely (update.Clock now) clock timely within = timely
clock-timely _ clock timely within = within

pub clock-updated : (share owner : ℕ) (u : Update) (h : History) → IsTimely u → clock_of h ≤ last_moment → clock_of (updated share owner u h) ≤ last_moment
unfolding updated
clock-updated share owner u h timely within =
    elim (is_accepted share h owner u) as (λ b. clock_of (elim b as (λ x. History) [ true ↦ entry owner u ∷ h | false ↦ h ]) ≤ last_moment)
    [ true ↦ clock-timely u (clock_of h) timely within | false ↦ within ]

-- ---- the host after an update

pub host-updated : (old new : Host) (owner : ℕ) (u : Update) (answer : Answer) → is_proper owner u ≡ true → grants_block u ≡ false → IsTimely u
    → ServesTracked old.kernel owner u answer new.kernel → OnErr answer (new.kernel ≡ old.kernel)
    → new.kernel.kernel.claims.share ≡ old.kernel.kernel.claims.share → new.memories ≡ old.memories → new.devices ≡ old.devices
    → Updates old owner u (refused answer) new
host-updated old new owner u answer proper none timely serves kept shared memories devices = record {
  moves = record {
    to = λ share h m d is.
        let done = made share h owner u old.kernel new.kernel answer proper is.holders is.lawful is.proper is.tables serves kept in
        let lawful = updated-lawful share owner u h (record { lawful = is.lawful; proper = is.proper }) in
        record {
          holders = shared ∙ is.holders;
          lawful = lawful.lawful;
          proper = lawful.proper;
          tables = done.tables;
          sizes = is.sizes;
          bytes = ap (λ v. v.items) memories ∙ is.bytes ∙ memories-kept share owner u h m none;
          answers = devices ∙ is.answers;
          clock = clock-updated share owner u h timely is.clock;
        };
  };
  refused = λ share h m d is.
      (made share h owner u old.kernel new.kernel answer proper is.holders is.lawful is.proper is.tables serves kept).refusal_is;
}

-- ---- the host after a driver was taken back

apart-test : (a b : ℕ) → a ≢ b → eqb a b ≡ false
apart-test a b apart = grind (arith, nat_tests)

-- the others' memories are as they were
others-without : (h : History) (o from : ℕ) (m : List (List ℕ)) → suc o ≤ from → memories_from from (Without h o) m ≡ memories_from from h m
others-without h o from [] far = refl
others-without h o from (b ∷ m) far =
    let one : memory_from from (Without h o) b ≡ memory_from from h b =
    ap (λ bs. record { bytes = b; granted = reverse (ranges bs) }) (granted-Without h o from (apart-test from o (λ same. absurd (omega arith)))) in
    let more = others-without h o (suc from) m (omega arith) in
    cc

memories-without : (h : History) (o k from : ℕ) (m : List (List ℕ)) → o ≡ from + k →
    memories_from from (Without h o) (set m k empty_arena) ≡ set (memories_from from h m) k cleared
memories-without h o k from [] at = refl
memories-without h o zero from (b ∷ m) at =
    let here : from ≡ o = omega arith in
    let none : granted (Without h o) from ≡ [] = subst (λ p. granted (Without h o) p ≡ []) (sym here) (granted-Without_same h o) in
    let one : memory_from from (Without h o) empty_arena ≡ cleared = ap (λ bs. record { bytes = empty_arena; granted = reverse (ranges bs) }) none in
    let more = others-without h o (suc from) m (omega arith) in
    cc
memories-without h o (suc k) from (b ∷ m) at =
    let one : memory_from from (Without h o) b ≡ memory_from from h b =
    ap (λ bs. record { bytes = b; granted = reverse (ranges bs) }) (granted-Without h o from (apart-test from o (λ same. absurd (omega arith)))) in
    let more = memories-without h o k (suc from) m (omega arith) in
    cc

same-items : (xs ys : List Undo) → map (λ (u : Undo). Some u) xs ≡ map (λ (u : Undo). Some u) ys → xs ≡ ys
same-items [] [] e = refl
same-items [] (y ∷ ys) e = absurd cc
same-items (x ∷ xs) [] e = absurd cc
same-items (x ∷ xs) (y ∷ ys) e =
    let more = same-items xs ys (cons-rest e) in
    let one : Some x ≡ Some y = cons-first e in
    cc
  where
    cons-rest : {A : Type 0} {a b : A} {us vs : List A} → a ∷ us ≡ b ∷ vs → us ≡ vs
    cons-rest e = cc

    cons-first : {A : Type 0} {a b : A} {us vs : List A} → a ∷ us ≡ b ∷ vs → a ≡ b
    cons-first e = cc

arenas-set : (m : List (List ℕ)) (k : ℕ) → length empty_arena ≡ 1048576 → AreArenas m → AreArenas (set m k empty_arena)
arenas-set [] k empty all = all
arenas-set (b ∷ m) zero empty all = (empty, all.1)
arenas-set (b ∷ m) (suc k) empty all = (all.0, arenas-set m k empty all.1)

pub empty-length : length empty_arena ≡ 1048576
unfolding empty_arena
empty-length = length-zeros 1048576

-- ---- one memory

pub memory-at : (h : History) (m : List (List ℕ)) (k from : ℕ) → k < length m →
    slice_get (memories_from from h m) k ≡ Some (memory_from (from + k) h (get_or m k []))
memory-at h [] k from inside = absurd (omega arith)
memory-at h (b ∷ m) zero from inside = ap (λ o. Some (memory_from o h b)) (omega arith)
memory-at h (b ∷ m) (suc k) from inside =
    memory-at h m k (suc from) (omega arith) ∙ ap (λ o. Some (memory_from o h (get_or m k []))) (omega arith)

pub memories-length : (h : History) (m : List (List ℕ)) (from : ℕ) → length (memories_from from h m) ≡ length m
memories-length h [] from = refl
memories-length h (b ∷ m) from = ap suc (memories-length h m (suc from))

-- ---- the host without a driver

pub host-without : (old new : Host) (k : ℕ)
    → OfEachHistory old.kernel (λ h. Stands new.kernel (Without h (suc k)))
    → OfEachHistory old.kernel (λ h. AreItemsOf new.kernel.undone (net_of h (suc k)))
    → new.kernel.kernel.claims.share ≡ old.kernel.kernel.claims.share → new.devices ≡ old.devices
    → ((h : History) (m : List (List ℕ)) → AreArenas m → old.memories.items ≡ memories_from 1 h m →
    new.memories.items ≡ set (memories_from 1 h m) k cleared)
    → TakesBack old (suc k) new
host-without old new k stands items shared devices emptied = record {
  moves = record {
    to = λ share h m d is.
        let at : IsLawful old.kernel.kernel.claims.share h = subst (λ n. IsLawful n h) (sym is.holders) is.lawful in
        record {
          holders = shared ∙ is.holders;
          lawful = IsLawful-Without share h (suc k) (λ e. absurd (zero≢suc k e)) is.proper is.lawful;
          proper = IsProper-Without h (suc k) is.proper;
          tables = stands h at is.proper is.tables;
          sizes = arenas-set m k empty-length is.sizes;
          bytes = emptied h m is.sizes is.bytes ∙ sym (memories-without h (suc k) k 1 m (omega arith));
          answers = devices ∙ is.answers;
          clock = subst (λ n. n ≤ last_moment) (sym (clock_of-Without h (suc k) (λ e. absurd (zero≢suc k e)) is.proper)) is.clock;
        };
  };
  undone = λ share h m d is.
      let at : IsLawful old.kernel.kernel.claims.share h = subst (λ n. IsLawful n h) (sym is.holders) is.lawful in
      same-items new.kernel.undone (net_items (suc k) (live_of h)) (items h at is.proper is.tables ∙ sym (net_items_are h (suc k)));
}
  where
    zero≢suc : (n : ℕ) → suc n ≡ 0 → ⊥
    zero≢suc n e = absurd (omega arith)

-- the memory of a driver is emptied
emptied-here : (ms : List Memory) (k : ℕ) (o : Option Memory) → slice_get ms k ≡ o
    → ((m : Memory) → o ≡ Some m → length m.bytes ≡ 1048576) → emptied_in ms k o ≡ set ms k cleared
unfolding empty_arena
emptied-here ms k None is sized = sym (set-none ms k is)
  where
    set-none : (ms : List Memory) (k : ℕ) → slice_get ms k ≡ None → set ms k cleared ≡ ms
    set-none [] k e = refl
    set-none (m ∷ ms) zero e = absurd cc
    set-none (m ∷ ms) (suc k) e = ap (λ ms. m ∷ ms) (set-none ms k e)
emptied-here ms k (Some m) is sized = ap (λ n. set ms k (record { bytes = zeros n; granted = [] })) (sized m refl)

sized-at : (h : History) (m : List (List ℕ)) (k from : ℕ) (one : Memory) → AreArenas m → slice_get (memories_from from h m) k ≡ Some one →
    length one.bytes ≡ 1048576
sized-at h [] k from one all e = absurd cc
sized-at h (b ∷ m) zero from one all e = ap (λ o. length (bytes_in o)) (sym e) ∙ all.0
  where
    bytes_in : Option Memory → List ℕ
    bytes_in None = []
    bytes_in (Some x) = x.bytes
sized-at h (b ∷ m) (suc k) from one all e = sized-at h m k (suc from) one all.1 e

pub emptied : (h : History) (m : List (List ℕ)) (k : ℕ) → AreArenas m → cleared_at (memories_from 1 h m) k ≡ set (memories_from 1 h m) k cleared
emptied h m k all = emptied-here (memories_from 1 h m) k (slice_get (memories_from 1 h m) k) refl (λ one e. sized-at h m k 1 one all e)

pub host-taken : (old new : Host) (owner place : ℕ) → 0 < owner → place ≡ owner
    → OfEachHistory old.kernel (λ h. Stands new.kernel (Without h owner))
    → OfEachHistory old.kernel (λ h. AreItemsOf new.kernel.undone (net_of h owner))
    → new.kernel.kernel.claims.share ≡ old.kernel.kernel.claims.share → new.devices ≡ old.devices
    → new.memories.items ≡ cleared_at old.memories.items (place - 1)
    → TakesBack old owner new
host-taken old new zero place some is stands items shared devices emptied-at = absurd (omega arith)
host-taken old new (suc k) place some is stands items shared devices emptied-at =
    let here : place - 1 ≡ k = omega arith in
    host-without old new k stands items shared devices
    (λ h m all bytes. emptied-at ∙ ap (cleared_at old.memories.items) here ∙ ap (λ ms. cleared_at ms k) bytes ∙ emptied h m k all)

-- ---- the first host

pub first-memories : (n from : ℕ) → memories_from from [] (replicate n empty_arena) ≡ replicate n cleared
first-memories zero from = refl
first-memories (suc n) from = let more = first-memories n (suc from) in cc

first-arenas : (n : ℕ) → AreArenas (replicate n empty_arena)
first-arenas zero = tt
first-arenas (suc n) = (empty-length, first-arenas n)

pub host-first : (share n : ℕ) (host : Host) (answers : ℕ) → host.kernel.kernel.claims.share ≡ share → Stands host.kernel []
    → host.memories.items ≡ replicate n cleared → host.devices ≡ nothing_scripted answers
    → IsHost share host [] (replicate n empty_arena) (nothing_scripted answers)
host-first share n host answers shared stands memories devices = record {
  holders = shared;
  lawful = tt;
  proper = tt;
  tables = stands;
  sizes = first-arenas n;
  bytes = memories ∙ sym (first-memories n 1);
  answers = devices;
  clock = omega arith;
}

pub one-more : (n : ℕ) (ms : List Memory) (m : Memory) → ms ≡ replicate n cleared → m ≡ cleared → ms ++ m ∷ [] ≡ replicate (n + 1) cleared
one-more n ms m is one = ap (λ x. ms ++ x ∷ []) one ∙ ap (λ xs. xs ++ cleared ∷ []) is ∙ replicate-append-replicate n 1 cleared
