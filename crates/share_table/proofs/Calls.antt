-- The calls as their goals show them: numbers cast to their bits and back, places computed, the table under its view.
use Rattle.std.proofs.Common.{◌≡◌, ℕ, zero, suc, length, set, ◌+◌, ◌-◌, ◌*◌, ◌<◌, ◌≤◌, Bool, true, false, cond, ltb, List, [], ◌∷◌, ◌++◌, ℤ, pos, negsuc, Option, Some, None, Result, Ok, Err, refl, ap, sym, ◌∙◌, subst, arith, get_or}
use Rattle.std.proofs.lemmas.Bool.Decides.{nat_tests}
use Rattle.std.proofs.lemmas.Int.{to_z-of_z}
use Rattle.std.specs.Prelude.{count_by, MatchOption, OnOk, IsOk, is_err}
use Rattle.std.specs.List.{list_any}
use mir.Syntax.{w32}
use mir.Val.{SFits, of_z, to_z}
use Rattle.circular_buffer.specs.Buffer.{Buffer, buffer}
use Rattle.sd_base.specs.declared.actors.Who.{Who}
use Rattle.sd_base.specs.declared.history.Refusal.{Refusal}
use Rattle.sd_base.specs.declared.history.Refusal.TheVariants.{Bad, Full, Unheld}
use Rattle.sd_base.specs.declared.history.Update.TheVariants.{Lock, Unlock, Hold, DropHold, Mask, Unmask, Work as Queues}
use Rattle.sd_base.specs.Selection.{is_below, passes, without_last}
use Rattle.sd_base.specs.History.{Entry, lock_key, mask_key, hold_key, work_key, has_key}
use Rattle.sd_base.specs.Sound.{IsSound}
use Rattle.share_table.proofs.Readings.{masked-is, held-is, domain-is}
use Rattle.sd_base.specs.Part.{Serves, Loses}
use Rattle.share_table.specs.declared.queue.Work.{Work}
use Rattle.share_table.specs.declared.answers.ShareRefusal.{ShareRefusal}
use Rattle.share_table.specs.Answers.{refusal_of_share}
use Rattle.share_table.specs.Locks.{lock_at, HoldsLocks, is_who, has_holder, takes_lock}
use Rattle.share_table.specs.Masks.{mask_at, HoldsMasks, any_held, is_mask}
use Rattle.share_table.specs.Holds.{holds_at, HoldsHolds, IsCounts, held_by_all}
use Rattle.share_table.specs.Queue.{is_owned, put_refusal, IsQueue}
use Rattle.share_table.specs.Rows.{ShareRows}
use Rattle.share_table.specs.Table.{HoldsShares, TakesFront}
use Rattle.share_table.proofs.Locked.{unlock_unheld, unlock_done, loses_lock}
use Rattle.share_table.proofs.Masked.{serves_unmask, loses_mask}
use Rattle.share_table.proofs.Held.{hold_full, hold_done, drop_bad, drop_done, loses_hold}
use Rattle.share_table.proofs.Queued.{work_of, serves_queue, loses_work}
use Rattle.share_table.proofs.Turns.{IsQueue-push, room_for}
use Rattle.share_table.proofs.Parts.{with_locks, with_masks, with_holds, with_work, takes_front, lose_lock, lose_mask, lose_hold, lose_work}

cast : (z : ℤ) → SFits w32 z → to_z w32 (of_z w32 z) ≡ z
cast z fits = simp to_z-of_z

fits_below : (place : ℕ) → place < 64 → is_below 64 (pos place) ≡ true
fits_below place h = grind (arith, nat_tests)

-- no lock has a number out of range
past_end : {X : Type 0} (xs : List X) (k : ℕ) (d : X) → length xs ≤ k → get_or xs k d ≡ d
past_end [] k d h = refl
past_end (x ∷ xs) zero d h = absurd (omega arith)
past_end (x ∷ xs) (suc k) d h = past_end xs k d (omega arith)

pub no_lock : (locks : List (Option Who)) (z : ℤ) → length locks ≡ 64 → is_below 64 z ≡ false → lock_at locks z ≡ None
no_lock locks (pos k) long out = (let past : 64 ≤ k = grind (arith, nat_tests) in past_end locks k None (omega arith))
no_lock locks (negsuc k) long out = refl

pub the_lock : (locks : List (Option Who)) (place : ℕ) (z : ℤ) → z ≡ pos place → get_or locks place None ≡ lock_at locks z
the_lock locks place z is = sym (ap (lock_at locks) is)

-- locks
pub unlock_unheld_at : (v locks : List (Option Who)) (who : Who) (k : ℕ) (z : ℤ) → locks ≡ v → z ≡ pos k → k < 64 → passes (is_who who) (get_or locks k None) ≡ false →
    Serves HoldsLocks v who.owner (Unlock z who.task) (Some Unheld) v
unlock_unheld_at v locks who k z view is short other =
    subst (λ (w : List (Option Who)). Serves HoldsLocks w who.owner (Unlock z who.task) (Some Unheld) w) view
    (subst (λ (y : ℤ). Serves HoldsLocks locks who.owner (Unlock y who.task) (Some Unheld) locks) (sym is) (unlock_unheld locks who.owner who.task k (fits_below k short) other))

pub unlock_done_at : (v locks : List (Option Who)) (who : Who) (k p : ℕ) (z : ℤ) → locks ≡ v → z ≡ pos k → k < 64 → p ≡ k → length locks ≡ 64 → passes (is_who who) (get_or locks p None) ≡ true →
    Serves HoldsLocks v who.owner (Unlock z who.task) None (set locks p None)
unlock_done_at v locks who k p z view is short at long own =
    subst (λ (w : List (Option Who)). Serves HoldsLocks w who.owner (Unlock z who.task) None (set locks p None)) view
    (subst (λ (y : ℤ). Serves HoldsLocks locks who.owner (Unlock y who.task) None (set locks p None)) (sym is)
    (subst (λ (n : ℕ). Serves HoldsLocks locks who.owner (Unlock (pos k) who.task) None (set locks n None)) (sym at)
    (unlock_done locks who.owner who.task k long short (fits_below k short) (subst (λ (n : ℕ). passes (is_who who) (get_or locks n None) ≡ true) at own))))

who_itself : (who : Who) (o : Option Who) → o ≡ Some who → passes (is_who who) o ≡ true
who_itself who o is = ap (passes (is_who who)) is ∙ (let own : is_who who who ≡ true = grind (arith, nat_tests) in own)

pub loses_lock_at : (v locks : List (Option Who)) (who : Who) (k p : ℕ) (z : ℤ) → locks ≡ v → z ≡ pos k → k < 64 → p ≡ k → length locks ≡ 64 → lock_at v z ≡ Some who →
    Loses HoldsLocks v who.owner (lock_key z who.task) (set locks p None)
loses_lock_at v locks who k p z view is short at long own =
    let here : get_or locks k None ≡ Some who = the_lock locks k z is ∙ ap (λ w. lock_at w z) view ∙ own in
    subst (λ (w : List (Option Who)). Loses HoldsLocks w who.owner (lock_key z who.task) (set locks p None)) view
    (subst (λ (y : ℤ). Loses HoldsLocks locks who.owner (lock_key y who.task) (set locks p None)) (sym is)
    (subst (λ (n : ℕ). Loses HoldsLocks locks who.owner (lock_key (pos k) who.task) (set locks n None)) (sym at)
    (loses_lock locks who.owner who.task k long short (who_itself who (get_or locks k None) here))))

-- masks
pub unmask_at : (v masks : List Bool) (who : Who) (p : ℕ) → masks ≡ v → p ≡ who.owner * 9 + who.task → length masks ≡ 45 → who.owner ≤ 4 → who.task ≤ 8 → get_or masks p false ≡ true →
    Serves HoldsMasks v who.owner (Unmask who.task) None (set masks p false)
unmask_at v masks who p view at long few tasks held =
    let fits : ltb who.task 9 ≡ true = grind (arith, nat_tests) in
    let here : mask_at masks who.owner who.task ≡ true =
    ap (λ b. cond b (get_or masks (who.owner * 9 + who.task) false) false) fits ∙ ap (λ n. get_or masks n false) (sym at) ∙ held in
    subst (λ (w : List Bool). Serves HoldsMasks w who.owner (Unmask who.task) None (set masks p false)) view
    (subst (λ (n : ℕ). Serves HoldsMasks masks who.owner (Unmask who.task) None (set masks n false)) (sym at) (serves_unmask masks who.owner who.task long few tasks here))

pub loses_mask_at : (v masks : List Bool) (who : Who) (p : ℕ) → masks ≡ v → p ≡ who.owner * 9 + who.task → length masks ≡ 45 → who.owner ≤ 4 → who.task ≤ 8 →
    Loses HoldsMasks v who.owner (mask_key who.task) (set masks p false)
loses_mask_at v masks who p view at long few tasks =
    subst (λ (w : List Bool). Loses HoldsMasks w who.owner (mask_key who.task) (set masks p false)) view
    (subst (λ (n : ℕ). Loses HoldsMasks masks who.owner (mask_key who.task) (set masks n false)) (sym at) (loses_mask masks who.owner who.task long few tasks))

-- holds
pub hold_full_at : (v counts : List ℕ) (owner k p : ℕ) (z : ℤ) → counts ≡ v → z ≡ pos k → k < 64 → p ≡ owner * 64 + k → 8 ≤ get_or counts p 0 →
    Serves HoldsHolds v owner (Hold z) (Some Full) v
hold_full_at v counts owner k p z view is short at many =
    subst (λ (w : List ℕ). Serves HoldsHolds w owner (Hold z) (Some Full) w) view
    (subst (λ (y : ℤ). Serves HoldsHolds counts owner (Hold y) (Some Full) counts) (sym is)
    (hold_full counts owner k (fits_below k short) (subst (λ (n : ℕ). 8 ≤ get_or counts n 0) at many)))

pub hold_done_at : (v counts : List ℕ) (owner k p : ℕ) (z : ℤ) → counts ≡ v → z ≡ pos k → k < 64 → p ≡ owner * 64 + k → IsCounts counts → owner ≤ 4 → get_or counts p 0 < 8 →
    Serves HoldsHolds v owner (Hold z) None (set counts p (get_or counts p 0 + 1))
hold_done_at v counts owner k p z view is short at counted few room =
    subst (λ (w : List ℕ). Serves HoldsHolds w owner (Hold z) None (set counts p (get_or counts p 0 + 1))) view
    (subst (λ (y : ℤ). Serves HoldsHolds counts owner (Hold y) None (set counts p (get_or counts p 0 + 1))) (sym is)
    (subst (λ (n : ℕ). Serves HoldsHolds counts owner (Hold (pos k)) None (set counts n (get_or counts n 0 + 1))) (sym at)
    (hold_done counts owner k counted.places few short (fits_below k short) (subst (λ (n : ℕ). get_or counts n 0 < 8) at room))))

no_hold : (counts : List ℕ) (owner : ℕ) (z : ℤ) → is_below 64 z ≡ false → holds_at counts owner z ≡ 0
no_hold counts owner (pos k) out = ap (λ b. let n : ℕ = cond b (get_or counts (owner * 64 + k) 0) 0 in n) out
no_hold counts owner (negsuc k) out = refl

pub drop_none_at : (v : List ℕ) (owner : ℕ) (z : ℤ) → is_below 64 z ≡ false → Serves HoldsHolds v owner (DropHold z) (Some Bad) v
drop_none_at v owner z out = drop_bad v owner z (no_hold v owner z out)

pub drop_zero_at : (v counts : List ℕ) (owner k p : ℕ) (z : ℤ) → counts ≡ v → z ≡ pos k → k < 64 → p ≡ owner * 64 + k → get_or counts p 0 ≡ 0 →
    Serves HoldsHolds v owner (DropHold z) (Some Bad) v
drop_zero_at v counts owner k p z view is short at zero_held =
    let here : holds_at counts owner (pos k) ≡ 0 = ap (λ b. let n : ℕ = cond b (get_or counts (owner * 64 + k) 0) 0 in n) (fits_below k short) ∙ ap (λ n. get_or counts n 0) (sym at) ∙ zero_held in
    drop_bad v owner z (ap (holds_at v owner) is ∙ ap (λ w. holds_at w owner (pos k)) (sym view) ∙ here)

pub drop_done_at : (v counts : List ℕ) (owner k p : ℕ) (z : ℤ) → counts ≡ v → z ≡ pos k → k < 64 → p ≡ owner * 64 + k → IsCounts counts → owner ≤ 4 → 0 < get_or counts p 0 →
    Serves HoldsHolds v owner (DropHold z) None (set counts p (get_or counts p 0 - 1))
drop_done_at v counts owner k p z view is short at counted few some =
    subst (λ (w : List ℕ). Serves HoldsHolds w owner (DropHold z) None (set counts p (get_or counts p 0 - 1))) view
    (subst (λ (y : ℤ). Serves HoldsHolds counts owner (DropHold y) None (set counts p (get_or counts p 0 - 1))) (sym is)
    (subst (λ (n : ℕ). Serves HoldsHolds counts owner (DropHold (pos k)) None (set counts n (get_or counts n 0 - 1))) (sym at)
    (drop_done counts owner k counted.places few short (fits_below k short) (subst (λ (n : ℕ). 0 < get_or counts n 0) at some))))

pub loses_hold_at : (v counts : List ℕ) (owner k p : ℕ) (z : ℤ) → counts ≡ v → z ≡ pos k → k < 64 → p ≡ owner * 64 + k → IsCounts counts → owner ≤ 4 → 0 < holds_at v owner z →
    Loses HoldsHolds v owner (hold_key z) (set counts p (get_or counts p 0 - 1))
loses_hold_at v counts owner k p z view is short at counted few some =
    let moved : 0 < holds_at counts owner (pos k) = subst (λ (y : ℤ). 0 < holds_at counts owner y) is (subst (λ (w : List ℕ). 0 < holds_at w owner z) (sym view) some) in
    let same : holds_at counts owner (pos k) ≡ get_or counts (owner * 64 + k) 0 = ap (λ b. let n : ℕ = cond b (get_or counts (owner * 64 + k) 0) 0 in n) (fits_below k short) in
    subst (λ (w : List ℕ). Loses HoldsHolds w owner (hold_key z) (set counts p (get_or counts p 0 - 1))) view
    (subst (λ (y : ℤ). Loses HoldsHolds counts owner (hold_key y) (set counts p (get_or counts p 0 - 1))) (sym is)
    (subst (λ (n : ℕ). Loses HoldsHolds counts owner (hold_key (pos k)) (set counts n (get_or counts n 0 - 1))) (sym at)
    (loses_hold counts owner k counted.places few short (fits_below k short) (omega arith))))

-- the queue
no_err : {A B : Type 0} (r : Result A B) → IsOk r → true ≡ is_err r → ⊥
no_err (Ok x) h e = cc
no_err (Err x) h e = cc

pub is_ok_then : {A B : Type 0} (r : Result A B) (P : Type 0) → OnOk r P → false ≡ is_err r → P
is_ok_then (Ok x) P h e = h
is_ok_then (Err x) P h e = cc

pub never_full : (work : Work) (items v : List Work) (capacity n : ℕ) (r : Result (Unit {0}) Work) → items ≡ v → IsQueue items capacity → 0 < work.owner → work.owner ≤ 4 → n ≡ count_by (is_owned work.owner) v → n < 64 →
    (length items < capacity → IsOk r) → true ≡ is_err r → ⊥
never_full work items v capacity n r view queue some few counted below ok err =
    let here : count_by (is_owned work.owner) items < 64 = subst (λ (w : List Work). count_by (is_owned work.owner) w < 64) (sym view) (subst (λ (m : ℕ). m < 64) counted below) in
    no_err r (ok (room_for work items capacity queue some few here)) err

pub put_keeps : (work : Work) (items v : List Work) (b : Buffer Work) (capacity n : ℕ) → items ≡ v → IsQueue items capacity → 0 < work.owner → work.owner ≤ 4 → n ≡ count_by (is_owned work.owner) v → n < 64 →
    b ≡ buffer (items ++ work ∷ []) capacity → IsQueue b.items b.capacity
put_keeps work items v b capacity n view queue some few counted below is =
    let here : count_by (is_owned work.owner) items < 64 = subst (λ (w : List Work). count_by (is_owned work.owner) w < 64) (sym view) (subst (λ (m : ℕ). m < 64) counted below) in
    subst (λ (q : Buffer Work). IsQueue q.items q.capacity) (sym is) (IsQueue-push work items capacity queue some few here)

-- the whole table
abbrev pub rows_of : List (Option Who) → List Bool → List ℕ → List Work → ShareRows
rows_of locks masks holds work = record { locks = locks; masks = masks; holds = holds; work = work }

pub lock_call : (v : ShareRows) (locks new : List (Option Who)) (masks : List Bool) (holds : List ℕ) (work : List Work) (who : Who) (z : ℤ) (answer : Option Refusal) → rows_of locks masks holds work ≡ v → SFits w32 z →
    Serves HoldsLocks locks who.owner (Lock (to_z w32 (of_z w32 z)) who.task) answer new → Serves HoldsShares v who.owner (Lock z who.task) answer (rows_of new masks holds work)
lock_call v locks new masks holds work who z answer view fits s =
    subst (λ (w : ShareRows). Serves HoldsShares w who.owner (Lock z who.task) answer (rows_of new masks holds work)) view
    (with_locks (rows_of locks masks holds work) new who.owner (Lock z who.task) answer refl refl refl
    (subst (λ (y : ℤ). Serves HoldsLocks locks who.owner (Lock y who.task) answer new) (cast z fits) s))

pub unlock_call : (v : ShareRows) (locks new : List (Option Who)) (masks : List Bool) (holds : List ℕ) (work : List Work) (who : Who) (z : ℤ) (answer : Option Refusal) → rows_of locks masks holds work ≡ v → SFits w32 z →
    Serves HoldsLocks locks who.owner (Unlock (to_z w32 (of_z w32 z)) who.task) answer new → Serves HoldsShares v who.owner (Unlock z who.task) answer (rows_of new masks holds work)
unlock_call v locks new masks holds work who z answer view fits s =
    subst (λ (w : ShareRows). Serves HoldsShares w who.owner (Unlock z who.task) answer (rows_of new masks holds work)) view
    (with_locks (rows_of locks masks holds work) new who.owner (Unlock z who.task) answer refl refl refl
    (subst (λ (y : ℤ). Serves HoldsLocks locks who.owner (Unlock y who.task) answer new) (cast z fits) s))

pub mask_call : (v : ShareRows) (locks : List (Option Who)) (masks new : List Bool) (holds : List ℕ) (work : List Work) (who : Who) (answer : Option Refusal) → rows_of locks masks holds work ≡ v →
    Serves HoldsMasks masks who.owner (Mask who.task) answer new → Serves HoldsShares v who.owner (Mask who.task) answer (rows_of locks new holds work)
mask_call v locks masks new holds work who answer view s =
    subst (λ (w : ShareRows). Serves HoldsShares w who.owner (Mask who.task) answer (rows_of locks new holds work)) view
    (with_masks (rows_of locks masks holds work) new who.owner (Mask who.task) answer refl refl refl s)

pub unmask_call : (v : ShareRows) (locks : List (Option Who)) (masks new : List Bool) (holds : List ℕ) (work : List Work) (who : Who) (answer : Option Refusal) → rows_of locks masks holds work ≡ v →
    Serves HoldsMasks masks who.owner (Unmask who.task) answer new → Serves HoldsShares v who.owner (Unmask who.task) answer (rows_of locks new holds work)
unmask_call v locks masks new holds work who answer view s =
    subst (λ (w : ShareRows). Serves HoldsShares w who.owner (Unmask who.task) answer (rows_of locks new holds work)) view
    (with_masks (rows_of locks masks holds work) new who.owner (Unmask who.task) answer refl refl refl s)

pub hold_call : (v : ShareRows) (locks : List (Option Who)) (masks : List Bool) (holds new : List ℕ) (work : List Work) (owner : ℕ) (z : ℤ) (answer : Option Refusal) → rows_of locks masks holds work ≡ v → SFits w32 z →
    Serves HoldsHolds holds owner (Hold (to_z w32 (of_z w32 z))) answer new → Serves HoldsShares v owner (Hold z) answer (rows_of locks masks new work)
hold_call v locks masks holds new work owner z answer view fits s =
    subst (λ (w : ShareRows). Serves HoldsShares w owner (Hold z) answer (rows_of locks masks new work)) view
    (with_holds (rows_of locks masks holds work) new owner (Hold z) answer refl refl refl (subst (λ (y : ℤ). Serves HoldsHolds holds owner (Hold y) answer new) (cast z fits) s))

on_ok : (r : Result (Unit {0}) ShareRefusal) (P : Type 0) → OnOk r P → refusal_of_share r ≡ None → P
on_ok (Ok x) P h ok = h
on_ok (Err e) P h ok = cc

pub queue_call : (v : ShareRows) (locks : List (Option Who)) (masks : List Bool) (holds : List ℕ) (work new : List Work) (owner handler : ℕ) (arg : ℤ) (r : Result (Unit {0}) ShareRefusal) → rows_of locks masks holds work ≡ v →
    refusal_of_share r ≡ put_refusal work owner → OnOk r (new ≡ work ++ work_of owner handler arg ∷ []) →
    Serves HoldsShares v owner (Queues handler arg) (refusal_of_share r) (rows_of locks masks holds new)
queue_call v locks masks holds work new owner handler arg r view answer put =
    subst (λ (w : ShareRows). Serves HoldsShares w owner (Queues handler arg) (refusal_of_share r) (rows_of locks masks holds new)) view
    (with_work (rows_of locks masks holds work) new owner (Queues handler arg) (refusal_of_share r) refl refl refl
    (serves_queue work new owner handler arg (refusal_of_share r) answer (λ ok. on_ok r (new ≡ work ++ work_of owner handler arg ∷ []) put ok)))

taken : (v : ShareRows) (o : Option Work) (rest : List Work) → MatchOption o ((v.work ≡ []) × (rest ≡ [])) (λ work. v.work ≡ work ∷ rest) → TakesFront v o (record v { work = rest })
taken v None rest h = (h.0, ap (λ (w : List Work). rows_of v.locks v.masks v.holds w) (h.1 ∙ sym h.0))
taken v (Some work) rest h = takes_front v work rest h

pub take_call : (v : ShareRows) (locks : List (Option Who)) (masks : List Bool) (holds : List ℕ) (work rest : List Work) (o : Option Work) → rows_of locks masks holds work ≡ v →
    MatchOption o ((work ≡ []) × (rest ≡ [])) (λ front. work ≡ front ∷ rest) → TakesFront v o (rows_of locks masks holds rest)
take_call v locks masks holds work rest o view h =
    subst (λ (w : ShareRows). TakesFront w o (rows_of locks masks holds rest)) view (taken (rows_of locks masks holds work) o rest h)

pub remove_lock_call : (v : ShareRows) (locks new : List (Option Who)) (masks : List Bool) (holds : List ℕ) (work : List Work) (who : Who) (z : ℤ) → rows_of locks masks holds work ≡ v → SFits w32 z →
    Loses HoldsLocks locks who.owner (lock_key (to_z w32 (of_z w32 z)) who.task) new → Loses HoldsShares v who.owner (lock_key z who.task) (rows_of new masks holds work)
remove_lock_call v locks new masks holds work who z view fits s =
    subst (λ (w : ShareRows). Loses HoldsShares w who.owner (lock_key z who.task) (rows_of new masks holds work)) view
    (lose_lock (rows_of locks masks holds work) new who.owner (lock_key z who.task) refl refl refl (subst (λ (y : ℤ). Loses HoldsLocks locks who.owner (lock_key y who.task) new) (cast z fits) s))

pub remove_mask_call : (v : ShareRows) (locks : List (Option Who)) (masks new : List Bool) (holds : List ℕ) (work : List Work) (who : Who) → rows_of locks masks holds work ≡ v →
    Loses HoldsMasks masks who.owner (mask_key who.task) new → Loses HoldsShares v who.owner (mask_key who.task) (rows_of locks new holds work)
remove_mask_call v locks masks new holds work who view s =
    subst (λ (w : ShareRows). Loses HoldsShares w who.owner (mask_key who.task) (rows_of locks new holds work)) view
    (lose_mask (rows_of locks masks holds work) new who.owner (mask_key who.task) refl refl refl s)

pub remove_hold_call : (v : ShareRows) (locks : List (Option Who)) (masks : List Bool) (holds new : List ℕ) (work : List Work) (owner : ℕ) (z : ℤ) → rows_of locks masks holds work ≡ v → SFits w32 z →
    Loses HoldsHolds holds owner (hold_key (to_z w32 (of_z w32 z))) new → Loses HoldsShares v owner (hold_key z) (rows_of locks masks new work)
remove_hold_call v locks masks holds new work owner z view fits s =
    subst (λ (w : ShareRows). Loses HoldsShares w owner (hold_key z) (rows_of locks masks new work)) view
    (lose_hold (rows_of locks masks holds work) new owner (hold_key z) refl refl refl (subst (λ (y : ℤ). Loses HoldsHolds holds owner (hold_key y) new) (cast z fits) s))

pub remove_work_call : (v : ShareRows) (locks : List (Option Who)) (masks : List Bool) (holds : List ℕ) (work new : List Work) (owner : ℕ) → rows_of locks masks holds work ≡ v →
    new ≡ without_last (is_owned owner) work → Loses HoldsShares v owner work_key (rows_of locks masks holds new)
remove_work_call v locks masks holds work new owner view is =
    subst (λ (w : ShareRows). Loses HoldsShares w owner work_key (rows_of locks masks holds new)) view
    (lose_work (rows_of locks masks holds work) new owner work_key refl refl refl (loses_work work new owner is))

-- what is read
pub masked_call : (v : ShareRows) (locks : List (Option Who)) (held : List Bool) (counts : List ℕ) (work : List Work) (r : Bool) → rows_of locks held counts work ≡ v → r ≡ any_held held →
    (live : List Entry) → HoldsShares v live → r ≡ list_any is_mask live
masked_call v locks held counts work r view is live all =
    is ∙ ap (λ (w : ShareRows). any_held w.masks) view ∙ masked-is v.masks live all.masks

pub holds_lock_call : (v : ShareRows) (locks : List (Option Who)) (held : List Bool) (counts : List ℕ) (work : List Work) (who : Who) (r : Bool) → rows_of locks held counts work ≡ v → r ≡ has_holder who locks →
    (live : List Entry) → IsSound live → HoldsShares v live → r ≡ list_any (takes_lock who) live
holds_lock_call v locks held counts work who r view is live sound all =
    is ∙ ap (λ (w : ShareRows). has_holder who w.locks) view ∙ held-is who v.locks live sound all.locks

pub domain_call : (v : ShareRows) (locks : List (Option Who)) (held : List Bool) (counts : List ℕ) (work : List Work) (z : ℤ) (r : ℕ) → rows_of locks held counts work ≡ v → SFits w32 z → length counts ≡ 320 →
    r ≡ held_by_all counts (to_z w32 (of_z w32 z)) → (live : List Entry) → HoldsShares v live → r ≡ count_by (has_key (hold_key z)) live
domain_call v locks held counts work z r view fits long is live all =
    let here : HoldsHolds counts live = subst (λ (w : ShareRows). HoldsHolds w.holds live) (sym view) all.holds in
    is ∙ ap (held_by_all counts) (cast z fits) ∙ domain-is counts live z long here

pub drop_hold_call : (v : ShareRows) (locks : List (Option Who)) (masks : List Bool) (holds new : List ℕ) (work : List Work) (owner : ℕ) (z : ℤ) (answer : Option Refusal) → rows_of locks masks holds work ≡ v → SFits w32 z →
    Serves HoldsHolds holds owner (DropHold (to_z w32 (of_z w32 z))) answer new → Serves HoldsShares v owner (DropHold z) answer (rows_of locks masks new work)
drop_hold_call v locks masks holds new work owner z answer view fits s =
    subst (λ (w : ShareRows). Serves HoldsShares w owner (DropHold z) answer (rows_of locks masks new work)) view
    (with_holds (rows_of locks masks holds work) new owner (DropHold z) answer refl refl refl (subst (λ (y : ℤ). Serves HoldsHolds holds owner (DropHold y) answer new) (cast z fits) s))
