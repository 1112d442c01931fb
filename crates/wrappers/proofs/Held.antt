-- What a history says of locks, masks, blocks, ports, parameters and timers, as the rows of their calls say it.
use Rattle.std.proofs.Common.{◌≡◌, ℕ, zero, suc, ◌+◌, ◌*◌, ◌<◌, ◌≤◌, ◌^◌, Bool, true, false, cond, not, ◌&&◌, ◌||◌, eqb, ltb, List, [], ◌∷◌, length, slice_get, ℤ, pos, negsuc, ◌+ℤ◌, int_lt, nat_abs, Option, Some, None, refl, ap, sym, ◌∙◌, subst, arith}
use Rattle.std.proofs.lemmas.Bool.Decides.{nat_tests}
use Rattle.std.proofs.lemmas.Int.{ints}
use Rattle.std.specs.Option.{unwrap_or}
use Rattle.std.specs.List.{list_any, find, count_by}
use Rattle.sd_base.specs.declared.actors.Who.{Who}
use Rattle.sd_base.specs.declared.history.Refusal.{Refusal}
use Rattle.sd_base.specs.declared.history.Refusal.TheVariants.{Busy, Bad, Full, HeldBy, NotBlock, Freed, Unheld, NoRoom}
use Rattle.sd_base.specs.declared.history.Update.{Update}
use Rattle.sd_base.specs.declared.history.Update.TheVariants as update
use Rattle.sd_base.specs.declared.kinds.FailKind.TheVariants as fail
use Rattle.sd_base.specs.Selection.{is_below}
use Rattle.sd_base.specs.History.{Entry, History, OfTimers, lock_key, mask_key, timer_key, live_key, is_of, is_of_kind, live_of, clock_of}
use Rattle.sd_base.specs.Blocks.{Block, next_base, count_of, is_image, is_freed, has_base, has_room, granted}
use Rattle.sd_base.specs.Allowed.{free_refusal, held_by, is_lock, is_range, is_astray, refusal, IsLawful}
use Rattle.sd_base.proofs.Range.{none_astray}
use Rattle.grant_table.proofs.GrantPartKept.{granted-live_of}
use Rattle.claim_table.specs.ClaimPart.{holds_port, port_in, values_of}
use Rattle.device_model.specs.Scripted.{Scripted, answers_of, oldest_or_zero}
use Rattle.sd_base.specs.Numbers.{number_of}
use Rattle.wrappers.specs.Serving.{IsRead}
use Rattle.wrappers.specs.declared.call_out.Saying.TheVariants.{Out}
use Rattle.share_table.specs.Locks.{holder_of}
use Rattle.wrappers.specs.declared.call_out.CallOut.TheVariants.{Fail, Blocked, Reply, Said}
use Rattle.wrappers.specs.Served.{Served, gives, replies, bad, full, done, does, says, fails, points, grants}
use Rattle.wrappers.specs.Replies.{not_taken, not_let_go}
use Rattle.wrappers.specs.Rows as row
use Rattle.wrappers.proofs.Rules.{few, ruled}
use Rattle.checked_tree.specs.Operands.{null}

-- locks

abbrev lock_by : Bool → Bool → Who → ℤ → Option Entry → Served
lock_by below masked who k found = cond (not below) (fails fail.Lock) (cond masked (fails fail.Masked) (row.by_holder who k (holder_of found)))

taken_by : (below masked : Bool) (who : Who) (k : ℤ) (found : Option Entry) → cond below (held_by found) (Some Bad) ≡ None → masked ≡ false → lock_by below masked who k found ≡ does (update.Lock k who.task)
taken_by true false who k None free unmasked = refl
taken_by true false who k (Some e) free unmasked = cc
taken_by true true who k found free unmasked = cc
taken_by false masked who k found free unmasked = cc

refused_by : (below masked : Bool) (who : Who) (k : ℤ) (found : Option Entry) (r : Refusal) → cond below (held_by found) (Some Bad) ≡ Some r → masked ≡ false → lock_by below masked who k found ≡ gives (not_taken who k r)
refused_by true false who k None r held unmasked = cc
refused_by true false who k (Some e) r held unmasked =
    let same : HeldBy (record { owner = e.owner; task = (live_key e.update).task }) ≡ r = cc in
    ap (λ x. gives (not_taken who k x)) same
refused_by true true who k found r held unmasked = cc
refused_by false masked who k found r held unmasked =
    let same : Bad ≡ r = cc in
    ap (λ x. gives (not_taken who k x)) same

pub lock_made : (h : History) (who : Who) (k : ℤ) (share : ℕ) → refusal share h who.owner (update.Lock k who.task) ≡ None → row.holds_mask h who ≡ false → row.lock h who k ≡ does (update.Lock k who.task)
lock_made h who k share allowed unmasked = taken_by (is_below 64 k) (row.holds_mask h who) who k (find (is_lock k) (live_of h)) allowed unmasked

pub lock_refused : (h : History) (who : Who) (k : ℤ) (share : ℕ) (r : Refusal) → refusal share h who.owner (update.Lock k who.task) ≡ Some r → row.holds_mask h who ≡ false → row.lock h who k ≡ gives (not_taken who k r)
lock_refused h who k share r refused unmasked = refused_by (is_below 64 k) (row.holds_mask h who) who k (find (is_lock k) (live_of h)) r refused unmasked

pub lock_out_of_range : (h : History) (who : Who) (k : ℤ) → is_below 64 k ≡ false → row.lock h who k ≡ fails fail.Lock
lock_out_of_range h who k out = ap (λ b. lock_by b (row.holds_mask h who) who k (find (is_lock k) (live_of h))) out

pub lock_masked : (h : History) (who : Who) (k : ℤ) → is_below 64 k ≡ true → row.holds_mask h who ≡ true → row.lock h who k ≡ fails fail.Masked
lock_masked h who k below masked =
    ap (λ b. lock_by b (row.holds_mask h who) who k (find (is_lock k) (live_of h))) below ∙ ap (λ b. lock_by true b who k (find (is_lock k) (live_of h))) masked

let_go_by : (below own : Bool) (u : Update) → cond below (cond own None (Some Unheld)) (Some Bad) ≡ None → cond (not below) (fails fail.Lock) (cond (not own) (fails fail.Unheld) (does u)) ≡ does u
let_go_by true true u free = refl
let_go_by true false u free = cc
let_go_by false own u free = cc

kept_by : (below own : Bool) (u : Update) (r : Refusal) → cond below (cond own None (Some Unheld)) (Some Bad) ≡ Some r → cond (not below) (fails fail.Lock) (cond (not own) (fails fail.Unheld) (does u)) ≡ gives (not_let_go r)
kept_by true true u r held = cc
kept_by true false u r held =
    let same : Unheld ≡ r = cc in
    ap (λ x. gives (not_let_go x)) same
kept_by false own u r held =
    let same : Bad ≡ r = cc in
    ap (λ x. gives (not_let_go x)) same

pub unlock_made : (h : History) (who : Who) (k : ℤ) (share : ℕ) → refusal share h who.owner (update.Unlock k who.task) ≡ None → row.unlock h who k ≡ does (update.Unlock k who.task)
unlock_made h who k share allowed = let_go_by (is_below 64 k) (list_any (is_of who.owner (lock_key k who.task)) (live_of h)) (update.Unlock k who.task) allowed

pub unlock_refused : (h : History) (who : Who) (k : ℤ) (share : ℕ) (r : Refusal) → refusal share h who.owner (update.Unlock k who.task) ≡ Some r → row.unlock h who k ≡ gives (not_let_go r)
unlock_refused h who k share r refused = kept_by (is_below 64 k) (list_any (is_of who.owner (lock_key k who.task)) (live_of h)) (update.Unlock k who.task) r refused

-- masks

unheld_by : (held : Bool) (s t : Served) → cond held (Some Busy) None ≡ None → cond held s t ≡ t
unheld_by true s t free = cc
unheld_by false s t free = refl

held_by_it : (held : Bool) (s t : Served) (r : Refusal) → cond held (Some Busy) None ≡ Some r → cond held s t ≡ s
held_by_it true s t r busy = refl
held_by_it false s t r busy = cc

pub mask_made : (h : History) (who : Who) (share : ℕ) → refusal share h who.owner (update.Mask who.task) ≡ None → row.mask h who ≡ does (update.Mask who.task)
mask_made h who share allowed = unheld_by (row.holds_mask h who) (fails fail.Relock) (does (update.Mask who.task)) allowed

pub mask_refused : (h : History) (who : Who) (share : ℕ) (r : Refusal) → refusal share h who.owner (update.Mask who.task) ≡ Some r → row.mask h who ≡ fails fail.Relock
mask_refused h who share r refused = held_by_it (row.holds_mask h who) (fails fail.Relock) (does (update.Mask who.task)) r refused

own_by : (own : Bool) (s t : Served) → cond own None (Some Unheld) ≡ None → cond (not own) s t ≡ t
own_by true s t free = refl
own_by false s t free = cc

not_own_by : (own : Bool) (s t : Served) (r : Refusal) → cond own None (Some Unheld) ≡ Some r → cond (not own) s t ≡ s
not_own_by true s t r unheld = cc
not_own_by false s t r unheld = refl

pub unmask_made : (h : History) (who : Who) (share : ℕ) → refusal share h who.owner (update.Unmask who.task) ≡ None → row.unmask h who ≡ does (update.Unmask who.task)
unmask_made h who share allowed = own_by (row.holds_mask h who) (fails fail.Unheld) (does (update.Unmask who.task)) allowed

pub unmask_refused : (h : History) (who : Who) (share : ℕ) (r : Refusal) → refusal share h who.owner (update.Unmask who.task) ≡ Some r → row.unmask h who ≡ fails fail.Unheld
unmask_refused h who share r refused = not_own_by (row.holds_mask h who) (fails fail.Unheld) (does (update.Unmask who.task)) r refused

-- blocks

freed_by : (p : ℕ) (found : Option Block) → free_refusal found ≡ None → row.frees p found ≡ does (update.Free p)
freed_by p None free = cc
freed_by p (Some b) free = freed_in (is_image b.state) (is_freed b.state) free
  where
    freed_in : (image freed : Bool) → cond image (Some NotBlock) (cond freed (Some Freed) None) ≡ None → cond image (fails fail.Free) (cond freed (fails fail.Free) (does (update.Free p))) ≡ does (update.Free p)
    freed_in true freed free = cc
    freed_in false true free = cc
    freed_in false false free = refl

not_freed_by : (p : ℕ) (found : Option Block) (r : Refusal) → free_refusal found ≡ Some r → row.frees p found ≡ fails fail.Free
not_freed_by p None r refused = refl
not_freed_by p (Some b) r refused = not_freed_in (is_image b.state) (is_freed b.state) refused
  where
    not_freed_in : (image freed : Bool) → cond image (Some NotBlock) (cond freed (Some Freed) None) ≡ Some r → cond image (fails fail.Free) (cond freed (fails fail.Free) (does (update.Free p))) ≡ fails fail.Free
    not_freed_in true freed refused = refl
    not_freed_in false true refused = refl
    not_freed_in false false refused = cc

pub free_made : (h : History) (owner p share : ℕ) → eqb p 0 ≡ false → refusal share h owner (update.Free p) ≡ None → row.kfree h owner p ≡ does (update.Free p)
free_made h owner p share some allowed =
    ap (λ b. cond b done (row.frees p (find (has_base p) (granted h owner)))) some
    ∙ freed_by p (find (has_base p) (granted h owner)) (ap (λ bs. free_refusal (find (has_base p) bs)) (sym (granted-live_of h owner)) ∙ allowed)

pub free_refused : (h : History) (owner p share : ℕ) (r : Refusal) → eqb p 0 ≡ false → refusal share h owner (update.Free p) ≡ Some r → row.kfree h owner p ≡ fails fail.Free
free_refused h owner p share r some refused =
    ap (λ b. cond b done (row.frees p (find (has_base p) (granted h owner)))) some
    ∙ not_freed_by p (find (has_base p) (granted h owner)) r (ap (λ bs. free_refusal (find (has_base p) bs)) (sym (granted-live_of h owner)) ∙ refused)

-- there is room, or there is none
room_by : (room : Bool) → cond room None (Some NoRoom) ≡ None → room ≡ true
room_by true free = refl
room_by false free = cc

no_room_by : (room : Bool) (r : Refusal) → cond room None (Some NoRoom) ≡ Some r → room ≡ false
no_room_by true r refused = cc
no_room_by false r refused = refl

pub grant_refused : (h : History) (owner elem size : ℕ) (n : ℤ) (share : ℕ) (r : Refusal) → eqb size 0 ≡ false → refusal share h owner (update.Grant (row.elements elem size) n false) ≡ Some r →
    row.kalloc h owner elem size n ≡ points null
grant_refused h owner elem size n share r some refused =
    let full : has_room (granted h owner) (row.elements elem size) n ≡ false =
    ap (λ bs. has_room bs (row.elements elem size) n) (sym (granted-live_of h owner)) ∙ no_room_by (has_room (granted (live_of h) owner) (row.elements elem size) n) r refused in
    ap (λ b. cond b (points null) (cond (not (has_room (granted h owner) (row.elements elem size) n)) (points null) (row.allocates h owner elem size n))) some
    ∙ ap (λ b. cond (not b) (points null) (row.allocates h owner elem size n)) full

-- where there is room, the number of elements is one, and the block ends within the arena
pub record Fits (bs : List Block) (size : ℕ) (n : ℤ) : Type 0 where
  pub count : n ≡ pos (count_of n)
  pub few : count_of n < 2 ^ 32
  pub ends : next_base bs + size * count_of n < 2 ^ 32

many : (k n : ℕ) → n ≤ suc k * n
many k n = grind arith

room_fits : (bs : List Block) (elem size : ℕ) (n : ℤ) → eqb size 0 ≡ false → has_room bs (row.elements elem size) n ≡ true → Fits bs size n
room_fits bs elem size (negsuc n) some room = cc
room_fits bs elem size (pos n) some room =
    let within : next_base bs + size * n < 1048577 = grind (arith, nat_tests) in
    let one : 1 ≤ size = grind (arith, nat_tests) in
    record { count = refl; few = wide size n (next_base bs) one within; ends = omega arith }
  where
    wide : (size n base : ℕ) → 1 ≤ size → base + size * n < 1048577 → n < 2 ^ 32
    wide zero n base one within = absurd (omega arith)
    wide (suc k) n base one within = omega (arith, within, many k n)

pub grant_made : (h : History) (owner elem size : ℕ) (n : ℤ) (share : ℕ) → eqb size 0 ≡ false → refusal share h owner (update.Grant (row.elements elem size) n false) ≡ None →
    (row.kalloc h owner elem size n ≡ row.allocates h owner elem size n) × Fits (granted h owner) size n
grant_made h owner elem size n share some allowed =
    let room : has_room (granted h owner) (row.elements elem size) n ≡ true =
    ap (λ bs. has_room bs (row.elements elem size) n) (sym (granted-live_of h owner)) ∙ room_by (has_room (granted (live_of h) owner) (row.elements elem size) n) allowed in (
      ap (λ b. cond b (points null) (cond (not (has_room (granted h owner) (row.elements elem size) n)) (points null) (row.allocates h owner elem size n))) some
          ∙ ap (λ b. cond (not b) (points null) (row.allocates h owner elem size n)) room,
      room_fits (granted h owner) elem size n some room,
    )

-- ports: what an owner holds are ports

in_ports : (port base n : ℤ) → is_range base n ≡ true → (not (int_lt port base) && int_lt port (base +ℤ n)) ≡ true → is_below 65536 port ≡ true
in_ports port base n fits within = grind (arith, nat_tests, ints)

held_of : (owner : ℕ) (port : ℤ) (by : ℕ) (u : Update) → is_astray (record { owner = by; update = u }) ≡ false → (eqb by owner && port_in port u) ≡ true → is_below 65536 port ≡ true
held_of owner port by (update.Ports base n) sound held = in_ports port base n (grind arith) (grind arith)
held_of owner port by _ sound held = grind arith

held_in : (owner : ℕ) (port : ℤ) (live : List Entry) → list_any is_astray live ≡ false → list_any (λ (e : Entry). eqb e.owner owner && port_in port e.update) live ≡ true → is_below 65536 port ≡ true
held_in owner port [] sound held = cc
held_in owner port (e ∷ live) sound held =
    elim (eqb e.owner owner && port_in port e.update) as (λ b. (eqb e.owner owner && port_in port e.update) ≡ b → is_below 65536 port ≡ true) [
      | true ↦ λ here. held_of owner port e.owner e.update (grind arith) here
      | false ↦ λ here. held_in owner port live (grind arith) (grind arith)
    ] refl

pub held_port : (share : ℕ) (h : History) (owner : ℕ) (port : ℤ) → IsLawful share h → holds_port h owner port ≡ true → is_below 65536 port ≡ true
held_port share h owner port lawful held = held_in owner port (live_of h) (none_astray share h lawful) held

-- parameters and timers

pub first_value : (vs : List ℤ) → unwrap_or (slice_get vs 0) (pos 0) ≡ row.first_or_zero vs
first_value [] = refl
first_value (v ∷ vs) = refl

and_false : (a b : Bool) → b ≡ false → (a && b) ≡ false
and_false true b h = h
and_false false b h = refl

and_true : (a b : Bool) → b ≡ true → (a && b) ≡ a
and_true true b h = h
and_true false b h = refl

pub timer_too_far : (h : History) (owner : ℕ) (i d : ℤ) (handler : ℕ) (a : ℤ) → row.is_distance d ≡ false → row.set_timer h owner i d handler a ≡ bad
timer_too_far h owner i d handler a far =
    ap (λ b. cond (not b) bad (cond (not (row.has_timer_left h owner i)) full (does (update.Timer i (clock_of h + nat_abs d) handler a)))) (and_false (is_below 256 i) (row.is_distance d) far)

pub timer_row : (owner : ℕ) (i d : ℤ) (due handler : ℕ) (a : ℤ) → row.is_distance d ≡ true → (share : ℕ) (h : History) → due ≡ clock_of h + nat_abs d →
    ruled share h owner (update.Timer i due handler a) ≡ row.set_timer h owner i d handler a
timer_row owner i d due handler a near share h is =
    few (update.Timer i due handler a) (is_below 256 i) (row.has_timer_left h owner i)
    ∙ ap (λ m. cond (not (is_below 256 i)) bad (cond (not (row.has_timer_left h owner i)) full (does (update.Timer i m handler a)))) is
    ∙ ap (λ b. cond (not b) bad (cond (not (row.has_timer_left h owner i)) full (does (update.Timer i (clock_of h + nat_abs d) handler a)))) (sym (and_true (is_below 256 i) (row.is_distance d) near))

-- ports of an owner, by their numbers

numbered : (port : ℤ) → is_below 65536 port ≡ true → number_of 65536 port ≡ Some (nat_abs port)
numbered (pos n) below = ap (λ b. cond b (Some n) None) below
numbered (negsuc n) below = cc

pub held_number : (share : ℕ) (h : History) (owner : ℕ) (port : ℤ) → IsLawful share h → holds_port h owner port ≡ true → number_of 65536 port ≡ row.port_of h owner port
held_number share h owner port lawful held =
    numbered port (held_port share h owner port lawful held) ∙ sym (ap (λ b. cond b (Some (nat_abs port)) None) held)

closed_by : (held : Bool) (p : ℤ) (s t : Served) → None ≡ cond held (Some (nat_abs p)) None → cond (not held) s t ≡ s
closed_by true p s t is = cc
closed_by false p s t is = refl

open_by : (held : Bool) (p : ℤ) (n : ℕ) (s : Served) (t : ℕ → Served) → Some n ≡ cond held (Some (nat_abs p)) None → cond (not held) s (t (nat_abs p)) ≡ t n
open_by true p n s t is =
    let same : nat_abs p ≡ n = cc in
    ap t same
open_by false p n s t is = cc

pub reads_nothing : (h : History) (devices : Scripted) (owner : ℕ) (p : ℤ) → None ≡ row.port_of h owner p → IsRead (row.port_in h devices owner p) (Fail fail.Port)
reads_nothing h devices owner p is =
    subst (λ s. IsRead s (Fail fail.Port)) (sym (closed_by (holds_port h owner p) p (fails fail.Port) (replies (oldest_or_zero (answers_of devices (nat_abs p)))) is))
    (record { answer = refl; quiet = refl })

pub reads_oldest : (h : History) (devices : Scripted) (owner : ℕ) (p : ℤ) (n : ℕ) (v : ℤ) → Some n ≡ row.port_of h owner p → v ≡ oldest_or_zero (answers_of devices n) →
    IsRead (row.port_in h devices owner p) (Reply v)
reads_oldest h devices owner p n v is value =
    subst (λ s. IsRead s (Reply v)) (sym (open_by (holds_port h owner p) p n (fails fail.Port) (λ m. replies (oldest_or_zero (answers_of devices m))) is))
    (record { answer = ap (λ z. Reply z) value; quiet = refl })

pub writes_nothing : (h : History) (owner : ℕ) (p v : ℤ) → None ≡ row.port_of h owner p → IsRead (row.port_out h owner p v) (Fail fail.Port)
writes_nothing h owner p v is =
    subst (λ s. IsRead s (Fail fail.Port)) (sym (closed_by (holds_port h owner p) p (fails fail.Port) (says (Out (nat_abs p) v)) is)) (record { answer = refl; quiet = refl })

pub writes_out : (h : History) (owner : ℕ) (p v : ℤ) (n : ℕ) → Some n ≡ row.port_of h owner p → IsRead (row.port_out h owner p v) (Said (Out n v))
writes_out h owner p v n is =
    subst (λ s. IsRead s (Said (Out n v))) (sym (open_by (holds_port h owner p) p n (fails fail.Port) (λ m. says (Out m v)) is)) (record { answer = refl; quiet = refl })

-- the value of a parameter

pub gets_nothing : (h : History) (k : ℤ) → is_below 256 k ≡ false → IsRead (row.get_param h k) (Reply (negsuc 21))
gets_nothing h k out =
    subst (λ b. IsRead (cond (not b) bad (replies (row.first_or_zero (values_of h k)))) (Reply (negsuc 21))) (sym out) (record { answer = refl; quiet = refl })

pub gets_value : (h : History) (k v : ℤ) → is_below 256 k ≡ true → v ≡ row.first_or_zero (values_of h k) → IsRead (row.get_param h k) (Reply v)
gets_value h k v below value =
    subst (λ b. IsRead (cond (not b) bad (replies (row.first_or_zero (values_of h k)))) (Reply v)) (sym below) (record { answer = ap (λ z. Reply z) value; quiet = refl })
