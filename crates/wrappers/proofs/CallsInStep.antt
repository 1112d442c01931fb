-- Every row is in step with the history after which the call is made.
-- Here: each_in_step
use Rattle.std.proofs.Common.{◌≡◌, ℕ, zero, suc, ◌+◌, ◌-◌, ◌*◌, ◌<◌, ◌≤◌, Bool, true, false, cond, not, ◌&&◌, ◌||◌, eqb, ltb, List, [], ◌∷◌, ◌++◌, map, reverse, length, append-nil, ℤ, pos, negsuc, Option, Some, None, refl, ap, sym, ◌∙◌, subst, arith}
use Rattle.std.proofs.lemmas.Bool.Decides.{nat_tests}
use Rattle.std.specs.List.{list_any, find, count_by}
use Rattle.sd_base.specs.declared.actors.Who.{Who}
use Rattle.sd_base.specs.declared.actors.Fat.{Fat}
use Rattle.sd_base.specs.declared.history.BlockState.TheVariants.{Freed}
use Rattle.sd_base.specs.declared.history.Refusal.{Refusal}
use Rattle.sd_base.specs.declared.history.Refusal.TheVariants.{Bad, Unheld, Busy, NoRoom}
use Rattle.sd_base.specs.declared.history.Update.{Update}
use Rattle.sd_base.specs.declared.history.Update.TheVariants as update
use Rattle.sd_base.specs.declared.kinds.FailKind.TheVariants as fail
use Rattle.sd_base.specs.Selection.{is_below}
use Rattle.sd_base.specs.History.{Entry, History, entry, lock_key, is_of, live_of, clock_of}
use Rattle.sd_base.specs.Blocks.{Block, block_size, next_base, count_of, is_image, is_freed, has_base, has_room, with_state, granted}
use Rattle.sd_base.specs.Allowed.{refusal, is_proper, is_of_driver, is_of_kernel, is_lock, held_by, free_refusal}
use Rattle.sd_base.proofs.Counting.{reverse-cons}
use Rattle.grant_table.proofs.GrantPartKept.{granted-live_of}
use Rattle.byte_memory.specs.Tested.{Memory}
use Rattle.byte_memory.specs.declared.tested.GrantedRange.{GrantedRange}
use Rattle.device_model.specs.Scripted.{Scripted, answers_of, oldest_or_zero}
use Rattle.checked_tree.specs.Operands.{null}
use Rattle.checked_tree.specs.declared.kernel.KernelName.{KernelName}
use Rattle.checked_tree.specs.declared.kernel.KernelName.TheVariants as kernel
use Rattle.checked_tree.specs.declared.kernel.KernelCall.{KernelCall}
use Rattle.share_table.specs.Locks.{holder_of}
use Rattle.claim_table.specs.ClaimPart.{holds_port, values_of}
use Rattle.wrappers.specs.declared.call_out.CallOut.{CallOut}
use Rattle.wrappers.specs.declared.call_out.CallOut.TheVariants.{Reply, Pointer, Said, Blocked, Fail, Wild}
use Rattle.wrappers.specs.Served.{Served, gives, replies, bad, full, done, does, says, fails, points, grants, with_update}
use Rattle.wrappers.specs.Replies.{by_refusal, number_for}
use Rattle.wrappers.specs.InStep.{range_of, ranges_of, spanned, answered_ranges, FitsArena, IsAccepted, AcceptsUpdate, IsInStep}
use Rattle.wrappers.specs.Text.{text_from, told}
use Rattle.wrappers.specs.Contexts.{may_call}
use Rattle.wrappers.specs.Rows as row
use Rattle.wrappers.specs.Rows.{row_of, served, int_at, count_at}
use Rattle.wrappers.proofs.Rules.{ruled, line_row, free_line_row, ports_row, drop_ports_row, device_row, del_device_row, param_row, clear_param_row, del_timer_row, hold_row, drop_hold_row, work_row}
use Rattle.wrappers.proofs.Held.{timer_too_far, timer_row}

-- an update that grants no block and sets no clock
abbrev is_plain : Update → Bool
is_plain (update.Grant layout n image) = false
is_plain (update.Clock now) = false
is_plain _ = true

-- blocks lie where they lay when one is used for something else
same_ranges : (base : ℕ) (bs : List Block) → map range_of (with_state base Freed bs) ≡ map range_of bs
same_ranges base [] = refl
same_ranges base (b ∷ bs) = by (has_base base b) (same_ranges base bs)
  where
    by : (found : Bool) → map range_of (with_state base Freed bs) ≡ map range_of bs
        → map range_of (cond found (record b { state = Freed } ∷ bs) (b ∷ with_state base Freed bs)) ≡ map range_of (b ∷ bs)
    by true rest = refl
    by false rest = ap (λ (rs : List GrantedRange). range_of b ∷ rs) rest

-- a block of some elements that have bytes is spanned by a pointer to it
some_bytes : (size n : ℕ) → 0 < size → 0 < n → 0 < size * n
some_bytes zero n p q = absurd (omega arith)
some_bytes (suc k) n p q = grind arith

spans : (base size : ℕ) (n : ℤ) → eqb size 0 ≡ false → 0 < count_of n → spanned (row.block base size (count_of n)) ≡ record { base = base; size = size * count_of n } ∷ []
spans base size n some room =
    let one : 0 < size = grind (arith, nat_tests) in
    let bytes : 0 < size * count_of n = some_bytes size (count_of n) one room in
    let below : ltb base (base + size * count_of n) ≡ true = grind (arith, nat_tests, bytes) in
    let back : base + size * count_of n - base ≡ size * count_of n = omega arith in
    ap (λ (b : Bool). cond b (record { base = base; size = base + size * count_of n - base } ∷ []) []) below ∙ ap (λ (k : ℕ). record { base = base; size = k } ∷ []) back

-- where there is room, there is an element
counted : (bs : List Block) (elem size : ℕ) (n : ℤ) → has_room bs (row.elements elem size) n ≡ true → 0 < count_of n
counted bs elem size (negsuc n) room = cc
counted bs elem size (pos n) room = grind (arith, nat_tests)

-- and the block ends within the arena
fits_arena : (bs : List Block) (elem size : ℕ) (n : ℤ) → has_room bs (row.elements elem size) n ≡ true → (length bs < 4096) × (next_base bs + size * count_of n ≤ 1048576)
fits_arena bs elem size (negsuc n) room = cc
fits_arena bs elem size (pos n) room = (grind (arith, nat_tests), grind (arith, nat_tests))

-- what a driver asks for is proper
proper_by : (kernel driver may other : Bool) → kernel ≡ false → driver ≡ true → may ≡ true → cond kernel other (driver && may) ≡ true
proper_by kernel driver may other p q r = grind (arith, nat_tests)

either : (found : Bool) (f : List Block → List GrantedRange) (one other : List Block) → f one ≡ f other → f (cond found one other) ≡ f other
either true f one other h = h
either false f one other h = refl

module _ (share : ℕ) (h : History) (owner : ℕ) (driver : 0 < owner) (few : owner ≤ 4) where
  -- what a driver may ask for is proper
  is_no_kernel : eqb owner 0 ≡ false
  is_no_kernel = grind (arith, nat_tests)

  is_driver : ltb owner 5 ≡ true
  is_driver = grind (arith, nat_tests)

  proper_as : (u : Update) → is_of_driver u ≡ true → is_proper owner u ≡ true
  proper_as u may = proper_by (eqb owner 0) (ltb owner 5) (is_of_driver u) (is_of_kernel u) is_no_kernel is_driver may

  -- an answer with which nothing changes
  gives_in_step : (out : CallOut) → answered_ranges out ≡ [] → FitsArena (granted h owner) out → IsInStep share h owner (gives out)
  gives_in_step out none fits = record {
    accepted = tt;
    clock = refl;
    ranges = sym (ap (λ (rs : List GrantedRange). ranges_of h owner ++ rs) none ∙ append-nil (ranges_of h owner));
    fits = fits;
  }

  -- ranges and clock by an update that is plain
  plain_clock : (u : Update) → is_plain u ≡ true → clock_of (entry owner u ∷ h) ≡ clock_of h
  plain_clock (update.Clock now) plain = cc
  plain_clock _ plain = refl

  plain_ranges : (u : Update) → is_plain u ≡ true → ranges_of (entry owner u ∷ h) owner ≡ ranges_of h owner
  plain_ranges (update.Grant layout n image) plain = cc
  plain_ranges (update.Free base) plain =
      either (eqb owner owner) (λ (bs : List Block). reverse (map range_of bs)) (with_state base Freed (granted h owner)) (granted h owner) (ap reverse (same_ranges base (granted h owner)))
  plain_ranges _ plain = either (eqb owner owner) (λ (bs : List Block). reverse (map range_of bs)) (granted h owner) (granted h owner) refl

  does_in_step : (u : Update) → is_plain u ≡ true → is_of_driver u ≡ true → refusal share h owner u ≡ None → IsInStep share h owner (does u)
  does_in_step u plain may free = record {
    accepted = record { proper = proper_as u may; allowed = free };
    clock = plain_clock u plain;
    ranges = plain_ranges u plain ∙ sym (append-nil (ranges_of h owner));
    fits = tt;
  }

  -- what an update comes to by its rule
  ruled_in_step : (u : Update) → is_plain u ≡ true → is_of_driver u ≡ true → IsInStep share h owner (ruled share h owner u)
  ruled_in_step u plain may = by (refusal share h owner u) refl
    where
      by : (r : Option Refusal) → refusal share h owner u ≡ r → IsInStep share h owner (by_refusal u r)
      by None free = does_in_step u plain may free
      by (Some r) held = gives_in_step (Reply (number_for r)) refl tt

  -- a row that is ruled so
  as_ruled : (u : Update) (s : Served) → is_plain u ≡ true → is_of_driver u ≡ true → ruled share h owner u ≡ s → IsInStep share h owner s
  as_ruled u s plain may is = subst (λ (x : Served). IsInStep share h owner x) is (ruled_in_step u plain may)

  -- one of two
  given : (b : Bool) (s t : Served) → IsInStep share h owner s → IsInStep share h owner t → IsInStep share h owner (cond b s t)
  given true s t p q = p
  given false s t p q = q

  -- one of two, by what the test says
  given_by : (b : Bool) (s t : Served) → (b ≡ true → IsInStep share h owner s) → (b ≡ false → IsInStep share h owner t) → IsInStep share h owner (cond b s t)
  given_by true s t p q = p refl
  given_by false s t p q = q refl

  fails_in_step : (kind : _) → IsInStep share h owner (fails kind)
  fails_in_step kind = gives_in_step (Fail kind) refl tt

  replies_in_step : (n : ℤ) → IsInStep share h owner (replies n)
  replies_in_step n = gives_in_step (Reply n) refl tt

  -- ---- rows that change nothing
  prints_in_step : (memory : Memory) (s : ℕ) → IsInStep share h owner (row.prints memory s)
  prints_in_step memory s = given (eqb s 0) _ _ (gives_in_step _ refl tt) (text_in_step (text_from memory 33 s))
    where
      text_in_step : (o : Option (List ℕ)) → IsInStep share h owner (row.says_text o)
      text_in_step None = gives_in_step Wild refl tt
      text_in_step (Some text) = gives_in_step _ refl tt

  port_in_step : (devices : Scripted) (p : ℤ) → IsInStep share h owner (row.port_in h devices owner p)
  port_in_step devices p = given (not (holds_port h owner p)) _ _ (fails_in_step fail.Port) (replies_in_step _)

  port_out_step : (p v : ℤ) → IsInStep share h owner (row.port_out h owner p v)
  port_out_step p v = given (not (holds_port h owner p)) _ _ (fails_in_step fail.Port) (gives_in_step _ refl tt)

  get_param_step : (k : ℤ) → IsInStep share h owner (row.get_param h k)
  get_param_step k = given (not (is_below 256 k)) _ _ (replies_in_step _) (replies_in_step _)

  -- ---- blocks
  null_in_step : IsInStep share h owner (points null)
  null_in_step = gives_in_step _ refl (λ some. absurd (omega (arith, some)))

  -- a block of n elements that fits
  grants_in_step : (elem size : ℕ) (n : ℤ) → eqb size 0 ≡ false → has_room (granted h owner) (row.elements elem size) n ≡ true → IsInStep share h owner (row.allocates h owner elem size n)
  grants_in_step elem size n some room = record {
    accepted = record {
      proper = proper_as (update.Grant (row.elements elem size) n false) (grind (arith, nat_tests));
      allowed = ap (λ (b : Bool). cond b None (Some NoRoom)) (ap (λ (bs : List Block). has_room bs (row.elements elem size) n) (granted-live_of h owner) ∙ room);
    };
    clock = refl;
    ranges = own_block ∙ reverse-cons _ (map range_of (granted h owner)) ∙ ap (λ (rs : List GrantedRange). ranges_of h owner ++ rs) (sym one_range);
    fits = λ some. fits_arena (granted h owner) elem size n room;
  }
    where
      base : ℕ
      base = next_base (granted h owner)

      room_for : 0 < count_of n
      room_for = counted (granted h owner) elem size n room

      own_block : ranges_of (entry owner (update.Grant (row.elements elem size) n false) ∷ h) owner
          ≡ reverse (record { base = base; size = size * count_of n } ∷ map range_of (granted h owner))
      own_block = let own : eqb owner owner ≡ true = grind (arith, nat_tests) in (rw own refl)

      one_range : spanned (row.block base size (count_of n)) ≡ record { base = base; size = size * count_of n } ∷ []
      one_range = spans (next_base (granted h owner)) size n some room_for

  kalloc_in_step : (elem size : ℕ) (n : ℤ) → IsInStep share h owner (row.kalloc h owner elem size n)
  kalloc_in_step elem size n =
      given_by (eqb size 0) _ _ (λ _. null_in_step) (λ some.
      given_by (not (has_room (granted h owner) (row.elements elem size) n)) _ _ (λ _. null_in_step) (λ full. grants_in_step elem size n some (is_so _ full)))
    where
      is_so : (b : Bool) → not b ≡ false → b ≡ true
      is_so true e = refl
      is_so false e = cc

  frees_in_step : (p : ℕ) (found : Option Block) → free_refusal found ≡ free_refusal (find (has_base p) (granted (live_of h) owner)) → IsInStep share h owner (row.frees p found)
  frees_in_step p None same = fails_in_step fail.Free
  frees_in_step p (Some b) same =
      given_by (is_image b.state) _ _ (λ _. fails_in_step fail.Free) (λ own.
      given_by (is_freed b.state) _ _ (λ _. fails_in_step fail.Free) (λ live.
      does_in_step (update.Free p) refl refl (sym same ∙ (rw own (rw live refl)))))

  kfree_in_step : (p : ℕ) → IsInStep share h owner (row.kfree h owner p)
  kfree_in_step p = given (eqb p 0) _ _ (replies_in_step _) (frees_in_step p (find (has_base p) (granted h owner)) (ap (λ (bs : List Block). free_refusal (find (has_base p) bs)) (sym (granted-live_of h owner))))

  -- ---- timers
  timer_in_step : (i d : ℤ) (handler : ℕ) (a : ℤ) → IsInStep share h owner (row.set_timer h owner i d handler a)
  timer_in_step i d handler a = by (row.is_distance d) refl
    where
      by : (b : Bool) → row.is_distance d ≡ b → IsInStep share h owner (row.set_timer h owner i d handler a)
      by true near = as_ruled (update.Timer i (clock_of h + _) handler a) _ refl refl (timer_row owner i d _ handler a near share h refl)
      by false far = subst (λ (x : Served). IsInStep share h owner x) (sym (timer_too_far h owner i d handler a far)) (replies_in_step _)

module _ (share : ℕ) (h : History) (who : Who) (driver : 0 < who.owner) (few : who.owner ≤ 4) (task : who.task ≤ 8) where
  task_is : ltb who.task 9 ≡ true
  task_is = grind (arith, nat_tests)

  -- ---- locks and masks
  lock_in_step : (k : ℤ) → IsInStep share h who.owner (row.lock h who k)
  lock_in_step k =
      given_by share h who.owner driver few (not (is_below 64 k)) _ _ (λ _. fails_in_step share h who.owner driver few fail.Lock) (λ below.
      given_by share h who.owner driver few (row.holds_mask h who) _ _ (λ _. fails_in_step share h who.owner driver few fail.Masked) (λ _.
      by (find (is_lock k) (live_of h)) refl (is_so _ below)))
    where
      is_so : (b : Bool) → not b ≡ false → b ≡ true
      is_so true e = refl
      is_so false e = cc

      held_by_who : (b : Bool) (lock : ℤ) → IsInStep share h who.owner (gives (cond b (Fail fail.Relock) (Blocked lock)))
      held_by_who true lock = gives_in_step share h who.owner driver few _ refl tt
      held_by_who false lock = gives_in_step share h who.owner driver few _ refl tt

      held_in_step : (e : Entry) → IsInStep share h who.owner (row.by_holder who k (holder_of (Some e)))
      held_in_step e = held_by_who _ k

      by : (found : Option Entry) → find (is_lock k) (live_of h) ≡ found → is_below 64 k ≡ true → IsInStep share h who.owner (row.by_holder who k (holder_of found))
      by None none below = does_in_step share h who.owner driver few (update.Lock k who.task) refl task_is (rw below (rw none refl))
      by (Some e) some below = held_in_step e

  unlock_in_step : (k : ℤ) → IsInStep share h who.owner (row.unlock h who k)
  unlock_in_step k =
      given_by share h who.owner driver few (not (is_below 64 k)) _ _ (λ _. fails_in_step share h who.owner driver few fail.Lock) (λ below.
      given_by share h who.owner driver few (not (list_any (is_of who.owner (lock_key k who.task)) (live_of h))) _ _ (λ _. fails_in_step share h who.owner driver few fail.Unheld) (λ own.
      does_in_step share h who.owner driver few (update.Unlock k who.task) refl task_is (by _ _ below own)))
    where
      by : (b own : Bool) → not b ≡ false → not own ≡ false → cond b (cond own None (Some Unheld)) (Some Bad) ≡ None
      by true true p q = refl
      by true false p q = cc
      by false own p q = cc

  mask_in_step : IsInStep share h who.owner (row.mask h who)
  mask_in_step = given_by share h who.owner driver few (row.holds_mask h who) _ _ (λ _. fails_in_step share h who.owner driver few fail.Relock) (λ free.
      does_in_step share h who.owner driver few (update.Mask who.task) refl task_is (ap (λ (b : Bool). cond b (Some Busy) None) free))

  unmask_in_step : IsInStep share h who.owner (row.unmask h who)
  unmask_in_step = given_by share h who.owner driver few (not (row.holds_mask h who)) _ _ (λ _. fails_in_step share h who.owner driver few fail.Unheld) (λ held.
      does_in_step share h who.owner driver few (update.Unmask who.task) refl task_is (by _ held))
    where
      by : (own : Bool) → not own ≡ false → cond own None (Some Unheld) ≡ None
      by true p = refl
      by false p = cc

  -- ---- all rows
  row_in_step : (name : KernelName) (memory : Memory) (devices : Scripted) (call : KernelCall) (a b c : ℤ) → IsInStep share h who.owner (row_of name share h memory devices who call a b c)
  row_in_step kernel.Printd memory devices call a b c = gives_in_step share h who.owner driver few _ refl tt
  row_in_step kernel.Prints memory devices call a b c = prints_in_step share h who.owner driver few memory call.pointer.value
  row_in_step kernel.Kalloc memory devices call a b c = kalloc_in_step share h who.owner driver few call.elem call.size (count_at call)
  row_in_step kernel.Kfree memory devices call a b c = kfree_in_step share h who.owner driver few call.pointer.value
  row_in_step kernel.RequestLine memory devices call a b c = as_ruled share h who.owner driver few (update.Line a call.function) _ refl refl (line_row who.owner a call.function share h)
  row_in_step kernel.FreeLine memory devices call a b c = as_ruled share h who.owner driver few (update.FreeLine a) _ refl refl (free_line_row who.owner a share h)
  row_in_step kernel.RequestPorts memory devices call a b c = as_ruled share h who.owner driver few (update.Ports a b) _ refl refl (ports_row who.owner a b share h)
  row_in_step kernel.ReleasePorts memory devices call a b c = as_ruled share h who.owner driver few (update.DropPorts a b) _ refl refl (drop_ports_row who.owner a b share h)
  row_in_step kernel.PortIn memory devices call a b c = port_in_step share h who.owner driver few devices a
  row_in_step kernel.PortOut memory devices call a b c = port_out_step share h who.owner driver few a b
  row_in_step kernel.AddDevice memory devices call a b c = as_ruled share h who.owner driver few (update.Device a) _ refl refl (device_row who.owner a share h)
  row_in_step kernel.DelDevice memory devices call a b c = as_ruled share h who.owner driver few (update.DelDevice a) _ refl refl (del_device_row who.owner a share h)
  row_in_step kernel.SetParam memory devices call a b c = as_ruled share h who.owner driver few (update.Param a b) _ refl refl (param_row who.owner a b share h)
  row_in_step kernel.ClearParam memory devices call a b c = as_ruled share h who.owner driver few (update.ClearParam a) _ refl refl (clear_param_row who.owner a share h)
  row_in_step kernel.GetParam memory devices call a b c = get_param_step share h who.owner driver few a
  row_in_step kernel.SetTimer memory devices call a b c = timer_in_step share h who.owner driver few a b call.function c
  row_in_step kernel.DelTimer memory devices call a b c = as_ruled share h who.owner driver few (update.DelTimer a) _ refl refl (del_timer_row who.owner a share h)
  row_in_step kernel.Now memory devices call a b c = replies_in_step share h who.owner driver few _
  row_in_step kernel.Lock memory devices call a b c = lock_in_step a
  row_in_step kernel.Unlock memory devices call a b c = unlock_in_step a
  row_in_step kernel.Mask memory devices call a b c = mask_in_step
  row_in_step kernel.Unmask memory devices call a b c = unmask_in_step
  row_in_step kernel.Hold memory devices call a b c = as_ruled share h who.owner driver few (update.Hold a) _ refl refl (hold_row who.owner a share h)
  row_in_step kernel.DropHold memory devices call a b c = as_ruled share h who.owner driver few (update.DropHold a) _ refl refl (drop_hold_row who.owner a share h)
  row_in_step kernel.QueueWork memory devices call a b c = as_ruled share h who.owner driver few (update.Work call.function a) _ refl refl (work_row who.owner call.function a share h)

  pub each_in_step : (memory : Memory) (devices : Scripted) (call : KernelCall) → IsInStep share h who.owner (served share h memory devices who call)
  unfolding served
  each_in_step memory devices call = given share h who.owner driver few (may_call call.name who.task) _ _
      (row_in_step call.name memory devices call (int_at call 0) (int_at call 1) (int_at call 2)) (fails_in_step share h who.owner driver few fail.Context)
