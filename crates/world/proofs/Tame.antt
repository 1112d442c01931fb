-- What a call says changes nothing, and only a number takes an answer of a port.
-- Here: calls-tame, takes-none
use Rattle.std.proofs.Common.{◌≡◌, ℕ, Bool, true, false, cond, not, ◌&&◌, ◌||◌, eqb, ltb, nat_abs, List, ℤ, Option, Some, None, refl}
use Rattle.std.specs.List.{list_any, find, count_by}
use Rattle.sd_base.specs.declared.actors.Who.{Who}
use Rattle.sd_base.specs.declared.actors.Fat.{Fat}
use Rattle.sd_base.specs.declared.history.Update.{Update}
use Rattle.sd_base.specs.declared.kinds.FailKind.TheVariants as fail
use Rattle.sd_base.specs.Selection.{is_below}
use Rattle.sd_base.specs.History.{History, OfPorts, OfDevices, OfParams, line_key, ports_key, device_key, param_key, timer_key, lock_key, hold_key, work_key, has_key, is_of, is_of_kind, live_of}
use Rattle.sd_base.specs.Blocks.{Block, is_image, is_freed, has_base, has_room, granted}
use Rattle.sd_base.specs.Allowed.{is_range, meets, is_lock}
use Rattle.byte_memory.specs.Tested.{Memory}
use Rattle.device_model.specs.Scripted.{Scripted, answers_of, oldest_or_zero}
use Rattle.checked_tree.specs.declared.kernel.KernelName.{KernelName}
use Rattle.checked_tree.specs.declared.kernel.KernelName.TheVariants as kernel
use Rattle.checked_tree.specs.declared.kernel.KernelCall.{KernelCall}
use Rattle.share_table.specs.Locks.{holder_of, is_who}
use Rattle.claim_table.specs.ClaimPart.{holds_port}
use Rattle.wrappers.specs.declared.call_out.CallOut.{CallOut}
use Rattle.wrappers.specs.declared.call_out.CallOut.TheVariants.{Reply, Pointer, Said, Blocked, Fail, Wild}
use Rattle.wrappers.specs.declared.call_out.Saying.{Saying}
use Rattle.wrappers.specs.Served.{Served, fails, replies}
use Rattle.wrappers.specs.Text.{text_from}
use Rattle.wrappers.specs.Contexts.{may_call}
use Rattle.wrappers.specs.Rows as row
use Rattle.wrappers.specs.Rows.{row_of, served, int_at, count_at, port_by, port_taken}
use Rattle.world.specs.Serving.{IsTame}

record Tame (s : Served) : Type 0 where
  tame : IsTame s.out s.update

quiet : {s : Served} → IsTame s.out s.update → Tame s
quiet h = record { tame = h }

two : (b : Bool) (s t : Served) → Tame s → Tame t → Tame (cond b s t)
two true s t p q = p
two false s t p q = q

-- what is left where a test does not hold
refuses : (b : Bool) (s t : Served) → IsTame s.out s.update → Tame t → Tame (cond b s t)
refuses b s t p q = two b s t (quiet p) q

tame-text : (o : Option (List ℕ)) → Tame (row.says_text o)
tame-text None = quiet tt
tame-text (Some text) = quiet refl

tame-frees : (p : ℕ) (o : Option Block) → Tame (row.frees p o)
tame-frees p None = quiet tt
tame-frees p (Some b) = refuses (is_image b.state) _ _ tt (refuses (is_freed b.state) _ _ tt (quiet tt))

tame-held : (b : Bool) (k : ℤ) → IsTame (cond b (Fail fail.Relock) (Blocked k)) None
tame-held true k = tt
tame-held false k = tt

tame-holder : (who : Who) (k : ℤ) (o : Option Who) → Tame (row.by_holder who k o)
tame-holder who k None = quiet tt
tame-holder who k (Some holder) = quiet (tame-held (is_who who holder) k)

tame-row : (name : KernelName) (share : ℕ) (h : History) (memory : Memory) (devices : Scripted) (who : Who) (call : KernelCall) (a b c : ℤ)
    → Tame (row_of name share h memory devices who call a b c)
tame-row kernel.Printd share h memory devices who call a b c = quiet refl
tame-row kernel.Prints share h memory devices who call a b c = refuses (eqb call.pointer.value 0) _ _ refl (tame-text (text_from memory 33 call.pointer.value))
tame-row kernel.Kalloc share h memory devices who call a b c =
    refuses (eqb call.size 0) _ _ tt (refuses (not (has_room (granted h who.owner) (row.elements call.elem call.size) (count_at call))) _ _ tt (quiet tt))
tame-row kernel.Kfree share h memory devices who call a b c =
    refuses (eqb call.pointer.value 0) _ _ tt (tame-frees call.pointer.value (find (has_base call.pointer.value) (granted h who.owner)))
tame-row kernel.RequestLine share h memory devices who call a b c =
    refuses (not (is_below 64 a)) _ _ tt (refuses (row.is_line_taken share h who.owner a) _ _ tt (quiet tt))
tame-row kernel.FreeLine share h memory devices who call a b c = refuses (not (list_any (is_of who.owner (line_key a)) (live_of h))) _ _ tt (quiet tt)
tame-row kernel.RequestPorts share h memory devices who call a b c =
    refuses (not (is_range a b)) _ _ tt (refuses (list_any (meets a b) (live_of h)) _ _ tt
    (refuses (not (ltb (count_by (is_of_kind who.owner OfPorts) (live_of h)) 32)) _ _ tt (quiet tt)))
tame-row kernel.ReleasePorts share h memory devices who call a b c = refuses (not (list_any (is_of who.owner (ports_key a b)) (live_of h))) _ _ tt (quiet tt)
tame-row kernel.PortIn share h memory devices who call a b c = refuses (not (holds_port h who.owner a)) _ _ tt (quiet tt)
tame-row kernel.PortOut share h memory devices who call a b c = refuses (not (holds_port h who.owner a)) _ _ tt (quiet refl)
tame-row kernel.AddDevice share h memory devices who call a b c =
    refuses (not (is_below 1024 a)) _ _ tt (refuses (list_any (has_key (device_key a)) (live_of h)) _ _ tt
    (refuses (not (ltb (count_by (is_of_kind who.owner OfDevices) (live_of h)) 32)) _ _ tt (quiet tt)))
tame-row kernel.DelDevice share h memory devices who call a b c = refuses (not (list_any (is_of who.owner (device_key a)) (live_of h))) _ _ tt (quiet tt)
tame-row kernel.SetParam share h memory devices who call a b c =
    refuses (not (is_below 256 a)) _ _ tt
    (refuses (not (list_any (is_of who.owner (param_key a)) (live_of h) || ltb (count_by (is_of_kind who.owner OfParams) (live_of h)) 32)) _ _ tt (quiet tt))
tame-row kernel.ClearParam share h memory devices who call a b c = refuses (not (list_any (is_of who.owner (param_key a)) (live_of h))) _ _ tt (quiet tt)
tame-row kernel.GetParam share h memory devices who call a b c = refuses (not (is_below 256 a)) _ _ tt (quiet tt)
tame-row kernel.SetTimer share h memory devices who call a b c =
    refuses (not (is_below 256 a && row.is_distance b)) _ _ tt (refuses (not (row.has_timer_left h who.owner a)) _ _ tt (quiet tt))
tame-row kernel.DelTimer share h memory devices who call a b c = refuses (not (list_any (is_of who.owner (timer_key a)) (live_of h))) _ _ tt (quiet tt)
tame-row kernel.Now share h memory devices who call a b c = quiet tt
tame-row kernel.Lock share h memory devices who call a b c =
    refuses (not (is_below 64 a)) _ _ tt (refuses (row.holds_mask h who) _ _ tt (tame-holder who a (holder_of (find (is_lock a) (live_of h)))))
tame-row kernel.Unlock share h memory devices who call a b c =
    refuses (not (is_below 64 a)) _ _ tt (refuses (not (list_any (is_of who.owner (lock_key a who.task)) (live_of h))) _ _ tt (quiet tt))
tame-row kernel.Mask share h memory devices who call a b c = refuses (row.holds_mask h who) _ _ tt (quiet tt)
tame-row kernel.Unmask share h memory devices who call a b c = refuses (not (row.holds_mask h who)) _ _ tt (quiet tt)
tame-row kernel.Hold share h memory devices who call a b c =
    refuses (not (is_below 64 a)) _ _ tt (refuses (not (ltb (count_by (is_of who.owner (hold_key a)) (live_of h)) 8)) _ _ tt (quiet tt))
tame-row kernel.DropHold share h memory devices who call a b c = refuses (not (list_any (is_of who.owner (hold_key a)) (live_of h))) _ _ tt (quiet tt)
tame-row kernel.QueueWork share h memory devices who call a b c = refuses (not (ltb (count_by (is_of who.owner work_key) (live_of h)) 64)) _ _ tt (quiet tt)

pub calls-tame : (share : ℕ) (h : History) (memory : Memory) (devices : Scripted) (who : Who) (call : KernelCall)
    → IsTame (served share h memory devices who call).out (served share h memory devices who call).update
unfolding served
calls-tame share h memory devices who call = (two (may_call call.name who.task) _ _ (tame-row call.name share h memory devices who call _ _ _) (quiet tt)).tame

-- ---- ports

abbrev pub TakesNone : Option ℕ → CallOut → Type 0
TakesNone port (Said saying) = port ≡ None
TakesNone port (Pointer p) = port ≡ None
TakesNone port _ = Unit {0}

none-taken : (out : CallOut) → TakesNone None out
none-taken (Said saying) = refl
none-taken (Pointer p) = refl
none-taken (Reply n) = tt
none-taken (Blocked k) = tt
none-taken (Fail kind) = tt
none-taken Wild = tt

record Takes (port : Option ℕ) (s : Served) : Type 0 where
  none : TakesNone port s.out

one-of : (port : Option ℕ) (b : Bool) (s t : Served) → Takes port s → Takes port t → Takes port (cond b s t)
one-of port true s t p q = p
one-of port false s t p q = q

takes-row : (name : KernelName) (share : ℕ) (h : History) (memory : Memory) (devices : Scripted) (who : Who) (call : KernelCall) (a b c : ℤ)
    → Takes (port_by name h who a) (row_of name share h memory devices who call a b c)
takes-row kernel.PortIn share h memory devices who call a b c =
    one-of _ (not (holds_port h who.owner a)) (fails fail.Port) (replies (oldest_or_zero (answers_of devices (nat_abs a)))) (record { none = tt }) (record { none = tt })
takes-row name share h memory devices who call a b c = record { none = none-taken (row_of name share h memory devices who call a b c).out }

pub takes-none : (share : ℕ) (h : History) (memory : Memory) (devices : Scripted) (who : Who) (call : KernelCall)
    → TakesNone (port_taken h who call) (served share h memory devices who call).out
unfolding served port_taken
takes-none share h memory devices who call =
    (one-of _ (may_call call.name who.task) _ _ (takes-row call.name share h memory devices who call _ _ _) (record { none = tt })).none

pub said-takes : (port : Option ℕ) (out : CallOut) (saying : Saying) → TakesNone port out → out ≡ Said saying → port ≡ None
said-takes port (Said saying) other h e = h
said-takes port (Pointer p) other h e = cc
said-takes port (Reply n) other h e = cc
said-takes port (Blocked k) other h e = cc
said-takes port (Fail kind) other h e = cc
said-takes port Wild other h e = cc

pub points-takes : (port : Option ℕ) (out : CallOut) (p : Fat) → TakesNone port out → out ≡ Pointer p → port ≡ None
points-takes port (Pointer q) other h e = h
points-takes port (Said saying) other h e = cc
points-takes port (Reply n) other h e = cc
points-takes port (Blocked k) other h e = cc
points-takes port (Fail kind) other h e = cc
points-takes port Wild other h e = cc

pub tame-said : (out : CallOut) (update : Option Update) (saying : Saying) → IsTame out update → out ≡ Said saying → update ≡ None
tame-said (Said other) update saying h e = h
tame-said (Pointer q) update saying h e = cc
tame-said (Reply n) update saying h e = cc
tame-said (Blocked k) update saying h e = cc
tame-said (Fail kind) update saying h e = cc
tame-said Wild update saying h e = cc
