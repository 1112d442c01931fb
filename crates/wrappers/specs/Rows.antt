-- The table of kernel calls: what each comes to after a history, row by row. Each row's cases are tested in the order in which they are
-- written here; the first that holds is the answer. Numbers below 0 are replies, and 0 says that it is done.
--
-- It reads the history alone: what is live of it, its clock, and of an owner the blocks, ports and values that it grants. The share is how
-- many owners may hold one line.
use Rattle.std.specs.Prelude.{ℕ, ◌+◌, ◌*◌, Bool, false, cond, not, ◌&&◌, ◌||◌, eqb, ltb, ℤ, pos, int_le, nat_abs, slice_index_or, List, [], ◌∷◌, Option, Some, None}
use Rattle.std.specs.List.{list_any, find, count_by}
use Rattle.sd_base.specs.declared.actors.Who.{Who}
use Rattle.sd_base.specs.declared.actors.Fat.{Fat}
use Rattle.sd_base.specs.declared.history.Layout.{Layout}
use Rattle.sd_base.specs.declared.history.Update.TheVariants as update
use Rattle.sd_base.specs.declared.kinds.FailKind.TheVariants as fail
use Rattle.sd_base.specs.Selection.{is_below}
use Rattle.sd_base.specs.History.{History, OfPorts, OfDevices, OfParams, OfTimers, line_key, ports_key, device_key, param_key, timer_key, lock_key, hold_key, work_key, mask_key, has_key, is_of, is_of_kind, live_of, clock_of}
use Rattle.sd_base.specs.Blocks.{Block, next_base, count_of, is_image, is_freed, has_base, has_room, granted}
use Rattle.sd_base.specs.Allowed.{is_range, meets, is_lock}
use Rattle.claim_table.specs.ClaimPart.{holds_port, values_of}
use Rattle.share_table.specs.Locks.{holder_of, is_who}
use Rattle.device_model.specs.Scripted.{Scripted, answers_of, oldest_or_zero, without_oldest}
use Rattle.byte_memory.specs.Tested.{Memory}
use Rattle.checked_tree.specs.declared.kernel.KernelName.{KernelName}
use Rattle.checked_tree.specs.declared.kernel.KernelName.TheVariants as kernel
use Rattle.checked_tree.specs.declared.kernel.KernelCall.{KernelCall}
use Rattle.checked_tree.specs.declared.shapes.Scalar.TheVariants.{I32}
use Rattle.checked_tree.specs.Numbers.{converted}
use Rattle.checked_tree.specs.Operands.{null}
use Rattle.wrappers.specs.declared.call_out.CallOut.{CallOut}
use Rattle.wrappers.specs.declared.call_out.CallOut.TheVariants.{Blocked, Fail, Wild}
use Rattle.wrappers.specs.declared.call_out.Saying.TheVariants.{Print, Text, Out}
use Rattle.wrappers.specs.Served.{Served, gives, replies, bad, busy, full, done, does, says, fails, points, grants}
use Rattle.wrappers.specs.Text.{text_from, told}
use Rattle.wrappers.specs.Contexts.{may_call}

-- printd(v): the number is printed

abbrev pub printd : ℤ → Served
printd v = says (Print v)

-- prints(s): the bytes before the first 0 are printed, none for null: the first 32, and a mark where there are more

abbrev pub says_text : Option (List ℕ) → Served
says_text None = gives Wild
says_text (Some text) = says (Text (told text))

abbrev pub prints : Memory → ℕ → Served
prints memory s =
    cond (eqb s 0) (says (Text (told [])))
    (says_text (text_from memory 33 s))

-- kalloc(T, n): null where n is below 1, or the caller has 4,096 blocks, or the block would pass the arena's end (and for a type without
-- bytes, which no rule derives); else a new block, at its first byte and bounded by it

abbrev pub elements : ℕ → ℕ → Layout
elements elem size = record { elem = elem; size = size; nullterm = false }

abbrev pub block : ℕ → ℕ → ℕ → Fat
block base size n = record { value = base; lo = base; hi = base + size * n }

abbrev pub allocates : History → ℕ → ℕ → ℕ → ℤ → Served
allocates h owner elem size n = grants (block (next_base (granted h owner)) size (count_of n)) (update.Grant (elements elem size) n false)

abbrev pub kalloc : History → ℕ → ℕ → ℕ → ℤ → Served
kalloc h owner elem size n =
    cond (eqb size 0) (points null)
    (cond (not (has_room (granted h owner) (elements elem size) n)) (points null)
    (allocates h owner elem size n))

-- kfree(p): nothing for null; Free where p is no block that the caller allocated, or one that it gave back

abbrev pub frees : ℕ → Option Block → Served
frees p None = fails fail.Free
frees p (Some b) =
    cond (is_image b.state) (fails fail.Free)
    (cond (is_freed b.state) (fails fail.Free)
    (does (update.Free p)))

abbrev pub kfree : History → ℕ → ℕ → Served
kfree h owner p =
    cond (eqb p 0) done
    (frees p (find (has_base p) (granted h owner)))

-- request_line(l, h): -22 where l is not 0 to 63; -16 where the caller holds it, or as many owners as may hold one line do

abbrev pub is_line_taken : ℕ → History → ℕ → ℤ → Bool
is_line_taken share h owner l =
    list_any (is_of owner (line_key l)) (live_of h) || not (ltb (count_by (has_key (line_key l)) (live_of h)) share)

abbrev pub request_line : ℕ → History → ℕ → ℤ → ℕ → Served
request_line share h owner l handler =
    cond (not (is_below 64 l)) bad
    (cond (is_line_taken share h owner l) busy
    (does (update.Line l handler)))

-- free_line(l): -22 where the caller does not hold it

abbrev pub free_line : History → ℕ → ℤ → Served
free_line h owner l =
    cond (not (list_any (is_of owner (line_key l)) (live_of h))) bad
    (does (update.FreeLine l))

-- request_ports(b, n): -22 where b is below 0, n below 1 or b + n above 65,536; -16 where any held range has one of them; -28 where the
-- caller has 32 ranges

abbrev pub request_ports : History → ℕ → ℤ → ℤ → Served
request_ports h owner b n =
    cond (not (is_range b n)) bad
    (cond (list_any (meets b n) (live_of h)) busy
    (cond (not (ltb (count_by (is_of_kind owner OfPorts) (live_of h)) 32)) full
    (does (update.Ports b n))))

-- release_ports(b, n): -22 where the caller does not hold exactly this range

abbrev pub release_ports : History → ℕ → ℤ → ℤ → Served
release_ports h owner b n =
    cond (not (list_any (is_of owner (ports_key b n)) (live_of h))) bad
    (does (update.DropPorts b n))

-- port_in(p): Port where no range of the caller has p; else the port's oldest answer, which is taken, or 0 where it has none

abbrev pub port_of : History → ℕ → ℤ → Option ℕ
port_of h owner p = cond (holds_port h owner p) (Some (nat_abs p)) None

abbrev pub port_in : History → Scripted → ℕ → ℤ → Served
port_in h devices owner p =
    cond (not (holds_port h owner p)) (fails fail.Port)
    (replies (oldest_or_zero (answers_of devices (nat_abs p))))

-- port_out(p, v): Port likewise; else port and value are printed

abbrev pub port_out : History → ℕ → ℤ → ℤ → Served
port_out h owner p v =
    cond (not (holds_port h owner p)) (fails fail.Port)
    (says (Out (nat_abs p) v))

-- add_device(i): -22 where i is not 0 to 1,023; -16 where any owner has it; -28 where the caller has 32

abbrev pub add_device : History → ℕ → ℤ → Served
add_device h owner i =
    cond (not (is_below 1024 i)) bad
    (cond (list_any (has_key (device_key i)) (live_of h)) busy
    (cond (not (ltb (count_by (is_of_kind owner OfDevices) (live_of h)) 32)) full
    (does (update.Device i))))

-- del_device(i): -22 where it is not the caller's

abbrev pub del_device : History → ℕ → ℤ → Served
del_device h owner i =
    cond (not (list_any (is_of owner (device_key i)) (live_of h))) bad
    (does (update.DelDevice i))

-- set_param(k, v): -22 where k is not 0 to 255; -28 where the caller has none on k and 32 others

abbrev pub set_param : History → ℕ → ℤ → ℤ → Served
set_param h owner k v =
    cond (not (is_below 256 k)) bad
    (cond (not (list_any (is_of owner (param_key k)) (live_of h) || ltb (count_by (is_of_kind owner OfParams) (live_of h)) 32)) full
    (does (update.Param k v)))

-- clear_param(k): -22 where the caller has none on k

abbrev pub clear_param : History → ℕ → ℤ → Served
clear_param h owner k =
    cond (not (list_any (is_of owner (param_key k)) (live_of h))) bad
    (does (update.ClearParam k))

-- get_param(k): -22 where k is not 0 to 255; else the value that was set last of those that are live, or 0

abbrev pub first_or_zero : List ℤ → ℤ
first_or_zero [] = pos 0
first_or_zero (v ∷ vs) = v

abbrev pub get_param : History → ℤ → Served
get_param h k =
    cond (not (is_below 256 k)) bad
    (replies (first_or_zero (values_of h k)))

-- set_timer(i, d, h, a): -22 where i is not 0 to 255 or d not 1 to 1,000,000; -28 where the caller has 64 and i is none of them; else it is
-- due at the clock plus d, in the stead of the one with this i

abbrev pub is_distance : ℤ → Bool
is_distance d = int_le (pos 1) d && int_le d (pos 1000000)

abbrev pub has_timer_left : History → ℕ → ℤ → Bool
has_timer_left h owner i = list_any (is_of owner (timer_key i)) (live_of h) || ltb (count_by (is_of_kind owner OfTimers) (live_of h)) 64

abbrev pub set_timer : History → ℕ → ℤ → ℤ → ℕ → ℤ → Served
set_timer h owner i d handler a =
    cond (not (is_below 256 i && is_distance d)) bad
    (cond (not (has_timer_left h owner i)) full
    (does (update.Timer i (clock_of h + nat_abs d) handler a)))

-- del_timer(i): -22 where the caller has no live i

abbrev pub del_timer : History → ℕ → ℤ → Served
del_timer h owner i =
    cond (not (list_any (is_of owner (timer_key i)) (live_of h))) bad
    (does (update.DelTimer i))

-- now(): the clock

abbrev pub now : History → Served
now h = replies (pos (clock_of h))

-- lock(k): in a handler Context; Lock where k is not 0 to 63; Masked where the activity holds its mask; Relock where it holds k; it waits
-- where another activity holds k; else it takes k

abbrev pub held : Who → ℤ → Who → CallOut
held who k holder = cond (is_who who holder) (Fail fail.Relock) (Blocked k)

abbrev pub by_holder : Who → ℤ → Option Who → Served
by_holder who k None = does (update.Lock k who.task)
by_holder who k (Some holder) = gives (held who k holder)

abbrev pub holds_mask : History → Who → Bool
holds_mask h who = list_any (is_of who.owner (mask_key who.task)) (live_of h)

abbrev pub lock : History → Who → ℤ → Served
lock h who k =
    cond (not (is_below 64 k)) (fails fail.Lock)
    (cond (holds_mask h who) (fails fail.Masked)
    (by_holder who k (holder_of (find (is_lock k) (live_of h)))))

-- unlock(k): in a handler Context; Lock likewise; Unheld where the activity does not hold k

abbrev pub unlock : History → Who → ℤ → Served
unlock h who k =
    cond (not (is_below 64 k)) (fails fail.Lock)
    (cond (not (list_any (is_of who.owner (lock_key k who.task)) (live_of h))) (fails fail.Unheld)
    (does (update.Unlock k who.task)))

-- mask(): in a handler Context; Relock where the activity holds its mask

abbrev pub mask : History → Who → Served
mask h who =
    cond (holds_mask h who) (fails fail.Relock)
    (does (update.Mask who.task))

-- unmask(): in a handler Context; Unheld where the activity does not hold its mask

abbrev pub unmask : History → Who → Served
unmask h who =
    cond (not (holds_mask h who)) (fails fail.Unheld)
    (does (update.Unmask who.task))

-- hold(d): -22 where d is not 0 to 63; -28 where the caller has 8 on d

abbrev pub hold : History → ℕ → ℤ → Served
hold h owner d =
    cond (not (is_below 64 d)) bad
    (cond (not (ltb (count_by (is_of owner (hold_key d)) (live_of h)) 8)) full
    (does (update.Hold d)))

-- drop_hold(d): -22 where the caller has none on d

abbrev pub drop_hold : History → ℕ → ℤ → Served
drop_hold h owner d =
    cond (not (list_any (is_of owner (hold_key d)) (live_of h))) bad
    (does (update.DropHold d))

-- queue_work(h, a): -28 where the caller has 64 queued

abbrev pub queue_work : History → ℕ → ℕ → ℤ → Served
queue_work h owner handler a =
    cond (not (ltb (count_by (is_of owner work_key) (live_of h)) 64)) full
    (does (update.Work handler a))

-- all rows

-- an argument, as C hands it over to an `int`
abbrev pub int_at : KernelCall → ℕ → ℤ
int_at call place = converted I32 (slice_index_or call.args place (pos 0))

-- the number of elements of a `kalloc`, which is a whole number
abbrev pub count_at : KernelCall → ℤ
count_at call = slice_index_or call.args 0 (pos 0)

-- what a call of this name comes to, with these numbers as its arguments
abbrev pub row_of : KernelName → ℕ → History → Memory → Scripted → Who → KernelCall → ℤ → ℤ → ℤ → Served
row_of kernel.Printd share h memory devices who call a b c = printd a
row_of kernel.Prints share h memory devices who call a b c = prints memory call.pointer.value
row_of kernel.Kalloc share h memory devices who call a b c = kalloc h who.owner call.elem call.size (count_at call)
row_of kernel.Kfree share h memory devices who call a b c = kfree h who.owner call.pointer.value
row_of kernel.RequestLine share h memory devices who call a b c = request_line share h who.owner a call.function
row_of kernel.FreeLine share h memory devices who call a b c = free_line h who.owner a
row_of kernel.RequestPorts share h memory devices who call a b c = request_ports h who.owner a b
row_of kernel.ReleasePorts share h memory devices who call a b c = release_ports h who.owner a b
row_of kernel.PortIn share h memory devices who call a b c = port_in h devices who.owner a
row_of kernel.PortOut share h memory devices who call a b c = port_out h who.owner a b
row_of kernel.AddDevice share h memory devices who call a b c = add_device h who.owner a
row_of kernel.DelDevice share h memory devices who call a b c = del_device h who.owner a
row_of kernel.SetParam share h memory devices who call a b c = set_param h who.owner a b
row_of kernel.ClearParam share h memory devices who call a b c = clear_param h who.owner a
row_of kernel.GetParam share h memory devices who call a b c = get_param h a
row_of kernel.SetTimer share h memory devices who call a b c = set_timer h who.owner a b call.function c
row_of kernel.DelTimer share h memory devices who call a b c = del_timer h who.owner a
row_of kernel.Now share h memory devices who call a b c = now h
row_of kernel.Lock share h memory devices who call a b c = lock h who a
row_of kernel.Unlock share h memory devices who call a b c = unlock h who a
row_of kernel.Mask share h memory devices who call a b c = mask h who
row_of kernel.Unmask share h memory devices who call a b c = unmask h who
row_of kernel.Hold share h memory devices who call a b c = hold h who.owner a
row_of kernel.DropHold share h memory devices who call a b c = drop_hold h who.owner a
row_of kernel.QueueWork share h memory devices who call a b c = queue_work h who.owner call.function a

-- what a call comes to: Context where its row does not let a handler make it, else what the row says
unfoldable pub served : ℕ → History → Memory → Scripted → Who → KernelCall → Served
served share h memory devices who call =
    cond (may_call call.name who.task)
    (row_of call.name share h memory devices who call (int_at call 0) (int_at call 1) (int_at call 2))
    (fails fail.Context)

-- the port whose oldest answer a call takes, if it takes one
abbrev pub port_by : KernelName → History → Who → ℤ → Option ℕ
port_by kernel.PortIn h who a = port_of h who.owner a
port_by _ h who a = None

unfoldable pub port_taken : History → Who → KernelCall → Option ℕ
port_taken h who call = port_by call.name h who (int_at call 0)

-- the devices without the oldest answer of a port, if one is named
abbrev pub without_answer : Option ℕ → Scripted → Scripted
without_answer None devices = devices
without_answer (Some port) devices = without_oldest port devices
