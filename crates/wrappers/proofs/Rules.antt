-- The rows of calls that ask for an update, as the rules by which a history refuses it.
use Rattle.std.proofs.Common.{◌≡◌, ℕ, Bool, true, false, cond, not, ◌||◌, ltb, List, ℤ, Some, None, refl, ap, ◌∙◌}
use Rattle.std.specs.List.{list_any, count_by}
use Rattle.sd_base.specs.declared.history.Refusal.TheVariants.{Busy, Bad, Full}
use Rattle.sd_base.specs.declared.history.Update.{Update}
use Rattle.sd_base.specs.declared.history.Update.TheVariants as update
use Rattle.sd_base.specs.Selection.{is_below}
use Rattle.sd_base.specs.History.{History, OfPorts, OfDevices, OfParams, OfTimers, line_key, ports_key, device_key, param_key, timer_key, hold_key, work_key, has_key, is_of, is_of_kind, live_of, clock_of}
use Rattle.sd_base.specs.Allowed.{is_range, meets, refusal}
use Rattle.wrappers.specs.Served.{Served, bad, busy, full, does}
use Rattle.wrappers.specs.Replies.{by_refusal}
use Rattle.wrappers.specs.Rows as row

-- the forms that rules have

owned : (u : Update) (a : Bool) → by_refusal u (cond a None (Some Bad)) ≡ cond (not a) bad (does u)
owned u true = refl
owned u false = refl

free : (u : Update) (a b : Bool) → by_refusal u (cond a (cond b (Some Busy) None) (Some Bad)) ≡ cond (not a) bad (cond b busy (does u))
free u true true = refl
free u true false = refl
free u false b = refl

free_few : (u : Update) (a b c : Bool) → by_refusal u (cond a (cond b (Some Busy) (cond c None (Some Full))) (Some Bad)) ≡ cond (not a) bad (cond b busy (cond (not c) full (does u)))
free_few u true true c = refl
free_few u true false true = refl
free_few u true false false = refl
free_few u false b c = refl

pub few : (u : Update) (a b : Bool) → by_refusal u (cond a (cond b None (Some Full)) (Some Bad)) ≡ cond (not a) bad (cond (not b) full (does u))
few u true true = refl
few u true false = refl
few u false b = refl

few_any : (u : Update) (a : Bool) → by_refusal u (cond a None (Some Full)) ≡ cond (not a) full (does u)
few_any u true = refl
few_any u false = refl

-- the rows

-- what an update comes to by its rule
abbrev pub ruled : ℕ → History → ℕ → Update → Served
ruled share h owner u = by_refusal u (refusal share h owner u)

pub line_row : (owner : ℕ) (l : ℤ) (handler : ℕ) (share : ℕ) (h : History) → ruled share h owner (update.Line l handler) ≡ row.request_line share h owner l handler
line_row owner l handler share h = free (update.Line l handler) (is_below 64 l) (row.is_line_taken share h owner l)

pub free_line_row : (owner : ℕ) (l : ℤ) (share : ℕ) (h : History) → ruled share h owner (update.FreeLine l) ≡ row.free_line h owner l
free_line_row owner l share h = owned (update.FreeLine l) (list_any (is_of owner (line_key l)) (live_of h))

pub ports_row : (owner : ℕ) (b n : ℤ) (share : ℕ) (h : History) → ruled share h owner (update.Ports b n) ≡ row.request_ports h owner b n
ports_row owner b n share h = free_few (update.Ports b n) (is_range b n) (list_any (meets b n) (live_of h)) (ltb (count_by (is_of_kind owner OfPorts) (live_of h)) 32)

pub drop_ports_row : (owner : ℕ) (b n : ℤ) (share : ℕ) (h : History) → ruled share h owner (update.DropPorts b n) ≡ row.release_ports h owner b n
drop_ports_row owner b n share h = owned (update.DropPorts b n) (list_any (is_of owner (ports_key b n)) (live_of h))

pub device_row : (owner : ℕ) (i : ℤ) (share : ℕ) (h : History) → ruled share h owner (update.Device i) ≡ row.add_device h owner i
device_row owner i share h =
    free_few (update.Device i) (is_below 1024 i) (list_any (has_key (device_key i)) (live_of h)) (ltb (count_by (is_of_kind owner OfDevices) (live_of h)) 32)

pub del_device_row : (owner : ℕ) (i : ℤ) (share : ℕ) (h : History) → ruled share h owner (update.DelDevice i) ≡ row.del_device h owner i
del_device_row owner i share h = owned (update.DelDevice i) (list_any (is_of owner (device_key i)) (live_of h))

pub param_row : (owner : ℕ) (k v : ℤ) (share : ℕ) (h : History) → ruled share h owner (update.Param k v) ≡ row.set_param h owner k v
param_row owner k v share h =
    few (update.Param k v) (is_below 256 k) (list_any (is_of owner (param_key k)) (live_of h) || ltb (count_by (is_of_kind owner OfParams) (live_of h)) 32)

pub clear_param_row : (owner : ℕ) (k : ℤ) (share : ℕ) (h : History) → ruled share h owner (update.ClearParam k) ≡ row.clear_param h owner k
clear_param_row owner k share h = owned (update.ClearParam k) (list_any (is_of owner (param_key k)) (live_of h))

pub del_timer_row : (owner : ℕ) (i : ℤ) (share : ℕ) (h : History) → ruled share h owner (update.DelTimer i) ≡ row.del_timer h owner i
del_timer_row owner i share h = owned (update.DelTimer i) (list_any (is_of owner (timer_key i)) (live_of h))

pub hold_row : (owner : ℕ) (d : ℤ) (share : ℕ) (h : History) → ruled share h owner (update.Hold d) ≡ row.hold h owner d
hold_row owner d share h = few (update.Hold d) (is_below 64 d) (ltb (count_by (is_of owner (hold_key d)) (live_of h)) 8)

pub drop_hold_row : (owner : ℕ) (d : ℤ) (share : ℕ) (h : History) → ruled share h owner (update.DropHold d) ≡ row.drop_hold h owner d
drop_hold_row owner d share h = owned (update.DropHold d) (list_any (is_of owner (hold_key d)) (live_of h))

pub work_row : (owner handler : ℕ) (a : ℤ) (share : ℕ) (h : History) → ruled share h owner (update.Work handler a) ≡ row.queue_work h owner handler a
work_row owner handler a share h = few_any (update.Work handler a) (ltb (count_by (is_of owner work_key) (live_of h)) 64)
