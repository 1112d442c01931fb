-- Each call serves every lawful history of which the table holds its part: from what the call answers by the table's contents, and
-- from what the table contains after it.
use Rattle.std.proofs.Common.{◌≡◌, ℕ, Bool, true, false, cond, ◌&&◌, eqb, ltb, List, [], ◌∷◌, ◌++◌, map, reverse, slice_get, ℤ, pos, negsuc, Option, Some, None, Ok, Err, OnOk, refl, ap, sym, ◌∙◌, subst, arith}
use Rattle.std.proofs.lemmas.Option.{slice_get-map}
use Rattle.std.specs.Option.{option_map}
use Rattle.std.specs.List.{list_any, filter, filter_map}
use Rattle.sd_base.specs.declared.history.Update.{Update}
use Rattle.sd_base.specs.declared.history.Update.TheVariants.{Line, FreeLine, Ports, DropPorts, Device, DelDevice, Param, ClearParam}
use Rattle.sd_base.specs.Selection.{find_last, without_first}
use Rattle.sd_base.specs.History.{Entry, History, entry, line_key, ports_key, device_key, param_key, is_of, after_entry, live_of, clock_of}
use Rattle.sd_base.specs.Allowed.{is_range, refusal, is_astray}
use Rattle.sd_base.specs.Part.{ServesAt, Loses}
use Rattle.sd_base.specs.Sound.{IsSound}
use Rattle.sd_base.proofs.Counting.{reverse-cons}
use Rattle.sd_base.proofs.SoundLive.{lawful_sound}
use Rattle.claim_table.specs.declared.claim.Claim.{Claim}
use Rattle.claim_table.specs.declared.claims.ClaimRefusal.TheVariants.{Busy, Bad, Full}
use Rattle.claim_table.specs.declared.claims.Holder.{Holder}
use Rattle.claim_table.specs.Ordered.{has_number}
use Rattle.claim_table.specs.ClaimRows.{ClaimRows, covers}
use Rattle.claim_table.specs.ClaimCalls.{Answer, if_held, line_answer, with_line, holds_line, without_line, ports_answer, with_ports, holds_ports, without_ports, device_answer, with_device, holds_device, without_device, param_answer, with_param, holds_param, without_param, detail_of, holder_in, param_value, line_holder}
use Rattle.claim_table.specs.ClaimPart.{line_row, ports_row, param_row, HoldsClaims, refused_as, OfEachHistory, holder_by, holders_of, port_in, holds_port, value_by, values_of}
use Rattle.claim_table.proofs.InOrder.{list_any-in_order, numbered-in_order, find_last-in_order}
use Rattle.claim_table.proofs.Owned.{port_covered, holders_rows, values_rows, holder_astray, value_astray}
use Rattle.claim_table.proofs.Within.{any_rows, none_rows}
use Rattle.claim_table.proofs.PartKept.{line_comes, line_goes, ports_come, ports_go, device_comes, device_goes, param_comes, param_goes}
use Rattle.claim_table.proofs.Rules.{line_rule, free_line_rule, ports_rule, drop_ports_rule, device_rule, del_device_rule, param_rule, clear_param_rule}

accepted : (answer : Answer) → refused_as answer ≡ None → answer ≡ Ok tt
accepted (Ok done) h = refl
accepted (Err Busy) h = cc
accepted (Err Bad) h = cc
accepted (Err Full) h = cc

-- an answer by the history's rule, and the part of the history with the update where it is accepted
serves_by : (old new : ClaimRows) (owner : ℕ) (u : Update) (answer : Answer) →
    ((h : History) → IsSound (live_of h) → HoldsClaims old (live_of h) → refused_as answer ≡ refusal old.share h owner u) →
    (answer ≡ Ok tt → (live : List Entry) → IsSound live → HoldsClaims old live → HoldsClaims new (after_entry (entry owner u) live)) →
    ServesAt old.share HoldsClaims old owner u (refused_as answer) new
serves_by old new owner u answer rule kept h lawful proper holds =
    let sound : IsSound (live_of h) = lawful_sound old.share h proper lawful in
    (rule h sound holds, λ ok. kept (accepted answer ok) (live_of h) sound holds)

-- what is accepted has changed the table as it should
done : (answer : Answer) (P : Type 0) → OnOk answer P → answer ≡ Ok tt → P
done answer P h ok = subst (λ a. OnOk a P) ok h

line_in : (t : ClaimRows) (owner : ℕ) (line : ℤ) (handler : ℕ) → line_answer t owner line ≡ Ok tt → (live : List Entry) → HoldsClaims t live → HoldsClaims (with_line t owner line handler) (after_entry (entry owner (Line line handler)) live)
line_in t owner (pos k) handler ok live h = line_comes t live owner k handler h
line_in t owner (negsuc k) handler ok live h = cc

pub line_serves : (old new : ClaimRows) (owner : ℕ) (line : ℤ) (handler : ℕ) (answer : Answer) → answer ≡ line_answer old owner line → OnOk answer (new ≡ with_line old owner line handler) →
    ServesAt old.share HoldsClaims old owner (Line line handler) (refused_as answer) new
line_serves old new owner line handler answer is after =
    serves_by old new owner (Line line handler) answer
    (λ h s holds. ap refused_as is ∙ line_rule old (live_of h) (clock_of h) owner line handler holds)
    (λ ok live s holds. subst (λ t. HoldsClaims t (after_entry (entry owner (Line line handler)) live)) (sym (done answer (new ≡ with_line old owner line handler) after ok))
    (line_in old owner line handler (sym is ∙ ok) live holds))

line_out : (t : ClaimRows) (owner : ℕ) (line : ℤ) → holds_line t owner line ≡ true → (live : List Entry) → IsSound live → HoldsClaims t live → HoldsClaims (without_line t owner line) (without_first (is_of owner (line_key line)) live)
line_out t owner (pos k) has live s h = line_goes t live owner k s h
line_out t owner (negsuc k) has live s h = cc

was_held : (has : Bool) → if_held has ≡ Ok tt → has ≡ true
was_held true h = refl
was_held false h = cc

pub free_line_serves : (old new : ClaimRows) (owner : ℕ) (line : ℤ) (answer : Answer) → answer ≡ if_held (holds_line old owner line) → OnOk answer (new ≡ without_line old owner line) →
    ServesAt old.share HoldsClaims old owner (FreeLine line) (refused_as answer) new
free_line_serves old new owner line answer is after =
    serves_by old new owner (FreeLine line) answer
    (λ h s holds. ap refused_as is ∙ free_line_rule old (live_of h) (clock_of h) owner line s holds)
    (λ ok live s holds. subst (λ t. HoldsClaims t (without_first (is_of owner (line_key line)) live)) (sym (done answer (new ≡ without_line old owner line) after ok))
    (line_out old owner line (was_held (holds_line old owner line) (sym is ∙ ok)) live s holds))

pub line_loses : (old new : ClaimRows) (owner : ℕ) (line : ℤ) → holds_line old owner line ≡ true → new ≡ without_line old owner line → Loses HoldsClaims old owner (line_key line) new
line_loses old new owner line has is live s holds = subst (λ t. HoldsClaims t (without_first (is_of owner (line_key line)) live)) (sym is) (line_out old owner line has live s holds)

-- fewer than no ports are none
not_ports : (b n : ℕ) (t : ClaimRows) (owner : ℕ) → ports_answer t owner (pos b) (negsuc n) ≡ Ok tt → ⊥
not_ports b n t owner ok =
    let out : is_range (pos b) (negsuc n) ≡ false = grind arith in
    let bad : ports_answer t owner (pos b) (negsuc n) ≡ Err Bad = grind arith in
    cc

not_range : (b n : ℕ) (t : ClaimRows) (owner : ℕ) → holds_ports t owner (pos b) (negsuc n) ≡ true → ⊥
not_range b n t owner has =
    let out : is_range (pos b) (negsuc n) ≡ false = grind arith in
    let none : holds_ports t owner (pos b) (negsuc n) ≡ false = grind arith in
    cc

ports_in : (t : ClaimRows) (owner : ℕ) (base n : ℤ) → ports_answer t owner base n ≡ Ok tt → (live : List Entry) → HoldsClaims t live → HoldsClaims (with_ports t owner base n) (after_entry (entry owner (Ports base n)) live)
ports_in t owner (pos b) (pos n) ok live h = ports_come t live owner b n h
ports_in t owner (pos b) (negsuc n) ok live h = absurd (not_ports b n t owner ok)
ports_in t owner (negsuc b) n ok live h = cc

pub ports_serve : (old new : ClaimRows) (owner : ℕ) (base n : ℤ) (answer : Answer) → answer ≡ ports_answer old owner base n → OnOk answer (new ≡ with_ports old owner base n) →
    ServesAt old.share HoldsClaims old owner (Ports base n) (refused_as answer) new
ports_serve old new owner base n answer is after =
    serves_by old new owner (Ports base n) answer
    (λ h s holds. ap refused_as is ∙ ports_rule old (live_of h) (clock_of h) owner base n s holds)
    (λ ok live s holds. subst (λ t. HoldsClaims t (after_entry (entry owner (Ports base n)) live)) (sym (done answer (new ≡ with_ports old owner base n) after ok))
    (ports_in old owner base n (sym is ∙ ok) live holds))

ports_out : (t : ClaimRows) (owner : ℕ) (base n : ℤ) → holds_ports t owner base n ≡ true → (live : List Entry) → IsSound live → HoldsClaims t live →
    HoldsClaims (without_ports t owner base n) (without_first (is_of owner (ports_key base n)) live)
ports_out t owner (pos b) (pos n) has live s h = ports_go t live owner b n s h
ports_out t owner (pos b) (negsuc n) has live s h = absurd (not_range b n t owner has)
ports_out t owner (negsuc b) n has live s h = cc

pub drop_ports_serves : (old new : ClaimRows) (owner : ℕ) (base n : ℤ) (answer : Answer) → answer ≡ if_held (holds_ports old owner base n) → OnOk answer (new ≡ without_ports old owner base n) →
    ServesAt old.share HoldsClaims old owner (DropPorts base n) (refused_as answer) new
drop_ports_serves old new owner base n answer is after =
    serves_by old new owner (DropPorts base n) answer
    (λ h s holds. ap refused_as is ∙ drop_ports_rule old (live_of h) (clock_of h) owner base n s holds)
    (λ ok live s holds. subst (λ t. HoldsClaims t (without_first (is_of owner (ports_key base n)) live)) (sym (done answer (new ≡ without_ports old owner base n) after ok))
    (ports_out old owner base n (was_held (holds_ports old owner base n) (sym is ∙ ok)) live s holds))

pub ports_lose : (old new : ClaimRows) (owner : ℕ) (base n : ℤ) → holds_ports old owner base n ≡ true → new ≡ without_ports old owner base n → Loses HoldsClaims old owner (ports_key base n) new
ports_lose old new owner base n has is live s holds =
    subst (λ t. HoldsClaims t (without_first (is_of owner (ports_key base n)) live)) (sym is) (ports_out old owner base n has live s holds)

device_in : (t : ClaimRows) (owner : ℕ) (id : ℤ) → device_answer t owner id ≡ Ok tt → (live : List Entry) → HoldsClaims t live → HoldsClaims (with_device t owner id) (after_entry (entry owner (Device id)) live)
device_in t owner (pos k) ok live h = device_comes t live owner k h
device_in t owner (negsuc k) ok live h = cc

pub device_serves : (old new : ClaimRows) (owner : ℕ) (id : ℤ) (answer : Answer) → answer ≡ device_answer old owner id → OnOk answer (new ≡ with_device old owner id) →
    ServesAt old.share HoldsClaims old owner (Device id) (refused_as answer) new
device_serves old new owner id answer is after =
    serves_by old new owner (Device id) answer
    (λ h s holds. ap refused_as is ∙ device_rule old (live_of h) (clock_of h) owner id s holds)
    (λ ok live s holds. subst (λ t. HoldsClaims t (after_entry (entry owner (Device id)) live)) (sym (done answer (new ≡ with_device old owner id) after ok))
    (device_in old owner id (sym is ∙ ok) live holds))

device_out : (t : ClaimRows) (owner : ℕ) (id : ℤ) → holds_device t owner id ≡ true → (live : List Entry) → IsSound live → HoldsClaims t live → HoldsClaims (without_device t owner id) (without_first (is_of owner (device_key id)) live)
device_out t owner (pos k) has live s h = device_goes t live owner k s h
device_out t owner (negsuc k) has live s h = cc

pub del_device_serves : (old new : ClaimRows) (owner : ℕ) (id : ℤ) (answer : Answer) → answer ≡ if_held (holds_device old owner id) → OnOk answer (new ≡ without_device old owner id) →
    ServesAt old.share HoldsClaims old owner (DelDevice id) (refused_as answer) new
del_device_serves old new owner id answer is after =
    serves_by old new owner (DelDevice id) answer
    (λ h s holds. ap refused_as is ∙ del_device_rule old (live_of h) (clock_of h) owner id s holds)
    (λ ok live s holds. subst (λ t. HoldsClaims t (without_first (is_of owner (device_key id)) live)) (sym (done answer (new ≡ without_device old owner id) after ok))
    (device_out old owner id (was_held (holds_device old owner id) (sym is ∙ ok)) live s holds))

pub device_loses : (old new : ClaimRows) (owner : ℕ) (id : ℤ) → holds_device old owner id ≡ true → new ≡ without_device old owner id → Loses HoldsClaims old owner (device_key id) new
device_loses old new owner id has is live s holds = subst (λ t. HoldsClaims t (without_first (is_of owner (device_key id)) live)) (sym is) (device_out old owner id has live s holds)

param_in : (t : ClaimRows) (owner : ℕ) (key value : ℤ) → param_answer t owner key ≡ Ok tt → (live : List Entry) → IsSound live → HoldsClaims t live → HoldsClaims (with_param t owner key value) (after_entry (entry owner (Param key value)) live)
param_in t owner (pos k) value ok live s h = param_comes t live owner k value s h
param_in t owner (negsuc k) value ok live s h = cc

pub param_serves : (old new : ClaimRows) (owner : ℕ) (key value : ℤ) (answer : Answer) → answer ≡ param_answer old owner key → OnOk answer (new ≡ with_param old owner key value) →
    ServesAt old.share HoldsClaims old owner (Param key value) (refused_as answer) new
param_serves old new owner key value answer is after =
    serves_by old new owner (Param key value) answer
    (λ h s holds. ap refused_as is ∙ param_rule old (live_of h) (clock_of h) owner key value s holds)
    (λ ok live s holds. subst (λ t. HoldsClaims t (after_entry (entry owner (Param key value)) live)) (sym (done answer (new ≡ with_param old owner key value) after ok))
    (param_in old owner key value (sym is ∙ ok) live s holds))

param_out : (t : ClaimRows) (owner : ℕ) (key : ℤ) → holds_param t owner key ≡ true → (live : List Entry) → IsSound live → HoldsClaims t live → HoldsClaims (without_param t owner key) (without_first (is_of owner (param_key key)) live)
param_out t owner (pos k) has live s h = param_goes t live owner k s h
param_out t owner (negsuc k) has live s h = cc

pub clear_param_serves : (old new : ClaimRows) (owner : ℕ) (key : ℤ) (answer : Answer) → answer ≡ if_held (holds_param old owner key) → OnOk answer (new ≡ without_param old owner key) →
    ServesAt old.share HoldsClaims old owner (ClearParam key) (refused_as answer) new
clear_param_serves old new owner key answer is after =
    serves_by old new owner (ClearParam key) answer
    (λ h s holds. ap refused_as is ∙ clear_param_rule old (live_of h) (clock_of h) owner key s holds)
    (λ ok live s holds. subst (λ t. HoldsClaims t (without_first (is_of owner (param_key key)) live)) (sym (done answer (new ≡ without_param old owner key) after ok))
    (param_out old owner key (was_held (holds_param old owner key) (sym is ∙ ok)) live s holds))

pub param_loses : (old new : ClaimRows) (owner : ℕ) (key : ℤ) → holds_param old owner key ≡ true → new ≡ without_param old owner key → Loses HoldsClaims old owner (param_key key) new
param_loses old new owner key has is live s holds = subst (λ t. HoldsClaims t (without_first (is_of owner (param_key key)) live)) (sym is) (param_out old owner key has live s holds)

-- the reading calls

value_read : (t : ClaimRows) (live : List Entry) (key : ℤ) → IsSound live → HoldsClaims t live → param_value t key ≡ slice_get (filter_map (λ (e : Entry). value_by key e.update) live) 0
value_read t live (pos k) s h =
    elim (ltb k 256) as (λ b. ltb k 256 ≡ b → cond b (detail_of (find_last (has_number k) t.params)) None ≡ slice_get (filter_map (λ (e : Entry). value_by (pos k) e.update) live) 0) [
      | true ↦ λ is.
          ap (λ ps. detail_of (find_last (has_number k) ps)) h.params ∙ ap detail_of (find_last-in_order k (filter_map param_row live)) ∙ sym (values_rows k live)
      | false ↦ λ is.
          sym (ap (λ vs. slice_get vs 0) (none_rows (λ (e : Entry). value_by (pos k) e.update) is_astray (value_astray (pos k) is) live s.in_range))
    ] refl
value_read t live (negsuc k) s h =
    sym (ap (λ vs. slice_get vs 0) (none_rows (λ (e : Entry). value_by (negsuc k) e.update) is_astray (value_astray (negsuc k) refl) live s.in_range))

pub value_reads : (t : ClaimRows) (key : ℤ) (answer : Option ℤ) → answer ≡ param_value t key → OfEachHistory t (λ h. answer ≡ slice_get (values_of h key) 0)
value_reads t key answer is h lawful proper holds = is ∙ value_read t (live_of h) key (lawful_sound t.share h proper lawful) holds

map-append : {X Y : Type 0} (f : X → Y) (xs ys : List X) → map f (xs ++ ys) ≡ map f xs ++ map f ys
map-append f [] ys = refl
map-append f (x ∷ xs) ys = grind (arith, map-append f xs ys)

map-reverse : {X Y : Type 0} (f : X → Y) (xs : List X) → map f (reverse xs) ≡ reverse (map f xs)
map-reverse f [] = refl
map-reverse f (x ∷ xs) = grind (arith, reverse-cons x xs, map-append f (reverse xs) (x ∷ []), reverse-cons (f x) (map f xs), map-reverse f xs)

abbrev holder_of_claim : Claim ℕ → Holder
holder_of_claim c = record { owner = c.owner; handler = c.detail }

holder_in-map : (o : Option (Claim ℕ)) → holder_in o ≡ option_map holder_of_claim o
holder_in-map None = refl
holder_in-map (Some c) = refl

holder_read : (t : ClaimRows) (live : List Entry) (line : ℤ) (i : ℕ) → IsSound live → HoldsClaims t live →
    line_holder t line i ≡ slice_get (reverse (filter_map (λ (e : Entry). holder_by line e.owner e.update) live)) i
holder_read t live (pos k) i s h =
    elim (ltb k 64) as (λ b. ltb k 64 ≡ b → cond b (holder_in (slice_get (filter (has_number k) t.lines) i)) None ≡ slice_get (reverse (filter_map (λ (e : Entry). holder_by (pos k) e.owner e.update) live)) i) [
      | true ↦ λ is.
          let rows : List (Claim ℕ) = filter (has_number k) (filter_map line_row live) in
          ap (λ ls. holder_in (slice_get (filter (has_number k) ls) i)) h.lines
          ∙ ap (λ ls. holder_in (slice_get ls i)) (numbered-in_order k (filter_map line_row live))
          ∙ holder_in-map (slice_get (reverse rows) i)
          ∙ sym (slice_get-map holder_of_claim (reverse rows) i)
          ∙ ap (λ ls. slice_get ls i) (map-reverse holder_of_claim rows)
          ∙ sym (ap (λ ls. slice_get (reverse ls) i) (holders_rows k live))
      | false ↦ λ is.
          sym (ap (λ ls. slice_get (reverse ls) i) (none_rows (λ (e : Entry). holder_by (pos k) e.owner e.update) is_astray (holder_astray (pos k) is) live s.in_range))
    ] refl
holder_read t live (negsuc k) i s h =
    sym (ap (λ ls. slice_get (reverse ls) i) (none_rows (λ (e : Entry). holder_by (negsuc k) e.owner e.update) is_astray (holder_astray (negsuc k) refl) live s.in_range))

pub holder_reads : (t : ClaimRows) (line : ℤ) (i : ℕ) (answer : Option Holder) → answer ≡ line_holder t line i → OfEachHistory t (λ h. answer ≡ slice_get (holders_of h line) i)
holder_reads t line i answer is h lawful proper holds = is ∙ holder_read t (live_of h) line i (lawful_sound t.share h proper lawful) holds

pub port_reads : (t : ClaimRows) (owner : ℕ) (port : ℤ) (answer : Bool) → answer ≡ list_any (covers owner port) t.ports → OfEachHistory t (λ h. answer ≡ holds_port h owner port)
port_reads t owner port answer is h lawful proper holds =
    let sound : IsSound (live_of h) = lawful_sound t.share h proper lawful in
    is ∙ ap (list_any (covers owner port)) holds.ports ∙ list_any-in_order (covers owner port) (filter_map ports_row (live_of h))
    ∙ any_rows ports_row (λ (e : Entry). eqb e.owner owner && port_in port e.update) is_astray (covers owner port) (port_covered owner port) (live_of h) sound.in_range
