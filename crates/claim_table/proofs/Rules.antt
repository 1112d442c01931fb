-- The table's own rules are the history's: what a call answers by the table's contents is what the history allows.
use Rattle.std.proofs.Common.{◌≡◌, ℕ, Bool, true, false, ◌&&◌, ltb, List, ℤ, pos, negsuc, nat_abs, refl, ap, sym, ◌∙◌, arith}
use Rattle.std.proofs.lemmas.Bool.Decides.{nat_tests}
use Rattle.std.specs.List.{list_any, filter_map, count_by}
use Rattle.sd_base.specs.declared.history.Update.TheVariants.{Line, FreeLine, Ports, DropPorts, Device, DelDevice, Param, ClearParam}
use Rattle.sd_base.specs.History.{Entry, OfPorts, OfDevices, OfParams, line_key, ports_key, device_key, param_key, has_key, is_of, is_of_kind}
use Rattle.sd_base.specs.Allowed.{is_range, meets, refusal_on, is_astray}
use Rattle.sd_base.specs.Sound.{IsSound}
use Rattle.sd_base.proofs.Rows.{list_any-filter_map, count_by-filter_map}
use Rattle.sd_base.proofs.Removal.{list_any-wider}
use Rattle.claim_table.specs.Ordered.{has_number, is_owned, is_claim}
use Rattle.claim_table.specs.ClaimRows.{ClaimRows, range_meets, is_range_claim}
use Rattle.claim_table.specs.ClaimCalls.{if_held, line_answer, holds_line, ports_answer, holds_ports, device_answer, holds_device, param_answer, holds_param}
use Rattle.claim_table.specs.ClaimPart.{line_row, ports_row, device_row, param_row, HoldsClaims, refused_as}
use Rattle.claim_table.proofs.InOrder.{list_any-in_order, count_by-in_order}
use Rattle.claim_table.proofs.Owned.{line_has, line_is, line_astray, ports_meet, ports_is, ports_owned, ports_astray, device_has, device_is, device_owned, device_astray, param_is, param_owned, param_astray}
use Rattle.claim_table.proofs.Within.{any_rows, count_rows}

-- what the table has is what is live

line_count : (t : ClaimRows) (live : List Entry) (k : ℕ) → HoldsClaims t live → count_by (has_number k) t.lines ≡ count_by (has_key (line_key (pos k))) live
line_count t live k h =
    ap (count_by (has_number k)) h.lines ∙ count_by-in_order (has_number k) (filter_map line_row live)
    ∙ count_by-filter_map line_row (has_key (line_key (pos k))) (has_number k) (line_has k) live

line_own : (t : ClaimRows) (live : List Entry) (owner k : ℕ) → HoldsClaims t live → list_any (is_claim owner k) t.lines ≡ list_any (is_of owner (line_key (pos k))) live
line_own t live owner k h =
    ap (list_any (is_claim owner k)) h.lines ∙ list_any-in_order (is_claim owner k) (filter_map line_row live)
    ∙ list_any-filter_map line_row (is_of owner (line_key (pos k))) (is_claim owner k) (line_is owner k) live

ports_there : (t : ClaimRows) (live : List Entry) (b n : ℕ) → IsSound live → HoldsClaims t live → list_any (range_meets b n) t.ports ≡ list_any (meets (pos b) (pos n)) live
ports_there t live b n s h =
    ap (list_any (range_meets b n)) h.ports ∙ list_any-in_order (range_meets b n) (filter_map ports_row live)
    ∙ any_rows ports_row (meets (pos b) (pos n)) is_astray (range_meets b n) (ports_meet b n) live s.in_range

ports_own : (t : ClaimRows) (live : List Entry) (owner b n : ℕ) → HoldsClaims t live → list_any (is_range_claim owner b n) t.ports ≡ list_any (is_of owner (ports_key (pos b) (pos n))) live
ports_own t live owner b n h =
    ap (list_any (is_range_claim owner b n)) h.ports ∙ list_any-in_order (is_range_claim owner b n) (filter_map ports_row live)
    ∙ list_any-filter_map ports_row (is_of owner (ports_key (pos b) (pos n))) (is_range_claim owner b n) (ports_is owner b n) live

ports_count : (t : ClaimRows) (live : List Entry) (owner : ℕ) → IsSound live → HoldsClaims t live → count_by (is_owned owner) t.ports ≡ count_by (is_of_kind owner OfPorts) live
ports_count t live owner s h =
    ap (count_by (is_owned owner)) h.ports ∙ count_by-in_order (is_owned owner) (filter_map ports_row live)
    ∙ count_rows ports_row (is_of_kind owner OfPorts) is_astray (is_owned owner) (ports_owned owner) live s.in_range

device_there : (t : ClaimRows) (live : List Entry) (k : ℕ) → HoldsClaims t live → list_any (has_number k) t.devices ≡ list_any (has_key (device_key (pos k))) live
device_there t live k h =
    ap (list_any (has_number k)) h.devices ∙ list_any-in_order (has_number k) (filter_map device_row live)
    ∙ list_any-filter_map device_row (has_key (device_key (pos k))) (has_number k) (device_has k) live

device_own : (t : ClaimRows) (live : List Entry) (owner k : ℕ) → HoldsClaims t live → list_any (is_claim owner k) t.devices ≡ list_any (is_of owner (device_key (pos k))) live
device_own t live owner k h =
    ap (list_any (is_claim owner k)) h.devices ∙ list_any-in_order (is_claim owner k) (filter_map device_row live)
    ∙ list_any-filter_map device_row (is_of owner (device_key (pos k))) (is_claim owner k) (device_is owner k) live

device_count : (t : ClaimRows) (live : List Entry) (owner : ℕ) → IsSound live → HoldsClaims t live → count_by (is_owned owner) t.devices ≡ count_by (is_of_kind owner OfDevices) live
device_count t live owner s h =
    ap (count_by (is_owned owner)) h.devices ∙ count_by-in_order (is_owned owner) (filter_map device_row live)
    ∙ count_rows device_row (is_of_kind owner OfDevices) is_astray (is_owned owner) (device_owned owner) live s.in_range

param_own : (t : ClaimRows) (live : List Entry) (owner k : ℕ) → HoldsClaims t live → list_any (is_claim owner k) t.params ≡ list_any (is_of owner (param_key (pos k))) live
param_own t live owner k h =
    ap (list_any (is_claim owner k)) h.params ∙ list_any-in_order (is_claim owner k) (filter_map param_row live)
    ∙ list_any-filter_map param_row (is_of owner (param_key (pos k))) (is_claim owner k) (param_is owner k) live

param_count : (t : ClaimRows) (live : List Entry) (owner : ℕ) → IsSound live → HoldsClaims t live → count_by (is_owned owner) t.params ≡ count_by (is_of_kind owner OfParams) live
param_count t live owner s h =
    ap (count_by (is_owned owner)) h.params ∙ count_by-in_order (is_owned owner) (filter_map param_row live)
    ∙ count_rows param_row (is_of_kind owner OfParams) is_astray (is_owned owner) (param_owned owner) live s.in_range

-- who holds nothing of this number

none_out : (p : Entry → Bool) → ((e : Entry) → p e ≡ true → is_astray e ≡ true) → (live : List Entry) → IsSound live → list_any p live ≡ false
none_out p out live s = list_any-wider is_astray p out live s.in_range

-- the rules

pub line_rule : (t : ClaimRows) (live : List Entry) (clock owner : ℕ) (line : ℤ) (handler : ℕ) → HoldsClaims t live → refused_as (line_answer t owner line) ≡ refusal_on t.share live clock owner (Line line handler)
line_rule t live clock owner (pos k) handler h = grind (arith, line_own t live owner k h, line_count t live k h)
line_rule t live clock owner (negsuc k) handler h = refl

held_line : (t : ClaimRows) (live : List Entry) (owner : ℕ) (line : ℤ) → IsSound live → HoldsClaims t live → holds_line t owner line ≡ list_any (is_of owner (line_key line)) live
held_line t live owner (pos k) s h =
    elim (ltb k 64) as (λ b. ltb k 64 ≡ b → (b && list_any (is_claim owner k) t.lines) ≡ list_any (is_of owner (line_key (pos k))) live) [
      | true ↦ λ is. line_own t live owner k h
      | false ↦ λ is. sym (none_out (is_of owner (line_key (pos k))) (line_astray owner (pos k) is) live s)
    ] refl
held_line t live owner (negsuc k) s h = sym (none_out (is_of owner (line_key (negsuc k))) (line_astray owner (negsuc k) refl) live s)

pub free_line_rule : (t : ClaimRows) (live : List Entry) (clock owner : ℕ) (line : ℤ) → IsSound live → HoldsClaims t live →
    refused_as (if_held (holds_line t owner line)) ≡ refusal_on t.share live clock owner (FreeLine line)
free_line_rule t live clock owner line s h = grind (arith, held_line t live owner line s h)

pub ports_rule : (t : ClaimRows) (live : List Entry) (clock owner : ℕ) (base n : ℤ) → IsSound live → HoldsClaims t live → refused_as (ports_answer t owner base n) ≡ refusal_on t.share live clock owner (Ports base n)
ports_rule t live clock owner (pos b) (pos n) s h = grind (arith, ports_there t live b n s h, ports_count t live owner s h)
ports_rule t live clock owner (pos b) (negsuc n) s h = grind (arith, nat_tests)
ports_rule t live clock owner (negsuc b) n s h = refl

held_ports : (t : ClaimRows) (live : List Entry) (owner : ℕ) (base n : ℤ) → IsSound live → HoldsClaims t live → holds_ports t owner base n ≡ list_any (is_of owner (ports_key base n)) live
held_ports t live owner (pos b) (pos n) s h =
    elim (is_range (pos b) (pos n)) as (λ r. is_range (pos b) (pos n) ≡ r → (r && list_any (is_range_claim owner b n) t.ports) ≡ list_any (is_of owner (ports_key (pos b) (pos n))) live) [
      | true ↦ λ is. ports_own t live owner b n h
      | false ↦ λ is. sym (none_out (is_of owner (ports_key (pos b) (pos n))) (ports_astray owner (pos b) (pos n) is) live s)
    ] refl
held_ports t live owner (pos b) (negsuc n) s h =
    let out : is_range (pos b) (negsuc n) ≡ false = grind arith in
    let none : list_any (is_of owner (ports_key (pos b) (negsuc n))) live ≡ false = none_out (is_of owner (ports_key (pos b) (negsuc n))) (ports_astray owner (pos b) (negsuc n) out) live s in
    ap (λ r. r && list_any (is_range_claim owner b (nat_abs (negsuc n))) t.ports) out ∙ sym none
held_ports t live owner (negsuc b) n s h = sym (none_out (is_of owner (ports_key (negsuc b) n)) (ports_astray owner (negsuc b) n refl) live s)

pub drop_ports_rule : (t : ClaimRows) (live : List Entry) (clock owner : ℕ) (base n : ℤ) → IsSound live → HoldsClaims t live →
    refused_as (if_held (holds_ports t owner base n)) ≡ refusal_on t.share live clock owner (DropPorts base n)
drop_ports_rule t live clock owner base n s h = grind (arith, held_ports t live owner base n s h)

pub device_rule : (t : ClaimRows) (live : List Entry) (clock owner : ℕ) (id : ℤ) → IsSound live → HoldsClaims t live → refused_as (device_answer t owner id) ≡ refusal_on t.share live clock owner (Device id)
device_rule t live clock owner (pos k) s h = grind (arith, device_there t live k h, device_count t live owner s h)
device_rule t live clock owner (negsuc k) s h = refl

held_device : (t : ClaimRows) (live : List Entry) (owner : ℕ) (id : ℤ) → IsSound live → HoldsClaims t live → holds_device t owner id ≡ list_any (is_of owner (device_key id)) live
held_device t live owner (pos k) s h =
    elim (ltb k 1024) as (λ b. ltb k 1024 ≡ b → (b && list_any (is_claim owner k) t.devices) ≡ list_any (is_of owner (device_key (pos k))) live) [
      | true ↦ λ is. device_own t live owner k h
      | false ↦ λ is. sym (none_out (is_of owner (device_key (pos k))) (device_astray owner (pos k) is) live s)
    ] refl
held_device t live owner (negsuc k) s h = sym (none_out (is_of owner (device_key (negsuc k))) (device_astray owner (negsuc k) refl) live s)

pub del_device_rule : (t : ClaimRows) (live : List Entry) (clock owner : ℕ) (id : ℤ) → IsSound live → HoldsClaims t live →
    refused_as (if_held (holds_device t owner id)) ≡ refusal_on t.share live clock owner (DelDevice id)
del_device_rule t live clock owner id s h = grind (arith, held_device t live owner id s h)

pub param_rule : (t : ClaimRows) (live : List Entry) (clock owner : ℕ) (key value : ℤ) → IsSound live → HoldsClaims t live →
    refused_as (param_answer t owner key) ≡ refusal_on t.share live clock owner (Param key value)
param_rule t live clock owner (pos k) value s h = grind (arith, param_own t live owner k h, param_count t live owner s h)
param_rule t live clock owner (negsuc k) value s h = refl

held_param : (t : ClaimRows) (live : List Entry) (owner : ℕ) (key : ℤ) → IsSound live → HoldsClaims t live → holds_param t owner key ≡ list_any (is_of owner (param_key key)) live
held_param t live owner (pos k) s h =
    elim (ltb k 256) as (λ b. ltb k 256 ≡ b → (b && list_any (is_claim owner k) t.params) ≡ list_any (is_of owner (param_key (pos k))) live) [
      | true ↦ λ is. param_own t live owner k h
      | false ↦ λ is. sym (none_out (is_of owner (param_key (pos k))) (param_astray owner (pos k) is) live s)
    ] refl
held_param t live owner (negsuc k) s h = sym (none_out (is_of owner (param_key (negsuc k))) (param_astray owner (negsuc k) refl) live s)

pub clear_param_rule : (t : ClaimRows) (live : List Entry) (clock owner : ℕ) (key : ℤ) → IsSound live → HoldsClaims t live →
    refused_as (if_held (holds_param t owner key)) ≡ refusal_on t.share live clock owner (ClearParam key)
clear_param_rule t live clock owner key s h = grind (arith, held_param t live owner key s h)
