-- Which claim an entry is: a test of entries by their keys is a test of their claims.
use Rattle.std.proofs.Common.{◌≡◌, ℕ, true, false, cond, not, ◌&&◌, eqb, List, [], ◌∷◌, map, slice_get, ℤ, pos, negsuc, Option, Some, None, refl, ap, sym, subst, arith}
use Rattle.std.proofs.lemmas.Bool.Decides.{Decides-int_eq}
use Rattle.std.specs.List.{filter, filter_map, find}
use Rattle.std.specs.Ordering.{int_eq}
use Rattle.sd_base.specs.declared.history.Update.{Update}
use Rattle.sd_base.specs.declared.history.Update.TheVariants.{Line, Ports, Device, Param}
use Rattle.sd_base.specs.Selection.{passes, is_below}
use Rattle.sd_base.specs.History.{Entry, entry, same_resource, OfLines, OfPorts, OfDevices, OfParams, live_key, line_key, ports_key, device_key, param_key, has_key, is_of, is_of_kind}
use Rattle.sd_base.specs.Allowed.{is_range, meets, is_astray}
use Rattle.claim_table.specs.declared.claim.Claim.{Claim}
use Rattle.claim_table.specs.declared.claims.Holder.{Holder}
use Rattle.claim_table.specs.Ordered.{has_number, is_owned, is_claim}
use Rattle.claim_table.specs.ClaimRows.{range_meets, is_range_claim, covers}
use Rattle.claim_table.specs.ClaimCalls.{detail_of, holder_in}
use Rattle.claim_table.specs.ClaimPart.{line_row_of, line_row, ports_row_of, ports_row, device_row_of, device_row, param_row_of, param_row, holder_by, port_in, value_by}

-- lines

line_has_of : (k by : ℕ) (u : Update) → has_key (line_key (pos k)) (entry by u) ≡ passes (has_number k) (line_row_of by u)
line_has_of k by (Line (pos j) handler) = grind arith
line_has_of k by (Line (negsuc j) handler) = refl
line_has_of k by _ = refl

pub line_has : (k : ℕ) (e : Entry) → has_key (line_key (pos k)) e ≡ passes (has_number k) (line_row e)
line_has k e = line_has_of k e.owner e.update

line_is_of : (owner k by : ℕ) (u : Update) → is_of owner (line_key (pos k)) (entry by u) ≡ passes (is_claim owner k) (line_row_of by u)
line_is_of owner k by (Line (pos j) handler) = grind arith
line_is_of owner k by (Line (negsuc j) handler) = refl
line_is_of owner k by _ = refl

pub line_is : (owner k : ℕ) (e : Entry) → is_of owner (line_key (pos k)) e ≡ passes (is_claim owner k) (line_row e)
line_is owner k e = line_is_of owner k e.owner e.update

line_none_of : (by : ℕ) (u : Update) → same_resource (live_key u).resource OfLines ≡ false → line_row_of by u ≡ None
line_none_of by (Line (pos j) handler) h = cc
line_none_of by (Line (negsuc j) handler) h = refl
line_none_of by _ h = refl

pub line_none : (e : Entry) → same_resource (live_key e.update).resource OfLines ≡ false → line_row e ≡ None
line_none e h = line_none_of e.owner e.update h

line_astray_of : (owner by : ℕ) (line : ℤ) (u : Update) → is_below 64 line ≡ false → is_of owner (line_key line) (entry by u) ≡ true → is_astray (entry by u) ≡ true
line_astray_of owner by line (Line l handler) out h =
    let same : l ≡ line = (Decides-int_eq l line).0 (grind arith) in
    subst (λ z. not (is_below 64 z) ≡ true) (sym same) (ap not out)
line_astray_of owner by line _ out h = cc

-- who holds a line that is none is astray
pub line_astray : (owner : ℕ) (line : ℤ) → is_below 64 line ≡ false → (e : Entry) → is_of owner (line_key line) e ≡ true → is_astray e ≡ true
line_astray owner line out e h = line_astray_of owner e.owner line e.update out h

-- ports

-- a range of fewer than no ports is none
range_ends : (i j : ℕ) → is_range (pos i) (negsuc j) ≡ false
range_ends i j = grind arith

ports_meet_of : (b n by : ℕ) (u : Update) → is_astray (entry by u) ≡ false → meets (pos b) (pos n) (entry by u) ≡ passes (range_meets b n) (ports_row_of by u)
ports_meet_of b n by (Ports (pos i) (pos j)) h = refl
ports_meet_of b n by (Ports (pos i) (negsuc j)) h = absurd (cc (ap not (range_ends i j)))
ports_meet_of b n by (Ports (negsuc i) m) h = cc
ports_meet_of b n by _ h = refl

pub ports_meet : (b n : ℕ) (e : Entry) → is_astray e ≡ false → meets (pos b) (pos n) e ≡ passes (range_meets b n) (ports_row e)
ports_meet b n e h = ports_meet_of b n e.owner e.update h

ports_is_of : (owner b n by : ℕ) (u : Update) → is_of owner (ports_key (pos b) (pos n)) (entry by u) ≡ passes (is_range_claim owner b n) (ports_row_of by u)
ports_is_of owner b n by (Ports (pos i) (pos j)) = grind arith
ports_is_of owner b n by (Ports (pos i) (negsuc j)) = grind arith
ports_is_of owner b n by (Ports (negsuc i) m) = refl
ports_is_of owner b n by _ = refl

pub ports_is : (owner b n : ℕ) (e : Entry) → is_of owner (ports_key (pos b) (pos n)) e ≡ passes (is_range_claim owner b n) (ports_row e)
ports_is owner b n e = ports_is_of owner b n e.owner e.update

ports_owned_of : (owner by : ℕ) (u : Update) → is_astray (entry by u) ≡ false → is_of_kind owner OfPorts (entry by u) ≡ passes (is_owned owner) (ports_row_of by u)
ports_owned_of owner by (Ports (pos i) (pos j)) h = refl
ports_owned_of owner by (Ports (pos i) (negsuc j)) h = absurd (cc (ap not (range_ends i j)))
ports_owned_of owner by (Ports (negsuc i) m) h = cc
ports_owned_of owner by _ h = refl

pub ports_owned : (owner : ℕ) (e : Entry) → is_astray e ≡ false → is_of_kind owner OfPorts e ≡ passes (is_owned owner) (ports_row e)
ports_owned owner e h = ports_owned_of owner e.owner e.update h

ports_none_of : (by : ℕ) (u : Update) → same_resource (live_key u).resource OfPorts ≡ false → ports_row_of by u ≡ None
ports_none_of by (Ports (pos i) (pos j)) h = cc
ports_none_of by (Ports (pos i) (negsuc j)) h = refl
ports_none_of by (Ports (negsuc i) m) h = refl
ports_none_of by _ h = refl

pub ports_none : (e : Entry) → same_resource (live_key e.update).resource OfPorts ≡ false → ports_row e ≡ None
ports_none e h = ports_none_of e.owner e.update h

ports_astray_of : (owner by : ℕ) (base n : ℤ) (u : Update) → is_range base n ≡ false → is_of owner (ports_key base n) (entry by u) ≡ true → is_astray (entry by u) ≡ true
ports_astray_of owner by base n (Ports b m) out h =
    let sb : b ≡ base = (Decides-int_eq b base).0 (grind arith) in
    let sm : m ≡ n = (Decides-int_eq m n).0 (grind arith) in
    subst (λ z. not (is_range z m) ≡ true) (sym sb) (subst (λ z. not (is_range base z) ≡ true) (sym sm) (ap not out))
ports_astray_of owner by base n _ out h = cc

pub ports_astray : (owner : ℕ) (base n : ℤ) → is_range base n ≡ false → (e : Entry) → is_of owner (ports_key base n) e ≡ true → is_astray e ≡ true
ports_astray owner base n out e h = ports_astray_of owner e.owner base n e.update out h

port_covered_of : (owner by : ℕ) (port : ℤ) (u : Update) → is_astray (entry by u) ≡ false → (eqb by owner && port_in port u) ≡ passes (covers owner port) (ports_row_of by u)
port_covered_of owner by port (Ports (pos i) (pos j)) h = refl
port_covered_of owner by port (Ports (pos i) (negsuc j)) h = absurd (cc (ap not (range_ends i j)))
port_covered_of owner by port (Ports (negsuc i) m) h = cc
port_covered_of owner by port _ h = grind arith

pub port_covered : (owner : ℕ) (port : ℤ) (e : Entry) → is_astray e ≡ false → (eqb e.owner owner && port_in port e.update) ≡ passes (covers owner port) (ports_row e)
port_covered owner port e h = port_covered_of owner e.owner port e.update h

-- devices

device_has_of : (k by : ℕ) (u : Update) → has_key (device_key (pos k)) (entry by u) ≡ passes (has_number k) (device_row_of by u)
device_has_of k by (Device (pos j)) = grind arith
device_has_of k by (Device (negsuc j)) = refl
device_has_of k by _ = refl

pub device_has : (k : ℕ) (e : Entry) → has_key (device_key (pos k)) e ≡ passes (has_number k) (device_row e)
device_has k e = device_has_of k e.owner e.update

device_is_of : (owner k by : ℕ) (u : Update) → is_of owner (device_key (pos k)) (entry by u) ≡ passes (is_claim owner k) (device_row_of by u)
device_is_of owner k by (Device (pos j)) = grind arith
device_is_of owner k by (Device (negsuc j)) = refl
device_is_of owner k by _ = refl

pub device_is : (owner k : ℕ) (e : Entry) → is_of owner (device_key (pos k)) e ≡ passes (is_claim owner k) (device_row e)
device_is owner k e = device_is_of owner k e.owner e.update

device_owned_of : (owner by : ℕ) (u : Update) → is_astray (entry by u) ≡ false → is_of_kind owner OfDevices (entry by u) ≡ passes (is_owned owner) (device_row_of by u)
device_owned_of owner by (Device (pos j)) h = refl
device_owned_of owner by (Device (negsuc j)) h = cc
device_owned_of owner by _ h = refl

pub device_owned : (owner : ℕ) (e : Entry) → is_astray e ≡ false → is_of_kind owner OfDevices e ≡ passes (is_owned owner) (device_row e)
device_owned owner e h = device_owned_of owner e.owner e.update h

device_none_of : (by : ℕ) (u : Update) → same_resource (live_key u).resource OfDevices ≡ false → device_row_of by u ≡ None
device_none_of by (Device (pos j)) h = cc
device_none_of by (Device (negsuc j)) h = refl
device_none_of by _ h = refl

pub device_none : (e : Entry) → same_resource (live_key e.update).resource OfDevices ≡ false → device_row e ≡ None
device_none e h = device_none_of e.owner e.update h

device_astray_of : (owner by : ℕ) (id : ℤ) (u : Update) → is_below 1024 id ≡ false → is_of owner (device_key id) (entry by u) ≡ true → is_astray (entry by u) ≡ true
device_astray_of owner by id (Device i) out h =
    let same : i ≡ id = (Decides-int_eq i id).0 (grind arith) in
    subst (λ z. not (is_below 1024 z) ≡ true) (sym same) (ap not out)
device_astray_of owner by id _ out h = cc

pub device_astray : (owner : ℕ) (id : ℤ) → is_below 1024 id ≡ false → (e : Entry) → is_of owner (device_key id) e ≡ true → is_astray e ≡ true
device_astray owner id out e h = device_astray_of owner e.owner id e.update out h

-- parameters

param_is_of : (owner k by : ℕ) (u : Update) → is_of owner (param_key (pos k)) (entry by u) ≡ passes (is_claim owner k) (param_row_of by u)
param_is_of owner k by (Param (pos j) value) = grind arith
param_is_of owner k by (Param (negsuc j) value) = refl
param_is_of owner k by _ = refl

pub param_is : (owner k : ℕ) (e : Entry) → is_of owner (param_key (pos k)) e ≡ passes (is_claim owner k) (param_row e)
param_is owner k e = param_is_of owner k e.owner e.update

param_owned_of : (owner by : ℕ) (u : Update) → is_astray (entry by u) ≡ false → is_of_kind owner OfParams (entry by u) ≡ passes (is_owned owner) (param_row_of by u)
param_owned_of owner by (Param (pos j) value) h = refl
param_owned_of owner by (Param (negsuc j) value) h = cc
param_owned_of owner by _ h = refl

pub param_owned : (owner : ℕ) (e : Entry) → is_astray e ≡ false → is_of_kind owner OfParams e ≡ passes (is_owned owner) (param_row e)
param_owned owner e h = param_owned_of owner e.owner e.update h

param_none_of : (by : ℕ) (u : Update) → same_resource (live_key u).resource OfParams ≡ false → param_row_of by u ≡ None
param_none_of by (Param (pos j) value) h = cc
param_none_of by (Param (negsuc j) value) h = refl
param_none_of by _ h = refl

pub param_none : (e : Entry) → same_resource (live_key e.update).resource OfParams ≡ false → param_row e ≡ None
param_none e h = param_none_of e.owner e.update h

param_astray_of : (owner by : ℕ) (key : ℤ) (u : Update) → is_below 256 key ≡ false → is_of owner (param_key key) (entry by u) ≡ true → is_astray (entry by u) ≡ true
param_astray_of owner by key (Param k value) out h =
    let same : k ≡ key = (Decides-int_eq k key).0 (grind arith) in
    subst (λ z. not (is_below 256 z) ≡ true) (sym same) (ap not out)
param_astray_of owner by key _ out h = cc

pub param_astray : (owner : ℕ) (key : ℤ) → is_below 256 key ≡ false → (e : Entry) → is_of owner (param_key key) e ≡ true → is_astray e ≡ true
param_astray owner key out e h = param_astray_of owner e.owner key e.update out h

-- what the reading calls read

-- the holder that a claim is, if it is of this line
abbrev pub holder_at : ℕ → Option (Claim ℕ) → Option Holder
holder_at k None = None
holder_at k (Some c) = cond (has_number k c) (holder_in (Some c)) None

holder_of_row : (k by : ℕ) (u : Update) → holder_by (pos k) by u ≡ holder_at k (line_row_of by u)
holder_of_row k by (Line (pos j) handler) = grind arith
holder_of_row k by (Line (negsuc j) handler) = refl
holder_of_row k by _ = refl

-- the holders of a line are those of its claims
pub holders_rows : (k : ℕ) (live : List Entry) →
    filter_map (λ (e : Entry). holder_by (pos k) e.owner e.update) live
    ≡ map (λ (c : Claim ℕ). record { owner = c.owner; handler = c.detail }) (filter (has_number k) (filter_map line_row live))
holders_rows k [] = refl
holders_rows k (e ∷ live) =
    elim (line_row e) as (λ o. line_row e ≡ o → filter_map (λ (x : Entry). holder_by (pos k) x.owner x.update) (e ∷ live) ≡ map (λ (c : Claim ℕ). record { owner = c.owner; handler = c.detail }) (filter (has_number k) (filter_map line_row (e ∷ live)))) [
      | None ↦ λ is. grind (arith, holder_of_row k e.owner e.update, holders_rows k live)
      | Some c ↦ λ is. grind (arith, holder_of_row k e.owner e.update, holders_rows k live)
    ] refl

-- the value that a claim is, if it is of this parameter
abbrev pub value_at : ℕ → Option (Claim ℤ) → Option ℤ
value_at k None = None
value_at k (Some c) = cond (has_number k c) (Some c.detail) None

value_of_row : (k by : ℕ) (u : Update) → value_by (pos k) u ≡ value_at k (param_row_of by u)
value_of_row k by (Param (pos j) value) = grind arith
value_of_row k by (Param (negsuc j) value) = refl
value_of_row k by _ = refl

-- the value set last is that of the newest claim
pub values_rows : (k : ℕ) (live : List Entry) →
    slice_get (filter_map (λ (e : Entry). value_by (pos k) e.update) live) 0 ≡ detail_of (find (has_number k) (filter_map param_row live))
values_rows k [] = refl
values_rows k (e ∷ live) =
    elim (param_row e) as (λ o. param_row e ≡ o → slice_get (filter_map (λ (x : Entry). value_by (pos k) x.update) (e ∷ live)) 0 ≡ detail_of (find (has_number k) (filter_map param_row (e ∷ live)))) [
      | None ↦ λ is. grind (arith, value_of_row k e.owner e.update, values_rows k live)
      | Some c ↦ λ is. grind (arith, value_of_row k e.owner e.update, values_rows k live)
    ] refl

holder_astray_of : (line : ℤ) (by : ℕ) (u : Update) → is_below 64 line ≡ false → is_astray (entry by u) ≡ false → holder_by line by u ≡ None
holder_astray_of line by (Line l handler) out h =
    let here : Option Holder = Some (record { owner = by; handler = handler }) in
    elim (int_eq l line) as (λ b. int_eq l line ≡ b → cond b here None ≡ None) [
      | true ↦ λ is. (let same : l ≡ line = (Decides-int_eq l line).0 is in
          let bad : is_below 64 line ≡ true = subst (λ z. is_below 64 z ≡ true) same (grind arith) in
          cc)
      | false ↦ λ is. refl
    ] refl
holder_astray_of line by _ out h = refl

pub holder_astray : (line : ℤ) → is_below 64 line ≡ false → (e : Entry) → is_astray e ≡ false → holder_by line e.owner e.update ≡ None
holder_astray line out e h = holder_astray_of line e.owner e.update out h

value_astray_of : (key : ℤ) (by : ℕ) (u : Update) → is_below 256 key ≡ false → is_astray (entry by u) ≡ false → value_by key u ≡ None
value_astray_of key by (Param k value) out h =
    let here : Option ℤ = Some value in
    elim (int_eq k key) as (λ b. int_eq k key ≡ b → cond b here None ≡ None) [
      | true ↦ λ is. (let same : k ≡ key = (Decides-int_eq k key).0 is in
          let bad : is_below 256 key ≡ true = subst (λ z. is_below 256 z ≡ true) same (grind arith) in
          cc)
      | false ↦ λ is. refl
    ] refl
value_astray_of key by _ out h = refl

pub value_astray : (key : ℤ) → is_below 256 key ≡ false → (e : Entry) → is_astray e ≡ false → value_by key e.update ≡ None
value_astray key out e h = value_astray_of key e.owner e.update out h
