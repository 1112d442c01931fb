-- How an entry changes the table's part: entries of other kinds leave it, a claim comes in, a claim goes.
use Rattle.std.proofs.Common.{◌≡◌, ℕ, false, List, ℤ, pos, refl, ap, sym, ◌∙◌}
use Rattle.std.specs.List.{filter_map}
use Rattle.sd_base.specs.declared.history.Update.TheVariants.{Line, Ports, Device, Param}
use Rattle.sd_base.specs.Selection.{without_first}
use Rattle.sd_base.specs.History.{Entry, entry, same_resource, OfLines, OfPorts, OfDevices, OfParams, line_key, ports_key, device_key, param_key, key_of, is_of, after_entry}
use Rattle.sd_base.specs.Sound.{IsSound}
use Rattle.sd_base.proofs.Live.{rows-after_entry_other, rows-without_other}
use Rattle.claim_table.specs.declared.claim.Claim.{Claim}
use Rattle.claim_table.specs.Ordered.{is_claim, insert_claim, in_order}
use Rattle.claim_table.specs.ClaimRows.{ClaimRows, claim, is_range_claim}
use Rattle.claim_table.specs.ClaimCalls.{with_line, without_line, with_ports, without_ports, with_device, without_device, with_param, without_param}
use Rattle.claim_table.specs.ClaimPart.{line_row, ports_row, device_row, param_row, HoldsClaims}
use Rattle.claim_table.proofs.Owned.{line_is, line_none, ports_is, ports_none, device_is, device_none, param_is, param_none}
use Rattle.claim_table.proofs.Within.{gone}

lines_kept : (e : Entry) (live : List Entry) → same_resource (key_of e.update).resource OfLines ≡ false → (lines : List (Claim ℕ)) → lines ≡ in_order (filter_map line_row live) →
    lines ≡ in_order (filter_map line_row (after_entry e live))
lines_kept e live apart lines is = is ∙ ap in_order (sym (rows-after_entry_other line_row OfLines refl line_none e live apart))

ports_kept : (e : Entry) (live : List Entry) → same_resource (key_of e.update).resource OfPorts ≡ false → (ports : List (Claim ℕ)) → ports ≡ in_order (filter_map ports_row live) →
    ports ≡ in_order (filter_map ports_row (after_entry e live))
ports_kept e live apart ports is = is ∙ ap in_order (sym (rows-after_entry_other ports_row OfPorts refl ports_none e live apart))

devices_kept : (e : Entry) (live : List Entry) → same_resource (key_of e.update).resource OfDevices ≡ false → (devices : List (Claim (Unit {0}))) → devices ≡ in_order (filter_map device_row live) →
    devices ≡ in_order (filter_map device_row (after_entry e live))
devices_kept e live apart devices is = is ∙ ap in_order (sym (rows-after_entry_other device_row OfDevices refl device_none e live apart))

params_kept : (e : Entry) (live : List Entry) → same_resource (key_of e.update).resource OfParams ≡ false → (params : List (Claim ℤ)) → params ≡ in_order (filter_map param_row live) →
    params ≡ in_order (filter_map param_row (after_entry e live))
params_kept e live apart params is = is ∙ ap in_order (sym (rows-after_entry_other param_row OfParams refl param_none e live apart))

-- an entry of none of the four kinds leaves the table's part
pub others_kept : (t : ClaimRows) (e : Entry) (live : List Entry) → same_resource (key_of e.update).resource OfLines ≡ false → same_resource (key_of e.update).resource OfPorts ≡ false →
    same_resource (key_of e.update).resource OfDevices ≡ false → same_resource (key_of e.update).resource OfParams ≡ false → HoldsClaims t live → HoldsClaims t (after_entry e live)
others_kept t e live l p d m h = record {
  lines = lines_kept e live l t.lines h.lines;
  ports = ports_kept e live p t.ports h.ports;
  devices = devices_kept e live d t.devices h.devices;
  params = params_kept e live m t.params h.params;
}

-- a claim comes in

pub line_comes : (t : ClaimRows) (live : List Entry) (owner k handler : ℕ) → HoldsClaims t live → HoldsClaims (with_line t owner (pos k) handler) (after_entry (entry owner (Line (pos k) handler)) live)
line_comes t live owner k handler h = record {
  lines = ap (insert_claim (claim owner k handler)) h.lines;
  ports = ports_kept (entry owner (Line (pos k) handler)) live refl t.ports h.ports;
  devices = devices_kept (entry owner (Line (pos k) handler)) live refl t.devices h.devices;
  params = params_kept (entry owner (Line (pos k) handler)) live refl t.params h.params;
}

pub ports_come : (t : ClaimRows) (live : List Entry) (owner b n : ℕ) → HoldsClaims t live → HoldsClaims (with_ports t owner (pos b) (pos n)) (after_entry (entry owner (Ports (pos b) (pos n))) live)
ports_come t live owner b n h = record {
  lines = lines_kept (entry owner (Ports (pos b) (pos n))) live refl t.lines h.lines;
  ports = ap (insert_claim (claim owner b n)) h.ports;
  devices = devices_kept (entry owner (Ports (pos b) (pos n))) live refl t.devices h.devices;
  params = params_kept (entry owner (Ports (pos b) (pos n))) live refl t.params h.params;
}

pub device_comes : (t : ClaimRows) (live : List Entry) (owner k : ℕ) → HoldsClaims t live → HoldsClaims (with_device t owner (pos k)) (after_entry (entry owner (Device (pos k))) live)
device_comes t live owner k h = record {
  lines = lines_kept (entry owner (Device (pos k))) live refl t.lines h.lines;
  ports = ports_kept (entry owner (Device (pos k))) live refl t.ports h.ports;
  devices = ap (insert_claim (claim owner k tt)) h.devices;
  params = params_kept (entry owner (Device (pos k))) live refl t.params h.params;
}

-- a claim goes

pub line_goes : (t : ClaimRows) (live : List Entry) (owner k : ℕ) → IsSound live → HoldsClaims t live → HoldsClaims (without_line t owner (pos k)) (without_first (is_of owner (line_key (pos k))) live)
line_goes t live owner k s h = record {
  lines = gone line_row (is_of owner (line_key (pos k))) (is_claim owner k) (line_is owner k) live (s.singles owner (line_key (pos k)) refl) t.lines h.lines;
  ports = h.ports ∙ ap in_order (sym (rows-without_other ports_row OfPorts ports_none owner (line_key (pos k)) live refl));
  devices = h.devices ∙ ap in_order (sym (rows-without_other device_row OfDevices device_none owner (line_key (pos k)) live refl));
  params = h.params ∙ ap in_order (sym (rows-without_other param_row OfParams param_none owner (line_key (pos k)) live refl));
}

pub ports_go : (t : ClaimRows) (live : List Entry) (owner b n : ℕ) → IsSound live → HoldsClaims t live →
    HoldsClaims (without_ports t owner (pos b) (pos n)) (without_first (is_of owner (ports_key (pos b) (pos n))) live)
ports_go t live owner b n s h = record {
  lines = h.lines ∙ ap in_order (sym (rows-without_other line_row OfLines line_none owner (ports_key (pos b) (pos n)) live refl));
  ports = gone ports_row (is_of owner (ports_key (pos b) (pos n))) (is_range_claim owner b n) (ports_is owner b n) live (s.singles owner (ports_key (pos b) (pos n)) refl) t.ports h.ports;
  devices = h.devices ∙ ap in_order (sym (rows-without_other device_row OfDevices device_none owner (ports_key (pos b) (pos n)) live refl));
  params = h.params ∙ ap in_order (sym (rows-without_other param_row OfParams param_none owner (ports_key (pos b) (pos n)) live refl));
}

pub device_goes : (t : ClaimRows) (live : List Entry) (owner k : ℕ) → IsSound live → HoldsClaims t live → HoldsClaims (without_device t owner (pos k)) (without_first (is_of owner (device_key (pos k))) live)
device_goes t live owner k s h = record {
  lines = h.lines ∙ ap in_order (sym (rows-without_other line_row OfLines line_none owner (device_key (pos k)) live refl));
  ports = h.ports ∙ ap in_order (sym (rows-without_other ports_row OfPorts ports_none owner (device_key (pos k)) live refl));
  devices = gone device_row (is_of owner (device_key (pos k))) (is_claim owner k) (device_is owner k) live (s.singles owner (device_key (pos k)) refl) t.devices h.devices;
  params = h.params ∙ ap in_order (sym (rows-without_other param_row OfParams param_none owner (device_key (pos k)) live refl));
}

pub param_goes : (t : ClaimRows) (live : List Entry) (owner k : ℕ) → IsSound live → HoldsClaims t live → HoldsClaims (without_param t owner (pos k)) (without_first (is_of owner (param_key (pos k))) live)
param_goes t live owner k s h = record {
  lines = h.lines ∙ ap in_order (sym (rows-without_other line_row OfLines line_none owner (param_key (pos k)) live refl));
  ports = h.ports ∙ ap in_order (sym (rows-without_other ports_row OfPorts ports_none owner (param_key (pos k)) live refl));
  devices = h.devices ∙ ap in_order (sym (rows-without_other device_row OfDevices device_none owner (param_key (pos k)) live refl));
  params = gone param_row (is_of owner (param_key (pos k))) (is_claim owner k) (param_is owner k) live (s.singles owner (param_key (pos k)) refl) t.params h.params;
}

-- a value takes the place of the owner's older one
pub param_comes : (t : ClaimRows) (live : List Entry) (owner k : ℕ) (value : ℤ) → IsSound live → HoldsClaims t live → HoldsClaims (with_param t owner (pos k) value) (after_entry (entry owner (Param (pos k) value)) live)
param_comes t live owner k value s h =
    let less : HoldsClaims (without_param t owner (pos k)) (without_first (is_of owner (param_key (pos k))) live) = param_goes t live owner k s h in record {
      lines = lines_kept (entry owner (Param (pos k) value)) live refl t.lines h.lines;
      ports = ports_kept (entry owner (Param (pos k) value)) live refl t.ports h.ports;
      devices = devices_kept (entry owner (Param (pos k) value)) live refl t.devices h.devices;
      params = ap (insert_claim (claim owner k value)) less.params;
    }

-- an owner is left out
