-- The table's part of a history, and what the reading calls say of the history.
use Rattle.std.specs.Prelude.{◌≡◌, ℕ, Bool, false, cond, not, ◌&&◌, eqb, List, reverse, ℤ, pos, ◌+ℤ◌, int_lt, Option, Some, None, Ok, Err}
use Rattle.std.specs.List.{list_any, filter_map}
use Rattle.std.specs.Ordering.{int_eq}
use Rattle.sd_base.specs.declared.history.Refusal.{Refusal}
use Rattle.sd_base.specs.declared.history.Refusal.TheVariants.{Busy as IsBusy, Bad as IsBad, Full as IsFull}
use Rattle.sd_base.specs.declared.history.Update.{Update}
use Rattle.sd_base.specs.declared.history.Update.TheVariants.{Line, Ports, Device, Param}
use Rattle.sd_base.specs.History.{Entry, History, live_of}
use Rattle.sd_base.specs.Allowed.{IsLawful, IsProper}
use Rattle.claim_table.specs.declared.claim.Claim.{Claim}
use Rattle.claim_table.specs.declared.claims.ClaimRefusal.TheVariants.{Busy, Bad, Full}
use Rattle.claim_table.specs.declared.claims.Holder.{Holder}
use Rattle.claim_table.specs.Ordered.{in_order}
use Rattle.claim_table.specs.ClaimRows.{ClaimRows, claim}
use Rattle.claim_table.specs.ClaimCalls.{Answer}

abbrev pub line_row_of : ℕ → Update → Option (Claim ℕ)
line_row_of owner (Line (pos line) handler) = Some (claim owner line handler)
line_row_of owner _ = None

-- the claim of an entry, if it is of a line
abbrev pub line_row : Entry → Option (Claim ℕ)
line_row e = line_row_of e.owner e.update

abbrev pub ports_row_of : ℕ → Update → Option (Claim ℕ)
ports_row_of owner (Ports (pos base) (pos n)) = Some (claim owner base n)
ports_row_of owner _ = None

-- the claim of an entry, if it is of ports
abbrev pub ports_row : Entry → Option (Claim ℕ)
ports_row e = ports_row_of e.owner e.update

abbrev pub device_row_of : ℕ → Update → Option (Claim (Unit {0}))
device_row_of owner (Device (pos id)) = Some (claim owner id tt)
device_row_of owner _ = None

-- the claim of an entry, if it is of a device
abbrev pub device_row : Entry → Option (Claim (Unit {0}))
device_row e = device_row_of e.owner e.update

abbrev pub param_row_of : ℕ → Update → Option (Claim ℤ)
param_row_of owner (Param (pos key) value) = Some (claim owner key value)
param_row_of owner _ = None

-- the claim of an entry, if it is of a parameter
abbrev pub param_row : Entry → Option (Claim ℤ)
param_row e = param_row_of e.owner e.update

-- the table holds its part of what is live: of each kind the live claims, in order
pub record HoldsClaims (t : ClaimRows) (live : List Entry) : Type 0 where
  pub lines : t.lines ≡ in_order (filter_map line_row live)
  pub ports : t.ports ≡ in_order (filter_map ports_row live)
  pub devices : t.devices ≡ in_order (filter_map device_row live)
  pub params : t.params ≡ in_order (filter_map param_row live)

-- the refusal that an answer names, if it is one
abbrev pub refused_as : Answer → Option Refusal
refused_as (Ok done) = None
refused_as (Err Busy) = Some IsBusy
refused_as (Err Bad) = Some IsBad
refused_as (Err Full) = Some IsFull

-- what is said of every lawful history of which the table holds its part
abbrev pub OfEachHistory : ClaimRows → (History → Type 0) → Type 0
OfEachHistory t P = (h : History) → IsLawful t.share h → IsProper h → HoldsClaims t (live_of h) → P h

abbrev pub holder_by : ℤ → ℕ → Update → Option Holder
holder_by line owner (Line held handler) = cond (int_eq held line) (Some (record { owner = owner; handler = handler })) None
holder_by line owner _ = None

-- the holders of a line after a history, in the order of their requests
abbrev pub holders_of : History → ℤ → List Holder
holders_of h line = reverse (filter_map (λ (e : Entry). holder_by line e.owner e.update) (live_of h))

abbrev pub port_in : ℤ → Update → Bool
port_in port (Ports base n) = not (int_lt port base) && int_lt port (base +ℤ n)
port_in port _ = false

-- an owner holds a port after a history
abbrev pub holds_port : History → ℕ → ℤ → Bool
holds_port h owner port = list_any (λ (e : Entry). eqb e.owner owner && port_in port e.update) (live_of h)

abbrev pub value_by : ℤ → Update → Option ℤ
value_by key (Param held value) = cond (int_eq held key) (Some value) None
value_by key _ = None

-- the values of a parameter that are live after a history, the one that was set last first
abbrev pub values_of : History → ℤ → List ℤ
values_of h key = filter_map (λ (e : Entry). value_by key e.update) (live_of h)
