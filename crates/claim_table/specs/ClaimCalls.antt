-- What each call of the table answers by what the table contains, and what the table contains after it.
use Rattle.std.specs.Prelude.{ℕ, Bool, cond, not, ◌&&◌, ◌||◌, ltb, List, ℤ, nat_abs, slice_get, Option, Some, None, Result, Ok, Err}
use Rattle.std.specs.List.{list_any, filter, count_by}
use Rattle.sd_base.specs.Selection.{is_below, find_last}
use Rattle.sd_base.specs.Allowed.{is_range}
use Rattle.claim_table.specs.declared.claim.Claim.{Claim}
use Rattle.claim_table.specs.declared.claims.ClaimRefusal.{ClaimRefusal}
use Rattle.claim_table.specs.declared.claims.ClaimRefusal.TheVariants.{Busy, Bad, Full}
use Rattle.claim_table.specs.declared.claims.Holder.{Holder}
use Rattle.claim_table.specs.Ordered.{has_number, is_owned, is_claim, is_not_claim, insert_claim}
use Rattle.claim_table.specs.ClaimRows.{ClaimRows, claim, range_meets, is_range_claim, is_not_range_claim}

abbrev pub Answer : Type 0
Answer = Result (Unit {0}) ClaimRefusal

-- a number out of range is bad
abbrev pub unless_bad : Bool → Answer → Answer
unless_bad fits answer = cond fits answer (Err Bad)

-- what is held already is busy
abbrev pub unless_busy : Bool → Answer → Answer
unless_busy held answer = cond held (Err Busy) answer

-- an owner that has 32 can have no more
abbrev pub if_room : ℕ → Answer
if_room count = cond (ltb count 32) (Ok tt) (Err Full)

-- what an owner has not it cannot give back
abbrev pub if_held : Bool → Answer
if_held held = cond held (Ok tt) (Err Bad)

-- a line is taken where the owner holds it, or where as many as the share do
abbrev pub is_taken : ℕ → ℕ → ℕ → List (Claim ℕ) → Bool
is_taken share owner line lines = list_any (is_claim owner line) lines || not (ltb (count_by (has_number line) lines) share)

abbrev pub line_answer : ClaimRows → ℕ → ℤ → Answer
line_answer t owner line = unless_bad (is_below 64 line) (unless_busy (is_taken t.share owner (nat_abs line) t.lines) (Ok tt))

abbrev pub with_line : ClaimRows → ℕ → ℤ → ℕ → ClaimRows
with_line t owner line handler = record t { lines = insert_claim (claim owner (nat_abs line) handler) t.lines }

-- the owner holds this line
abbrev pub holds_line : ClaimRows → ℕ → ℤ → Bool
holds_line t owner line = is_below 64 line && list_any (is_claim owner (nat_abs line)) t.lines

abbrev pub without_line : ClaimRows → ℕ → ℤ → ClaimRows
without_line t owner line = record t { lines = filter (is_not_claim owner (nat_abs line)) t.lines }

abbrev pub ports_answer : ClaimRows → ℕ → ℤ → ℤ → Answer
ports_answer t owner base n =
    unless_bad (is_range base n)
    (unless_busy (list_any (range_meets (nat_abs base) (nat_abs n)) t.ports) (if_room (count_by (is_owned owner) t.ports)))

abbrev pub with_ports : ClaimRows → ℕ → ℤ → ℤ → ClaimRows
with_ports t owner base n = record t { ports = insert_claim (claim owner (nat_abs base) (nat_abs n)) t.ports }

-- the owner holds exactly this range of ports
abbrev pub holds_ports : ClaimRows → ℕ → ℤ → ℤ → Bool
holds_ports t owner base n = is_range base n && list_any (is_range_claim owner (nat_abs base) (nat_abs n)) t.ports

abbrev pub without_ports : ClaimRows → ℕ → ℤ → ℤ → ClaimRows
without_ports t owner base n = record t { ports = filter (is_not_range_claim owner (nat_abs base) (nat_abs n)) t.ports }

abbrev pub device_answer : ClaimRows → ℕ → ℤ → Answer
device_answer t owner id =
    unless_bad (is_below 1024 id) (unless_busy (list_any (has_number (nat_abs id)) t.devices) (if_room (count_by (is_owned owner) t.devices)))

abbrev pub with_device : ClaimRows → ℕ → ℤ → ClaimRows
with_device t owner id = record t { devices = insert_claim (claim owner (nat_abs id) tt) t.devices }

-- the owner has this device
abbrev pub holds_device : ClaimRows → ℕ → ℤ → Bool
holds_device t owner id = is_below 1024 id && list_any (is_claim owner (nat_abs id)) t.devices

abbrev pub without_device : ClaimRows → ℕ → ℤ → ClaimRows
without_device t owner id = record t { devices = filter (is_not_claim owner (nat_abs id)) t.devices }

-- the owner has a value of this parameter
abbrev pub holds_param : ClaimRows → ℕ → ℤ → Bool
holds_param t owner key = is_below 256 key && list_any (is_claim owner (nat_abs key)) t.params

-- an owner that has a value may replace it however many it has
abbrev pub param_answer : ClaimRows → ℕ → ℤ → Answer
param_answer t owner key =
    unless_bad (is_below 256 key)
    (cond (list_any (is_claim owner (nat_abs key)) t.params) (Ok tt) (if_room (count_by (is_owned owner) t.params)))

abbrev pub without_param : ClaimRows → ℕ → ℤ → ClaimRows
without_param t owner key = record t { params = filter (is_not_claim owner (nat_abs key)) t.params }

abbrev pub with_param : ClaimRows → ℕ → ℤ → ℤ → ClaimRows
with_param t owner key value = record t { params = insert_claim (claim owner (nat_abs key) value) (filter (is_not_claim owner (nat_abs key)) t.params) }

abbrev pub detail_of : {D : Type 0} → Option (Claim D) → Option D
detail_of None = None
detail_of (Some c) = Some c.detail

abbrev pub holder_in : Option (Claim ℕ) → Option Holder
holder_in None = None
holder_in (Some c) = Some (record { owner = c.owner; handler = c.detail })

-- the value of a parameter that was set last
abbrev pub param_value : ClaimRows → ℤ → Option ℤ
param_value t key = cond (is_below 256 key) (detail_of (find_last (has_number (nat_abs key)) t.params)) None

-- the k-th holder of a line, counted from 0
abbrev pub line_holder : ClaimRows → ℤ → ℕ → Option Holder
line_holder t line k = cond (is_below 64 line) (holder_in (slice_get (filter (has_number (nat_abs line)) t.lines) k)) None
