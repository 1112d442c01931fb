-- Whatever one owner held never decides whether another's past updates were allowed: a lawful history without one owner's entries
-- is lawful, by one law for each kind of update.
use Rattle.std.proofs.Common.{◌≡◌, ◌≢◌, ℕ, Bool, true, false, cond, not, eqb, List, [], ◌∷◌, Option, Some, None, refl, ap, sym, ◌∙◌, arith}
use Rattle.std.proofs.lemmas.Bool.Decides.{nat_tests}
use Rattle.std.specs.List.{list_any, find, count_by}
use Rattle.sd_base.specs.declared.history.Update.{Update}
use Rattle.sd_base.specs.declared.history.Update.TheVariants.{Grant, Free, Line, FreeLine, Ports, DropPorts, Device, DelDevice, Param, ClearParam, Timer, DelTimer, Fired, Lock, Unlock, Hold, DropHold, Work, Taken, Mask, Unmask, Clock}
use Rattle.sd_base.specs.Selection.{find_last}
use Rattle.sd_base.specs.History.{Entry, History, Resource, OfPorts, OfDevices, OfParams, OfTimers, Key, line_key, ports_key, device_key, param_key, timer_key, lock_key, hold_key, work_key, mask_key, is_owner, has_key, is_of, is_of_kind, clock_after, live_of, clock_of, Without}
use Rattle.sd_base.specs.Allowed.{meets, is_lock, held_by, unless_owner, refusal_on, IsLawful, is_proper, IsProper}
use Rattle.sd_base.proofs.Counting.{count_by-filter, count_by-filter_le}
use Rattle.sd_base.proofs.Removal.{list_any-filter, list_any-filter_none, find-filter_none, find_last-filter}
use Rattle.sd_base.proofs.Live.{live_of-Without}
use Rattle.sd_base.proofs.Granted.{granted-Without}

abbrev other : ℕ → Entry → Bool
other o e = not (is_owner o e)

other_kept : (o p : ℕ) (k : Key) (e : Entry) → eqb p o ≡ false → is_of p k e ≡ true → other o e ≡ true
other_kept o p k e apart h = grind (arith, nat_tests)

kind_kept : (o p : ℕ) (k : Resource) (e : Entry) → eqb p o ≡ false → is_of_kind p k e ≡ true → other o e ≡ true
kind_kept o p k e apart h = grind (arith, nat_tests)

has : (live : List Entry) (o p : ℕ) (k : Key) → eqb p o ≡ false → list_any (is_of p k) (Without live o) ≡ list_any (is_of p k) live
has live o p k apart = list_any-filter (other o) (is_of p k) (λ e. other_kept o p k e apart) live

counts : (live : List Entry) (o p : ℕ) (k : Key) → eqb p o ≡ false → count_by (is_of p k) (Without live o) ≡ count_by (is_of p k) live
counts live o p k apart = count_by-filter (other o) (is_of p k) (λ e. other_kept o p k e apart) live

counts_kind : (live : List Entry) (o p : ℕ) (k : Resource) → eqb p o ≡ false → count_by (is_of_kind p k) (Without live o) ≡ count_by (is_of_kind p k) live
counts_kind live o p k apart = count_by-filter (other o) (is_of_kind p k) (λ e. kind_kept o p k e apart) live

held_by-none : (o : Option Entry) → held_by o ≡ None → o ≡ None
held_by-none None h = refl
held_by-none (Some e) h = cc

front : (live : List Entry) (o p : ℕ) (found : Option Entry) → eqb p o ≡ false → find_last (has_key work_key) live ≡ found → unless_owner p found ≡ None →
    unless_owner p (find_last (has_key work_key) (Without live o)) ≡ None
front live o p None apart is h = cc
front live o p (Some e) apart is h =
    let mine : is_owner p e ≡ true = grind arith in
    let kept : other o e ≡ true = grind (arith, nat_tests) in
    ap (unless_owner p) (find_last-filter (other o) (has_key work_key) live e kept is) ∙ h

-- what another owner may do, it may do where an owner's entries are left out: one law for each update
pub refusal_on-Without : (share : ℕ) (live : List Entry) (clock o p : ℕ) (u : Update) → eqb p o ≡ false → refusal_on share live clock p u ≡ None → refusal_on share (Without live o) clock p u ≡ None
refusal_on-Without share live clock o p (Grant layout n image) apart h = rw (granted-Without live o p apart) h
refusal_on-Without share live clock o p (Free base) apart h = rw (granted-Without live o p apart) h
refusal_on-Without share live clock o p (Line line handler) apart h = grind (arith, nat_tests, has live o p (line_key line) apart, count_by-filter_le (other o) (has_key (line_key line)) live)
refusal_on-Without share live clock o p (FreeLine line) apart h = grind (arith, has live o p (line_key line) apart)
refusal_on-Without share live clock o p (Ports base n) apart h = grind (arith, list_any-filter_none (other o) (meets base n) live, counts_kind live o p OfPorts apart)
refusal_on-Without share live clock o p (DropPorts base n) apart h = grind (arith, has live o p (ports_key base n) apart)
refusal_on-Without share live clock o p (Device id) apart h = grind (arith, list_any-filter_none (other o) (has_key (device_key id)) live, counts_kind live o p OfDevices apart)
refusal_on-Without share live clock o p (DelDevice id) apart h = grind (arith, has live o p (device_key id) apart)
refusal_on-Without share live clock o p (Param key value) apart h = grind (arith, has live o p (param_key key) apart, counts_kind live o p OfParams apart)
refusal_on-Without share live clock o p (ClearParam key) apart h = grind (arith, has live o p (param_key key) apart)
refusal_on-Without share live clock o p (Timer id due handler arg) apart h = grind (arith, has live o p (timer_key id) apart, counts_kind live o p OfTimers apart)
refusal_on-Without share live clock o p (DelTimer id) apart h = grind (arith, has live o p (timer_key id) apart)
refusal_on-Without share live clock o p (Fired id) apart h = grind (arith, has live o p (timer_key id) apart)
refusal_on-Without share live clock o p (Lock lock task) apart h = grind (arith, held_by-none (find (is_lock lock) live), find-filter_none (other o) (is_lock lock) live)
refusal_on-Without share live clock o p (Unlock lock task) apart h = grind (arith, has live o p (lock_key lock task) apart)
refusal_on-Without share live clock o p (Hold domain) apart h = grind (arith, counts live o p (hold_key domain) apart)
refusal_on-Without share live clock o p (DropHold domain) apart h = grind (arith, has live o p (hold_key domain) apart)
refusal_on-Without share live clock o p (Work handler arg) apart h = grind (arith, counts live o p work_key apart)
refusal_on-Without share live clock o p Taken apart h = front live o p (find_last (has_key work_key) live) apart refl h
refusal_on-Without share live clock o p (Mask task) apart h = grind (arith, has live o p (mask_key task) apart)
refusal_on-Without share live clock o p (Unmask task) apart h = grind (arith, has live o p (mask_key task) apart)
refusal_on-Without share live clock o p (Clock now) apart h = h

-- an owner that is not the kernel leaves the clock
clock_kept : (o by : ℕ) (u : Update) (before : ℕ) → o ≢ 0 → eqb by o ≡ true → is_proper by u ≡ true → clock_after u before ≡ before
clock_kept o by (Clock now) before some is proper =
    let not_kernel : eqb by 0 ≡ false = grind (arith, nat_tests) in
    grind arith
clock_kept o by _ before some is proper = refl

pub clock_of-Without : (h : History) (o : ℕ) → o ≢ 0 → IsProper h → clock_of (Without h o) ≡ clock_of h
clock_of-Without [] o some proper = refl
clock_of-Without (e ∷ h) o some proper =
    elim (is_owner o e) as (λ b. is_owner o e ≡ b → clock_of (cond (not b) (e ∷ Without h o) (Without h o)) ≡ clock_of (e ∷ h)) [
      | true ↦ λ is. clock_of-Without h o some proper.1 ∙ sym (clock_kept o e.owner e.update (clock_of h) some is proper.0)
      | false ↦ λ is. ap (clock_after e.update) (clock_of-Without h o some proper.1)
    ] refl

pub IsProper-Without : (h : History) (o : ℕ) → IsProper h → IsProper (Without h o)
IsProper-Without [] o proper = tt
IsProper-Without (e ∷ h) o proper =
    elim (is_owner o e) as (λ b. IsProper (cond (not b) (e ∷ Without h o) (Without h o))) [
      | true ↦ IsProper-Without h o proper.1
      | false ↦ (proper.0, IsProper-Without h o proper.1)
    ]

-- the history without one owner's entries is lawful
pub IsLawful-Without : (share : ℕ) (h : History) (o : ℕ) → o ≢ 0 → IsProper h → IsLawful share h → IsLawful share (Without h o)
IsLawful-Without share [] o some proper l = tt
IsLawful-Without share (e ∷ h) o some proper l =
    elim (is_owner o e) as (λ b. is_owner o e ≡ b → IsLawful share (cond (not b) (e ∷ Without h o) (Without h o))) [
      | true ↦ λ is. IsLawful-Without share h o some proper.1 l.1
      | false ↦ λ is. (
        rw (live_of-Without h o, clock_of-Without h o some proper.1) (refusal_on-Without share (live_of h) (clock_of h) o e.owner e.update is l.0),
        IsLawful-Without share h o some proper.1 l.1,
      )
    ] refl
