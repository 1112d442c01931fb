-- In a lawful history an owner has no more live of a kind than the rules let it have.
use Rattle.std.proofs.Common.{◌≡◌, ℕ, ◌+◌, ◌<◌, ◌≤◌, Bool, true, false, cond, not, ◌||◌, eqb, ltb, List, [], ◌∷◌, ℤ, None, refl, ap, sym, subst, arith}
use Rattle.std.proofs.lemmas.Bool.Decides.{nat_tests, Decides-int_eq}
use Rattle.std.specs.List.{list_any, count_by}
use Rattle.sd_base.specs.declared.history.Update.{Update}
use Rattle.sd_base.specs.declared.history.Update.TheVariants.{FreeLine, Ports, DropPorts, Device, DelDevice, Param, ClearParam, Timer, DelTimer, Fired, Unlock, Hold, DropHold, Work, Taken, Unmask}
use Rattle.sd_base.specs.Selection.{without_first}
use Rattle.sd_base.specs.History.{Entry, History, entry, Key, Resource, OfPorts, OfDevices, OfParams, OfTimers, OfNothing, same_resource, live_key, param_key, timer_key, hold_key, work_key, is_of, is_of_kind, Role, Begins, Replaces, Ends, EndsOldest, Passes, key_of, role_of, after_role, after_entry, live_of, clock_of}
use Rattle.sd_base.specs.Allowed.{refusal_on, IsLawful, is_proper, IsProper}
use Rattle.sd_base.proofs.Counting.{count_by-cons}
use Rattle.sd_base.proofs.Removal.{list_any-without_first, list_any-without_last, count_by-without_first, count_by-without_last}

-- an entry that does not count adds nothing to a count
no_more : (q : Entry → Bool) (r : Role) (e : Entry) (live : List Entry) → q e ≡ false → count_by q (after_role r e live) ≤ count_by q live
no_more q Begins e live h = grind (arith, count_by-cons q e live)
no_more q Replaces e live h =
    grind (arith, count_by-cons q e (without_first (is_of e.owner (key_of e.update)) live), count_by-without_first (is_of e.owner (key_of e.update)) q live)
no_more q Ends e live h = count_by-without_first (is_of e.owner (key_of e.update)) q live
no_more q EndsOldest e live h = count_by-without_last (is_of e.owner (key_of e.update)) q live
no_more q Passes e live h = omega arith

-- any entry adds at most one
at_most_one : (b : Bool) → cond b 1 0 ≤ 1
at_most_one true = omega arith
at_most_one false = omega arith

one_more : (q : Entry → Bool) (r : Role) (e : Entry) (live : List Entry) (cap : ℕ) → count_by q live < cap → count_by q (after_role r e live) ≤ cap
one_more q Begins e live cap h = omega (arith, count_by-cons q e live, at_most_one (q e))
one_more q Replaces e live cap h =
    omega (arith, count_by-cons q e (without_first (is_of e.owner (key_of e.update)) live), at_most_one (q e), count_by-without_first (is_of e.owner (key_of e.update)) q live)
one_more q Ends e live cap h = omega (arith, count_by-without_first (is_of e.owner (key_of e.update)) q live)
one_more q EndsOldest e live cap h = omega (arith, count_by-without_last (is_of e.owner (key_of e.update)) q live)
one_more q Passes e live cap h = omega arith

-- where one goes, an entry that takes its place adds nothing
count-less : (p q : Entry → Bool) → ((x : Entry) → p x ≡ true → q x ≡ true) → (live : List Entry) → list_any p live ≡ true → count_by q (without_first p live) + 1 ≡ count_by q live
count-less p q within [] some = cc
count-less p q within (x ∷ live) some =
    elim (p x) as (λ b. p x ≡ b → count_by q (cond b live (x ∷ without_first p live)) + 1 ≡ count_by q (x ∷ live)) [
      | true ↦ λ is. grind (arith, within x, count_by-cons q x live)
      | false ↦ λ is. grind (arith, count_by-cons q x live, count_by-cons q x (without_first p live), count-less p q within live)
    ] refl

in_place : (p q : Entry → Bool) (e : Entry) (live : List Entry) → ((x : Entry) → p x ≡ true → q x ≡ true) → list_any p live ≡ true → count_by q (e ∷ without_first p live) ≤ count_by q live
in_place p q e live within some = omega (arith, count_by-cons q e (without_first p live), at_most_one (q e), count-less p q within live some)

-- the kinds of which an owner may have so many

other_owner : (resource : Resource) (owner o : ℕ) (u : Update) → eqb owner o ≡ false → is_of_kind o resource (entry owner u) ≡ false
other_owner resource owner o u h = grind arith

key_kind : (owner : ℕ) (key : Key) (e : Entry) → is_of owner key e ≡ true → is_of_kind owner key.resource e ≡ true
key_kind owner key e h = grind arith

-- where an owner is not full, it has room for one more, and where it has the key already, one takes the place of the other
kind_comes : (r : Role) (resource : Resource) (owner o cap : ℕ) (u : Update) (live : List Entry) → (owner ≡ o → count_by (is_of_kind owner resource) (after_role r (entry owner u) live) ≤ cap) →
    count_by (is_of_kind o resource) live ≤ cap → count_by (is_of_kind o resource) (after_role r (entry owner u) live) ≤ cap
kind_comes r resource owner o cap u live mine few =
    elim (eqb owner o) as (λ b. eqb owner o ≡ b → count_by (is_of_kind o resource) (after_role r (entry owner u) live) ≤ cap) [
      | true ↦ λ is. (let same : owner ≡ o = grind (arith, nat_tests) in subst (λ n. count_by (is_of_kind n resource) (after_role r (entry owner u) live) ≤ cap) same (mine same))
      | false ↦ λ is. omega (arith, no_more (is_of_kind o resource) r (entry owner u) live (other_owner resource owner o u is))
    ] refl

ports_after : (share : ℕ) (live : List Entry) (clock owner o : ℕ) (u : Update) → refusal_on share live clock owner u ≡ None → count_by (is_of_kind o OfPorts) live ≤ 32 → count_by (is_of_kind o OfPorts) (after_entry (entry owner u) live) ≤ 32
ports_after share live clock owner o (Ports base n) ok few =
    let room : count_by (is_of_kind owner OfPorts) live < 32 = grind (arith, nat_tests) in
    kind_comes Begins OfPorts owner o 32 (Ports base n) live (λ same. one_more (is_of_kind owner OfPorts) Begins (entry owner (Ports base n)) live 32 room) few
ports_after share live clock owner o u ok few = omega (arith, no_more (is_of_kind o OfPorts) (role_of u) (entry owner u) live refl)

devices_after : (share : ℕ) (live : List Entry) (clock owner o : ℕ) (u : Update) → refusal_on share live clock owner u ≡ None → count_by (is_of_kind o OfDevices) live ≤ 32 → count_by (is_of_kind o OfDevices) (after_entry (entry owner u) live) ≤ 32
devices_after share live clock owner o (Device id) ok few =
    let room : count_by (is_of_kind owner OfDevices) live < 32 = grind (arith, nat_tests) in
    kind_comes Begins OfDevices owner o 32 (Device id) live (λ same. one_more (is_of_kind owner OfDevices) Begins (entry owner (Device id)) live 32 room) few
devices_after share live clock owner o u ok few = omega (arith, no_more (is_of_kind o OfDevices) (role_of u) (entry owner u) live refl)

-- an owner's new value or timer, where it has the key already or is not full
replaced : (resource : Resource) (key : Key) (owner cap : ℕ) (u : Update) (live : List Entry) → key.resource ≡ resource → key_of u ≡ key → (list_any (is_of owner key) live || ltb (count_by (is_of_kind owner resource) live) cap) ≡ true →
    count_by (is_of_kind owner resource) live ≤ cap → count_by (is_of_kind owner resource) (after_role Replaces (entry owner u) live) ≤ cap
replaced resource key owner cap u live kind is ok few =
    subst (λ k. count_by (is_of_kind owner resource) (entry owner u ∷ without_first (is_of owner k) live) ≤ cap) (sym is)
    (elim (list_any (is_of owner key) live) as (λ b. list_any (is_of owner key) live ≡ b → count_by (is_of_kind owner resource) (entry owner u ∷ without_first (is_of owner key) live) ≤ cap) [
      | true ↦ λ there. omega (arith, in_place (is_of owner key) (is_of_kind owner resource) (entry owner u) live (λ x h. subst (λ r. is_of_kind owner r x ≡ true) kind (key_kind owner key x h)) there)
      | false ↦ λ none.
          let room : count_by (is_of_kind owner resource) live < cap = grind (arith, nat_tests) in
          omega (arith, count_by-cons (is_of_kind owner resource) (entry owner u) (without_first (is_of owner key) live), at_most_one (is_of_kind owner resource (entry owner u)), count_by-without_first (is_of owner key) (is_of_kind owner resource) live)
    ] refl)

params_after : (share : ℕ) (live : List Entry) (clock owner o : ℕ) (u : Update) → refusal_on share live clock owner u ≡ None → count_by (is_of_kind o OfParams) live ≤ 32 → count_by (is_of_kind o OfParams) (after_entry (entry owner u) live) ≤ 32
params_after share live clock owner o (Param key value) ok few =
    let room : (list_any (is_of owner (param_key key)) live || ltb (count_by (is_of_kind owner OfParams) live) 32) ≡ true = grind arith in
    kind_comes Replaces OfParams owner o 32 (Param key value) live
    (λ same. replaced OfParams (param_key key) owner 32 (Param key value) live refl refl room (subst (λ n. count_by (is_of_kind n OfParams) live ≤ 32) (sym same) few)) few
params_after share live clock owner o u ok few = omega (arith, no_more (is_of_kind o OfParams) (role_of u) (entry owner u) live refl)

timers_after : (share : ℕ) (live : List Entry) (clock owner o : ℕ) (u : Update) → refusal_on share live clock owner u ≡ None → count_by (is_of_kind o OfTimers) live ≤ 64 → count_by (is_of_kind o OfTimers) (after_entry (entry owner u) live) ≤ 64
timers_after share live clock owner o (Timer id due handler arg) ok few =
    let room : (list_any (is_of owner (timer_key id)) live || ltb (count_by (is_of_kind owner OfTimers) live) 64) ≡ true = grind arith in
    kind_comes Replaces OfTimers owner o 64 (Timer id due handler arg) live
    (λ same. replaced OfTimers (timer_key id) owner 64 (Timer id due handler arg) live refl refl room (subst (λ n. count_by (is_of_kind n OfTimers) live ≤ 64) (sym same) few)) few
timers_after share live clock owner o u ok few = omega (arith, no_more (is_of_kind o OfTimers) (role_of u) (entry owner u) live refl)

-- another hold than those on this domain
hold_is : (owner o : ℕ) (a b : ℤ) → is_of o (hold_key b) (entry owner (Hold a)) ≡ true → (owner ≡ o) × (a ≡ b)
hold_is owner o a b h = (grind (arith, nat_tests), (Decides-int_eq a b).0 (grind arith))

holds_after : (share : ℕ) (live : List Entry) (clock owner o : ℕ) (domain : ℤ) (u : Update) → refusal_on share live clock owner u ≡ None → count_by (is_of o (hold_key domain)) live ≤ 8 →
    count_by (is_of o (hold_key domain)) (after_entry (entry owner u) live) ≤ 8
holds_after share live clock owner o domain (Hold d) ok few =
    let room : count_by (is_of owner (hold_key d)) live < 8 = grind (arith, nat_tests) in
    elim (is_of o (hold_key domain) (entry owner (Hold d))) as (λ b. is_of o (hold_key domain) (entry owner (Hold d)) ≡ b → count_by (is_of o (hold_key domain)) (entry owner (Hold d) ∷ live) ≤ 8) [
      | true ↦ λ is.
          let same = hold_is owner o d domain is in
          let here : count_by (is_of o (hold_key domain)) live < 8 =
          subst (λ z. count_by (is_of o (hold_key z)) live < 8) same.1 (subst (λ n. count_by (is_of n (hold_key d)) live < 8) same.0 room) in
          one_more (is_of o (hold_key domain)) Begins (entry owner (Hold d)) live 8 here
      | false ↦ λ is. omega (arith, no_more (is_of o (hold_key domain)) Begins (entry owner (Hold d)) live is)
    ] refl
holds_after share live clock owner o domain u ok few = omega (arith, no_more (is_of o (hold_key domain)) (role_of u) (entry owner u) live refl)

work_after : (share : ℕ) (live : List Entry) (clock owner o : ℕ) (u : Update) → refusal_on share live clock owner u ≡ None → count_by (is_of o work_key) live ≤ 64 → count_by (is_of o work_key) (after_entry (entry owner u) live) ≤ 64
work_after share live clock owner o (Work handler arg) ok few =
    let room : count_by (is_of owner work_key) live < 64 = grind (arith, nat_tests) in
    elim (eqb owner o) as (λ b. eqb owner o ≡ b → count_by (is_of o work_key) (entry owner (Work handler arg) ∷ live) ≤ 64) [
      | true ↦ λ is.
          let same : owner ≡ o = grind (arith, nat_tests) in
          one_more (is_of o work_key) Begins (entry owner (Work handler arg)) live 64 (subst (λ n. count_by (is_of n work_key) live < 64) same room)
      | false ↦ λ is. omega (arith, no_more (is_of o work_key) Begins (entry owner (Work handler arg)) live is)
    ] refl
work_after share live clock owner o u ok few = omega (arith, no_more (is_of o work_key) (role_of u) (entry owner u) live refl)

-- an owner's live entries keep the caps
pub record KeepsCaps (owner : ℕ) (live : List Entry) : Type 0 where
  pub ports : count_by (is_of_kind owner OfPorts) live ≤ 32
  pub devices : count_by (is_of_kind owner OfDevices) live ≤ 32
  pub params : count_by (is_of_kind owner OfParams) live ≤ 32
  pub timers : count_by (is_of_kind owner OfTimers) live ≤ 64
  pub holds : (domain : ℤ) → count_by (is_of owner (hold_key domain)) live ≤ 8
  pub work : count_by (is_of owner work_key) live ≤ 64

pub keeps_caps : (share : ℕ) (h : History) → IsLawful share h → (owner : ℕ) → KeepsCaps owner (live_of h)
keeps_caps share [] lawful owner = record { ports = omega arith; devices = omega arith; params = omega arith; timers = omega arith; holds = λ domain. omega arith; work = omega arith }
keeps_caps share (e ∷ h) lawful owner =
    let before = keeps_caps share h lawful.1 owner in record {
      ports = ports_after share (live_of h) (clock_of h) e.owner owner e.update lawful.0 before.ports;
      devices = devices_after share (live_of h) (clock_of h) e.owner owner e.update lawful.0 before.devices;
      params = params_after share (live_of h) (clock_of h) e.owner owner e.update lawful.0 before.params;
      timers = timers_after share (live_of h) (clock_of h) e.owner owner e.update lawful.0 before.timers;
      holds = λ domain. holds_after share (live_of h) (clock_of h) e.owner owner domain e.update lawful.0 (before.holds domain);
      work = work_after share (live_of h) (clock_of h) e.owner owner e.update lawful.0 before.work;
    }

-- What holds of each entry that is made holds of each that is live.

abbrev pub improper : Entry → Bool
improper e = not (is_proper e.owner e.update)

none_after : (q : Entry → Bool) (r : Role) (e : Entry) (live : List Entry) → q e ≡ false → list_any q live ≡ false → list_any q (after_role r e live) ≡ false
none_after q Begins e live h k = grind arith
none_after q Replaces e live h k = grind (arith, list_any-without_first (is_of e.owner (key_of e.update)) q live)
none_after q Ends e live h k = list_any-without_first (is_of e.owner (key_of e.update)) q live k
none_after q EndsOldest e live h k = list_any-without_last (is_of e.owner (key_of e.update)) q live k
none_after q Passes e live h k = k

pub all_proper : (h : History) → IsProper h → list_any improper (live_of h) ≡ false
all_proper [] proper = refl
all_proper (e ∷ h) proper = none_after improper (role_of e.update) e (live_of h) (ap not proper.0) (all_proper h proper.1)

-- an update that only ends others, or is never live
abbrev pub is_gone : Entry → Bool
is_gone e = same_resource (live_key e.update).resource OfNothing

gone_after : (by : ℕ) (u : Update) (live : List Entry) → list_any is_gone live ≡ false → list_any is_gone (after_entry (entry by u) live) ≡ false
gone_after by (FreeLine line) live k = list_any-without_first (is_of by (key_of (FreeLine line))) is_gone live k
gone_after by (DropPorts base n) live k = list_any-without_first (is_of by (key_of (DropPorts base n))) is_gone live k
gone_after by (DelDevice id) live k = list_any-without_first (is_of by (key_of (DelDevice id))) is_gone live k
gone_after by (ClearParam key) live k = list_any-without_first (is_of by (key_of (ClearParam key))) is_gone live k
gone_after by (DelTimer id) live k = list_any-without_first (is_of by (key_of (DelTimer id))) is_gone live k
gone_after by (Fired id) live k = list_any-without_first (is_of by (key_of (Fired id))) is_gone live k
gone_after by (Unlock lock task) live k = list_any-without_first (is_of by (key_of (Unlock lock task))) is_gone live k
gone_after by (DropHold domain) live k = list_any-without_first (is_of by (key_of (DropHold domain))) is_gone live k
gone_after by (Unmask task) live k = list_any-without_first (is_of by (key_of (Unmask task))) is_gone live k
gone_after by (Param key value) live k = list_any-without_first (is_of by (key_of (Param key value))) is_gone live k
gone_after by (Timer id due handler arg) live k = list_any-without_first (is_of by (key_of (Timer id due handler arg))) is_gone live k
gone_after by Taken live k = list_any-without_last (is_of by work_key) is_gone live k
gone_after by u live k = k

pub none_gone : (h : History) → list_any is_gone (live_of h) ≡ false
none_gone [] = refl
none_gone (e ∷ h) = gone_after e.owner e.update (live_of h) (none_gone h)
