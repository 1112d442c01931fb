-- In a lawful history the numbers of what is live lie where the rules want them.
use Rattle.std.proofs.Common.{◌≡◌, ℕ, true, false, List, [], ◌∷◌, None, refl, arith}
use Rattle.std.specs.List.{list_any}
use Rattle.sd_base.specs.declared.history.Update.{Update}
use Rattle.sd_base.specs.declared.history.Update.TheVariants.{Line, Ports, Device, Param, Timer, Lock, Hold}
use Rattle.sd_base.specs.History.{Entry, History, Role, Begins, Replaces, Ends, EndsOldest, Passes, key_of, role_of, is_of, after_role, live_of, clock_of}
use Rattle.sd_base.specs.Allowed.{refusal_on, IsLawful, is_in_range, is_astray}
use Rattle.sd_base.proofs.Removal.{list_any-without_first, list_any-without_last}

-- what is accepted is in range
in_range : (share : ℕ) (live : List Entry) (clock owner : ℕ) (u : Update) → refusal_on share live clock owner u ≡ None → is_in_range u ≡ true
in_range share live clock owner (Line line handler) h = grind arith
in_range share live clock owner (Ports base n) h = grind arith
in_range share live clock owner (Device id) h = grind arith
in_range share live clock owner (Param key value) h = grind arith
in_range share live clock owner (Timer id due handler arg) h = grind arith
in_range share live clock owner (Lock lock task) h = grind arith
in_range share live clock owner (Hold domain) h = grind arith
in_range share live clock owner _ h = refl

after_in_range : (r : Role) (e : Entry) (live : List Entry) → is_astray e ≡ false → list_any is_astray live ≡ false → list_any is_astray (after_role r e live) ≡ false
after_in_range Begins e live h k = grind arith
after_in_range Replaces e live h k = grind (arith, list_any-without_first (is_of e.owner (key_of e.update)) is_astray live)
after_in_range Ends e live h k = list_any-without_first (is_of e.owner (key_of e.update)) is_astray live k
after_in_range EndsOldest e live h k = list_any-without_last (is_of e.owner (key_of e.update)) is_astray live k
after_in_range Passes e live h k = k

-- no live entry of a lawful history has a number that its rule refuses
pub none_astray : (share : ℕ) (h : History) → IsLawful share h → list_any is_astray (live_of h) ≡ false
none_astray share [] l = refl
none_astray share (e ∷ h) l =
    let fits : is_in_range e.update ≡ true = in_range share (live_of h) (clock_of h) e.owner e.update l.0 in
    after_in_range (role_of e.update) e (live_of h) (grind arith) (none_astray share h l.1)
