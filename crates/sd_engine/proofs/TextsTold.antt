-- A refusal that is told is one, and so is an acceptance.
use Rattle.std.proofs.Common.{◌≡◌, ℕ, List, None, Some, Result, Ok, Err, sym, subst}
use Rattle.std.specs.Prelude.{◌≢◌}
use Rattle.driver_front.specs.declared.reason.Reason.{Reason}
use Rattle.driver_front.specs.declared.refusal.DriverRefusal.{DriverRefusal}
use Rattle.driver_front.specs.declared.refusal.DriverRefusal.TheVariants as refusal
use Rattle.driver_front.specs.Reasons.{IsAccepted, IsRefusedAt, reason_of}
use Rattle.driver_front.specs.Verdict as front
use Rattle.safe_code.specs.Drivers.{Driver}

-- a refusal that has a reason is not want of memory
not-memory : (r : DriverRefusal) (w : Reason) → Some w ≡ reason_of r → r ≢ refusal.Memory
not-memory r w told same =
    let none : Some w ≡ None = subst (λ (x : DriverRefusal). Some w ≡ reason_of x) same told in
    cc none

-- a refusal as the outcome of a text
abbrev refused : DriverRefusal → Result Driver DriverRefusal
refused r = Err r

not-memory-either : (r : DriverRefusal) (w : Reason) → Some w ≡ reason_of r → refused r ≢ refused refusal.Memory
not-memory-either r w told same = let inner : r ≡ refusal.Memory = cc same in not-memory r w told inner

-- a text that is refused, and one that is accepted
pub refused-told : (t : List ℕ) (r : DriverRefusal) (w : Reason) → Some w ≡ reason_of r
    → (refused r ≢ refused refusal.Memory → front.Verdict t (front.unit_in (refused r)))
    → IsRefusedAt t w.line w.cause
refused-told t r w told h = record { refusal = r; verdict = h (not-memory-either r w told); told = sym told }

pub accepted-told : (t : List ℕ) (driver : Driver) → (Ok driver ≢ Err refusal.Memory → front.Verdict t (front.unit_in (Ok driver)))
    → IsAccepted t
accepted-told t driver h = (driver.unit, h (λ same. cc same))
