-- What the refusals of the readers say of the text.
use Rattle.std.proofs.Common.{sym, subst}
use Rattle.std.specs.Prelude.{◌≢◌}
use Rattle.driver_front.specs.declared.refusal.DriverRefusal.TheVariants as refusal
use Rattle.driver_front.specs.Verdict.{IsUnread}
use Rattle.driver_front.proofs.Unreadable.{unread-words, unread-items}
use Rattle.driver_front.proofs.reading.read_driver.Goals as goal

pub returns-in-Err-clause-unread : goal.returns-in-Err-clause-unread
returns-in-Err-clause-unread c = subst (λ (x : _). x ≢ refusal.Memory → IsUnread c.args.text.now x) (sym c.word_refusal.ensures) (unread-words _ _ c.in-Err.ensures.refusal)

pub returns-clause-unread : goal.returns-clause-unread
returns-clause-unread c =
    subst (λ (x : _). x ≢ refusal.Memory → IsUnread c.args.text.now x) (sym c.unit_refusal.ensures)
    (unread-items _ _ _ c.in-Ok.ensures.division (rw c.as_slice.ensures.value at c.in-Err-read_unit.ensures.no_item))
