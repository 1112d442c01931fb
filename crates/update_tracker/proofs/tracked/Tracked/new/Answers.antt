-- New logs are empty, as the log of each owner is after the empty history.
use Rattle.std.proofs.Common.{[], ◌∷◌, rules}
use Rattle.update_tracker.proofs.Histories.{five, begins_with, first_with}
use Rattle.update_tracker.proofs.tracked.Tracked.new.Goals as goal

pub returns-clause-stands : goal.returns-clause-stands
returns-clause-stands c =
    begins_with c.args.kernel (c.in_ok-new.field-0 ∷ c.in_ok-new-2.field-0 ∷ c.in_ok-new-3.field-0 ∷ c.in_ok-new-4.field-0 ∷ c.in_ok-new-5.field-0 ∷ []) c.in_ok-undone.undone
    (five c.in_ok-new.field-0 c.in_ok-new-2.field-0 c.in_ok-new-3.field-0 c.in_ok-new-4.field-0 c.in_ok-new-5.field-0 (search rules) (search rules) (search rules) (search rules) (search rules)) c.requires

pub invariant_of-result : goal.invariant_of-result
invariant_of-result c =
    first_with c.args.kernel (c.in_ok-new.field-0 ∷ c.in_ok-new-2.field-0 ∷ c.in_ok-new-3.field-0 ∷ c.in_ok-new-4.field-0 ∷ c.in_ok-new-5.field-0 ∷ []) c.in_ok-undone.undone
    (five c.in_ok-new.field-0 c.in_ok-new-2.field-0 c.in_ok-new-3.field-0 c.in_ok-new-4.field-0 c.in_ok-new-5.field-0 (search rules) (search rules) (search rules) (search rules) (search rules)) c.requires
