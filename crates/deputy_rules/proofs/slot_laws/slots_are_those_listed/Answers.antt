use Rattle.deputy_rules.proofs.SlotNumbers.{slots_listed}
use Rattle.deputy_rules.proofs.slot_laws.slots_are_those_listed.Goals as goal

pub returns : goal.returns
returns c = λ f. slots_listed f
