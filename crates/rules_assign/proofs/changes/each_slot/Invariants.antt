use Rattle.std.proofs.Common.{◌≡◌, [], drop}
use Rattle.deputy_rules.specs.Changes as spec
use Rattle.rules_assign.proofs.changes.each_slot.Given as goal

abbrev pub invariant-loop-i : goal.invariant-loop-i
invariant-loop-i l = spec.sibling_changes l.ctx l.update.before l.update.after l.update.name l.i (drop l.i l.shapes) l.ids l.asked
    ≡ spec.sibling_changes l.ctx l.update.before l.update.after l.update.name 0 l.shapes [] l.fn.asked
