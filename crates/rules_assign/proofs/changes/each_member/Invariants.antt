use Rattle.std.proofs.Common.{◌≡◌, [], drop, map}
use Rattle.deputy_rules.specs.Changes as spec
use Rattle.rules_assign.proofs.changes.each_member.Given as goal

abbrev pub invariant-loop-i : goal.invariant-loop-i
invariant-loop-i l = spec.sibling_changes l.ctx l.update.before l.update.after l.update.name l.i (map spec.shape_of (drop l.i l.members)) l.ids l.asked
    ≡ spec.sibling_changes l.ctx l.update.before l.update.after l.update.name 0 (map spec.shape_of l.members) [] l.fn.asked
