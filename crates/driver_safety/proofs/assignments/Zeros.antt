-- `zero(l)` keeps a good state.
use Rattle.std.proofs.Common.{ℕ, [], sym, subst}
use Rattle.deputy_rules.specs.Expressions.{derive}
use Rattle.deputy_rules.specs.Statements.{zero, zero_of}
use Rattle.driver_safety.specs.Derivations.{IsDerived}
use Rattle.driver_safety.specs.Passing.{AreTested}
use Rattle.driver_safety.specs.ZeroLaw.{EachZeroIsSound}
use Rattle.driver_safety.proofs.assignments.ZeroStatement.{zero_of_sound}
use Rattle.driver_safety.proofs.assignments.SlotAssign.{Leaves}
use Rattle.driver_safety.proofs.checks.Sounding.{then_sound}
use Rattle.driver_safety.proofs.checks.TestedChecks.{numbered_tested}
use Rattle.driver_safety.proofs.expressions.Expressions.{derive_sound}

pub each_zero : EachZeroIsSound
unfolding zero
each_zero f ctx l c is blocks st good =
    let tested = subst (λ (n : ℕ). AreTested f st n is.asked) (sym is.first)
    ((numbered_tested f st is.asked is.before is.after is.numbers).tested is.stand.atoms is.stand.checks) in
    let all = then_sound f st ctx.first (derive ctx l) (zero_of ctx) (IsDerived f ctx blocks st) (Leaves f ctx blocks st good is.types
    is.slots)
    (derive_sound f ctx blocks st good is.types is.slots l is.words) (zero_of_sound f ctx blocks st good is.types is.slots) in
    let one = all.run [] c is.asked is.derived in
    one.1 tested
