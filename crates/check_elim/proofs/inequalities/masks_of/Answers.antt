use Rattle.std.proofs.Common.{arith}
use Rattle.check_elim.proofs.Masks.{takes_all}
use Rattle.check_elim.proofs.inequalities.masks_of.Goals as goal

pub returns-clause-takes : goal.returns-clause-takes
returns-clause-takes c =
    takes_all c.args.pairs.now c.loop-slot.masks.items c.loop-slot.slot c.loop-slot.invariant.0 (λ slot j high. c.slots_end-end.ensures slot j (omega (arith, high, c.loop-slot-test.false))) c.loop-slot.invariant.2
