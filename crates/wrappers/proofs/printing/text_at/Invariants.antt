use Rattle.wrappers.proofs.Told.{Going}
use Rattle.wrappers.proofs.printing.text_at.Given as goal

abbrev pub invariant-loop-i : goal.invariant-loop-i
invariant-loop-i l = Going l.memory l.from l._i l.at l.told
