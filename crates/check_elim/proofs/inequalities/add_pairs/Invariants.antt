use Rattle.std.proofs.Common.{◌≡◌, drop, ◌++◌, map}
use Rattle.check_elim.specs.Tables.{paired}
use Rattle.check_elim.proofs.inequalities.add_pairs.Given as goal

abbrev pub invariant-loop-slot : goal.invariant-loop-slot
invariant-loop-slot l = l.pairs.items ++ map (paired l.number) (drop l.slot-index l.slots) ≡ l.fn.pairs.items ++ map (paired l.number) l.slots
