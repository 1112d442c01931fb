use Rattle.std.proofs.Common.{◌≡◌, drop, ◌++◌}
use Rattle.std.specs.List.{flat_map}
use Rattle.check_elim.specs.Tables.{slots_in}
use Rattle.check_elim.proofs.locals.add_term_slots.Given as goal

abbrev pub invariant-loop-term : goal.invariant-loop-term
invariant-loop-term l = l.slots.items ++ flat_map (slots_in l.f) (drop l.term-index l.terms) ≡ l.fn.slots.items ++ flat_map (slots_in l.f) l.terms
