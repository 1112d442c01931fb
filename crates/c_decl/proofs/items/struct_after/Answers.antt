use Rattle.c_decl.proofs.Sequences.{then_none, then_once, given_is}
use Rattle.c_decl.proofs.items.struct_after.Goals as goal

pub returns-in_default-clause-best : goal.returns-in_default-clause-best
returns-in_default-clause-best c = then_none (rw c.in_default.is at c.in_ok-fields.ensures.best)

pub returns-clause-best : goal.returns-clause-best
returns-clause-best c = then_once (rw c.in-Some.is at c.in_ok-fields.ensures.best) given_is
