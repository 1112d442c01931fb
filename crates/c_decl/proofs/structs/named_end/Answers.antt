use Rattle.c_decl.proofs.Sequences.{then_none, then_once, ended_lacks, ended_is, name_none, name_is}
use Rattle.c_decl.proofs.structs.named_end.Goals as goal

pub returns-in_default-clause-best : goal.returns-in_default-clause-best
returns-in_default-clause-best c = then_none (name_none _ c.in_default.ensures.word)

pub returns-in_default-after_sign-clause-best : goal.returns-in_default-after_sign-clause-best
returns-in_default-after_sign-clause-best c = then_once (name_is _ c.in-Some.named.1.now c.in-Some.named.0 c.in-Some.ensures.word) (ended_lacks c.in_default-after_sign.ensures.word)

pub returns-clause-best : goal.returns-clause-best
returns-clause-best c = then_once (name_is _ c.in-Some.named.1.now c.in-Some.named.0 c.in-Some.ensures.word) (ended_is c.in-Some-after_sign.ensures.word)
