use Rattle.c_decl.proofs.LongestStruct.{field_union, field_none, field_some}
use Rattle.c_decl.proofs.structs.field_at.Goals as goal

pub returns-in-Some-clause-best : goal.returns-in-Some-clause-best
returns-in-Some-clause-best c = field_union _ c.in-Some.after_union.now c.line_of-line.result _ c.line_of-line.ensures c.in-Some.ensures.word c.in_ok-found.ensures.best

pub returns-in_default-2-clause-best : goal.returns-in_default-2-clause-best
returns-in_default-2-clause-best c = field_none _ c.in_default.ensures.word (rw c.in_default-2.is at c.in_ok-declaration.ensures.best)

pub returns-clause-best : goal.returns-clause-best
returns-clause-best c = field_some _ c.in-Some-2.rest.now c.line_of-line.result c.in-Some-2.declaration c.line_of-line.ensures c.in_default.ensures.word (rw c.in-Some-2.is at c.in_ok-declaration.ensures.best)
