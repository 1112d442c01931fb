use Rattle.c_decl.proofs.LongestDeclaration.{typed_none, typed_unnamed, typed_some}
use Rattle.c_decl.proofs.declarations.typed_at.Goals as goal

pub returns-in_default-clause-best : goal.returns-in_default-clause-best
returns-in_default-clause-best c = typed_none _ (rw c.in_default.is at c.in_ok-type_name.ensures.best)

pub returns-in_default-name_at-clause-best : goal.returns-in_default-name_at-clause-best
returns-in_default-name_at-clause-best c =
    typed_unnamed _ c.in-Some.after_type.now c.in-Some.type_name (rw c.in-Some.is at c.in_ok-type_name.ensures.best) c.in_default-name_at.ensures.word

pub returns-clause-best : goal.returns-clause-best
returns-clause-best c =
    typed_some _ c.in-Some.after_type.now c.in-Some-name_at.named.1.now c.in-Some.type_name c.in-Some-name_at.named.0 (rw c.in-Some.is at c.in_ok-type_name.ensures.best)
    c.in-Some-name_at.ensures.word
