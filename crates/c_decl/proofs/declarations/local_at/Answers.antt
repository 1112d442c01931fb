use Rattle.c_decl.proofs.LongestDeclaration.{local_none, local_open, local_some}
use Rattle.c_decl.proofs.declarations.local_at.Goals as goal

pub returns-in_default-clause-best : goal.returns-in_default-clause-best
returns-in_default-clause-best c = local_none _ (rw c.in_default.is at c.in_ok-typed.ensures.best)

pub returns-in_default-after_sign-clause-best : goal.returns-in_default-after_sign-clause-best
returns-in_default-after_sign-clause-best c =
    local_open _ c.in-Some.after_name.now c.in-Some.typed (rw c.in-Some.is at c.in_ok-typed.ensures.best) c.in_default-after_sign.ensures.word

pub returns-clause-best : goal.returns-clause-best
returns-clause-best c = rw c.line_of.ensures
    (local_some _ c.in-Some.after_name.now c.in-Some-after_sign.rest.now c.in-Some.typed (rw c.in-Some.is at c.in_ok-typed.ensures.best) c.in-Some-after_sign.ensures.word)
