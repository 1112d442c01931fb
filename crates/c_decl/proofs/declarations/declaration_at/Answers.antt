use Rattle.c_decl.proofs.LongestDeclaration.{declaration_none, declaration_some, size_is}
use Rattle.c_decl.proofs.declarations.declaration_at.Goals as goal

pub returns-in_default-clause-best : goal.returns-in_default-clause-best
returns-in_default-clause-best c = declaration_none _ (rw c.in_default.is at c.in_ok-typed.ensures.best)

pub returns-clause-best : goal.returns-clause-best
returns-clause-best c =
    declaration_some _ c.in-Some.after_name.now c.size_at-size.result.1.now c.in-Some.typed c.size_at-size.result.0 (rw c.in-Some.is at c.in_ok-typed.ensures.best)
    (size_is _ c.size_at-size.result.1.now c.size_at-size.result.0 c.size_at-size.ensures.exact)
