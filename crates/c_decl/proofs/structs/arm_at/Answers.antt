use Rattle.std.proofs.Common.{None, Some}
use Rattle.c_decl.proofs.LongestDeclaration.{case_is, arm_none, arm_open, arm_some}
use Rattle.c_decl.proofs.structs.arm_at.Goals as goal

pub returns-in_default-clause-best : goal.returns-in_default-clause-best
returns-in_default-clause-best c = arm_none _ (rw c.in_default.is at c.in_ok-typed.ensures.best)

pub returns-in_default-case_at-clause-best : goal.returns-in_default-case_at-clause-best
returns-in_default-case_at-clause-best c = arm_open _ c.in-Some.after_name.now c.in-Some.typed (rw c.in-Some.is at c.in_ok-typed.ensures.best) (case_is _ None c.in_default-case_at.ensures.exact)

pub returns-clause-best : goal.returns-clause-best
returns-clause-best c = rw c.line_of.ensures
    (arm_some _ c.in-Some.after_name.now c.in-Some-case_at.rest.now c.in-Some.typed c.in-Some-case_at.case (rw c.in-Some.is at c.in_ok-typed.ensures.best)
    (case_is _ (Some (c.in-Some-case_at.case, c.in-Some-case_at.rest.now)) c.in-Some-case_at.ensures.exact))
