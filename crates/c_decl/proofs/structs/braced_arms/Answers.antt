use Rattle.c_tree.specs.ItemGrammar.{ArmAt}
use Rattle.c_expr.specs.Classes.{At, is_base}
use Rattle.c_decl.proofs.LongestStruct.{arm_shrinks}
use Rattle.c_decl.proofs.Loops.{many_none, many_some, is_nothing, is_something}
use Rattle.c_decl.proofs.Sequences.{then_none, then_is, ended_lacks, ended_is, end_apart}
use Rattle.c_decl.proofs.Apart.{base_close}
use Rattle.c_decl.proofs.structs.braced_arms.Goals as goal

pub returns-then-is_empty-clause-best : goal.returns-then-is_empty-clause-best
returns-then-is_empty-clause-best c = then_none
    (many_none ArmAt (At is_base) arm_shrinks _ c.in_ok-arms.after_arms.now (rw (is_nothing _ _ c.is_empty.ensures c.if-is_empty.true) at c.in_ok-arms.ensures.best))

pub returns-in_default-clause-best : goal.returns-in_default-clause-best
returns-in_default-clause-best c = then_is (end_apart _ base_close)
    (many_some ArmAt (At is_base) _ c.in_ok-arms.after_arms.now c.in_ok-arms.arms (is_something _ _ c.is_empty.ensures c.if-is_empty.false) c.in_ok-arms.ensures.best)
    (ended_lacks c.in_default.ensures.word)

pub returns-clause-best : goal.returns-clause-best
returns-clause-best c = then_is (end_apart _ base_close)
    (many_some ArmAt (At is_base) _ c.in_ok-arms.after_arms.now c.in_ok-arms.arms (is_something _ _ c.is_empty.ensures c.if-is_empty.false) c.in_ok-arms.ensures.best)
    (ended_is c.in-Some.ensures.word)
