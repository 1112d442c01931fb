use Rattle.std.proofs.Common.{[], ◌∷◌, append_assoc, append-nil, le_refl, arith}
use Rattle.c_tree.specs.ItemGrammar.{ArmAt}
use Rattle.c_expr.specs.Classes.{At, is_base}
use Rattle.c_decl.proofs.Loops.{once_none, once_on}
use Rattle.c_decl.proofs.OneDeclaration.{arm_first}
use Rattle.c_decl.proofs.structs.arms_at.Goals as goal

pub loop-arms-init : goal.loop-arms-init
loop-arms-init c = record { shorter = le_refl _; carries = λ a h best. rw c.new-arms.ensures best }

pub loop-arms-preserved : goal.loop-arms-preserved
loop-arms-preserved c = let shorter = rw c.in-Some.is at c.in_ok-arm.ensures.shorter in record {
  shorter = omega (arith, shorter);
  carries = λ a h best. rw (c.in_ok-push.ensures.ok, append_assoc)
      (c.loop-arms.invariant.carries (c.in-Some.arm ∷ a.0, a.1) (omega (arith, shorter))
      (once_on ArmAt (At is_base) arm_first c.loop-arms.rest.now c.in-Some.after.now c.in-Some.arm a shorter h (rw c.in-Some.is at c.in_ok-arm.ensures.best) best));
}

pub returns-clause-best : goal.returns-clause-best
returns-clause-best c =
    rw append-nil at (c.loop-arms.invariant.carries ([], c.loop-arms.rest.now) (le_refl _)
    (once_none ArmAt (At is_base) arm_first _ (rw c.in_default.is at c.in_ok-arm.ensures.best)))
