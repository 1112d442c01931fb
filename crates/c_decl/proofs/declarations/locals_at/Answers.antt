use Rattle.std.proofs.Common.{[], ◌∷◌, append_assoc, append-nil, le_refl, arith}
use Rattle.c_tree.specs.ItemGrammar.{LocalAt}
use Rattle.c_expr.specs.Classes.{At, is_base}
use Rattle.c_decl.proofs.Loops.{once_none, once_on}
use Rattle.c_decl.proofs.OneDeclaration.{local_first}
use Rattle.c_decl.proofs.declarations.locals_at.Goals as goal

pub loop-locals-init : goal.loop-locals-init
loop-locals-init c = record { shorter = le_refl _; carries = λ a h best. rw c.new-locals.ensures best }

pub loop-locals-preserved : goal.loop-locals-preserved
loop-locals-preserved c = let shorter = rw c.in-Some.is at c.in_ok-local.ensures.shorter in record {
  shorter = omega (arith, shorter);
  carries = λ a h best. rw (c.in_ok-push.ensures.ok, append_assoc)
      (c.loop-locals.invariant.carries (c.in-Some.local ∷ a.0, a.1) (omega (arith, shorter))
      (once_on LocalAt (At is_base) local_first c.loop-locals.rest.now c.in-Some.after.now c.in-Some.local a shorter h (rw c.in-Some.is at c.in_ok-local.ensures.best) best));
}

pub returns-clause-best : goal.returns-clause-best
returns-clause-best c =
    rw append-nil at (c.loop-locals.invariant.carries ([], c.loop-locals.rest.now) (le_refl _)
    (once_none LocalAt (At is_base) local_first _ (rw c.in_default.is at c.in_ok-local.ensures.best)))
