use Rattle.std.proofs.Common.{[], ◌∷◌, append_assoc, append-nil, le_refl, arith}
use Rattle.c_tree.specs.ItemGrammar.{MoreParamAt}
use Rattle.c_expr.specs.Classes.{At}
use Rattle.c_decl.specs.Classes.{is_comma}
use Rattle.c_decl.proofs.LongestParam.{list_none, list_on, more_first}
use Rattle.c_decl.proofs.Loops.{once_none, once_on}
use Rattle.c_decl.proofs.params.list_at.Goals as goal

pub returns-in_default-clause-best : goal.returns-in_default-clause-best
returns-in_default-clause-best c = list_none _ (rw c.in_default.is at c.in_ok-first.ensures.best)

pub loop-params-init : goal.loop-params-init
loop-params-init c = record {
  shorter = rw c.in-Some.is at c.in_ok-first.ensures.shorter;
  carries = λ a h best. rw (c.in_ok-push.ensures.ok, c.new-params.ensures)
      (list_on _ c.in-Some.after_first.now c.in-Some.first a (rw c.in-Some.is at c.in_ok-first.ensures.best) best);
}

pub loop-params-preserved : goal.loop-params-preserved
loop-params-preserved c = let shorter = rw c.in-Some-2.is at c.in_ok-param.ensures.shorter in record {
  shorter = omega (arith, shorter);
  carries = λ a h best. rw (c.in_ok-push-2.ensures.ok, append_assoc)
      (c.loop-params.invariant.carries (c.in-Some-2.param ∷ a.0, a.1) (omega (arith, shorter))
      (once_on MoreParamAt (At is_comma) more_first c.loop-params.rest.now c.in-Some-2.after.now c.in-Some-2.param a shorter h (rw c.in-Some-2.is at c.in_ok-param.ensures.best) best));
}

pub returns-clause-best : goal.returns-clause-best
returns-clause-best c = rw append-nil at (c.loop-params.invariant.carries ([], c.loop-params.rest.now) (le_refl _)
    (once_none MoreParamAt (At is_comma) more_first _ (rw c.in_default-2.is at c.in_ok-param.ensures.best)))
