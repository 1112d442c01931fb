use Rattle.std.proofs.Common.{[], ◌∷◌, append_assoc, append-nil, le_refl, arith}
use Rattle.c_tree.specs.ItemGrammar.{FieldAt}
use Rattle.c_expr.specs.Classes.{At}
use Rattle.c_decl.specs.Classes.{is_field}
use Rattle.c_decl.proofs.Loops.{once_none, once_on}
use Rattle.c_decl.proofs.LongestStruct.{field_first}
use Rattle.c_decl.proofs.structs.fields_at.Goals as goal

pub loop-fields-init : goal.loop-fields-init
loop-fields-init c = record { shorter = le_refl _; carries = λ a h best. rw c.new-fields.ensures best }

pub loop-fields-preserved : goal.loop-fields-preserved
loop-fields-preserved c = let shorter = rw c.in-Some.is at c.in_ok-field.ensures.shorter in record {
  shorter = omega (arith, shorter);
  carries = λ a h best. rw (c.in_ok-push.ensures.ok, append_assoc)
      (c.loop-fields.invariant.carries (c.in-Some.field ∷ a.0, a.1) (omega (arith, shorter))
      (once_on FieldAt (At is_field) field_first c.loop-fields.rest.now c.in-Some.after.now c.in-Some.field a shorter h (rw c.in-Some.is at c.in_ok-field.ensures.best) best));
}

pub returns-clause-best : goal.returns-clause-best
returns-clause-best c =
    rw append-nil at (c.loop-fields.invariant.carries ([], c.loop-fields.rest.now) (le_refl _)
    (once_none FieldAt (At is_field) field_first _ (rw c.in_default.is at c.in_ok-field.ensures.best)))
