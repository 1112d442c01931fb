use Rattle.std.proofs.Common.{◌≤◌, ◌++◌, List, Some, length}
use Rattle.c_tree.specs.declared.items.Field.{Field}
use Rattle.c_tree.specs.declared.words.Token.{Token}
use Rattle.c_tree.specs.ItemGrammar.{FieldAt}
use Rattle.c_tree.specs.Reading.{Best, Each}
use Rattle.c_expr.specs.Classes.{At}
use Rattle.c_decl.specs.Classes.{is_field}
use Rattle.c_decl.proofs.structs.fields_at.Given as goal

abbrev pub invariant-loop-fields : goal.invariant-loop-fields
invariant-loop-fields l = record {
  shorter : length l.rest ≤ length l.fn.words;
  carries : (a : List Field × List Token) → length a.1 ≤ length l.rest → Best {X = List Field} (Each FieldAt l.rest) (At is_field) (Some a)
      → Best {X = List Field} (Each FieldAt l.fn.words) (At is_field) (Some (l.fields ++ a.0, a.1));
}

abbrev pub decreases-loop-fields : goal.decreases-loop-fields
decreases-loop-fields l = length l.rest
