use Rattle.std.proofs.Common.{◌<◌, ◌≤◌, ◌++◌, List, Some, length}
use Rattle.c_tree.specs.declared.items.Param.{Param}
use Rattle.c_tree.specs.declared.words.Token.{Token}
use Rattle.c_tree.specs.ItemGrammar.{MoreParamAt}
use Rattle.c_tree.specs.Reading.{Best, Each}
use Rattle.c_expr.specs.Classes.{At}
use Rattle.c_decl.specs.Classes.{is_comma}
use Rattle.c_decl.specs.Parts.{ListAt}
use Rattle.c_decl.proofs.params.list_at.Given as goal

abbrev pub invariant-loop-params : goal.invariant-loop-params
invariant-loop-params l = record {
  shorter : length l.rest < length l.fn.words;
  carries : (a : List Param × List Token) → length a.1 ≤ length l.rest → Best {X = List Param} (Each MoreParamAt l.rest) (At is_comma) (Some a)
      → Best {X = List Param} (ListAt l.fn.words) (At is_comma) (Some (l.params ++ a.0, a.1));
}

abbrev pub decreases-loop-params : goal.decreases-loop-params
decreases-loop-params l = length l.rest
