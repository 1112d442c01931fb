use Rattle.std.proofs.Common.{◌≤◌, ◌++◌, List, Some, length}
use Rattle.c_tree.specs.declared.types.Star.{Star}
use Rattle.c_tree.specs.declared.words.Token.{Token}
use Rattle.c_tree.specs.Reading.{Best, Each}
use Rattle.c_tree.specs.TypeGrammar.{StarAt}
use Rattle.c_expr.specs.Classes.{At, is_in_types}
use Rattle.c_expr.proofs.type_names.stars_at.Given as goal

abbrev pub invariant-loop-stars : goal.invariant-loop-stars
invariant-loop-stars l = record {
  shorter : length l.rest ≤ length l.fn.words;
  carries : (a : List Star × List Token) → length a.1 ≤ length l.rest → Best {X = List Star} (Each StarAt l.rest) (At is_in_types) (Some a)
      → Best {X = List Star} (Each StarAt l.fn.words) (At is_in_types) (Some (l.stars ++ a.0, a.1));
}

abbrev pub decreases-loop-stars : goal.decreases-loop-stars
decreases-loop-stars l = length l.rest
