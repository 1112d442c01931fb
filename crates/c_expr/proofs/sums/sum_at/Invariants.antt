use Rattle.std.proofs.Common.{◌<◌, ◌≤◌, ◌++◌, List, Some, length}
use Rattle.c_tree.specs.declared.types.SignedTerm.{SignedTerm}
use Rattle.c_tree.specs.declared.types.Sum.{Sum}
use Rattle.c_tree.specs.declared.words.Token.{Token}
use Rattle.c_tree.specs.Reading.{Best, Each}
use Rattle.c_tree.specs.TypeGrammar.{SignedAt, SumAt}
use Rattle.c_expr.specs.Classes.{At, is_in_sums}
use Rattle.c_expr.proofs.sums.sum_at.Given as goal

abbrev pub invariant-loop-term : goal.invariant-loop-term
invariant-loop-term l = record {
  shorter : length l.rest < length l.fn.words;
  carries : (a : List SignedTerm × List Token) → length a.1 ≤ length l.rest → Best {X = List SignedTerm} (Each SignedAt l.rest) (At is_in_sums) (Some a)
      → Best {X = Sum} (SumAt l.fn.words) (At is_in_sums) (Some (record { terms = l.terms ++ a.0 }, a.1));
}

abbrev pub decreases-loop-term : goal.decreases-loop-term
decreases-loop-term l = length l.rest
