use Rattle.std.proofs.Common.{◌≤◌, ◌+◌, ◌-◌, ◌*◌, List, Some, length}
use Rattle.c_tree.specs.declared.expressions.Expr.{Expr}
use Rattle.c_tree.specs.declared.words.Token.{Token}
use Rattle.c_tree.specs.ExpressionGrammar.{RowMore, PostfixMore}
use Rattle.c_tree.specs.Operators.{rows}
use Rattle.c_tree.specs.Reading.{Best}
use Rattle.c_expr.specs.Strength.{Tighter}
use Rattle.c_expr.proofs.expressions.+expression.Given as goal

abbrev pub decreases-row : goal.decreases-row
decreases-row l = length l.words.now * 16 + (10 - l.level) + 3

abbrev pub decreases-row_more : goal.decreases-row_more
decreases-row_more l = length l.words.now * 16

abbrev pub decreases-unary : goal.decreases-unary
decreases-unary l = length l.words.now * 16 + 2

abbrev pub decreases-cast : goal.decreases-cast
decreases-cast l = length l.words.now * 16 + 1

abbrev pub decreases-postfix : goal.decreases-postfix
decreases-postfix l = length l.words.now * 16 + 1

abbrev pub decreases-postfix_more : goal.decreases-postfix_more
decreases-postfix_more l = length l.words.now * 16

abbrev pub decreases-primary : goal.decreases-primary
decreases-primary l = length l.words.now * 16

abbrev pub decreases-closed : goal.decreases-closed
decreases-closed l = length l.words.now * 16 + 15

abbrev pub invariant-row_more-loop-operator : goal.invariant-row_more-loop-operator
invariant-row_more-loop-operator l = record {
  shorter : length l.rest ≤ length l.fn.words;
  carries : (a : Expr × List Token) → length a.1 ≤ length l.rest → Best (RowMore l.level l.left l.rest) (Tighter l.level) (Some a)
      → Best (RowMore l.level l.fn.first l.fn.words) (Tighter l.level) (Some a);
}

abbrev pub decreases-row_more-loop-operator : goal.decreases-row_more-loop-operator
decreases-row_more-loop-operator l = length l.rest

abbrev pub invariant-postfix_more-loop-member : goal.invariant-postfix_more-loop-member
invariant-postfix_more-loop-member l = record {
  shorter : length l.rest ≤ length l.fn.words;
  carries : (a : Expr × List Token) → length a.1 ≤ length l.rest → Best (PostfixMore l.left l.rest) (Tighter rows) (Some a)
      → Best (PostfixMore l.fn.first l.fn.words) (Tighter rows) (Some a);
}

abbrev pub decreases-postfix_more-loop-member : goal.decreases-postfix_more-loop-member
decreases-postfix_more-loop-member l = length l.rest
