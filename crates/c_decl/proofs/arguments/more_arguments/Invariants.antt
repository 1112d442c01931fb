use Rattle.std.proofs.Common.{◌≤◌, List, Option, length}
use Rattle.c_tree.specs.declared.expressions.Expr.{Expr}
use Rattle.c_tree.specs.declared.words.Token.{Token}
use Rattle.c_tree.specs.Reading.{Best, Never}
use Rattle.c_tree.specs.StatementGrammar.{MoreArgumentsAt}
use Rattle.c_decl.specs.Arguments.{behind}
use Rattle.c_decl.proofs.arguments.more_arguments.Given as goal

abbrev pub invariant-loop-arguments : goal.invariant-loop-arguments
invariant-loop-arguments l = record {
  shorter : length l.rest ≤ length l.fn.words;
  carries : (o : Option (List Expr × List Token)) → Best {X = List Expr} (MoreArgumentsAt l.rest) Never o
      → Best {X = List Expr} (MoreArgumentsAt l.fn.words) Never (behind l.arguments o);
}

abbrev pub decreases-loop-arguments : goal.decreases-loop-arguments
decreases-loop-arguments l = length l.rest
