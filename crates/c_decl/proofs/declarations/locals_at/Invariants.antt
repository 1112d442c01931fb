use Rattle.std.proofs.Common.{◌≤◌, ◌++◌, List, Some, length}
use Rattle.c_tree.specs.declared.items.Local.{Local}
use Rattle.c_tree.specs.declared.words.Token.{Token}
use Rattle.c_tree.specs.ItemGrammar.{LocalAt}
use Rattle.c_tree.specs.Reading.{Best, Each}
use Rattle.c_expr.specs.Classes.{At, is_base}
use Rattle.c_decl.proofs.declarations.locals_at.Given as goal

abbrev pub invariant-loop-locals : goal.invariant-loop-locals
invariant-loop-locals l = record {
  shorter : length l.rest ≤ length l.fn.words;
  carries : (a : List Local × List Token) → length a.1 ≤ length l.rest → Best {X = List Local} (Each LocalAt l.rest) (At is_base) (Some a)
      → Best {X = List Local} (Each LocalAt l.fn.words) (At is_base) (Some (l.locals ++ a.0, a.1));
}

abbrev pub decreases-loop-locals : goal.decreases-loop-locals
decreases-loop-locals l = length l.rest
