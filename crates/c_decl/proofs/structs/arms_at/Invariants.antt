use Rattle.std.proofs.Common.{◌≤◌, ◌++◌, List, Some, length}
use Rattle.c_tree.specs.declared.items.Arm.{Arm}
use Rattle.c_tree.specs.declared.words.Token.{Token}
use Rattle.c_tree.specs.ItemGrammar.{ArmAt}
use Rattle.c_tree.specs.Reading.{Best, Each}
use Rattle.c_expr.specs.Classes.{At, is_base}
use Rattle.c_decl.proofs.structs.arms_at.Given as goal

abbrev pub invariant-loop-arms : goal.invariant-loop-arms
invariant-loop-arms l = record {
  shorter : length l.rest ≤ length l.fn.words;
  carries : (a : List Arm × List Token) → length a.1 ≤ length l.rest → Best {X = List Arm} (Each ArmAt l.rest) (At is_base) (Some a)
      → Best {X = List Arm} (Each ArmAt l.fn.words) (At is_base) (Some (l.arms ++ a.0, a.1));
}

abbrev pub decreases-loop-arms : goal.decreases-loop-arms
decreases-loop-arms l = length l.rest
