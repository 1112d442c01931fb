use Rattle.std.proofs.Common.{◌++◌, List, length}
use Rattle.c_tree.specs.declared.items.Item.{Item}
use Rattle.c_tree.specs.declared.words.Token.{Token}
use Rattle.c_tree.specs.ItemGrammar.{ItemAt}
use Rattle.c_tree.specs.Reading.{Each}
use Rattle.c_decl.proofs.reader.read_unit.Given as goal

abbrev pub invariant-loop-rest : goal.invariant-loop-rest
invariant-loop-rest l = (v : List Token) (xs : List Item) → Each ItemAt l.rest v xs → Each ItemAt l.fn.words v (l.items ++ xs)

abbrev pub decreases-loop-rest : goal.decreases-loop-rest
decreases-loop-rest l = length l.rest
