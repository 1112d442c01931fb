use Rattle.std.proofs.Common.{◌++◌}
use Rattle.c_decl.proofs.Extended.{item_more}
use Rattle.c_decl.proofs.OneItem.{item_only}
use Rattle.c_decl.proofs.laws.one_item.Goals as goal

pub returns-clause-places : goal.returns-clause-places
returns-clause-places c = λ w v u x y d e. item_only w v u x y d e

pub returns-clause-stands : goal.returns-clause-stands
returns-clause-stands c = λ s r x d. item_more r d

pub returns-clause-prefix : goal.returns-clause-prefix
returns-clause-prefix c = λ s r x y d e. (item_only (s ++ r) r _ x y (item_more r d) e).1
