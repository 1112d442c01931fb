use Rattle.std.proofs.Common.{rules, subst, sym}
use Rattle.deputy_types.specs.UnitLayout.{IsDeclared}
use Rattle.deputy_types.proofs.DeclaredFacts.{global_within}
use Rattle.deputy_layouts.proofs.unit_items.with_global.Goals as goal

pub returns-clause-within : goal.returns-clause-within
returns-clause-within c = subst IsDeclared (sym c.in_ok-with_global_shape.ensures) (global_within _ _ _ c.requires (search rules))
