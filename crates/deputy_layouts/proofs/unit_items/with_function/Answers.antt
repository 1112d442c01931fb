use Rattle.std.proofs.Common.{rules, subst, sym}
use Rattle.deputy_types.specs.UnitLayout.{IsDeclared}
use Rattle.deputy_types.proofs.DeclaredFacts.{body_within}
use Rattle.deputy_layouts.proofs.unit_items.with_function.Goals as goal

pub returns-clause-within : goal.returns-clause-within
returns-clause-within c = subst IsDeclared (sym c.in_ok-with_body.ensures) (body_within _ _ _ _ c.requires (search rules))
