use Rattle.std.proofs.Common.{rules, subst, sym}
use Rattle.deputy_types.specs.UnitLayout.{IsDeclared}
use Rattle.deputy_types.proofs.DeclaredFacts.{struct_within, laid_number}
use Rattle.deputy_layouts.proofs.unit_items.with_struct.Goals as goal

pub returns-clause-within : goal.returns-clause-within
returns-clause-within c = subst IsDeclared (sym c.in_ok-with_extent.ensures)
    (struct_within _ _ c.requires (search (rules, laid_number _ _ _ _ _ c.in_ok-laid.ensures.value)) c.in_ok-laid.ensures.extent)
