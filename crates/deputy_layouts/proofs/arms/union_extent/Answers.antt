use Rattle.std.proofs.Common.{sym, subst}
use Rattle.deputy_types.specs.Extents.{IsExtent}
use Rattle.deputy_types.proofs.TypeExtents.{union_is_extent}
use Rattle.deputy_layouts.proofs.arms.union_extent.Goals as goal

pub returns-clause-fits : goal.returns-clause-fits
returns-clause-fits c = subst IsExtent (sym c.greatest_of.ensures) (union_is_extent c.args.types.now c.args.arms.now)
