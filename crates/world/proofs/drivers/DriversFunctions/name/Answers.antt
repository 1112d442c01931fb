-- The unit of the driver has the function, or there is none.
use Rattle.std.proofs.Common.{List, slice_get, sym, ap, ◌∙◌}
use Rattle.checked_tree.specs.declared.units.CheckedFn.{CheckedFn}
use Rattle.checked_tree.specs.declared.units.CheckedUnit.{CheckedUnit}
use Rattle.world_core.specs.Showing.{name_of}
use Rattle.world.proofs.Begun.{unit-none, unit-some}
use Rattle.world.proofs.drivers.DriversFunctions.name.Goals as goal

pub returns-in_default : goal.returns-in_default
returns-in_default c = c.new.ensures ∙ sym (ap (λ (u : CheckedUnit). name_of (slice_get u.functions c.args.function)) (unit-none _ c.args.owner (sym c.in_default.ensures)))

pub returns-in-Some-function_at : goal.returns-in-Some-function_at
returns-in-Some-function_at c =
    ap name_of c.in-Some-function_at.ensures
    ∙ ap (λ (fs : List CheckedFn). name_of (slice_get fs c.args.function)) (c.as_slice.ensures ∙ ap (λ (u : CheckedUnit). u.functions) c.unit.ensures.unit)
    ∙ sym (ap (λ (u : CheckedUnit). name_of (slice_get u.functions c.args.function)) (unit-some _ c.args.owner _ (sym c.in-Some.ensures)).0)

pub returns-in-None : goal.returns-in-None
returns-in-None c =
    c.new-in-None.ensures ∙ ap name_of c.in-None.ensures
    ∙ ap (λ (fs : List CheckedFn). name_of (slice_get fs c.args.function)) (c.as_slice.ensures ∙ ap (λ (u : CheckedUnit). u.functions) c.unit.ensures.unit)
    ∙ sym (ap (λ (u : CheckedUnit). name_of (slice_get u.functions c.args.function)) (unit-some _ c.args.owner _ (sym c.in-Some.ensures)).0)
