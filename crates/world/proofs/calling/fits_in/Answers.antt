use Rattle.std.proofs.Common.{ap, sym, ◌∙◌}
use Rattle.world_core.specs.Loading.{fits_values}
use Rattle.world.proofs.Begun.{unit-none, unit-some}
use Rattle.world.proofs.Orders.{fits-nothing}
use Rattle.world.proofs.calling.fits_in.Goals as goal

pub returns-in-None : goal.returns-in-None
returns-in-None c = sym (ap (λ u. fits_values u c.args.function c.args.values)
    (unit-none c.args.drivers.now.list.items c.args.driver (sym c.in-None.ensures)) ∙ fits-nothing c.args.function c.args.values)

pub returns-in-Some : goal.returns-in-Some
returns-in-Some c = c.fits_values.ensures
    ∙ ap (λ u. fits_values u c.args.function c.args.values) c.unit.ensures.unit
    ∙ sym (ap (λ u. fits_values u c.args.function c.args.values)
    (unit-some c.args.drivers.now.list.items c.args.driver c.in-Some.found.now (sym c.in-Some.ensures)).0)
