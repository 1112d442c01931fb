use Rattle.std.proofs.Common.{ap, sym, ◌∙◌}
use Rattle.world_core.specs.Loading.{init_of}
use Rattle.world.proofs.Begun.{unit-none, unit-some}
use Rattle.world.proofs.loading.init_in.Goals as goal

pub returns-in-None : goal.returns-in-None
returns-in-None c = sym (ap init_of (unit-none c.args.drivers.now.list.items c.args.driver (sym c.in-None.ensures)))

pub returns-in-Some : goal.returns-in-Some
returns-in-Some c = c.init_of.ensures ∙ sym (ap init_of (unit-some c.args.drivers.now.list.items c.args.driver c.in-Some.found.now (sym c.in-Some.ensures)).0)
