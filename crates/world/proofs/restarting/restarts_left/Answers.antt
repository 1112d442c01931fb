use Rattle.std.proofs.Common.{◌∙◌, arith}
use Rattle.world_core.specs.WorldState.{not_loaded}
use Rattle.world.proofs.Due.{four-left}
use Rattle.world.proofs.restarting.restarts_left.Goals as goal

pub returns : goal.returns
returns c =
    let first = c.from.ensures ∙ c.restarts_of.ensures in
    let second = c.from-2.ensures ∙ c.restarts_of-2.ensures in
    let third = c.from-3.ensures ∙ c.restarts_of-3.ensures in
    let fourth = c.from-4.ensures ∙ c.restarts_of-4.ensures in
    omega (arith, first, second, third, fourth, four-left c.args.drivers.now not_loaded c.requires)
