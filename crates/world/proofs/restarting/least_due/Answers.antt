use Rattle.std.proofs.Common.{refl, arith}
use Rattle.world_core.specs.WorldState.{not_loaded}
use Rattle.world.proofs.Due.{first-due, none-due, due-of}
use Rattle.world.proofs.restarting.least_due.Goals as goal

pub returns-then-drivers-from : goal.returns-then-drivers-from
returns-then-drivers-from c = first-due c.args.drivers.now c.loop-place.place not_loaded refl c.loop-place-test.true c.loop-place.invariant
    (due-of c.args.drivers.now c.from.result c.loop-place.place not_loaded c.from.ensures c.if-drivers-from.true)

pub returns : goal.returns
returns c = none-due c.args.drivers.now c.loop-place.place (omega (arith, c.requires, c.loop-place-test.false)) c.loop-place.invariant
