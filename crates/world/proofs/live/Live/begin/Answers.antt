use Rattle.std.proofs.Common.{refl, sym}
use Rattle.world.proofs.Begun.{begun-none, begun-some}
use Rattle.world.proofs.live.Live.begin.Goals as goal

pub returns-in-None : goal.returns-in-None
returns-in-None c = λ kept written faults.
    begun-none c.args.drivers.now.list.items c.args.task c.args.owner c.args.function c.args.values.now c.requires.task c.requires.idle (sym c.in-None.ensures)

pub returns-in-Some : goal.returns-in-Some
returns-in-Some c = λ kept written faults.
    begun-some c.args.drivers.now.list.items c.args.task c.args.owner c.args.function c.args.values.now c.in-Some.driver.now c.requires.task
    (sym c.in-Some.ensures) refl refl c.start.ensures
