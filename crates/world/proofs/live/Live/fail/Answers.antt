use Rattle.std.proofs.Common.{refl}
use Rattle.run_report.specs.declared.item.Item.TheVariants as item
use Rattle.world.specs.Standing.{units_of, here}
use Rattle.world_core.specs.Failing.{driver_fails}
use Rattle.world.proofs.Dropping.{leads-taken, leads-fails}
use Rattle.world.proofs.Turns.{says}
use Rattle.world.proofs.live.Live.fail.Goals as goal

pub returns : goal.returns
returns g c =
    let a = here c.args.self.now c.args.report.now (g.K.Sink.written c.args.sink.now) (g.K.Sink.faults c.args.sink.now) in
    let b = here (record { ground = c.say.new.self; machine = c.args.self.now.machine }) c.say.new.report (g.K.Sink.written c.say.new.sink) (g.K.Sink.faults c.say.new.sink) in
    let d = here (record { ground = c.fail.new.self; machine = c.drop_owner.new.self }) c.fail.new.report (g.K.Sink.written c.fail.new.sink) (g.K.Sink.faults c.fail.new.sink) in
    leads-fails c.args.who c.args.kind c.args.line (says a b (item.Failed c.args.who c.args.kind c.args.line) refl c.say.ensures)
    (leads-taken (units_of c.args.drivers.now.list.items) b d c.args.who.owner (driver_fails c.args.who.owner) c.drop_owner.ensures c.fail.ensures)
