use Rattle.std.proofs.Common.{refl}
use Rattle.run_report.specs.declared.item.Item.TheVariants as item
use Rattle.world.specs.Standing.{units_of, here}
use Rattle.world_core.specs.Failing.{goes_astray, strays}
use Rattle.world.proofs.Standing.{leads-then, leads-run}
use Rattle.world.proofs.Turns.{says}
use Rattle.world.proofs.live.Live.stray.Goals as goal

pub returns : goal.returns
unfolding strays
returns g c =
    let a = here c.args.self.now c.args.report.now (g.K.Sink.written c.args.sink.now) (g.K.Sink.faults c.args.sink.now) in
    let b = here (record { ground = c.say.new.self; machine = c.args.self.now.machine }) c.say.new.report (g.K.Sink.written c.say.new.sink) (g.K.Sink.faults c.say.new.sink) in
    leads-then (says a b (item.Wild c.args.who c.args.line) refl c.say.ensures)
    (leads-run (units_of c.args.drivers.now.list.items) b _ goes_astray c.go_astray.ensures refl refl refl)
