use Rattle.std.proofs.Common.{sym, subst}
use Rattle.world_core.specs.Events.{whole}
use Rattle.world.specs.Runs.{tells, IsOpen, CarriesOut}
use Rattle.world.proofs.whole_run.play.Goals as goal

pub run-requires-clause-opens : goal.run-requires-clause-opens
run-requires-clause-opens g c =
    subst (λ kept. IsOpen c.args.world (tells c.args.world kept (g.K.Sink.written c.args.sink.now) (g.K.Sink.faults c.args.sink.now))) (sym c.new-report.ensures) c.requires.opens

pub returns : goal.returns
returns g c =
    let end = c.run.new.self in
    let told = tells c.run.new.self c.run.new.report (g.K.Sink.written c.run.new.sink) (g.K.Sink.faults c.run.new.sink) in
    record {
      end = end;
      told = told;
      carries =
          subst (λ kept. CarriesOut c.args.scenario.now.answers.items c.args.world end (tells c.args.world kept (g.K.Sink.written c.args.sink.now)
          (g.K.Sink.faults c.args.sink.now)) told (whole c.args.scenario.now.events.items)) c.new-report.ensures c.run.ensures;
      closes = c.close.ensures;
    }
