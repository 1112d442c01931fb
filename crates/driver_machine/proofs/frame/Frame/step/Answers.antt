use Rattle.driver_machine.proofs.Standings.{steps_in}
use Rattle.driver_machine.proofs.frame.Frame.step.Goals as goal

pub returns-in-Some-clause-steps : goal.returns-in-Some-clause-steps
returns-in-Some-clause-steps c =
    steps_in c.args.unit.now c.in-Some.f.now c.args.self.now c.step_in.new.self c.in-Some.ensures c.step_in.ensures.function
    c.args.memory.now c.step_in.new.memory c.step_in.result c.step_in.new.arguments.items c.step_in.ensures.step
