use Rattle.driver_machine.proofs.Roomy.{first_roomy}
use Rattle.driver_machine.proofs.frame.Frame.step_in.Goals as goal

pub act-requires-clause-room : goal.act-requires-clause-room
act-requires-clause-room c =
    first_roomy c.args.f.now.body c.as_slice-body.result.now c.args.self.now.position.path.items c.args.self.now.position.at c.in-Some.statement.now
    c.as_slice-body.ensures c.requires.ready.1 c.requires.runnable.room c.in-Some.ensures.first
