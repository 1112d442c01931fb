use Rattle.driver_machine.proofs.task.Task.step.Goals as goal

pub returns-clause-owner : goal.returns-clause-owner
returns-clause-owner c = c.step_of.ensures.owner c.args.self.now.owner
