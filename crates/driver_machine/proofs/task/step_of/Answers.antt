use Rattle.std.proofs.Common.{rules, ◌≡◌, refl}
use Rattle.driver_machine.proofs.TaskKept.{comes_owner, comes_waits}
use Rattle.driver_machine.proofs.TaskSteps.{idle_steps}
use Rattle.driver_machine.proofs.task.step_of.Goals as goal

pub returns-in_default-clause-comes : goal.returns-in_default-clause-comes
returns-in_default-clause-comes c =
    let none : c.args.live.now ≡ 0 = search rules in
    idle_steps c.args.unit.now c.args.frames.now c.args.live.now c.args.memory.now none

pub returns-in_default-clause-owner : goal.returns-in_default-clause-owner
returns-in_default-clause-owner c = λ owner. refl

pub returns-clause-wait : goal.returns-clause-wait
returns-clause-wait c = comes_waits c.args.unit.now _ _ _ _ _ c.requires.wait c.step_at.ensures.comes

pub returns-clause-owner : goal.returns-clause-owner
returns-clause-owner c = λ owner.
    comes_owner c.args.unit.now c.args.frames.now c.step_at.new.frames c.args.live.now c.step_at.new.live owner
    c.requires.room c.requires.few c.step_at.ensures.room c.step_at.ensures.few _ _ _ c.requires.wait c.step_at.ensures.comes
