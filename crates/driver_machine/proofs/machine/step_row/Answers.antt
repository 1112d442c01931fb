use Rattle.std.proofs.Common.{◌≡◌, Some, get_or, slice_get}
use Rattle.std.proofs.lemmas.Option.{slice_get-get_or}
use Rattle.driver_machine.proofs.MachineLaws.{belongs_is, belongs_was, comes_in, each_task, others_stay, owner_follows, task_at}
use Rattle.driver_machine.proofs.machine.step_row.Goals as goal

pub step-requires-clause-task : goal.step-requires-clause-task
step-requires-clause-task c =
    let t = get_or c.args.tasks.now c.args.at c.index-tasks-at.result in
    let there : slice_get c.args.tasks.now c.args.at ≡ Some t =
    slice_get-get_or c.args.tasks.now c.args.at c.index-tasks-at.result c.requires.within in
    task_at c.args.tasks.now c.args.at t c.requires.tasks there

pub step-requires-clause-belongs : goal.step-requires-clause-belongs
step-requires-clause-belongs c =
    let t = get_or c.args.tasks.now c.args.at c.index-tasks-at.result in
    let there : slice_get c.args.tasks.now c.args.at ≡ Some t =
    slice_get-get_or c.args.tasks.now c.args.at c.index-tasks-at.result c.requires.within in
    belongs_was c.args.tasks.now c.args.at t t there c.requires.within c.args.unit.now c.requires.belongs

pub returns-clause-comes : goal.returns-clause-comes
returns-clause-comes c =
    let t = get_or c.args.tasks.now c.args.at c.index-tasks-at.result in
    let there : slice_get c.args.tasks.now c.args.at ≡ Some t =
    slice_get-get_or c.args.tasks.now c.args.at c.index-tasks-at.result c.requires.within in
    comes_in c.args.tasks.now c.args.at t c.step.new.self there c.requires.within c.args.unit.now c.args.memory.now c.step.new.memory c.step.result c.step.ensures.comes

pub returns-clause-belongs : goal.returns-clause-belongs
returns-clause-belongs c =
    let t = get_or c.args.tasks.now c.args.at c.index-tasks-at.result in
    let there : slice_get c.args.tasks.now c.args.at ≡ Some t =
    slice_get-get_or c.args.tasks.now c.args.at c.index-tasks-at.result c.requires.within in
    belongs_is c.args.tasks.now c.args.at t c.step.new.self there c.requires.within c.args.unit.now c.step.ensures.belongs

pub returns-clause-owner : goal.returns-clause-owner
returns-clause-owner c =
    let t = get_or c.args.tasks.now c.args.at c.index-tasks-at.result in
    let there : slice_get c.args.tasks.now c.args.at ≡ Some t =
    slice_get-get_or c.args.tasks.now c.args.at c.index-tasks-at.result c.requires.within in
    owner_follows c.args.tasks.now c.args.at t c.step.new.self there c.requires.within c.step.result c.step.ensures.owner

pub returns-clause-others : goal.returns-clause-others
returns-clause-others c =
    let t = get_or c.args.tasks.now c.args.at c.index-tasks-at.result in
    let there : slice_get c.args.tasks.now c.args.at ≡ Some t =
    slice_get-get_or c.args.tasks.now c.args.at c.index-tasks-at.result c.requires.within in
    others_stay c.args.tasks.now c.args.at t c.step.new.self there c.requires.within

pub returns-clause-tasks : goal.returns-clause-tasks
returns-clause-tasks c =
    let t = get_or c.args.tasks.now c.args.at c.index-tasks-at.result in
    let there : slice_get c.args.tasks.now c.args.at ≡ Some t =
    slice_get-get_or c.args.tasks.now c.args.at c.index-tasks-at.result c.requires.within in
    each_task c.args.tasks.now c.args.at t c.step.new.self there c.requires.within c.requires.tasks c.step.ensures.task
