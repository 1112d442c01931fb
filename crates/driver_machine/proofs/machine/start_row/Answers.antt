use Rattle.std.proofs.Common.{◌≡◌, Some, get_or, slice_get}
use Rattle.std.proofs.lemmas.Option.{slice_get-get_or}
use Rattle.driver_machine.proofs.MachineLaws.{each_task, others_stay, starts_at, task_at}
use Rattle.driver_machine.proofs.machine.start_row.Goals as goal

pub start-requires-clause-task : goal.start-requires-clause-task
start-requires-clause-task c =
    let t = get_or c.args.tasks.now c.args.at c.index-tasks-at.result in
    let there : slice_get c.args.tasks.now c.args.at ≡ Some t =
    slice_get-get_or c.args.tasks.now c.args.at c.index-tasks-at.result c.requires.within in
    task_at c.args.tasks.now c.args.at t c.requires.tasks there

pub returns-clause-starts : goal.returns-clause-starts
returns-clause-starts c =
    let t = get_or c.args.tasks.now c.args.at c.index-tasks-at.result in
    let there : slice_get c.args.tasks.now c.args.at ≡ Some t =
    slice_get-get_or c.args.tasks.now c.args.at c.index-tasks-at.result c.requires.within in
    starts_at c.args.tasks.now c.args.at t c.start.new.self there c.requires.within c.args.unit.now c.args.owner c.args.function c.args.arguments.now c.start.result c.start.ensures.starts

pub returns-clause-others : goal.returns-clause-others
returns-clause-others c =
    let t = get_or c.args.tasks.now c.args.at c.index-tasks-at.result in
    let there : slice_get c.args.tasks.now c.args.at ≡ Some t =
    slice_get-get_or c.args.tasks.now c.args.at c.index-tasks-at.result c.requires.within in
    others_stay c.args.tasks.now c.args.at t c.start.new.self there c.requires.within

pub returns-clause-tasks : goal.returns-clause-tasks
returns-clause-tasks c =
    let t = get_or c.args.tasks.now c.args.at c.index-tasks-at.result in
    let there : slice_get c.args.tasks.now c.args.at ≡ Some t =
    slice_get-get_or c.args.tasks.now c.args.at c.index-tasks-at.result c.requires.within in
    each_task c.args.tasks.now c.args.at t c.start.new.self there c.requires.within c.requires.tasks c.start.ensures.task
