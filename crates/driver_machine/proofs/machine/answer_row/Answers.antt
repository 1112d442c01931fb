use Rattle.std.proofs.Common.{◌≡◌, Some, get_or, slice_get}
use Rattle.std.proofs.lemmas.Option.{slice_get-get_or}
use Rattle.driver_machine.proofs.MachineLaws.{answers_in, belongs_is, belongs_was, each_task, others_stay, owner_stays, task_at}
use Rattle.driver_machine.proofs.machine.answer_row.Goals as goal

pub answer-requires-clause-task : goal.answer-requires-clause-task
answer-requires-clause-task c =
    let t = get_or c.args.tasks.now c.args.at c.index-tasks-at.result in
    let there : slice_get c.args.tasks.now c.args.at ≡ Some t =
    slice_get-get_or c.args.tasks.now c.args.at c.index-tasks-at.result c.requires.within in
    task_at c.args.tasks.now c.args.at t c.requires.tasks there

pub answer-requires-clause-belongs : goal.answer-requires-clause-belongs
answer-requires-clause-belongs c =
    let t = get_or c.args.tasks.now c.args.at c.index-tasks-at.result in
    let there : slice_get c.args.tasks.now c.args.at ≡ Some t =
    slice_get-get_or c.args.tasks.now c.args.at c.index-tasks-at.result c.requires.within in
    belongs_was c.args.tasks.now c.args.at t t there c.requires.within c.args.unit.now c.requires.belongs

pub returns-clause-answered : goal.returns-clause-answered
returns-clause-answered c =
    let t = get_or c.args.tasks.now c.args.at c.index-tasks-at.result in
    let there : slice_get c.args.tasks.now c.args.at ≡ Some t =
    slice_get-get_or c.args.tasks.now c.args.at c.index-tasks-at.result c.requires.within in
    answers_in c.args.tasks.now c.args.at t c.answer.new.self there c.requires.within c.args.unit.now c.args.reply c.answer.ensures.answered

pub returns-clause-belongs : goal.returns-clause-belongs
returns-clause-belongs c =
    let t = get_or c.args.tasks.now c.args.at c.index-tasks-at.result in
    let there : slice_get c.args.tasks.now c.args.at ≡ Some t =
    slice_get-get_or c.args.tasks.now c.args.at c.index-tasks-at.result c.requires.within in
    belongs_is c.args.tasks.now c.args.at t c.answer.new.self there c.requires.within c.args.unit.now c.answer.ensures.belongs

pub returns-clause-owner : goal.returns-clause-owner
returns-clause-owner c =
    let t = get_or c.args.tasks.now c.args.at c.index-tasks-at.result in
    let there : slice_get c.args.tasks.now c.args.at ≡ Some t =
    slice_get-get_or c.args.tasks.now c.args.at c.index-tasks-at.result c.requires.within in
    owner_stays c.args.tasks.now c.args.at t c.answer.new.self there c.requires.within c.answer.ensures.owner

pub returns-clause-others : goal.returns-clause-others
returns-clause-others c =
    let t = get_or c.args.tasks.now c.args.at c.index-tasks-at.result in
    let there : slice_get c.args.tasks.now c.args.at ≡ Some t =
    slice_get-get_or c.args.tasks.now c.args.at c.index-tasks-at.result c.requires.within in
    others_stay c.args.tasks.now c.args.at t c.answer.new.self there c.requires.within

pub returns-clause-tasks : goal.returns-clause-tasks
returns-clause-tasks c =
    let t = get_or c.args.tasks.now c.args.at c.index-tasks-at.result in
    let there : slice_get c.args.tasks.now c.args.at ≡ Some t =
    slice_get-get_or c.args.tasks.now c.args.at c.index-tasks-at.result c.requires.within in
    each_task c.args.tasks.now c.args.at t c.answer.new.self there c.requires.within c.requires.tasks c.answer.ensures.task
