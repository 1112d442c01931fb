use Rattle.std.proofs.Common.{◌≡◌, Some, refl, length, slice_get, ◌∙◌}
use Rattle.std.proofs.lemmas.Option.{slice_get_read}
use Rattle.driver_machine.proofs.MachineLaws.{belongs_was, line_in, task_at}
use Rattle.driver_machine.proofs.machine.line_of_row.Goals as goal

pub line-requires-clause-task : goal.line-requires-clause-task
line-requires-clause-task c =
    let t = c.index-tasks-at.result in
    let there : slice_get c.args.tasks.now c.args.at ≡ Some t =
    slice_get_read c.args.tasks.now (length c.args.tasks.now) c.args.at t refl c.requires.within c.index-tasks-at.is in
    task_at c.args.tasks.now c.args.at t c.requires.tasks there

pub line-requires-clause-belongs : goal.line-requires-clause-belongs
line-requires-clause-belongs c =
    let t = c.index-tasks-at.result in
    let there : slice_get c.args.tasks.now c.args.at ≡ Some t =
    slice_get_read c.args.tasks.now (length c.args.tasks.now) c.args.at t refl c.requires.within c.index-tasks-at.is in
    belongs_was c.args.tasks.now c.args.at t t there c.requires.within c.args.unit.now c.requires.belongs

pub returns : goal.returns
returns c =
    let t = c.index-tasks-at.result in
    let there : slice_get c.args.tasks.now c.args.at ≡ Some t =
    slice_get_read c.args.tasks.now (length c.args.tasks.now) c.args.at t refl c.requires.within c.index-tasks-at.is in
    c.line.ensures ∙ line_in c.args.unit.now c.args.tasks.now c.args.at t there
