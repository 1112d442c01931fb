use Rattle.std.proofs.Common.{sym}
use Rattle.world.proofs.Acting.{task-driver, task-belongs, idle-acts, no-driver, good-between, task-acts}
use Rattle.world.proofs.live.Live.act.Goals as goal

pub returns-in_default : goal.returns-in_default
returns-in_default g c = idle-acts c.args.task (sym c.in_default.ensures)

pub returns-in_default-get : goal.returns-in_default-get
returns-in_default-get g c = no-driver _ c.args.task c.in-Some.owner (sym c.in-Some.ensures) (sym c.in_default-get.ensures)

pub line-line-requires-clause-belongs : goal.line-line-requires-clause-belongs
line-line-requires-clause-belongs g c =
    task-belongs _ c.args.task c.in-Some.owner c.in-Some-get.driver.now (sym c.in-Some.ensures) (sym c.in-Some-get.ensures) c.requires.good

pub step_activity-answer-requires-clause-good : goal.step_activity-answer-requires-clause-good
step_activity-answer-requires-clause-good g c = record { kept = _; written = _; faults = _; good = c.requires.good }

pub go_on-requires-clause-some : goal.go_on-requires-clause-some
go_on-requires-clause-some g c = (task-driver c.args.task c.in-Some.owner (sym c.in-Some.ensures) c.requires.good).0

pub go_on-requires-clause-few : goal.go_on-requires-clause-few
go_on-requires-clause-few g c = (task-driver c.args.task c.in-Some.owner (sym c.in-Some.ensures) c.requires.good).1

pub go_on-requires-clause-good : goal.go_on-requires-clause-good
go_on-requires-clause-good g c = good-between (c.step_activity-answer.ensures.steps _ _ _) c.requires.good

pub returns : goal.returns
returns g c = task-acts _ c.line-line.result c.line-line.ensures (c.step_activity-answer.ensures.steps _ _ _) c.go_on.ensures
