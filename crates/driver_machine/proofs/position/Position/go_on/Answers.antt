use Rattle.std.proofs.Common.{ℕ, ap, ◌∙◌}
use Rattle.driver_machine.specs.Paths.{todo_at}
use Rattle.driver_machine.proofs.Turns.{next_todo}
use Rattle.driver_machine.proofs.position.Position.go_on.Goals as goal

pub returns-clause-todo : goal.returns-clause-todo
returns-clause-todo c =
    c.settle-self.ensures.todo
    ∙ (ap (λ (n : ℕ). todo_at c.args.body.now c.args.self.now.path.items n) c.following-next.ensures ∙ next_todo c.args.body.now c.args.self.now.path.items c.args.self.now.at c.requires.stands)
