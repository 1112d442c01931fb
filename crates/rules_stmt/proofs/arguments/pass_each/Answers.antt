use Rattle.rules_stmt.proofs.Leftovers.{parameters_left}
use Rattle.rules_stmt.proofs.arguments.pass_each.Goals as goal

pub returns-in-len1-up-rest : goal.returns-in-len1-up-rest
returns-in-len1-up-rest c = λ _. parameters_left c.args.ctx.now c.loop-e.rest.now c.args.args.now c.loop-e.e-index c.loop-e.done c.loop-e.asked _ c.loop-e-test.false c.in-len1-up-rest.len_at_least c.loop-e.invariant
