use Rattle.rules_stmt.proofs.Leftovers.{kinds_left}
use Rattle.rules_stmt.proofs.kernel.kernel_arguments.Goals as goal

pub returns-in-len1-up-rest : goal.returns-in-len1-up-rest
returns-in-len1-up-rest c = λ _. kinds_left c.args.ctx.now c.args.functions.now c.loop-e.rest.now c.args.args.now c.loop-e.e-index c.loop-e.given c.loop-e.asked _ c.loop-e-test.false c.in-len1-up-rest.len_at_least c.loop-e.invariant
