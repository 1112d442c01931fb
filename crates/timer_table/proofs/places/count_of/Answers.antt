use Rattle.std.proofs.Common.{arith}
use Rattle.timer_table.proofs.Ordered.{count_of_owner}
use Rattle.timer_table.proofs.places.count_of.Goals as goal

pub overflow_sub-result : goal.overflow_sub-result
overflow_sub-result c = omega (arith, count_of_owner c.args.owner c.args.rows.now c.requires.in_range)

pub returns : goal.returns
returns c = omega (arith, count_of_owner c.args.owner c.args.rows.now c.requires.in_range)
