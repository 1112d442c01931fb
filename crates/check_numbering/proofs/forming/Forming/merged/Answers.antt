use Rattle.std.proofs.Common.{arith}
use Rattle.dep_expr.proofs.Weights.{light_merged}
use Rattle.check_numbering.proofs.forming.Forming.merged.Goals as goal

pub merged-requires : goal.merged-requires
merged-requires c = light_merged c.self.inside.form (omega (arith, c.self.invariant.counted, c.self.invariant.coefficients)) (omega (arith, c.self.invariant.sized, c.self.invariant.constants))
