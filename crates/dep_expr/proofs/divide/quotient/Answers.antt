use Rattle.std.proofs.Common.{arith, rules, pos, FitsSigned, w64}
use Rattle.std.proofs.lemmas.Int.{ints, quot_is, quot_fits}
use Rattle.dep_expr.proofs.divide.quotient.Goals as goal

pub returns : goal.returns
returns c =
    let fits : FitsSigned w64 (pos c.args.by) = search rules in
    quot_is w64 c.args.coefficient (pos c.args.by) c.ranges.coefficient fits (quot_fits w64 c.args.coefficient (pos c.args.by) c.ranges.coefficient (omega (arith, ints)))
