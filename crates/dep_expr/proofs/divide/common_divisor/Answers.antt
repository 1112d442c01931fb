use Rattle.std.proofs.Common.{◌≡◌, ◌∙◌, sym, arith}
use Rattle.std.proofs.lemmas.List.{at_drop_all}
use Rattle.dep_expr.specs.Normed.{divisor_from, divisor_of}
use Rattle.dep_expr.proofs.Norming.{divisor_of-merged}
use Rattle.dep_expr.proofs.divide.common_divisor.Goals as goal

-- the divisor at the end of the loop
last : (c : goal.After-loop-term) → c.loop-term.divisor ≡ divisor_of c.args.terms.now
last c = sym (at_drop_all (divisor_from c.loop-term.divisor) c.args.terms.now c.loop-term.term-index c.loop-term-test.false) ∙ c.loop-term.invariant

pub returns-clause-positive : goal.returns-clause-positive
returns-clause-positive c =
    omega (arith, last c, (divisor_of-merged c.args.terms.now c.requires.some c.requires.merged c.requires.coefficients).0)

pub returns-clause-small : goal.returns-clause-small
returns-clause-small c =
    omega (arith, last c, (divisor_of-merged c.args.terms.now c.requires.some c.requires.merged c.requires.coefficients).1)
