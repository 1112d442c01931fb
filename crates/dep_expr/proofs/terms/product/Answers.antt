use Rattle.std.proofs.Common.{arith, to_z, of_z}
use Rattle.std.specs.Int.{w128}
use Rattle.std.proofs.lemmas.Int.{ints}
use Rattle.dep_expr.proofs.Sizes.{product_low, product_high}
use Rattle.dep_expr.proofs.terms.product.Goals as goal

pub returns-clause-low : goal.returns-clause-low
returns-clause-low c =
    product_low c.args.coefficient c.args.number (to_z w128 (of_z w128 c.from.result)) (to_z w128 (of_z w128 c.from-2.result))
    (omega (arith, ints)) (omega (arith, ints)) c.requires.small c.requires.word

pub returns-clause-high : goal.returns-clause-high
returns-clause-high c =
    product_high c.args.coefficient c.args.number (to_z w128 (of_z w128 c.from.result)) (to_z w128 (of_z w128 c.from-2.result))
    (omega (arith, ints)) (omega (arith, ints)) c.requires.small c.requires.word
