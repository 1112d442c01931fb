use Rattle.std.proofs.Common.{◌∙◌, ◌+ℤ◌, ◌*ℤ◌, ap, arith, to_z, of_z}
use Rattle.std.specs.Int.{w128}
use Rattle.std.proofs.lemmas.Int.{ints, to_z-of_z, fits_signed_from_abs}
use Rattle.dep_expr.proofs.Sizes.{sum_with_multiple_is}
use Rattle.dep_expr.proofs.terms.sum_with_multiple.Goals as goal

pub returns : goal.returns
returns c =
    let x = to_z w128 (of_z w128 c.args.constant) in
    let y = to_z w128 (of_z w128 c.args.other) in
    let z = to_z w128 (of_z w128 c.from.result) in
    let f = sum_with_multiple_is c.args.constant c.args.other c.args.by x y z
    (to_z-of_z w128 c.args.constant c.ranges.constant) (to_z-of_z w128 c.args.other c.ranges.other) (omega (arith, ints)) c.requires.before c.requires.after in
    ap (λ u. to_z w128 (of_z w128 (x +ℤ u))) (to_z-of_z w128 (y *ℤ z) (fits_signed_from_abs w128 (y *ℤ z) (omega (arith, f.0))))
    ∙ (to_z-of_z w128 (x +ℤ (y *ℤ z)) (fits_signed_from_abs w128 (x +ℤ (y *ℤ z)) (omega (arith, f.1))) ∙ f.2)
