use Rattle.std.proofs.Common.{◌≡◌, ◌∙◌, ◌/◌, ap, sym, arith, pos, neg_ℤ, unsigned_abs}
use Rattle.std.specs.Int.{w128}
use Rattle.std.proofs.Math.Nat.{div-le_self}
use Rattle.std.proofs.lemmas.Int.{ints, to_z-of_z}
use Rattle.dep_expr.proofs.Dividing.{quotient_up-negative}
use Rattle.dep_expr.specs.Normed.{quotient_up}
use Rattle.dep_expr.proofs.divide.quotient_up.Goals as goal

pub returns-else-constant-gt0 : goal.returns-else-constant-gt0
returns-else-constant-gt0 c =
    let size = c.unsigned_abs-size.result in
    let e : quotient_up c.args.constant c.args.by ≡ neg_ℤ (pos (size / c.from-divisor.result)) =
    quotient_up-negative c.args.constant c.args.by c.requires.positive (omega (arith, ints))
    ∙ (ap (λ n. neg_ℤ (pos (n / c.args.by))) (sym (c.unsigned_abs-size.ensures.value ∙ ap unsigned_abs (to_z-of_z w128 c.args.constant c.ranges.constant))) ∙ ap (λ d. neg_ℤ (pos (size / d))) (sym c.from-divisor.ensures)) in
    omega (arith, ints, e, div-le_self size c.from-divisor.result)
