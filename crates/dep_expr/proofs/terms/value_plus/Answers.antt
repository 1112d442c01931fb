use Rattle.std.proofs.Common.{◌≡◌, ◌∙◌, ◌*ℤ◌, ap, rules, arith, pos, get_or, FitsSigned, to_z, of_z, w64}
use Rattle.std.proofs.lemmas.Int.{ints, to_z-of_z}
use Rattle.std.proofs.lemmas.List.{at_drop_more}
use Rattle.dep_expr.specs.Linear.{numbers_at, terms_value}
use Rattle.dep_expr.proofs.terms.value_plus.Goals as goal

pub loop-term-preserved : goal.loop-term-preserved
loop-term-preserved c =
    let t = get_or c.args.terms.now c.loop-term.term-index (pos 0, 0) in
    let n = get_or c.args.at.now t.1 (pos 0) in
    let first : FitsSigned w64 t.0 = search rules in
    let second : FitsSigned w64 n = search rules in
    let product : c.product-sum.result ≡ t.0 *ℤ n =
    c.product-sum.ensures.value ∙ (ap (λ z. z *ℤ to_z w64 (of_z w64 n)) (to_z-of_z w64 t.0 first) ∙ ap (λ z. t.0 *ℤ z) (to_z-of_z w64 n second)) in
    let more = at_drop_more (λ ts. terms_value ts (numbers_at c.args.at.now)) c.args.terms.now c.loop-term.term-index (pos 0, 0) c.loop-term-test.true in
    record { value = omega (arith, ints, product, more); low = omega (arith, ints); high = omega (arith, ints) }
