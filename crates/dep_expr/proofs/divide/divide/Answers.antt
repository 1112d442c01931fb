use Rattle.std.proofs.Common.{◌≡◌, ◌∙◌, pos, ap, arith, rules, FitsSigned, get_or, length, ◌<◌, to_z, of_z, w64}
use Rattle.std.specs.Prelude.{slice_set, int_div}
use Rattle.std.proofs.lemmas.Int.{to_z-of_z}
use Rattle.std.proofs.lemmas.List.{get_or_default}
use Rattle.std.proofs.lemmas.List.Edits.{map_over_more}
use Rattle.dep_expr.specs.Normed.{divided_term}
use Rattle.dep_expr.proofs.divide.divide.Goals as goal

pub loop-term-preserved : goal.loop-term-preserved
loop-term-preserved c =
    let i = c.loop-term.term-index in
    let ys = c.loop-term.terms in
    let t = get_or ys i (pos 0, 0) in
    let within : i < length ys = omega arith in
    let fits : FitsSigned w64 t.0 = search rules in
    let e : to_z w64 (of_z w64 c.quotient-term.result) ≡ int_div t.0 (pos c.args.by) =
    to_z-of_z w64 c.quotient-term.result (search rules) ∙ (c.quotient-term.ensures ∙ ap (λ z. int_div z (pos c.args.by)) (to_z-of_z w64 t.0 fits)) in
    ap (λ z. slice_set ys i (z, t.1)) e
    ∙ map_over_more (divided_term c.args.by) c.args.terms.now ys i t c.loop-term-test.true c.loop-term.invariant (get_or_default ys i (pos 0, 0) t within)
