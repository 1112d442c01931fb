use Rattle.std.proofs.Common.{◌^◌, rules, pos, get_or, FitsSigned, to_z, of_z, w64}
use Rattle.std.proofs.lemmas.Int.{to_z-of_z}
use Rattle.dep_expr.specs.Linear.{IsSmallTerm, scaled_term}
use Rattle.dep_expr.proofs.Sizes.{All-at_map, small_product}
use Rattle.dep_expr.proofs.terms.append_scaled.Goals as goal

pub scaled_coefficient-requires : goal.scaled_coefficient-requires
scaled_coefficient-requires c =
    let t = get_or c.args.terms.now c.loop-term.term-index (pos 0, 0) in
    let fits : FitsSigned w64 t.0 = search rules in
    small_product t.0 c.args.by (to_z w64 (of_z w64 t.0)) (to_z w64 (of_z w64 c.args.by)) (2 ^ 62)
    (to_z-of_z w64 t.0 fits) (to_z-of_z w64 c.args.by c.ranges.by)
    (All-at_map IsSmallTerm (scaled_term c.args.by) c.args.terms.now c.loop-term.term-index (pos 0, 0) c.loop-term-test.true c.requires)
