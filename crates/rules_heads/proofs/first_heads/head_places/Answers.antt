use Rattle.std.proofs.Common.{take, sym, arith, rules}
use Rattle.std.proofs.lemmas.List.{take_more, length-take-le}
use Rattle.rules_heads.proofs.HeadPlaces.{heads_next}
use Rattle.rules_heads.proofs.first_heads.head_places.Goals as goal

pub loop-i-preserved : goal.loop-i-preserved
loop-i-preserved c =
    let inside = c.loop-i-test.true in
    heads_next (take c.loop-i.i c.args.items.now) _ _ c.loop-i.i _ _ (sym (length-take-le c.loop-i.i c.args.items.now (omega (arith, inside)))) (take_more _ _ c.index-items-i.result c.loop-i-test.true)
    c.loop-i.invariant (search rules)
