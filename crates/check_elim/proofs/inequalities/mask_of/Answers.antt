use Rattle.std.proofs.Common.{length, ap, rules, arith}
use Rattle.std.proofs.lemmas.List.Elements.{Contains-get_or}
use Rattle.check_elim.proofs.Masks.{mask_begins}
use Rattle.check_elim.proofs.inequalities.mask_of.Goals as goal

pub loop-pair-init : goal.loop-pair-init
loop-pair-init c = mask_begins c.args.size c.args.slot c.args.pairs.now _ (search rules)

pub insert-requires : goal.insert-requires
insert-requires c =
    let low = c.requires _ (Contains-get_or c.args.pairs.now c.loop-pair.pair-index (0, 0) c.loop-pair-test.true) in
    omega (arith, low, c.loop-pair.invariant.0, ap length c.as_mut_slice.ensures.value)
