use Rattle.std.proofs.Common.{◌≡◌, drop}
use Rattle.deputy_types.specs.StructLayout.{around, with_arms_in_turn}
use Rattle.deputy_layouts.proofs.arms.with_arms_in_turn.Given as goal

abbrev pub invariant-loop-arm : goal.invariant-loop-arm
invariant-loop-arm l = with_arms_in_turn (around l.at) l.unions l.part.number l.part.start l.part.offset l.arms (drop l.arm-index l.more)
    ≡ with_arms_in_turn (around l.at) l.unions l.part.number l.part.start l.part.offset l.fn.arms l.more
