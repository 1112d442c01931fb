use Rattle.rules_heads.proofs.Numbers.{front_few}
use Rattle.rules_heads.proofs.texts.functions_of.Goals as goal

pub with_item-requires : goal.with_item-requires
with_item-requires c = front_few _ _ _ _ c.loop-item.invariant c.requires.functions_fit
