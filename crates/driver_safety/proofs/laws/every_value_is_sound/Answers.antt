use Rattle.driver_safety.proofs.expressions.Expressions.{each_value}
use Rattle.driver_safety.proofs.laws.every_value_is_sound.Goals as goal

pub returns : goal.returns
returns c = each_value
