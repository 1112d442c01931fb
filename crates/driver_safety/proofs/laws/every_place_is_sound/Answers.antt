use Rattle.driver_safety.proofs.expressions.Expressions.{each_place}
use Rattle.driver_safety.proofs.laws.every_place_is_sound.Goals as goal

pub returns : goal.returns
returns c = each_place
