use Rattle.driver_safety.proofs.steps.Asks.{each_text}
use Rattle.driver_safety.proofs.laws.every_text_is_readable.Goals as goal

pub returns : goal.returns
returns c = each_text
