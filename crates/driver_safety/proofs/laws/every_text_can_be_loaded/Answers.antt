use Rattle.driver_safety.proofs.steps.FirstLoaded.{each_text_loaded}
use Rattle.driver_safety.proofs.laws.every_text_can_be_loaded.Goals as goal

pub returns : goal.returns
returns c = each_text_loaded
