use Rattle.driver_safety.proofs.calls.Answering.{each_answer_is_taken}
use Rattle.driver_safety.proofs.laws.every_answer_is_taken.Goals as goal

pub returns : goal.returns
returns c = each_answer_is_taken
