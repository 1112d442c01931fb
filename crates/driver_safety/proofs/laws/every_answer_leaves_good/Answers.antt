use Rattle.driver_safety.proofs.steps.Answers.{each_answer}
use Rattle.driver_safety.proofs.laws.every_answer_leaves_good.Goals as goal

pub returns : goal.returns
returns c = each_answer
