use Rattle.wrappers.proofs.CallsInStep.{each_in_step}
use Rattle.wrappers.proofs.laws.calls_are_in_step.Goals as goal

pub returns : goal.returns
returns c = λ share h memory devices who call driver few task. each_in_step share h who driver few task memory devices call
