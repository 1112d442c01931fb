use Rattle.machine_tests.specs.Belonging.{EachBelongs}
use Rattle.machine_tests.proofs.runs.wrong_call.Given as goal

abbrev pub invariant-loop-row : goal.invariant-loop-row
invariant-loop-row l = EachBelongs l.driver.unit l.rig.machine
