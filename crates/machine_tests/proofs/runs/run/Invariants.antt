use Rattle.machine_tests.specs.Belonging.{EachBelongs}
use Rattle.machine_tests.proofs.runs.run.Given as goal

abbrev pub invariant-loop-steps : goal.invariant-loop-steps
invariant-loop-steps l = EachBelongs l.driver.unit l.rig.machine
