use Rattle.std.proofs.Common.{eqb, arith}
use Rattle.std.proofs.lemmas.List.Sums.{count_by-le-length}
use Rattle.rules_tests.proofs.tests.texts.unit_of.Goals as goal

pub read_driver-unit-requires : goal.read_driver-unit-requires
read_driver-unit-requires c = omega (arith, count_by-le-length (λ b. eqb b 10) c.args.text.now)
