use Rattle.std.proofs.Common.{◌≡◌, ℤ, drop, map, ◌++◌}
use Rattle.std.specs.Global.{Vec}
use Rattle.check_elim.specs.Tables.{check_code}
use Rattle.check_elim.proofs.classes.codes_of.Given as goal

abbrev pub invariant-loop-check : goal.invariant-loop-check
invariant-loop-check l = map (λ (v : Vec ℤ). v.items) l.codes.items ++ map check_code (drop l.check-index l.checks) ≡ map check_code l.checks
