use Rattle.std.proofs.Common.{◌≡◌, drop}
use Rattle.check_elim.specs.Direct.{tests, behind, noted}
use Rattle.check_elim.specs.Sets.{facts, ops_of, size_of, marking}
use Rattle.check_elim.proofs.lost.Lost.pass.Given as goal

abbrev pub invariant-loop-id : goal.invariant-loop-id
invariant-loop-id l =
    (size_of l.self ≡ size_of l.fn.self)
    × (behind (tests (ops_of l.f l.table) (drop l.id-index l.checks)) (facts l.self) ≡ behind (tests (ops_of l.f l.table) l.checks) (facts l.fn.self))
    × (noted (tests (ops_of l.f l.table) (drop l.id-index l.checks)) (facts l.self) (marking l.kept) ≡ noted (tests (ops_of l.f l.table) l.checks) (facts l.fn.self) (marking l.fn.kept))
