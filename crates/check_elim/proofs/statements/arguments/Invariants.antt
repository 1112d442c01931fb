use Rattle.std.proofs.Common.{◌≡◌, drop}
use Rattle.check_elim.specs.Direct.{arguments_act, behind, noted}
use Rattle.check_elim.specs.Sets.{facts, ops_of, size_of, marking}
use Rattle.check_elim.proofs.statements.arguments.Given as goal

abbrev pub invariant-loop-argument : goal.invariant-loop-argument
invariant-loop-argument l =
    (size_of l.lost ≡ size_of l.fn.lost)
    × (behind (arguments_act (ops_of l.f l.table) l.f.slots (drop l.argument-index l.list)) (facts l.lost) ≡ behind (arguments_act (ops_of l.f l.table) l.f.slots l.list) (facts l.fn.lost))
    × (noted (arguments_act (ops_of l.f l.table) l.f.slots (drop l.argument-index l.list)) (facts l.lost) (marking l.kept) ≡ noted (arguments_act (ops_of l.f l.table) l.f.slots l.list) (facts l.fn.lost) (marking l.fn.kept))
