use Rattle.std.proofs.Common.{◌≡◌, ◌+◌, length, drop}
use Rattle.check_elim.specs.Direct.{passings, through, telling, backs}
use Rattle.check_elim.specs.Sets.{facts, ops_of, size_of, size_in, marking}
use Rattle.check_elim.specs.Rounds.{Stand}
use Rattle.check_elim.proofs.statements.+statements.Given as goal

abbrev pub invariant-pass_all-loop-statement : goal.invariant-pass_all-loop-statement
invariant-pass_all-loop-statement l =
    (size_of l.lost ≡ size_of l.fn.lost)
    × (through (passings (ops_of l.f l.table) l.f.slots (drop l.statement-index l.statements)) (facts l.lost) ≡ through (passings (ops_of l.f l.table) l.f.slots l.statements) (facts l.fn.lost))
    × (telling (passings (ops_of l.f l.table) l.f.slots (drop l.statement-index l.statements)) (facts l.lost) (marking l.kept) ≡ telling (passings (ops_of l.f l.table) l.f.slots l.statements) (facts l.fn.lost) (marking l.fn.kept))
    × Stand (size_in l.table) (backs (passings (ops_of l.f l.table) l.f.slots (drop l.statement-index l.statements))) l.rounds l.place
    × (l.place + length (backs (passings (ops_of l.f l.table) l.f.slots (drop l.statement-index l.statements))) ≡ l.next + length (backs (passings (ops_of l.f l.table) l.f.slots l.statements)))
