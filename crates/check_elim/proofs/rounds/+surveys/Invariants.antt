use Rattle.std.proofs.Common.{◌≡◌, List, drop}
use Rattle.check_elim.specs.declared.lost.Lost.{Lost}
use Rattle.check_elim.specs.Direct.{passings, through, backs}
use Rattle.check_elim.specs.Sets.{facts, ops_of, size_of, size_in}
use Rattle.check_elim.specs.Rounds.{Grows}
use Rattle.check_elim.proofs.rounds.+surveys.Given as goal

abbrev pub invariant-survey_all-loop-statement : goal.invariant-survey_all-loop-statement
invariant-survey_all-loop-statement l =
    (size_of l.lost ≡ size_of l.fn.lost)
    × (through (passings (ops_of l.f l.table) l.f.slots (drop l.statement-index l.statements)) (facts l.lost) ≡ through (passings (ops_of l.f l.table) l.f.slots l.statements) (facts l.fn.lost))
    × ((z : List Lost) → Grows (size_in l.table) (backs (passings (ops_of l.f l.table) l.f.slots (drop l.statement-index l.statements))) l.rounds.items z
    → Grows (size_in l.table) (backs (passings (ops_of l.f l.table) l.f.slots l.statements)) l.fn.rounds.items z)
