use Rattle.std.proofs.Common.{[], List, subst}
use Rattle.checked_tree.specs.declared.statements.CheckedStmt.{CheckedStmt}
use Rattle.check_elim.specs.declared.lost.Lost.{Lost}
use Rattle.check_elim.specs.Sets.{size_in}
use Rattle.check_elim.specs.Rounds.{Grows}
use Rattle.check_elim.proofs.Looping.{rounds_of, grown_stand}
use Rattle.check_elim.proofs.removing.rounds_of.Goals as goal

pub returns : goal.returns
returns c =
    grown_stand (size_in c.args.table.now) (rounds_of c.args.f.now c.args.table.now c.args.f.now.body) c.survey_all.new.rounds.items
    (subst (λ (l : List CheckedStmt). Grows (size_in c.args.table.now) (rounds_of c.args.f.now c.args.table.now l) [] c.survey_all.new.rounds.items) c.as_slice.ensures
    (subst (λ (l : List Lost). Grows (size_in c.args.table.now) (rounds_of c.args.f.now c.args.table.now c.as_slice.result.now) l c.survey_all.new.rounds.items) c.new-rounds.ensures.items c.in_ok-survey_all.ensures.rounds))
