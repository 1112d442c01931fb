use Rattle.std.proofs.Common.{rules, false, drop, ◌∙◌, arith}
use Rattle.check_elim.specs.Sets.{facts, size_in}
use Rattle.check_elim.proofs.Looping.{rounds_of, grows_nothing}
use Rattle.check_elim.proofs.Parts.{if_facts, if_grows, round_facts, while_facts, while_grows, next_facts, next_grows, none_left, grown_place}
use Rattle.check_elim.proofs.rounds.+surveys.Goals as goal

pub survey-set_round-requires : goal.survey-set_round-requires
survey-set_round-requires t c =
    grown_place (size_in c.args.table.now) (rounds_of c.args.f.now c.args.table.now c.in-While.body) c.len-place.result c.args.rounds.now.items c.push.new.self.items c.survey_all-in-While.new.rounds.items
    (record { reached = false; words = c.new.result }) (search rules) (search rules) (search rules)

pub survey-returns-in_ok-survey_all-in-If-2-clause-facts : goal.survey-returns-in_ok-survey_all-in-If-2-clause-facts
survey-returns-in_ok-survey_all-in-If-2-clause-facts t c =
    if_facts c.args.f.now c.args.table.now c.args.statement.now c.in-If.line c.in-If.e c.in-If.holds c.in-If.fails
    (facts c.args.lost.now) (facts c.past_test.new.lost) (facts c.in_ok-other-in-If.other) (facts c.survey_all.new.lost) (facts c.survey_all-in-If.new.lost) (facts c.join.new.self)
    c.in-If.is (search rules) (search rules) (search rules) (search rules) (search rules)

pub survey-returns-in_ok-survey_all-in-If-2-clause-rounds : goal.survey-returns-in_ok-survey_all-in-If-2-clause-rounds
survey-returns-in_ok-survey_all-in-If-2-clause-rounds t c =
    if_grows c.args.f.now c.args.table.now c.args.statement.now c.in-If.line c.in-If.e c.in-If.holds c.in-If.fails
    (size_in c.args.table.now) c.args.rounds.now.items c.survey_all.new.rounds.items c.survey_all-in-If.new.rounds.items c.in-If.is (search rules) (search rules)

pub survey-returns-in_ok-left-in-While-clause-facts : goal.survey-returns-in_ok-left-in-While-clause-facts
survey-returns-in_ok-left-in-While-clause-facts t c =
    while_facts c.args.f.now c.args.table.now c.args.statement.now c.in-While.line c.in-While.e c.in-While.body
    (facts c.args.lost.now) (facts c.survey_all-in-While.new.lost) (facts c.enter.new.self) (facts c.in_ok-left-in-While.left) c.in-While.is
    (round_facts c.args.f.now c.args.table.now c.in-While.e c.in-While.body (facts c.in_ok-round-in-While.round) (facts c.past_test-in-While.new.lost) (facts c.survey_all-in-While.new.lost) (search rules) (search rules) (search rules))
    (search rules) (search rules)

pub survey-returns-in_ok-left-in-While-clause-rounds : goal.survey-returns-in_ok-left-in-While-clause-rounds
survey-returns-in_ok-left-in-While-clause-rounds t c =
    while_grows c.args.f.now c.args.table.now c.args.statement.now c.in-While.line c.in-While.e c.in-While.body
    (size_in c.args.table.now) c.len-place.result c.args.rounds.now.items c.push.new.self.items c.survey_all-in-While.new.rounds.items c.set_round.new.rounds.items
    (record { reached = false; words = c.new.result }) c.survey_all-in-While.new.lost c.in-While.is (search rules) (search rules) (search rules) (search rules) (search rules)
    (round_facts c.args.f.now c.args.table.now c.in-While.e c.in-While.body (facts c.in_ok-round-in-While.round) (facts c.past_test-in-While.new.lost) (facts c.survey_all-in-While.new.lost) (search rules) (search rules) (search rules))

pub survey_all-loop-statement-preserved : goal.survey_all-loop-statement-preserved
survey_all-loop-statement-preserved t c = (
  search rules,
  next_facts c.args.f.now c.args.table.now c.args.statements.now c.loop-statement.statement-index c.statement-item.result (facts c.loop-statement.lost) (facts c.survey.new.lost) c.loop-statement-test.true c.statement-item.is (search rules)
      ∙ c.loop-statement.invariant.1,
  λ z g. c.loop-statement.invariant.2 z
      (next_grows c.args.f.now c.args.table.now c.args.statements.now c.loop-statement.statement-index c.statement-item.result (size_in c.args.table.now) c.loop-statement.rounds.items c.survey.new.rounds.items z
      c.loop-statement-test.true c.statement-item.is (search rules) g),
)

pub survey_all-returns-clause-rounds : goal.survey_all-returns-clause-rounds
survey_all-returns-clause-rounds t c =
    c.loop-statement.invariant.2 c.loop-statement.rounds.items
    (grows_nothing (size_in c.args.table.now) (rounds_of c.args.f.now c.args.table.now (drop c.loop-statement.statement-index c.args.statements.now)) c.loop-statement.rounds.items
    (none_left c.args.f.now c.args.table.now c.args.statements.now c.loop-statement.statement-index (omega (arith, c.loop-statement-test.false))))
