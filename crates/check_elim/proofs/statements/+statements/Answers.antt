use Rattle.std.proofs.Common.{rules, arith, ◌≡◌, ◌+◌, List, length, sym, ◌∙◌, subst}
use Rattle.std.proofs.lemmas.Grind.{common_steps}
use Rattle.checked_tree.specs.declared.statements.CheckedStmt.{CheckedStmt}
use Rattle.checked_tree.specs.declared.statements.CheckedStmt.TheFolds as folds
use Rattle.check_elim.specs.Sets.{facts, size_in, marking}
use Rattle.check_elim.specs.Rounds.{Stand}
use Rattle.check_elim.proofs.Looping.{rounds_of}
use Rattle.check_elim.proofs.Parts.{if_facts, if_marks, if_stands_first, if_stands_second, if_length, while_facts, while_marks, while_stands_within, while_stands_size, while_stands_facts, while_stands_rest, while_length, next_facts, next_marks, next_stands, rest_stands, rest_length}
use Rattle.check_elim.proofs.statements.+statements.Goals as goal

pub pass-pass_all-requires : goal.pass-pass_all-requires
pass-pass_all-requires t c = (
  first_of (search (rules, folds.the_lemmas), grind (folds.the_lemmas, arith, common_steps)),
  (
    c.requires.table,
    (
      search rules,
      subst (λ (l : List CheckedStmt). Stand (size_in c.args.table.now) (rounds_of c.args.f.now c.args.table.now l) c.args.rounds.now c.args.next) (sym c.as_slice.ensures)
          (if_stands_first c.args.f.now c.args.table.now c.args.statement.now c.in-If.line c.in-If.e c.in-If.holds c.in-If.fails (size_in c.args.table.now) c.args.next c.args.rounds.now c.in-If.is c.requires.rounds),
    ),
  ),
)

pub pass-pass_all-requires-in-If : goal.pass-pass_all-requires-in-If
pass-pass_all-requires-in-If t c = (
  first_of (search (rules, folds.the_lemmas), grind (folds.the_lemmas, arith, common_steps)),
  (
    c.requires.table,
    (
      search rules,
      subst (λ (l : List CheckedStmt). Stand (size_in c.args.table.now) (rounds_of c.args.f.now c.args.table.now l) c.args.rounds.now c.in_ok-middle-in-If.middle) (sym c.as_slice-in-If.ensures)
          (if_stands_second c.args.f.now c.args.table.now c.args.statement.now c.in-If.line c.in-If.e c.in-If.holds c.in-If.fails (size_in c.args.table.now) c.args.next c.in_ok-middle-in-If.middle c.args.rounds.now c.in-If.is c.requires.rounds
          (subst (λ (l : List CheckedStmt). c.in_ok-middle-in-If.middle ≡ c.args.next + length (rounds_of c.args.f.now c.args.table.now l)) c.as_slice.ensures c.in_ok-middle-in-If.ensures.next)),
    ),
  ),
)

pub pass-next_place-requires : goal.pass-next_place-requires
pass-next_place-requires t c = while_stands_within c.args.f.now c.args.table.now c.args.statement.now c.in-While.line c.in-While.e c.in-While.body (size_in c.args.table.now) c.args.next c.args.rounds.now c.in-While.is c.requires.rounds

pub pass-round_at-requires : goal.pass-round_at-requires
pass-round_at-requires t c = while_stands_within c.args.f.now c.args.table.now c.args.statement.now c.in-While.line c.in-While.e c.in-While.body (size_in c.args.table.now) c.args.next c.args.rounds.now c.in-While.is c.requires.rounds

pub pass-enter-requires : goal.pass-enter-requires
pass-enter-requires t c =
    c.requires.size ∙ sym (while_stands_size c.args.f.now c.args.table.now c.args.statement.now c.in-While.line c.in-While.e c.in-While.body (size_in c.args.table.now) c.args.next c.args.rounds.now c.round_at.result.now c.in-While.is c.requires.rounds c.round_at.ensures)

pub pass-pass_all-requires-in-While : goal.pass-pass_all-requires-in-While
pass-pass_all-requires-in-While t c = (
  first_of (search (rules, folds.the_lemmas), grind (folds.the_lemmas, arith, common_steps)),
  (
    c.requires.table,
    (
      search rules,
      subst (λ (l : List CheckedStmt). Stand (size_in c.args.table.now) (rounds_of c.args.f.now c.args.table.now l) c.args.rounds.now c.next_place.result) (sym c.as_slice-in-While.ensures)
          (while_stands_rest c.args.f.now c.args.table.now c.args.statement.now c.in-While.line c.in-While.e c.in-While.body (size_in c.args.table.now) c.args.next c.next_place.result c.args.rounds.now c.in-While.is c.requires.rounds c.next_place.ensures),
    ),
  ),
)

pub pass-returns-in_ok-end-in-If-clause-facts : goal.pass-returns-in_ok-end-in-If-clause-facts
pass-returns-in_ok-end-in-If-clause-facts t c =
    if_facts c.args.f.now c.args.table.now c.args.statement.now c.in-If.line c.in-If.e c.in-If.holds c.in-If.fails
    (facts c.args.lost.now) (facts c.test.new.lost) (facts c.in_ok-other-in-If.other) (facts c.pass_all.new.lost) (facts c.pass_all-in-If.new.lost) (facts c.join.new.self)
    c.in-If.is (search rules) (search rules) (search rules) (search rules) (search rules)

pub pass-returns-in_ok-end-in-If-clause-marks : goal.pass-returns-in_ok-end-in-If-clause-marks
pass-returns-in_ok-end-in-If-clause-marks t c =
    if_marks c.args.f.now c.args.table.now c.args.statement.now c.in-If.line c.in-If.e c.in-If.holds c.in-If.fails
    (facts c.args.lost.now) (facts c.test.new.lost) (facts c.in_ok-other-in-If.other) (marking c.args.kept.now) (marking c.test.new.kept) (marking c.pass_all.new.kept) (marking c.pass_all-in-If.new.kept)
    c.in-If.is (search rules) (search rules) (search rules) (search rules) (search rules)

pub pass-returns-in_ok-end-in-If-clause-next : goal.pass-returns-in_ok-end-in-If-clause-next
pass-returns-in_ok-end-in-If-clause-next t c =
    if_length c.args.f.now c.args.table.now c.args.statement.now c.in-If.line c.in-If.e c.in-If.holds c.in-If.fails c.args.next c.in_ok-middle-in-If.middle c.in_ok-end-in-If.end c.in-If.is
    (subst (λ (l : List CheckedStmt). c.in_ok-middle-in-If.middle ≡ c.args.next + length (rounds_of c.args.f.now c.args.table.now l)) c.as_slice.ensures c.in_ok-middle-in-If.ensures.next)
    (subst (λ (l : List CheckedStmt). c.in_ok-end-in-If.end ≡ c.in_ok-middle-in-If.middle + length (rounds_of c.args.f.now c.args.table.now l)) c.as_slice-in-If.ensures c.in_ok-end-in-If.ensures.next)

pub pass-returns-in_ok-end-in-While-clause-facts : goal.pass-returns-in_ok-end-in-While-clause-facts
pass-returns-in_ok-end-in-While-clause-facts t c =
    while_facts c.args.f.now c.args.table.now c.args.statement.now c.in-While.line c.in-While.e c.in-While.body
    (facts c.args.lost.now) (facts c.round_at.result.now) (facts c.enter.new.self) (facts c.in_ok-left-in-While.left) c.in-While.is
    (while_stands_facts c.args.f.now c.args.table.now c.args.statement.now c.in-While.line c.in-While.e c.in-While.body (size_in c.args.table.now) c.args.next c.args.rounds.now c.round_at.result.now c.in-While.is c.requires.rounds c.round_at.ensures)
    c.enter.ensures.facts (search rules)

pub pass-returns-in_ok-end-in-While-clause-marks : goal.pass-returns-in_ok-end-in-While-clause-marks
pass-returns-in_ok-end-in-While-clause-marks t c =
    while_marks c.args.f.now c.args.table.now c.args.statement.now c.in-While.line c.in-While.e c.in-While.body
    (facts c.args.lost.now) (facts c.round_at.result.now) (facts c.enter.new.self) (facts c.test-in-While.new.lost) (marking c.args.kept.now) (marking c.test-in-While.new.kept) (marking c.pass_all-in-While.new.kept) c.in-While.is
    (while_stands_facts c.args.f.now c.args.table.now c.args.statement.now c.in-While.line c.in-While.e c.in-While.body (size_in c.args.table.now) c.args.next c.args.rounds.now c.round_at.result.now c.in-While.is c.requires.rounds c.round_at.ensures)
    c.enter.ensures.facts (search rules) (search rules) (search rules)

pub pass-returns-in_ok-end-in-While-clause-next : goal.pass-returns-in_ok-end-in-While-clause-next
pass-returns-in_ok-end-in-While-clause-next t c =
    while_length c.args.f.now c.args.table.now c.args.statement.now c.in-While.line c.in-While.e c.in-While.body c.args.next c.next_place.result c.in_ok-end-in-While.end c.in-While.is c.next_place.ensures
    (subst (λ (l : List CheckedStmt). c.in_ok-end-in-While.end ≡ c.next_place.result + length (rounds_of c.args.f.now c.args.table.now l)) c.as_slice-in-While.ensures c.in_ok-end-in-While.ensures.next)

pub pass_all-pass-requires : goal.pass_all-pass-requires
pass_all-pass-requires t c = (
  first_of (search (rules, folds.the_lemmas), grind (folds.the_lemmas, arith, common_steps)),
  (
    c.requires.table,
    (
      c.loop-statement.invariant.0 ∙ c.requires.size,
      next_stands c.args.f.now c.args.table.now c.args.statements.now c.loop-statement.statement-index c.statement-item.result (size_in c.args.table.now) c.loop-statement.place c.args.rounds.now c.loop-statement-test.true c.statement-item.is c.loop-statement.invariant.3,
    ),
  ),
)

pub pass_all-loop-statement-preserved : goal.pass_all-loop-statement-preserved
pass_all-loop-statement-preserved t c = (
  search rules,
  next_facts c.args.f.now c.args.table.now c.args.statements.now c.loop-statement.statement-index c.statement-item.result (facts c.loop-statement.lost) (facts c.pass.new.lost) c.loop-statement-test.true c.statement-item.is (search rules) ∙ c.loop-statement.invariant.1,
  next_marks c.args.f.now c.args.table.now c.args.statements.now c.loop-statement.statement-index c.statement-item.result (facts c.loop-statement.lost) (facts c.pass.new.lost) (marking c.loop-statement.kept) (marking c.pass.new.kept) c.loop-statement-test.true c.statement-item.is (search rules) (search rules) ∙ c.loop-statement.invariant.2,
  rest_stands c.args.f.now c.args.table.now c.args.statements.now c.loop-statement.statement-index c.statement-item.result (size_in c.args.table.now) c.loop-statement.place c.in_ok-after.after c.args.rounds.now c.loop-statement-test.true c.statement-item.is c.loop-statement.invariant.3 (search rules),
  rest_length c.args.f.now c.args.table.now c.args.statements.now c.loop-statement.statement-index c.statement-item.result c.loop-statement.place c.in_ok-after.after c.loop-statement-test.true c.statement-item.is (search rules) ∙ c.loop-statement.invariant.4,
)
