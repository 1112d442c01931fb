use Rattle.std.proofs.Common.{sym, subst, rules, arith}
use Rattle.checked_tree.specs.declared.statements.CheckedStmt.{CheckedStmt}
use Rattle.check_elim.specs.Sets.{marking}
use Rattle.check_elim.specs.Following.{Follows, flows_in, flows_of_all}
use Rattle.check_elim.proofs.Ruling.{if_follows, while_follows, follows_none, next_follows, all_followed}
use Rattle.check_elim.proofs.following.+following.Goals as goal

pub follow-returns-in_ok-follow_all-in-If-2 : goal.follow-returns-in_ok-follow_all-in-If-2
follow-returns-in_ok-follow_all-in-If-2 t c =
    subst (λ (s : CheckedStmt). Follows c.args.f.now (flows_in c.args.f.now s) (marking c.args.kept.now) (marking c.follow_all-in-If.new.kept)) (sym c.in-If.is)
    (if_follows c.args.f.now c.in-If.line c.in-If.e c.in-If.holds c.in-If.fails (marking c.args.kept.now) (marking c.follow_test.new.kept) (marking c.follow_all.new.kept) (marking c.follow_all-in-If.new.kept) (search rules) (search rules) (search rules))

pub follow-returns-in_ok-follow_all-in-While : goal.follow-returns-in_ok-follow_all-in-While
follow-returns-in_ok-follow_all-in-While t c =
    subst (λ (s : CheckedStmt). Follows c.args.f.now (flows_in c.args.f.now s) (marking c.args.kept.now) (marking c.follow_all-in-While.new.kept)) (sym c.in-While.is)
    (while_follows c.args.f.now c.in-While.line c.in-While.e c.in-While.body (marking c.args.kept.now) (marking c.follow_test-in-While.new.kept) (marking c.follow_all-in-While.new.kept) (search rules) (search rules))

pub follow_all-loop-statement-init : goal.follow_all-loop-statement-init
unfolding flows_of_all
follow_all-loop-statement-init t c = follows_none c.args.f.now (marking c.args.kept.now)

pub follow_all-loop-statement-preserved : goal.follow_all-loop-statement-preserved
follow_all-loop-statement-preserved t c =
    let told : Follows c.args.f.now (flows_in c.args.f.now c.statement-item.result) (marking c.loop-statement.kept) (marking c.follow.new.kept) = search rules in
    next_follows c.args.f.now c.args.statements.now c.loop-statement.statement-index c.statement-item.result (marking c.args.kept.now) (marking c.loop-statement.kept) (marking c.follow.new.kept) c.loop-statement-test.true c.loop-statement.invariant
    (subst (λ (s : CheckedStmt). Follows c.args.f.now (flows_in c.args.f.now s) (marking c.loop-statement.kept) (marking c.follow.new.kept)) c.statement-item.is told)

pub follow_all-returns : goal.follow_all-returns
follow_all-returns t c =
    all_followed c.args.f.now c.args.statements.now c.loop-statement.statement-index (marking c.args.kept.now) (marking c.loop-statement.kept) (omega (arith, c.loop-statement-test.false)) c.loop-statement.invariant
