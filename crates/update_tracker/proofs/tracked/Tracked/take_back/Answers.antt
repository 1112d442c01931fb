-- The owner's log is undone, and the tables stand for the history without the owner.
use Rattle.std.proofs.Common.{◌+◌, ◌≤◌, length, get_or, set, sym, ap, ◌∙◌, subst, arith}
use Rattle.sd_base.specs.History.{Without, net_of}
use Rattle.update_tracker.specs.Entries.{AreItemsOf}
use Rattle.update_tracker.specs.NetPart.{read_back}
use Rattle.update_tracker.specs.Tracking.{TrackedRows, Stands, HasHistory, OfEachHistory}
use Rattle.update_tracker.specs.Undoing.{HasLive, LosesAll, cost_of_all, steps_for}
use Rattle.update_tracker.proofs.TakenBack.{has_live, log_short, log_items, cost_within, stands_without, history_without}
use Rattle.update_tracker.proofs.tracked.Tracked.take_back.Goals as goal

pub undo_log-requires-clause-some : goal.undo_log-requires-clause-some
undo_log-requires-clause-some g c =
    let t : TrackedRows = record { kernel = c.self.inside.kernel; logs = c.self.inside.logs; undone = c.self.inside.undone } in
    subst (λ place. HasLive c.self.inside.kernel c.args.owner (read_back (get_or c.self.inside.logs place c.index-self-from.result))) (sym c.from.ensures)
    (has_live t c.args.owner c.index-self-from.result c.requires.owner c.self.invariant)

pub undo_log-requires-clause-room : goal.undo_log-requires-clause-room
undo_log-requires-clause-room g c =
    let t : TrackedRows = record { kernel = c.self.inside.kernel; logs = c.self.inside.logs; undone = c.self.inside.undone } in
    subst (λ place. length (read_back (get_or c.self.inside.logs place c.index-self-from.result)) ≤ 9065) (sym c.from.ensures)
    (log_short t c.args.owner c.index-self-from.result c.requires.owner c.self.invariant)

pub invariant_of-self : goal.invariant_of-self
invariant_of-self g c =
    let t : TrackedRows = record { kernel = c.self.inside.kernel; logs = c.self.inside.logs; undone = c.self.inside.undone } in
    let loses : LosesAll c.self.inside.kernel c.args.owner (read_back (get_or c.self.inside.logs c.args.owner c.index-self-from.result)) c.undo_log.new.kernel =
    subst (λ place. LosesAll c.self.inside.kernel c.args.owner (read_back (get_or c.self.inside.logs place c.index-self-from.result)) c.undo_log.new.kernel) c.from.ensures c.undo_log.ensures.loses in
    subst (λ place. HasHistory (record { kernel = c.undo_log.new.kernel; logs = set c.self.inside.logs place c.undo_log.new.log; undone = c.undo_log.new.undone })) (sym c.from.ensures)
    (history_without t c.undo_log.new.kernel c.args.owner c.undo_log.new.log c.index-self-from.result c.undo_log.new.undone c.requires.driver c.requires.owner c.undo_log.ensures.log c.undo_log.ensures.clock c.undo_log.ensures.share loses c.self.invariant)

pub returns-clause-without : goal.returns-clause-without
returns-clause-without g c =
    let t : TrackedRows = record { kernel = c.self.inside.kernel; logs = c.self.inside.logs; undone = c.self.inside.undone } in
    let loses : LosesAll c.self.inside.kernel c.args.owner (read_back (get_or c.self.inside.logs c.args.owner c.index-self-from.result)) c.undo_log.new.kernel =
    subst (λ place. LosesAll c.self.inside.kernel c.args.owner (read_back (get_or c.self.inside.logs place c.index-self-from.result)) c.undo_log.new.kernel) c.from.ensures c.undo_log.ensures.loses in
    let stood : OfEachHistory t (λ h. Stands (record { kernel = c.undo_log.new.kernel; logs = set c.self.inside.logs c.from.result c.undo_log.new.log; undone = c.undo_log.new.undone }) (Without h c.args.owner)) =
    (λ h lawful proper stands. subst (λ place. Stands (record { kernel = c.undo_log.new.kernel; logs = set c.self.inside.logs place c.undo_log.new.log; undone = c.undo_log.new.undone }) (Without h c.args.owner)) (sym c.from.ensures)
    (stands_without t c.undo_log.new.kernel c.args.owner c.undo_log.new.log c.index-self-from.result c.undo_log.new.undone h c.self.invariant.places c.requires.driver c.requires.owner c.undo_log.ensures.log c.undo_log.ensures.clock loses lawful proper stands)) in
    rw (← c.self.view_is) stood

pub returns-clause-undone : goal.returns-clause-undone
returns-clause-undone g c =
    let t : TrackedRows = record { kernel = c.self.inside.kernel; logs = c.self.inside.logs; undone = c.self.inside.undone } in
    let listed : OfEachHistory t (λ h. AreItemsOf c.undo_log.new.undone (net_of h c.args.owner)) =
    (λ h lawful proper stands. subst (λ items. AreItemsOf items (net_of h c.args.owner)) (sym (c.undo_log.ensures.undone ∙ ap (λ place. read_back (get_or c.self.inside.logs place c.index-self-from.result)) c.from.ensures))
    (log_items t c.args.owner c.index-self-from.result h c.self.invariant.places c.requires.owner lawful proper stands)) in
    rw (← c.self.view_is) listed

pub returns-clause-steps : goal.returns-clause-steps
returns-clause-steps g c =
    let t : TrackedRows = record { kernel = c.self.inside.kernel; logs = c.self.inside.logs; undone = c.self.inside.undone } in
    let cost : c.undo_log.new.steps ≤ c.args.steps.now + cost_of_all (read_back (get_or c.self.inside.logs c.args.owner c.index-self-from.result)) =
    subst (λ place. c.undo_log.new.steps ≤ c.args.steps.now + cost_of_all (read_back (get_or c.self.inside.logs place c.index-self-from.result))) c.from.ensures c.undo_log.ensures.steps in
    let paid : OfEachHistory t (λ h. c.undo_log.new.steps ≤ c.args.steps.now + steps_for (net_of h c.args.owner)) =
    (λ h lawful proper stands. omega (
      arith,
      cost,
      cost_within (read_back (get_or c.self.inside.logs c.args.owner c.index-self-from.result)) (net_of h c.args.owner)
          (log_items t c.args.owner c.index-self-from.result h c.self.invariant.places c.requires.owner lawful proper stands),
    )) in
    rw (← c.self.view_is) paid
