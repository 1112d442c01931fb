-- What the kernel accepted has its place in the owner's log, and the history goes on.
use Rattle.std.proofs.Common.{Ok, get_or, set, sym, ap, ◌∙◌, subst}
use Rattle.update_tracker.specs.NetRows.{noted}
use Rattle.update_tracker.specs.Places.{HasRoom}
use Rattle.update_tracker.specs.Tracking.{TrackedRows, HasHistory, ServesTracked}
use Rattle.update_tracker.proofs.Histories.{has_room, next_history, serves_next}
use Rattle.update_tracker.proofs.tracked.Tracked.update.Goals as goal

pub note-requires : goal.note-requires
note-requires c =
    let t : TrackedRows = record { kernel = c.self.inside.kernel; logs = c.self.inside.logs; undone = c.self.inside.undone } in
    subst (λ place. HasRoom (noted c.args.update c.in-Ok.reply (get_or c.self.inside.logs place c.index-self-from.result))) (sym c.from.ensures)
    (has_room t c.ask.new.kernel c.args.owner c.args.update c.ask.result c.in-Ok.reply c.index-self-from.result c.self.invariant c.requires c.ask.ensures.serves c.in-Ok.is)

pub invariant_of-self-2 : goal.invariant_of-self-2
invariant_of-self-2 c =
    let t : TrackedRows = record { kernel = c.self.inside.kernel; logs = c.self.inside.logs; undone = c.self.inside.undone } in
    subst (λ place. HasHistory (record { kernel = c.ask.new.kernel; logs = set c.self.inside.logs place c.note.new.self; undone = c.self.inside.undone })) (sym c.from.ensures)
    (next_history t c.ask.new.kernel c.args.owner c.args.update c.ask.result c.in-Ok.reply c.note.new.self c.index-self-from.result c.self.invariant c.requires c.ask.ensures.serves c.in-Ok.is c.ask.ensures.share
    (c.note.ensures ∙ ap (λ place. noted c.args.update c.in-Ok.reply (get_or c.self.inside.logs place c.index-self-from.result)) c.from.ensures))

pub returns-clause-serves : goal.returns-clause-serves
returns-clause-serves c =
    let t : TrackedRows = record { kernel = c.self.inside.kernel; logs = c.self.inside.logs; undone = c.self.inside.undone } in
    let served : ServesTracked t c.args.owner c.args.update (Ok c.in-Ok.reply) (record { kernel = c.ask.new.kernel; logs = set c.self.inside.logs c.from.result c.note.new.self; undone = c.self.inside.undone }) =
    subst (λ place. ServesTracked t c.args.owner c.args.update (Ok c.in-Ok.reply) (record { kernel = c.ask.new.kernel; logs = set c.self.inside.logs place c.note.new.self; undone = c.self.inside.undone })) (sym c.from.ensures)
    (serves_next t c.ask.new.kernel c.args.owner c.args.update c.ask.result c.in-Ok.reply c.note.new.self c.index-self-from.result c.self.invariant c.requires c.ask.ensures.serves c.in-Ok.is
    (c.note.ensures ∙ ap (λ place. noted c.args.update c.in-Ok.reply (get_or c.self.inside.logs place c.index-self-from.result)) c.from.ensures)) in
    rw (← c.self.view_is) served
