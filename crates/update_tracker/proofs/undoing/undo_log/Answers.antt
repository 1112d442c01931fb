-- Item by item, to the end of the log.
use Rattle.update_tracker.specs.NetPart.{read_back}
use Rattle.update_tracker.proofs.UndoLoop.{kept_first, kept_can, kept_room, kept_next, kept_loses, kept_listed, kept_paid}
use Rattle.update_tracker.proofs.undoing.undo_log.Goals as goal

pub loop-item-init : goal.loop-item-init
loop-item-init g c = kept_first c.args.kernel.now c.args.owner (read_back c.args.log.now) c.clear.new.self c.args.steps.now c.requires.some c.requires.room c.clear.ensures

pub undo-requires-clause-can : goal.undo-requires-clause-can
undo-requires-clause-can g c = kept_can _ c.loop-item.kernel c.args.owner _ _ _ _ _ c.in-Some.item (read_back c.pop.new.self) c.requires.owner c.loop-item.invariant c.in-Some.ensures

pub push-requires : goal.push-requires
push-requires g c = kept_room _ _ _ _ _ c.loop-item.undone _ _ c.in-Some.item (read_back c.pop.new.self) c.loop-item.invariant c.in-Some.ensures

pub loop-item-preserved : goal.loop-item-preserved
loop-item-preserved g c = kept_next _ _ c.undo.new.kernel _ _ _ _ c.push.new.self _ _ c.undo.new.steps c.in-Some.item (read_back c.pop.new.self) c.loop-item.invariant c.in-Some.ensures c.undo.ensures.undoes c.undo.ensures.clock c.undo.ensures.share c.push.ensures c.undo.ensures.steps

pub returns-clause-loses : goal.returns-clause-loses
returns-clause-loses g c = kept_loses _ _ _ _ _ _ _ _ c.loop-item.invariant c.in_default.ensures.0

pub returns-clause-clock : goal.returns-clause-clock
returns-clause-clock g c = c.loop-item.invariant.clock

pub returns-clause-share : goal.returns-clause-share
returns-clause-share g c = c.loop-item.invariant.share

pub returns-clause-undone : goal.returns-clause-undone
returns-clause-undone g c = kept_listed _ _ _ _ _ _ _ _ c.loop-item.invariant c.in_default.ensures.0

pub returns-clause-steps : goal.returns-clause-steps
returns-clause-steps g c = kept_paid _ _ _ _ _ _ _ _ c.loop-item.invariant
