use Rattle.std.proofs.Common.{length}
use Rattle.update_tracker.specs.NetPart.{read_back}
use Rattle.update_tracker.proofs.UndoLoop.{Kept}
use Rattle.update_tracker.proofs.undoing.undo_log.Given as goal

abbrev pub invariant-loop-item : goal.invariant-loop-item
invariant-loop-item g l = Kept l.fn.kernel l.kernel l.owner (read_back l.fn.log) (read_back l.log) l.undone l.fn.steps l.steps

abbrev pub decreases-loop-item : goal.decreases-loop-item
decreases-loop-item g l = length (read_back l.log)
