-- The lock is that of the task that the table has there.
use Rattle.std.proofs.Common.{◌≡◌, Some, rules}
use Rattle.std.proofs.lemmas.Int.{to_z-of_z}
use mir.Syntax.{w32}
use mir.Val.{SFits}
use Rattle.sd_base.specs.History.{lock_key}
use Rattle.sd_base.specs.Part.{Loses}
use Rattle.share_table.specs.Locks.{lock_at}
use Rattle.share_table.specs.Table.{HoldsShares}
use Rattle.update_tracker.proofs.UndoneLogs.{lock_loses}
use Rattle.update_tracker.proofs.undoing.undo_lock.Goals as goal

pub returns-in-Some-clause-loses : goal.returns-in-Some-clause-loses
returns-in-Some-clause-loses g c =
    let fits : SFits w32 c.args.lock = c.ranges.lock in
    let held : Some c.in-Some.who ≡ lock_at c.args.shares.now.locks c.args.lock = search rules in
    let loses : Loses HoldsShares c.args.shares.now c.in-Some.who.owner (lock_key c.args.lock c.in-Some.who.task) c.remove_lock.new.self = simp to_z-of_z at c.remove_lock.ensures.removed in
    lock_loses c.args.shares.now c.remove_lock.new.self c.args.owner c.args.lock c.in-Some.who held loses
