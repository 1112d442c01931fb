use Rattle.sd_base.proofs.Numbered.{number_is_cast}
use Rattle.share_table.proofs.Calls.{loses_lock_at}
use Rattle.share_table.proofs.locks.Locks.remove.Goals as goal

pub returns-in-Some : goal.returns-in-Some
returns-in-Some c =
    let at = number_is_cast 64 c.args.k c.in-Some.place c.ranges.k c.in-Some.ensures in
    loses_lock_at c.args.self.now c.self.inside.holders c.args.who c.in-Some.place c.from.result c.args.k c.self.view_is at.0 at.1 c.from.ensures c.self.invariant c.requires
