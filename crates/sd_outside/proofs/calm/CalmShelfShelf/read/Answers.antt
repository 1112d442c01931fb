-- What was read of a name is gone from its front, and what is left of other names stays.
use Rattle.sd_outside.proofs.NoFaults.{calm_left-read, LeavesOthers-calm}
use Rattle.sd_outside.proofs.calm.CalmShelfShelf.read.Goals as goal

pub returns-clause-moves : goal.returns-clause-moves
returns-clause-moves c =
    let e = c.read.ensures in
    rw (← c.self.view_is, c.unwrap_or-taken.ensures) (calm_left-read c.self.inside.texts c.read.new.self c.args.name.now c.read.result e.rest e.absent)

pub returns-clause-others : goal.returns-clause-others
returns-clause-others c =
    let e = c.read.ensures in
    rw (← c.self.view_is) (LeavesOthers-calm c.self.inside.texts c.read.new.self c.args.name.now c.read.result e.rest e.absent)
