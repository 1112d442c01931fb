use Rattle.std.proofs.Common.{◌≡◌, ◌+◌, ◌*◌, arith}
use Rattle.share_table.proofs.Calls.{unmask_at}
use Rattle.share_table.proofs.masks.Masks.unmask.Goals as goal

pub returns-clause-serves : goal.returns-clause-serves
returns-clause-serves c =
    let p : c.from.result * 9 + c.from-2.result ≡ c.args.who.owner * 9 + c.args.who.task = omega arith in
    unmask_at c.args.self.now c.self.inside.held c.args.who (c.from.result * 9 + c.from-2.result) c.self.view_is p c.self.invariant c.requires.owner c.requires.task c.if-not-self-place.false
