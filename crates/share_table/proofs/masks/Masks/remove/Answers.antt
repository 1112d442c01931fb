use Rattle.std.proofs.Common.{◌≡◌, ◌+◌, ◌*◌, arith}
use Rattle.share_table.proofs.Calls.{loses_mask_at}
use Rattle.share_table.proofs.masks.Masks.remove.Goals as goal

pub returns : goal.returns
returns c =
    let p : c.from.result * 9 + c.from-2.result ≡ c.args.who.owner * 9 + c.args.who.task = omega arith in
    loses_mask_at c.args.self.now c.self.inside.held c.args.who (c.from.result * 9 + c.from-2.result) c.self.view_is p c.self.invariant c.requires.owner c.requires.task
