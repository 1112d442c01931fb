use Rattle.std.proofs.Common.{◌≡◌, ◌+◌, ◌*◌, arith}
use Rattle.sd_base.proofs.Numbered.{number_is_cast}
use Rattle.share_table.proofs.Calls.{loses_hold_at}
use Rattle.share_table.proofs.holds.Holds.remove.Goals as goal

pub returns-in-Some : goal.returns-in-Some
returns-in-Some c =
    let at = number_is_cast 64 c.args.domain c.in-Some.domain c.ranges.domain c.in-Some.ensures in
    let p : c.from.result * 64 + c.from-in-Some.result ≡ c.args.owner * 64 + c.in-Some.domain = omega arith in
    loses_hold_at c.args.self.now c.self.inside.counts c.args.owner c.in-Some.domain (c.from.result * 64 + c.from-in-Some.result) c.args.domain c.self.view_is at.0 at.1 p c.self.invariant c.requires.owner c.requires.held
