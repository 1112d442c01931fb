use Rattle.std.proofs.Common.{◌≡◌, ◌+◌, ◌*◌, arith}
use Rattle.sd_base.proofs.Numbered.{number_is_cast}
use Rattle.share_table.proofs.Calls.{hold_full_at, hold_done_at}
use Rattle.share_table.proofs.holds.Holds.hold.Goals as goal

pub returns-then-count-ge-MOST-clause-serves : goal.returns-then-count-ge-MOST-clause-serves
returns-then-count-ge-MOST-clause-serves c =
    let at = number_is_cast 64 c.args.domain c.in-Some.domain c.ranges.domain c.in-Some.ensures in
    let p : c.from.result * 64 + c.from-2.result ≡ c.args.owner * 64 + c.in-Some.domain = omega arith in
    hold_full_at c.args.self.now c.self.inside.counts c.args.owner c.in-Some.domain (c.from.result * 64 + c.from-2.result) c.args.domain c.self.view_is at.0 at.1 p c.if-count-ge-MOST.true

pub returns-clause-serves : goal.returns-clause-serves
returns-clause-serves c =
    let at = number_is_cast 64 c.args.domain c.in-Some.domain c.ranges.domain c.in-Some.ensures in
    let p : c.from.result * 64 + c.from-2.result ≡ c.args.owner * 64 + c.in-Some.domain = omega arith in
    hold_done_at c.args.self.now c.self.inside.counts c.args.owner c.in-Some.domain (c.from.result * 64 + c.from-2.result) c.args.domain c.self.view_is at.0 at.1 p c.self.invariant c.requires c.if-count-ge-MOST.false
