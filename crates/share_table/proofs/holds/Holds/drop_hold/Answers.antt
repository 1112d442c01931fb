use Rattle.std.proofs.Common.{◌≡◌, ◌≢◌, get_or, ◌+◌, ◌*◌, ◌<◌, arith}
use Rattle.sd_base.proofs.Numbered.{number_is_cast, number_none_cast}
use Rattle.share_table.proofs.Calls.{drop_none_at, drop_zero_at, drop_done_at}
use Rattle.share_table.proofs.holds.Holds.drop_hold.Goals as goal

pub returns-in_default-clause-serves : goal.returns-in_default-clause-serves
returns-in_default-clause-serves c = drop_none_at c.args.self.now c.args.owner c.args.domain (number_none_cast 64 c.args.domain c.ranges.domain c.in_default.ensures)

pub returns-then-count-eq0-clause-serves : goal.returns-then-count-eq0-clause-serves
returns-then-count-eq0-clause-serves c =
    let at = number_is_cast 64 c.args.domain c.in-Some.domain c.ranges.domain c.in-Some.ensures in
    let p : c.from.result * 64 + c.from-2.result ≡ c.args.owner * 64 + c.in-Some.domain = omega arith in
    drop_zero_at c.args.self.now c.self.inside.counts c.args.owner c.in-Some.domain (c.from.result * 64 + c.from-2.result) c.args.domain c.self.view_is at.0 at.1 p c.if-count-eq0.true

pub returns-clause-serves : goal.returns-clause-serves
returns-clause-serves c =
    let at = number_is_cast 64 c.args.domain c.in-Some.domain c.ranges.domain c.in-Some.ensures in
    let p : c.from.result * 64 + c.from-2.result ≡ c.args.owner * 64 + c.in-Some.domain = omega arith in
    let some : 0 < get_or c.self.inside.counts (c.from.result * 64 + c.from-2.result) 0 = (let other : get_or c.self.inside.counts (c.from.result * 64 + c.from-2.result) 0 ≢ 0 = c.if-count-eq0.false in omega arith) in
    drop_done_at c.args.self.now c.self.inside.counts c.args.owner c.in-Some.domain (c.from.result * 64 + c.from-2.result) c.args.domain c.self.view_is at.0 at.1 p c.self.invariant c.requires some
