use Rattle.share_table.specs.Answers.{refusal_of_share}
use Rattle.share_table.proofs.Calls.{hold_call}
use Rattle.share_table.proofs.shares.Shares.hold.Goals as goal

pub returns-clause-serves : goal.returns-clause-serves
returns-clause-serves c =
    hold_call c.args.self.now c.self.inside.locks c.self.inside.masks c.self.inside.holds c.hold.new.self c.self.inside.work c.args.owner c.args.domain (refusal_of_share c.hold.result) c.self.view_is c.ranges.domain c.hold.ensures.serves
