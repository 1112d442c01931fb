use Rattle.update_tracker.proofs.FrontWork.{empty_refuses, others_refuses}
use Rattle.update_tracker.proofs.requests.take.Goals as goal

pub returns-in_default-clause-serves : goal.returns-in_default-clause-serves
returns-in_default-clause-serves c = empty_refuses c.args.shares.now c.args.owner c.in_default.ensures.value

pub returns-then-work-owner-clause-serves : goal.returns-then-work-owner-clause-serves
returns-then-work-owner-clause-serves c = others_refuses c.args.shares.now c.args.owner c.in-Some.work c.in-Some.ensures.value c.if-work-owner.true
