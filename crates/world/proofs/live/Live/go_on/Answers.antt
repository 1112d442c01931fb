use Rattle.std.proofs.Common.{sym, ap}
use Rattle.world.specs.Stepped.{left_by}
use Rattle.world.proofs.Standing.{leads-nothing, leads-is}
use Rattle.world.proofs.Acting.{left-live, left-idle}
use Rattle.world.proofs.live.Live.go_on.Goals as goal

pub returns-in-Went : goal.returns-in-Went
returns-in-Went g c = leads-is (ap (left_by c.args.who c.args.line) (sym c.in-Went.is)) leads-nothing

pub ask-requires-clause-live : goal.ask-requires-clause-live
ask-requires-clause-live g c = left-live _ _ c.args.answer c.in-Wants.call c.requires.owner c.in-Wants.is

pub returns-in-Wants : goal.returns-in-Wants
returns-in-Wants g c = leads-is (ap (left_by c.args.who c.args.line) (sym c.in-Wants.is)) c.ask.ensures

pub end_activity-requires-clause-idle : goal.end_activity-requires-clause-idle
end_activity-requires-clause-idle g c = left-idle _ _ c.args.answer c.in-Ended.value c.requires.owner c.in-Ended.is

pub returns-in-Ended : goal.returns-in-Ended
returns-in-Ended g c = leads-is (ap (left_by c.args.who c.args.line) (sym c.in-Ended.is)) c.end_activity.ensures

pub returns-in-Failed : goal.returns-in-Failed
returns-in-Failed g c = leads-is (ap (left_by c.args.who c.args.line) (sym c.in-Failed.is)) c.fail.ensures

pub returns-in-Wild : goal.returns-in-Wild
returns-in-Wild g c = leads-is (ap (left_by c.args.who c.args.line) (sym c.in-Wild.is)) c.stray.ensures
