use Rattle.std.proofs.Common.{refl, ap}
use Rattle.world_core.specs.Script.{say}
use Rattle.world.proofs.Standing.{leads-is}
use Rattle.world.proofs.Turns.{says}
use Rattle.world.proofs.Acting.{ends-failing, ends-told}
use Rattle.world.proofs.live.Live.end_activity.Goals as goal

pub returns-in-Some : goal.returns-in-Some
returns-in-Some g c = ends-failing c.args.who c.args.line c.args.value c.left_held.result c.left_held.ensures c.in-Some.kind c.in-Some.is c.fail.ensures

pub returns-in-None : goal.returns-in-None
returns-in-None g c = ends-told c.args.who c.args.line c.args.value c.left_held.result c.left_held.ensures c.in-None.is c.requires.idle
    (leads-is (ap say c.done_item-item.ensures) (says _ _ _ refl c.say.ensures))
