use Rattle.std.proofs.Common.{refl, ap, sym}
use Rattle.world.specs.Ready.{served_from}
use Rattle.world.proofs.Standing.{leads-is}
use Rattle.world.proofs.Turns.{says}
use Rattle.world.proofs.live.Live.serve_line.Goals as goal

pub returns-in-None : goal.returns-in-None
returns-in-None g c = leads-is (ap (served_from c.args.line c.args.holders.now) (sym c.in-None.is)) (says _ _ _ refl c.say.ensures)

pub returns-in-Some : goal.returns-in-Some
returns-in-Some g c = leads-is (ap (served_from c.args.line c.args.holders.now) (sym c.in-Some.is)) c.serve_each.ensures
