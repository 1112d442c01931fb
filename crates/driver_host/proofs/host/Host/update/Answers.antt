use Rattle.std.proofs.Common.{refl, Ok, Err}
use Rattle.driver_host.proofs.Hosting.{host-updated}
use Rattle.driver_host.proofs.host.Host.update.Goals as goal

pub returns-in-Ok : goal.returns-in-Ok
returns-in-Ok c = host-updated _ _ c.args.owner c.args.update (Ok c.in-Ok._reply) c.requires.proper c.requires.no_block c.requires.timely c.in-Ok.ensures.serves c.in-Ok.ensures.err c.in-Ok.ensures.share refl refl

pub returns-in-Err : goal.returns-in-Err
returns-in-Err c = host-updated _ _ c.args.owner c.args.update (Err c.in-Err.refusal) c.requires.proper c.requires.no_block c.requires.timely c.in-Err.ensures.serves c.in-Err.ensures.err c.in-Err.ensures.share refl refl
