use Rattle.std.proofs.Common.{Some}
use Rattle.world_core.specs.declared.run_state.Standing.TheVariants.{Loaded}
use Rattle.world.proofs.Orders.{calls-is, calls-some}
use Rattle.world.proofs.live.Live.make_call.Goals as goal

pub begin-requires-clause-idle : goal.begin-requires-clause-idle
begin-requires-clause-idle g c = c.requires.idle c.in-Loaded.is

pub returns-in-Some : goal.returns-in-Some
returns-in-Some g c = calls-is c.args.driver c.args.task c.args.values.now _ Loaded _ (Some c.in-Some.number) c.in-Loaded.is c.in-Some.is
    (calls-some c.args.driver c.args.task c.args.values.now c.in-Some.number (c.begin.ensures _ _ _))
