use Rattle.std.proofs.Common.{sym, ◌∙◌}
use Rattle.world_core.specs.Script.{◌>>◌}
use Rattle.world_core.specs.Delivering.{deliver}
use Rattle.world_core.specs.Restarting.{restarts}
use Rattle.world.specs.Happening.{takes_from, happens_from}
use Rattle.world.proofs.Standing.{leads-then}
use Rattle.world.proofs.Composing.{leads-over, leads-unless_over}
use Rattle.world.proofs.Calm.{calm-good, quiets-deliver}
use Rattle.world.proofs.Lines.{ready-after}
use Rattle.world.proofs.Due.{due-after, sets-deliver}
use Rattle.world.proofs.Happens.{rests-takes, sets-takes_from}
use Rattle.world.proofs.live.Live.happen.Goals as goal

pub returns-then-is_over : goal.returns-then-is_over
unfolding happens_from
returns-then-is_over g c =
    leads-over (takes_from c.args.answers.now c.args.event.now >> deliver >> restarts) (sym c.is_over.ensures ∙ c.if-is_over.true)

pub deliver-requires : goal.deliver-requires
deliver-requires g c = record { ready = ready-after c.requires.ready c.take.ensures (rests-takes c.args.answers.now c.args.event.now c.requires.fits) }

pub restart_all-requires-clause-ready : goal.restart_all-requires-clause-ready
restart_all-requires-clause-ready g c =
    ready-after (ready-after c.requires.ready c.take.ensures (rests-takes c.args.answers.now c.args.event.now c.requires.fits)) c.deliver.ensures quiets-deliver

pub restart_all-requires-clause-due : goal.restart_all-requires-clause-due
restart_all-requires-clause-due g c =
    due-after (calm-good (ready-after c.requires.ready c.take.ensures (rests-takes c.args.answers.now c.args.event.now c.requires.fits)).calm)
    c.deliver.ensures sets-deliver
    (due-after (calm-good c.requires.ready.calm) c.take.ensures (sets-takes_from c.args.answers.now c.args.event.now c.requires.fits) c.requires.due)

pub returns : goal.returns
unfolding happens_from
returns g c = leads-unless_over (takes_from c.args.answers.now c.args.event.now >> deliver >> restarts) (sym c.is_over.ensures ∙ c.if-is_over.false)
    (leads-then c.take.ensures (leads-then c.deliver.ensures c.restart_all.ensures))
