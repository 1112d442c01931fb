use Rattle.std.proofs.Common.{refl, sym, ◌∙◌}
use Rattle.world_core.specs.WorldState.{is_spent}
use Rattle.world_core.specs.Script.{on_run, given, ◌>>◌}
use Rattle.world_core.specs.Stepping.{acts, stopped, one_taken, step}
use Rattle.world.proofs.Standing.{leads-then, leads-run, leads-by_run, leads-yes, leads-no, good-after}
use Rattle.world.proofs.live.Live.step.Goals as goal

pub returns-then-is_spent : goal.returns-then-is_spent
unfolding step
returns-then-is_spent g c = leads-by_run (λ run. given (is_spent run) (on_run stopped) (on_run one_taken >> acts c.args.task))
    (leads-yes (is_spent c.args.self.now.ground.run) (sym c.is_spent.ensures ∙ c.if-is_spent.true) (leads-run _ _ _ stopped c.stop.ensures refl refl refl))

pub act-requires-clause-good : goal.act-requires-clause-good
act-requires-clause-good g c = good-after c.requires.good (leads-run _ _ _ one_taken c.take_one.ensures refl refl refl)

pub returns : goal.returns
unfolding step
returns g c = leads-by_run (λ run. given (is_spent run) (on_run stopped) (on_run one_taken >> acts c.args.task))
    (leads-no (is_spent c.args.self.now.ground.run) (sym c.is_spent.ensures ∙ c.if-is_spent.false)
    (leads-then (leads-run _ _ _ one_taken c.take_one.ensures refl refl refl) c.act.ensures))
