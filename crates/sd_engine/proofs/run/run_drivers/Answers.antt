-- The drivers are as many as the texts, for which the scenario was read.
use Rattle.std.proofs.Common.{◌≤◌, sym, subst}
use Rattle.sd_engine.specs.Serve.{whole, cut}
use Rattle.sd_engine.proofs.Accepting.{as-many}
use Rattle.sd_engine.proofs.Ran.{plays, run-written, scenario-told}
use Rattle.sd_engine.proofs.run.run_drivers.Goals as goal

pub run_plan-requires-clause-few : goal.run_plan-requires-clause-few
run_plan-requires-clause-few g c = subst (λ n. n ≤ 4) (sym (as-many (λ v. v.items) 1 _ _ c.requires.drivers)) c.requires.few

pub run_plan-requires-clause-plays : goal.run_plan-requires-clause-plays
run_plan-requires-clause-plays g c =
    plays _ _ _ _ (as-many (λ v. v.items) 1 _ _ c.requires.drivers) c.count_of.ensures c.in-Ok.ensures.fits c.in-Ok.ensures.few

pub returns-in-Ok-clause-output : goal.returns-in-Ok-clause-output
returns-in-Ok-clause-output g c writes =
    run-written (λ v. v.items) _ _ _ _ _ c.requires.drivers c.count_of.ensures _ _ _ _ c.in-Ok.ensures.scenario c.in-Ok.ensures.version
    c.run_plan.ensures.runs writes

pub returns-in-Ok-write_item-clause-output : goal.returns-in-Ok-write_item-clause-output
returns-in-Ok-write_item-clause-output g c writes =
    whole (scenario-told (λ v. v.items) _ _ _ _ _ c.requires.drivers c.count_of.ensures _ _ c.in-Some.ensures c.in-Err.ensures.refusal)
    c.in-Ok-write_item.ensures.ok

pub returns-in-Some-clause-output : goal.returns-in-Some-clause-output
returns-in-Some-clause-output g c writes =
    cut (scenario-told (λ v. v.items) _ _ _ _ _ c.requires.drivers c.count_of.ensures _ _ c.in-Some.ensures c.in-Err.ensures.refusal)
    c.in-Err-write_item.ensures.err
