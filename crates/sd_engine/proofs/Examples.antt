-- Worked examples of what a run answers, by computation.
use Rattle.std.proofs.Common.{◌≡◌, ℕ, List, [], ◌∷◌, Some, Ok, Err, refl}
use Rattle.std.specs.Prelude.{codes}
use Rattle.run_report.specs.declared.item.Item.TheVariants as item
use Rattle.sd_base.specs.declared.actors.Who.{Who}
use Rattle.sd_base.specs.declared.kinds.FailKind.TheVariants as kind
use Rattle.scenario.specs.declared.event.Event.TheVariants as event
use Rattle.scenario.specs.declared.refusal.ScenarioRefusal.TheVariants as refusal
use Rattle.scenario.specs.Scenarios.{scenario_of, version_of}
use Rattle.sd_engine.specs.declared.status.Status.TheVariants as status
use Rattle.sd_engine.specs.Serve.{status_of_run, told_of}

-- ---- a scenario that has no reading is told by its first line that has none

-- `walk` on its second line
abbrev frob : List ℕ
frob = codes "load d1 1\nwalk 1\nwalk 2\n"

frob-unread : scenario_of 1 frob ≡ Err (refusal.NoLine 2)
frob-unread = refl

frob-told : told_of (refusal.NoLine 2) ≡ Some (item.Unread 2)
frob-told = refl

-- a second driver that is none, and one that is
abbrev of-two : List ℕ
of-two = codes "load d2 1\n"

none-second : scenario_of 1 of-two ≡ Err (refusal.NoLine 1)
none-second = refl

a-second : scenario_of 2 of-two ≡ Ok (event.Load 2 1 0 ∷ [], [])
a-second = refl

-- ---- the status of a run that is written whole

abbrev first-task : Who
first-task = record { owner = 1; task = 1 }

a-failure : status_of_run (item.Loaded 1 ∷ item.Failed first-task kind.Held 3 ∷ item.End 5 ∷ []) ≡ status.DriverFailed
a-failure = refl

-- a step without a meaning counts as a failure
no-meaning : status_of_run (item.Wild first-task 3 ∷ item.End 5 ∷ []) ≡ status.DriverFailed
no-meaning = refl

-- a run that the bound stopped is done, where nothing failed before
stopped : status_of_run (item.Loaded 1 ∷ item.Bound 100000 ∷ []) ≡ status.Done
stopped = refl

-- ---- events

a-scenario : scenario_of 2 (codes "load d1 1\nrun 1 1\nload d2 2\nfinish 2\nfinish 1\nfinish 2")
    ≡ Ok (event.Load 1 1 0 ∷ event.Run 1 1 ∷ event.Load 2 2 0 ∷ event.Finish 2 ∷ event.Finish 1 ∷ event.Finish 2 ∷ [], [])
a-scenario = refl

a-version : version_of (codes "# shared lines\nversion 2\nload d1 1 restarts 1\n") ≡ 2
a-version = refl
