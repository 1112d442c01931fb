-- The run of accepted drivers is the answer to their texts.
use Rattle.std.proofs.Common.{◌≡◌, ℕ, suc, ◌≤◌, Bool, true, false, List, [], ◌∷◌, length, map, Option, Some, Ok, Err, ◌⊎◌, inl, inr, refl, sym, ◌∙◌, ap, subst}
use Rattle.run_report.specs.declared.item.Item.{Item}
use Rattle.run_report.specs.Lines.{line_of}
use Rattle.safe_code.specs.Drivers.{Driver}
use Rattle.scenario.specs.declared.plan.Scenario.{Scenario}
use Rattle.scenario.specs.declared.refusal.ScenarioRefusal.{ScenarioRefusal}
use Rattle.scenario.specs.declared.refusal.ScenarioRefusal.TheVariants as refusal
use Rattle.scenario.specs.Fits.{AllFit, AnswersFollow}
use Rattle.scenario.specs.Scenarios.{scenario_of, version_of}
use Rattle.sd_engine.specs.declared.status.Status.{Status}
use Rattle.sd_engine.specs.declared.status.Status.TheVariants as status
use Rattle.sd_engine.specs.Running.{AreDrivers, IsRun, run_whole, run_cut, run_none}
use Rattle.sd_engine.specs.Serve.{IsAfterTexts, IsWritten, RunAnswers, Writes, bad_scenario, cut, run_done, status_of_run, status_when, told_of, whole}
use Rattle.sd_engine.proofs.Accepting.{accepted-all, accepted-as}
use Rattle.sd_outside.specs.Sink.{more}
use Rattle.world.specs.Runs.{IsPlayable, run_fails, run_text}
use Rattle.world.specs.Standing.{units_of}
use Rattle.world_core.specs.Events.{items_of, text_of}

-- a map has as many elements
length-mapped : {X Y : Type 0} (f : X → Y) (xs : List X) → length (map f xs) ≡ length xs
length-mapped f [] = refl
length-mapped f (x ∷ xs) = ap (λ n. suc n) (length-mapped f xs)

-- ---- statuses

-- a run that is written whole ends neither with a fault nor for want of memory
pub no-fault : (failed : Bool) (s : Status) → s ≡ status_when failed → s ≡ status.WriteFault → ⊥
no-fault true s is same = cc
no-fault false s is same = cc

no-want : (failed : Bool) → status_when failed ≡ status.OutOfMemory → ⊥
no-want true same = cc
no-want false same = cc

possible-whole : (failed : Bool) → IsAfterTexts (status_when failed)
possible-whole true = tt
possible-whole false = tt

module _ (drivers : List Driver) (plan : Scenario) (bound : ℕ) (before now : Option (List ℕ)) where
  -- a run that is written whole
  pub ran-whole : (failed : Bool) (s : Status) → s ≡ status_when failed → failed ≡ run_fails drivers plan bound
      → now ≡ more before (run_text drivers plan bound)
      → IsRun drivers plan bound before now s
  ran-whole failed s is fails written = subst (λ (x : Status). IsRun drivers plan bound before now x) (sym (is ∙ ap status_when fails))
      (run_whole written)

  pub ran-possible : (s : Status) → IsRun drivers plan bound before now s → IsAfterTexts s
  ran-possible _ (run_whole e) = possible-whole (run_fails drivers plan bound)
  ran-possible _ (run_cut c) = tt
  ran-possible _ (run_none e) = tt

  pub ran-nothing : (s : Status) → IsRun drivers plan bound before now s → s ≡ status.OutOfMemory → now ≡ before
  ran-nothing _ (run_whole e) same = absurd (no-want (run_fails drivers plan bound) same)
  ran-nothing _ (run_cut c) same = cc
  ran-nothing _ (run_none e) same = e

-- ---- the answer

module _ {X : Type 0} (f : X → List ℕ) (bound : ℕ) (scenario : List ℕ) (texts : List X) (drivers : List Driver) (n : ℕ)
    (taken : AreDrivers 1 (map f texts) drivers)
    (many : n ≡ length texts) where
  -- the scenario is read for so many drivers as there are texts
  as-texts : n ≡ length (map f texts)
  as-texts = many ∙ sym (length-mapped f texts)

  -- what a run of the accepted drivers leaves is what is written of its answer
  pub run-written : (plan : Scenario) (before now : Option (List ℕ)) (s : Status)
      → scenario_of n scenario ≡ Ok (plan.events.items, plan.answers.items)
      → plan.version ≡ version_of scenario → IsRun drivers plan bound before now s → Writes s
      → IsWritten (RunAnswers bound scenario (map f texts)) before now s
  run-written plan before now s read version ran writes = by s ran writes
    where
      answered : RunAnswers bound scenario (map f texts) (run_text drivers plan bound) (status_when (run_fails drivers plan bound))
      answered =
          subst (λ (v : ℕ). RunAnswers bound scenario (map f texts) (text_of (units_of drivers) v plan.answers.items plan.events.items
          bound)
          (status_of_run (items_of (units_of drivers) v plan.answers.items plan.events.items bound))) (sym version)
          (run_done _ _ _ (accepted-as 1 (map f texts) drivers taken)
          (subst (λ (k : ℕ). scenario_of k scenario ≡ Ok (plan.events.items, plan.answers.items)) as-texts read))

      by : (s : Status) → IsRun drivers plan bound before now s → Writes s
          → IsWritten (RunAnswers bound scenario (map f texts)) before now s
      by _ (run_whole e) w = whole answered e
      by _ (run_cut c) w = cut answered c
      by _ (run_none e) w = absurd w

  -- a scenario that has no reading, as it is told
  pub scenario-told : (r : ScenarioRefusal) (told : Item) → Some told ≡ told_of r → (r ≡ refusal.Memory) ⊎ (scenario_of n scenario ≡ Err r)
      → RunAnswers bound scenario (map f texts) (line_of told) status.BadScenario
  scenario-told r told is (inl memory) =
      let none : Some told ≡ told_of refusal.Memory = subst (λ (x : ScenarioRefusal). Some told ≡ told_of x) memory is in
      cc none
  scenario-told r told is (inr read) =
      bad_scenario r told (accepted-all 1 (map f texts) drivers taken) (subst (λ (k : ℕ). scenario_of k scenario ≡ Err r) as-texts read)
      (sym is)

-- what was read for so many drivers is played by them
pub plays : (drivers many n : ℕ) (plan : Scenario) → drivers ≡ many → n ≡ many
    → AllFit plan.version n plan.events.items × AnswersFollow 0 plan.events.items (length plan.answers.items)
    → length plan.answers.items ≤ 262144 → IsPlayable drivers plan
plays drivers many n plan d m fits few =
    record { fits = subst (λ (k : ℕ). AllFit plan.version k plan.events.items) (m ∙ sym d) fits.0; follows = fits.1; few = few }
