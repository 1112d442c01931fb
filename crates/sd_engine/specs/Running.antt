-- How far a command has come: texts that were read, drivers that were accepted, and what a run has left.
-- Here: IsWithin, AreShort, AreTextsBehind, AreDrivers, AreDriversBehind, IsRefusal, IsRun
use Rattle.std.specs.Prelude.{◌≡◌, ℕ, ◌+◌, ◌≤◌, true, List, [], ◌∷◌, ◌++◌, length, Option, Ok}
use Rattle.command_words.specs.Command.{CommandWords, run_words, check_words, all_differ}
use Rattle.driver_front.specs.Verdict.{Verdict}
use Rattle.safe_code.specs.Drivers.{Driver}
use Rattle.sd_engine.specs.declared.status.Status.{Status}
use Rattle.sd_engine.specs.declared.status.Status.TheVariants as status
use Rattle.scenario.specs.declared.plan.Scenario.{Scenario}
use Rattle.sd_engine.specs.declared.front.FrontRefusal.{FrontRefusal}
use Rattle.sd_engine.specs.declared.front.FrontRefusal.TheVariants as front
use Rattle.sd_engine.specs.Serve.{AreTexts, FirstRefused, most_bytes, status_when}
use Rattle.sd_outside.specs.Sink.{more, IsCut}
use Rattle.world.specs.Runs.{run_fails, run_text}

-- what holds of every command: no file is named twice, and there are four drivers at most
abbrev pub IsWithin : CommandWords → Type 0
IsWithin (run_words scenario drivers steps) = (all_differ (scenario ∷ drivers) ≡ true) × (length drivers ≤ 4)
IsWithin (check_words files) = (all_differ files ≡ true) × (length files ≤ 4)

-- no text is too long
abbrev pub AreShort : List (List ℕ) → Type 0
AreShort [] = Unit {0}
AreShort (t ∷ ts) = (length t ≤ most_bytes) × AreShort ts

-- the texts are those that were there before and, behind them, those of the names
pub record AreTextsBehind (left : List ℕ → Option (List ℕ)) (names before now : List (List ℕ)) : Type 0 where
  pub read : List (List ℕ)
  pub behind : now ≡ before ++ read
  pub texts : AreTexts left names read

-- the drivers of these texts, all of which are accepted; the first has the number k
abbrev pub AreDrivers : ℕ → List (List ℕ) → List Driver → Type 0
AreDrivers k [] [] = Unit {0}
AreDrivers k [] (driver ∷ drivers) = ⊥
AreDrivers k (t ∷ ts) [] = ⊥
AreDrivers k (t ∷ ts) (driver ∷ drivers) = (Verdict t (Ok driver.unit) × (driver.file ≡ k)) × AreDrivers (k + 1) ts drivers

-- the drivers are those that were there before and, behind them, those of the texts
pub record AreDriversBehind (k : ℕ) (texts : List (List ℕ)) (before now : List Driver) : Type 0 where
  pub taken : List Driver
  pub behind : now ≡ before ++ taken
  pub drivers : AreDrivers k texts taken

-- how texts are refused, the first of which has the number k: the first that is; of want of memory nothing is said
abbrev pub IsRefusal : ℕ → List (List ℕ) → FrontRefusal → Type 0
IsRefusal k texts (front.Text text) = FirstRefused k texts text.driver text.line text.cause
IsRefusal k texts front.Memory = Unit {0}

-- What a run of these drivers leaves: all its lines, and the status by what stands in them; or a front part of them, where a write failed;
-- or nothing, for want of memory.
pub data IsRun (drivers : List Driver) (plan : Scenario) (bound : ℕ) (before now : Option (List ℕ)) : Status → Type 0 where
  run_whole : now ≡ more before (run_text drivers plan bound)
      → IsRun drivers plan bound before now (status_when (run_fails drivers plan bound))
  run_cut : IsCut now (more before (run_text drivers plan bound)) → IsRun drivers plan bound before now status.WriteFault
  run_none : now ≡ before → IsRun drivers plan bound before now status.OutOfMemory
