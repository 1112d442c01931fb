-- What the top call answers, and what it writes.
-- Here: AreAccepted, AreAcceptedAs, FirstRefused; RunAnswers, CheckAnswers; IsWritten, IsServed, IsTooLong; WritesNothing, Writes
use Rattle.std.specs.Prelude.{◌≡◌, ℕ, ◌+◌, ◌<◌, ◌≤◌, ◌⊎◌, Bool, true, false, List, [], ◌∷◌, ◌++◌, length, ℤ, Option, None, Some, IfSome, Ok, Err}
use Rattle.std.specs.List.{list_any}
use Rattle.checked_tree.specs.declared.units.CheckedUnit.{CheckedUnit}
use Rattle.command_words.specs.Command.{CommandWords, run_words, check_words}
use Rattle.driver_front.specs.declared.causes.Cause.{Cause}
use Rattle.driver_front.specs.Reasons.{IsAccepted, IsRefusedAt, spelling_of}
use Rattle.driver_front.specs.Verdict.{Verdict}
use Rattle.run_report.specs.declared.item.Item.{Item}
use Rattle.run_report.specs.declared.item.Item.TheVariants as item
use Rattle.run_report.specs.Lines.{line_of}
use Rattle.scenario.specs.declared.event.Event.{Event}
use Rattle.scenario.specs.declared.refusal.ScenarioRefusal.{ScenarioRefusal}
use Rattle.scenario.specs.declared.refusal.ScenarioRefusal.TheVariants as refusal
use Rattle.scenario.specs.Scenarios.{scenario_of, version_of}
use Rattle.sd_engine.specs.declared.status.Status.{Status}
use Rattle.sd_engine.specs.declared.status.Status.TheVariants as status
use Rattle.sd_outside.specs.declared.read.TextFault.{TextFault}
use Rattle.sd_outside.specs.declared.read.TextFault.TheVariants as fault
use Rattle.sd_outside.specs.Sink.{more, IsCut}
use Rattle.world_core.specs.Events.{is_failure, items_of, text_of}

-- ---- drivers' texts

-- the most bytes of a text
abbrev pub most_bytes : ℕ
most_bytes = 1048576

-- each text is accepted
abbrev pub AreAccepted : List (List ℕ) → Type 0
AreAccepted [] = Unit {0}
AreAccepted (t ∷ ts) = IsAccepted t × AreAccepted ts

-- each text is accepted, as this unit
abbrev pub AreAcceptedAs : List (List ℕ) → List CheckedUnit → Type 0
AreAcceptedAs [] [] = Unit {0}
AreAcceptedAs [] (unit ∷ units) = ⊥
AreAcceptedAs (t ∷ ts) [] = ⊥
AreAcceptedAs (t ∷ ts) (unit ∷ units) = Verdict t (Ok unit) × AreAcceptedAs ts units

-- the first text that is refused is the j-th, counted from k, at line n for the cause c
abbrev pub FirstRefused : ℕ → List (List ℕ) → ℕ → ℕ → Cause → Type 0
FirstRefused k [] j n c = ⊥
FirstRefused k (t ∷ ts) j n c = ((j ≡ k) × IsRefusedAt t n c) ⊎ (IsAccepted t × FirstRefused (k + 1) ts j n c)

-- ---- what a run writes

-- the status of a run that is written whole: whether a line of it tells that a driver has failed, or that a step had no meaning
abbrev pub status_when : Bool → Status
status_when true = status.DriverFailed
status_when false = status.Done

abbrev pub status_of_run : List Item → Status
status_of_run items = status_when (list_any is_failure items)

-- how a scenario that has no reading is told: the line that has none, or with which a limit is passed
abbrev pub told_of : ScenarioRefusal → Option Item
told_of (refusal.NoLine line) = Some (item.Unread line)
told_of (refusal.Limit line limit) = Some (item.PastLimit line)
told_of refusal.Memory = None

-- What a run of these drivers' texts under a scenario writes, with at most so many steps, and its status where it is written whole: the
-- first text that is refused; or, where all are accepted, the first line with which the scenario has no reading for so many drivers; or
-- else the run of the drivers under the scenario's events, with its version and its device answers.
pub data RunAnswers (bound : ℕ) (scenario : List ℕ) (texts : List (List ℕ)) : List ℕ → Status → Type 0 where
  run_refused : (k n : ℕ) (c : Cause) → FirstRefused 1 texts k n c
      → RunAnswers bound scenario texts (line_of (item.Refused k n (spelling_of c))) status.Refused
  bad_scenario : (r : ScenarioRefusal) (told : Item) → AreAccepted texts → scenario_of (length texts) scenario ≡ Err r
      → told_of r ≡ Some told
      → RunAnswers bound scenario texts (line_of told) status.BadScenario
  run_done : (units : List CheckedUnit) (events : List Event) (answers : List ℤ) → AreAcceptedAs texts units
      → scenario_of (length texts) scenario ≡ Ok (events, answers)
      → RunAnswers bound scenario texts (text_of units (version_of scenario) answers events bound)
      (status_of_run (items_of units (version_of scenario) answers events bound))

-- ---- what a check writes

-- a line for each text that is accepted, counted from k
abbrev pub accepted_lines : ℕ → List (List ℕ) → List ℕ
accepted_lines k [] = []
accepted_lines k (t ∷ ts) = line_of (item.Accepted k) ++ accepted_lines (k + 1) ts

-- what a check of these texts writes, and its status where it is written whole
pub data CheckAnswers (texts : List (List ℕ)) : List ℕ → Status → Type 0 where
  check_refused : (k n : ℕ) (c : Cause) → FirstRefused 1 texts k n c
      → CheckAnswers texts (line_of (item.Refused k n (spelling_of c))) status.Refused
  accepted : AreAccepted texts → CheckAnswers texts (accepted_lines 1 texts) status.Done

-- ---- what is served

-- what was written, by the status: all of the answer, or a front part of one where a write failed
pub data IsWritten (answers : List ℕ → Status → Type 0) (before now : Option (List ℕ)) : Status → Type 0 where
  whole : {output : List ℕ} {s : Status} → answers output s → now ≡ more before output → IsWritten answers before now s
  cut : {output : List ℕ} {s : Status} → answers output s → IsCut now (more before output) → IsWritten answers before now status.WriteFault

-- a text that was read: what was left of its name, where the shelf tells it, and not too long
pub record IsText (left : Option (List ℕ)) (text : List ℕ) : Type 0 where
  pub is : IfSome left (λ bytes. text ≡ bytes)
  pub short : length text ≤ most_bytes

-- texts that were read, one for each name
abbrev pub AreTexts : (left : List ℕ → Option (List ℕ)) → List (List ℕ) → List (List ℕ) → Type 0
AreTexts left [] [] = Unit {0}
AreTexts left [] (text ∷ texts) = ⊥
AreTexts left (name ∷ names) [] = ⊥
AreTexts left (name ∷ names) (text ∷ texts) = IsText (left name) text × AreTexts left names texts

-- the texts were read that the command names, and their answer was written
abbrev pub IsServed : (left : List ℕ → Option (List ℕ)) (before now : Option (List ℕ)) (s : Status) → CommandWords → Type 0
IsServed left before now s (run_words scenario drivers steps) =
    (plan : List ℕ) × (texts : List (List ℕ)) × IsText (left scenario) plan × AreTexts left drivers texts
    × IsWritten (RunAnswers steps plan texts) before now s
IsServed left before now s (check_words files) =
    (texts : List (List ℕ)) × AreTexts left files texts × IsWritten (CheckAnswers texts) before now s

-- the text is too long, where it is told
abbrev pub IsLong : Option (List ℕ) → Type 0
IsLong left = IfSome left (λ bytes. most_bytes < length bytes)

-- the first file that was not read whole is too long
abbrev pub IsFirstLong : (left : List ℕ → Option (List ℕ)) → List (List ℕ) → Type 0
IsFirstLong left [] = ⊥
IsFirstLong left (name ∷ names) = IsLong (left name) ⊎ (IfSome (left name) (λ bytes. length bytes ≤ most_bytes) × IsFirstLong left names)

-- the first file of the command that was not read whole is too long
abbrev pub IsTooLong : (left : List ℕ → Option (List ℕ)) → CommandWords → Type 0
IsTooLong left (run_words scenario drivers steps) = IsFirstLong left (scenario ∷ drivers)
IsTooLong left (check_words files) = IsFirstLong left files

-- ---- statuses

-- the statuses of a call that wrote nothing
abbrev pub WritesNothing : Status → Type 0
WritesNothing status.Usage = Unit {0}
WritesNothing status.ReadFault = Unit {0}
WritesNothing status.TooLong = Unit {0}
WritesNothing status.OutOfMemory = Unit {0}
WritesNothing _ = ⊥

-- the statuses of a call that wrote, or tried to
abbrev pub Writes : Status → Type 0
Writes status.Refused = Unit {0}
Writes status.BadScenario = Unit {0}
Writes status.WriteFault = Unit {0}
Writes status.Done = Unit {0}
Writes status.DriverFailed = Unit {0}
Writes _ = ⊥

-- the statuses of a call whose texts were read
abbrev pub IsAfterTexts : Status → Type 0
IsAfterTexts status.OutOfMemory = Unit {0}
IsAfterTexts s = Writes s

-- the status of a text that was not read
abbrev pub status_of : TextFault → Status
status_of fault.ReadFault = status.ReadFault
status_of fault.TooLong = status.TooLong
status_of fault.Memory = status.OutOfMemory

-- the statuses of a call whose words are a command
abbrev pub IsPossible : Status → Type 0
IsPossible status.Usage = ⊥
IsPossible _ = Unit {0}
