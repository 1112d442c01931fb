-- What holds of the events of a scenario that was read: their numbers lie in the ranges of the lines,
-- and the ranges of answers follow one another.
-- Here: IsVersion, IsFit, AllFit, AnswersFollow
use Rattle.std.specs.Prelude.{◌≡◌, ◌⊎◌, ◌==◌, if◌then◌else◌, ℕ, ◌+◌, ◌≤◌, List, [], ◌∷◌}
use Rattle.scenario.specs.declared.event.Event.{Event}
use Rattle.scenario.specs.declared.event.Event.TheVariants.{Load, Restart, Unload, Call, Run, Finish, Irq, Tick, Work, Answer, Kernel, Show}

-- a number of a driver, and one of a task
abbrev pub IsDriver : ℕ → ℕ → Type 0
IsDriver drivers driver = (1 ≤ driver) × (driver ≤ drivers)

abbrev pub IsTask : ℕ → Type 0
IsTask task = (1 ≤ task) × (task ≤ 8)

-- the versions, and the most restarts that a load of a version may name
abbrev pub IsVersion : ℕ → Type 0
IsVersion version = (version ≡ 1) ⊎ (version ≡ 2)

abbrev pub most_restarts : ℕ → ℕ
most_restarts version = if version == 2 then 100 else 0

-- The numbers of an event of a scenario of the version lie in their ranges.
abbrev pub IsFit : ℕ → ℕ → Event → Type 0
IsFit version drivers (Load driver task restarts) = IsDriver drivers driver × IsTask task × (restarts ≤ most_restarts version)
IsFit version drivers (Restart driver task) = IsDriver drivers driver × IsTask task
IsFit version drivers (Unload driver) = IsDriver drivers driver
IsFit version drivers (Call driver task name args n) = IsDriver drivers driver × IsTask task × (n ≤ 8)
IsFit version drivers (Run task n) = IsTask task × (n ≤ 10000000)
IsFit version drivers (Finish task) = IsTask task
IsFit version drivers (Irq line) = line ≤ 63
IsFit version drivers (Tick n) = n ≤ 1000000
IsFit version drivers (Work n) = n ≤ 256
IsFit version drivers (Answer port first n) = port ≤ 65535
IsFit version drivers (Kernel event) = Unit {0}
IsFit version drivers Show = Unit {0}

-- So do those of all events.
abbrev pub AllFit : ℕ → ℕ → List Event → Type 0
AllFit version drivers [] = Unit {0}
AllFit version drivers (event ∷ events) = IsFit version drivers event × AllFit version drivers events

-- The ranges of the events' answers follow one another from `first` to `end`.
abbrev pub AnswersFollow : ℕ → List Event → ℕ → Type 0
AnswersFollow first [] end = first ≡ end
AnswersFollow first (Answer port from n ∷ events) end = (from ≡ first) × AnswersFollow (first + n) events end
AnswersFollow first (event ∷ events) end = AnswersFollow first events end
