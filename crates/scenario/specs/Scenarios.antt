-- What a scenario's text reads as: the events of its lines and the answers that it scripts, or its first refusal.
-- Here: version_of, saids_of; refusal_at, first_refusal; events_said, answers_given; scenario_of
use Rattle.std.specs.Prelude.{ℕ, ◌+◌, nat_lt, List, [], ◌∷◌, length, take, map, slice_index_or, Option, Some, None, Result, Ok, Err, if◌then◌else◌, ℤ}
use Rattle.std.specs.List.{flat_map, range_with_len}
use Rattle.scenario.specs.declared.event.Event.{Event}
use Rattle.scenario.specs.declared.event.Event.TheVariants as e
use Rattle.scenario.specs.declared.refusal.ScenarioLimit.TheVariants as limit
use Rattle.scenario.specs.declared.refusal.ScenarioRefusal.{ScenarioRefusal}
use Rattle.scenario.specs.declared.refusal.ScenarioRefusal.TheVariants as refusal
use Rattle.scenario.specs.Words.{lines_of, words_of}
use Rattle.scenario.specs.Forms.{Said, nothing, event, answers, is_version_two, line_said}

-- The version of lines: 2 where the first of them that has words is `version 2`, else 1.
abbrev pub version_in : List (List (List ℕ)) → ℕ
version_in [] = 1
version_in ([] ∷ lines) = version_in lines
version_in ((word ∷ words) ∷ lines) = if is_version_two (word ∷ words) then 2 else 1

-- What each line says, lines without words included. `version 2` as the first line with words says nothing but that all lines behind
-- it are those of version 2.
abbrev pub lines_said : ℕ → List (List (List ℕ)) → List (Option Said)
lines_said drivers [] = []
lines_said drivers ([] ∷ lines) = Some nothing ∷ lines_said drivers lines
lines_said drivers ((word ∷ words) ∷ lines) =
    if is_version_two (word ∷ words) then Some nothing ∷ map (line_said 2 drivers) lines else map (line_said 1 drivers) ((word ∷ words) ∷ lines)

-- the words of each line of a text
abbrev pub worded : List ℕ → List (List (List ℕ))
worded text = map words_of (lines_of text)

-- The version of a text.
abbrev pub version_of : List ℕ → ℕ
version_of text = version_in (worded text)

-- What each line of a text says.
abbrev pub saids_of : ℕ → List ℕ → List (Option Said)
saids_of drivers text = lines_said drivers (worded text)

-- the values that a line gives
abbrev pub given_by : Option Said → List ℤ
given_by None = []
given_by (Some nothing) = []
given_by (Some (event happens)) = []
given_by (Some (answers port values)) = values

-- All values, in the order of the lines.
abbrev pub answers_given : List (Option Said) → List ℤ
answers_given saids = flat_map given_by saids

-- Why a line is refused, by its number counted from 1 and the count of values up to it: it has no reading,
-- or it is past the 65,536th line, or the values are more than 262,144. The first of these that holds is named.
abbrev pub line_refusal : Option Said → ℕ → ℕ → Option ScenarioRefusal
line_refusal None number total = Some (refusal.NoLine number)
line_refusal (Some said) number total =
    if nat_lt 65536 number then Some (refusal.Limit number limit.Lines)
    else (if nat_lt 262144 total then Some (refusal.Limit number limit.Answers) else None)

-- Why the line at a place, counted from 0, is refused.
abbrev pub refusal_at : List (Option Said) → ℕ → Option ScenarioRefusal
refusal_at saids place = line_refusal (slice_index_or saids place None) (place + 1) (length (answers_given (take (place + 1) saids)))

abbrev pub first_some : {A : Type 0} → List (Option A) → Option A
first_some [] = None
first_some (None ∷ os) = first_some os
first_some (Some x ∷ os) = Some x

-- The refusal of the first line that is refused.
abbrev pub first_refusal : List (Option Said) → Option ScenarioRefusal
first_refusal saids = first_some (map (refusal_at saids) (range_with_len 0 (length saids)))

-- The events that lines say in their order. The values of a line are those of the scenario from number `first` on.
abbrev pub events_said : ℕ → List (Option Said) → List Event
events_said first [] = []
events_said first (None ∷ saids) = events_said first saids
events_said first (Some nothing ∷ saids) = events_said first saids
events_said first (Some (event happens) ∷ saids) = happens ∷ events_said first saids
events_said first (Some (answers port values) ∷ saids) = e.Answer port first (length values) ∷ events_said (first + length values) saids

abbrev pub unless_refused : {A : Type 0} → Option ScenarioRefusal → A → Result A ScenarioRefusal
unless_refused None scenario = Ok scenario
unless_refused (Some refusal) scenario = Err refusal

-- What a text of so many drivers reads as: its events and its answers, or its first refusal.
abbrev pub scenario_of : ℕ → List ℕ → Result (List Event × List ℤ) ScenarioRefusal
scenario_of drivers text =
    let saids = saids_of drivers text in
    unless_refused (first_refusal saids) (events_said 0 saids, answers_given saids)
