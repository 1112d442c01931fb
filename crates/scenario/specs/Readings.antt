-- What the code's reading of a line stands for.
-- Here: said_by, IsCounted
use Rattle.std.specs.Prelude.{◌≡◌, length}
use Rattle.scenario.specs.declared.values.Reading.{Reading}
use Rattle.scenario.specs.declared.values.Reading.TheVariants.{Nothing, Event, Answers}
use Rattle.scenario.specs.Words.{pieces_of}
use Rattle.scenario.specs.Forms.{Said, nothing, event, answers, values_in}

-- what a reading says; the values still stand in the line
abbrev pub said_by : Reading → Said
said_by Nothing = nothing
said_by (Event e) = event e
said_by (Answers port values count) = answers port (values_in (pieces_of values.now))

-- the count is that of the values
abbrev pub IsCounted : Reading → Type 0
IsCounted Nothing = Unit {0}
IsCounted (Event e) = Unit {0}
IsCounted (Answers port values count) = count ≡ length (values_in (pieces_of values.now))
