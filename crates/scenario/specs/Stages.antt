-- How far a text was read: what a line says at a stage, and the stage behind it. `lines_said` says it of all lines at once.
-- Here: said_at, stage_after, version_at
use Rattle.std.specs.Prelude.{ℕ, List, Option, Some, if◌then◌else◌}
use Rattle.scenario.specs.declared.stages.Stage.{Stage}
use Rattle.scenario.specs.declared.stages.Stage.TheVariants.{Opening, Version}
use Rattle.scenario.specs.Forms.{Said, nothing, none_of, is_version_two, line_said}

-- what the words of a line say at a stage
abbrev pub said_at : Stage → ℕ → List (List ℕ) → Option Said
said_at Opening drivers words = if is_version_two words then Some nothing else line_said 1 drivers words
said_at (Version version) drivers words = line_said version drivers words

-- the stage behind a line
abbrev pub stage_after : Stage → List (List ℕ) → Stage
stage_after Opening words = if is_version_two words then Version 2 else (if none_of words then Opening else Version 1)
stage_after (Version version) words = Version version

-- the version of a text that ends at a stage
abbrev pub version_at : Stage → ℕ
version_at Opening = 1
version_at (Version version) = version
