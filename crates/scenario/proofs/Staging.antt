-- A text that is read line by line through its stages says what its lines say at once, and has its version.
-- Here: saids_at, saids_behind, saids_ended; version_from, version_behind, version_ended; version_known
use Rattle.std.proofs.Common.{◌≡◌, ℕ, Bool, true, false, cond, List, [], ◌∷◌, map, Option, Some, refl, ap, ◌∙◌, inl, inr}
use Rattle.scenario.specs.declared.stages.Stage.{Stage}
use Rattle.scenario.specs.declared.stages.Stage.TheVariants.{Opening, Version}
use Rattle.scenario.specs.Forms.{Said, nothing, is_version_two, line_said}
use Rattle.scenario.specs.Stages.{said_at, stage_after, version_at}
use Rattle.scenario.specs.Words.{lines_of, words_of}
use Rattle.scenario.specs.Scenarios.{version_in, lines_said, worded}
use Rattle.scenario.specs.Fits.{IsVersion}

-- what the lines say that come at a stage
abbrev pub saids_at : Stage → ℕ → List (List (List ℕ)) → List (Option Said)
saids_at Opening drivers lines = lines_said drivers lines
saids_at (Version version) drivers lines = map (line_said version drivers) lines

opened : (b : Bool) (drivers : ℕ) (words : List (List ℕ)) (lines : List (List (List ℕ)))
    → cond b (Some nothing ∷ map (line_said 2 drivers) lines) (map (line_said 1 drivers) (words ∷ lines)) ≡ cond b (Some nothing) (line_said 1 drivers words) ∷ saids_at (cond b (Version 2) (Version 1)) drivers lines
opened true drivers words lines = refl
opened false drivers words lines = refl

-- the first of them says what it says at the stage, and the others come at the stage behind it
pub saids_next : (s : Stage) (drivers : ℕ) (words : List (List ℕ)) (lines : List (List (List ℕ))) → saids_at s drivers (words ∷ lines) ≡ said_at s drivers words ∷ saids_at (stage_after s words) drivers lines
saids_next Opening drivers [] lines = refl
saids_next Opening drivers (word ∷ words) lines = opened (is_version_two (word ∷ words)) drivers (word ∷ words) lines
saids_next (Version version) drivers words lines = refl

-- the version of a text of which these lines are left at a stage
abbrev pub version_from : Stage → List (List (List ℕ)) → ℕ
version_from Opening lines = version_in lines
version_from (Version version) lines = version

named : (b : Bool) (lines : List (List (List ℕ))) → cond b 2 1 ≡ version_from (cond b (Version 2) (Version 1)) lines
named true lines = refl
named false lines = refl

pub version_next : (s : Stage) (words : List (List ℕ)) (lines : List (List (List ℕ))) → version_from s (words ∷ lines) ≡ version_from (stage_after s words) lines
version_next Opening [] lines = refl
version_next Opening (word ∷ words) lines = named (is_version_two (word ∷ words)) lines
version_next (Version version) words lines = refl

pub version_ended : (s : Stage) (rest : List ℕ) → lines_of rest ≡ [] → version_from s (worded rest) ≡ version_at s
version_ended Opening rest e = ap (λ lines. version_in (map words_of lines)) e
version_ended (Version version) rest e = refl

one_of : (b : Bool) → IsVersion (cond b 2 1)
one_of true = inr refl
one_of false = inl refl

-- a version is one of the two
pub version_known : (lines : List (List (List ℕ))) → IsVersion (version_in lines)
version_known [] = inl refl
version_known ([] ∷ lines) = version_known lines
version_known ((word ∷ words) ∷ lines) = one_of (is_version_two (word ∷ words))

-- the lines of a text, by its first line and the text behind it
pub saids_behind : (s : Stage) (drivers : ℕ) (line rest after : List ℕ) → lines_of rest ≡ line ∷ lines_of after
    → saids_at s drivers (worded rest) ≡ said_at s drivers (words_of line) ∷ saids_at (stage_after s (words_of line)) drivers (worded after)
saids_behind s drivers line rest after e = ap (λ lines. saids_at s drivers (map words_of lines)) e ∙ saids_next s drivers (words_of line) (worded after)

pub version_behind : (s : Stage) (line rest after : List ℕ) → lines_of rest ≡ line ∷ lines_of after → version_from s (worded rest) ≡ version_from (stage_after s (words_of line)) (worded after)
version_behind s line rest after e = ap (λ lines. version_from s (map words_of lines)) e ∙ version_next s (words_of line) (worded after)

-- behind the last line nothing is said
pub saids_ended : (s : Stage) (drivers : ℕ) (rest : List ℕ) → lines_of rest ≡ [] → saids_at s drivers (worded rest) ≡ []
saids_ended Opening drivers rest e = ap (λ lines. lines_said drivers (map words_of lines)) e
saids_ended (Version version) drivers rest e = ap (λ lines. map (line_said version drivers) (map words_of lines)) e
