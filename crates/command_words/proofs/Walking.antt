-- The walk of `clap` over the words that it is handed, word by word: what it holds at each stage, which words it refuses there, and what is found at its end.
-- Here: Comes, on, off; Seen, Stage, walk_at; count_met, joined_met, steps_met; ends
use Rattle.std.specs.Prelude.{⊤}
use Rattle.std.proofs.Common.{◌≡◌, refl, ap, sym, subst, ◌∙◌, ℕ, zero, suc, cond, Bool, true, false, List, [], ◌∷◌, ◌++◌, Option, Some, None, codes, is_some, inl, inr}
use Rattle.std.specs.List.{AllByRecursion, fold}
use Rattle.std.proofs.lemmas.List.{append_assoc}
use Rattle.command_words.specs.Words.{Text}
use Rattle.command_words.specs.Line.{command_line, asked_by, IsFlag}
use Rattle.std.specs.Str.{bytes_eq}
use Rattle.clap.specs.Lexer.{long_of, short_of}
use Rattle.command_words.specs.Command.{asked, bound_of, check_of, run_of}
use Rattle.clap.specs.Kinds.{Kinds, or_else}
use Rattle.clap.specs.Simple.{App, Shape, built, entered, matches_of}
use Rattle.clap.specs.Faults.{check_fault, defaults_fault, entered_fault, fault_of, settle_fault, turn_fault, walk_fault}
use Rattle.clap.specs.Walk.{Held, Row, Rule, Walk, all_of, finished, first_of, idle, nothing_held, one_of, option, positional, settled, walk_from, walked}
use Rattle.clap.specs.declared.builder.value_parser.Reading.TheVariants.{AsWritten}
use Rattle.clap.specs.declared.parser.matches.ValueSource.TheVariants.{CommandLine}
use Rattle.clap.specs.declared.error.kind.ErrorKind.{ErrorKind}
use Rattle.clap.specs.declared.error.kind.ErrorKind.TheVariants as kind
use Rattle.clap.proofs.OnLiterals.{clap_on_literals}

-- ---- the parse, from where a walk stands

abbrev pub line : App
line = built command_line

abbrev pub rules : List Rule
rules = line.top.rules

abbrev walked_on : Walk → Text → Walk
walked_on w word = walked rules [] w word

-- the faults after the last word
abbrev end_fault : Walk → Kinds
end_fault w = or_else (entered_fault line w.stopped) (or_else (settle_fault rules false w.held)
    (or_else (defaults_fault (settled rules w.held).rows rules) (check_fault line.top (finished rules w.held) (is_some (entered line w.stopped)))))

-- the faults of what is left, and the rows at the end
abbrev pub left : Walk → List Text → Kinds
left w words = or_else (walk_fault line.top [] w words) (end_fault (fold walked_on w words))

abbrev pub rows_left : Walk → List Text → List Row
rows_left w words = finished rules (fold walked_on w words).held

abbrev pub start : Walk
start = walk_from nothing_held

pub fault_is : (words : List Text) → fault_of command_line words ≡ left start words
fault_is words = refl

pub matches_are : (words : List Text) → matches_of command_line words ≡ rows_left start words
matches_are words = refl

-- Where nothing fails, the rows ask for what the parts ask for; where something fails, these ask for nothing.
abbrev pub Ends : Kinds → List Row → (steps : List Text) (counts : ℕ) (others : List Text) → Type 0
Ends [] rows steps counts others = (asked_by rows ≡ asked steps counts others) × IsFlag (one_of (codes "count") rows)
Ends (k ∷ ks) rows steps counts others = asked steps counts others ≡ None

-- Shut, so that no proof above computes it.
unfoldable pub Comes : Walk → List Text → (steps : List Text) (counts : ℕ) (others : List Text) → Type 0
Comes w words steps counts others = Ends (left w words) (rows_left w words) steps counts others

-- a word that is taken
pub on : (w next : Walk) (word : Text) (words : List Text) (s : List Text) (c : ℕ) (o : List Text) → turn_fault line.top [] w word ≡ [] → walked_on w word ≡ next
    → Comes next words s c o → Comes w (word ∷ words) s c o
unfolding walk_fault Comes
on w next word words s c o calm is h =
    let step : left w (word ∷ words) ≡ left (walked_on w word) words =
    ap (λ (k : Kinds). or_else (or_else k (walk_fault line.top [] (walked_on w word) words)) (end_fault (fold walked_on (walked_on w word) words))) calm in
    subst (λ (k : Kinds). Ends k (rows_left w (word ∷ words)) s c o) (sym step) (subst (λ (v : Walk). Comes v words s c o) (sym is) h)

-- a word that is refused
pub off : (w : Walk) (word : Text) (words : List Text) (k : ErrorKind) (s : List Text) (c : ℕ) (o : List Text) → turn_fault line.top [] w word ≡ k ∷ []
    → asked s c o ≡ None → Comes w (word ∷ words) s c o
unfolding walk_fault Comes
off w word words k s c o fault none =
    let step : left w (word ∷ words) ≡ k ∷ [] =
    ap (λ (x : Kinds). or_else (or_else x (walk_fault line.top [] (walked_on w word) words)) (end_fault (fold walked_on (walked_on w word) words))) fault in
    subst (λ (x : Kinds). Ends x (rows_left w (word ∷ words)) s c o) (sym step) none

-- ---- the stages

abbrev row : Text → List Text → Row
row id values = record { id = id; values = values; count = None; source = Some CommandLine; reading = AsWritten }

abbrev steps_row : Text → Row
steps_row v = row (codes "steps") (v ∷ [])

abbrev count_row : Row
count_row = row (codes "count") (codes "true" ∷ [])

-- the options that are read, in their order
pub data Seen : Type 0 where
  nothing : Seen
  steps : Text → Seen
  count : Seen
  steps_count : Text → Seen
  count_steps : Text → Seen

abbrev pub rows_at : Seen → List Row
rows_at nothing = []
rows_at (steps v) = steps_row v ∷ []
rows_at count = count_row ∷ []
rows_at (steps_count v) = steps_row v ∷ count_row ∷ []
rows_at (count_steps v) = count_row ∷ steps_row v ∷ []

abbrev walk_with : List Row → Option (Text × List Text) → ℕ → Walk
walk_with rows pending position =
    record { held = record { rows = rows; pending = pending; skip = 0 }; waiting = idle; position = position; is_trailing = false; stopped = None }

-- between two options: the last was read whole, or it was `--steps` with the word after it
pub data Stage : Type 0 where
  after : Seen → Stage
  asks : Text → Stage
  count_asks : Text → Stage

abbrev pub walk_at : Stage → Walk
walk_at (after seen) = walk_with (rows_at seen) None 1
walk_at (asks v) = walk_with [] (Some (codes "steps", v ∷ [])) 1
walk_at (count_asks v) = walk_with (count_row ∷ []) (Some (codes "steps", v ∷ [])) 1

abbrev pub seen_of : Stage → Seen
seen_of (after seen) = seen
seen_of (asks v) = steps v
seen_of (count_asks v) = count_steps v

-- the word after `--steps` is waited for
abbrev walk_waits : Seen → Walk
walk_waits seen = record (walk_with (rows_at seen) (Some (codes "steps", [])) 1) { waiting = option (codes "steps") }

pub starts : start ≡ walk_at (after nothing)
starts = refl

-- with what is left
abbrev pub steps_behind : Seen → List Text → List Text
steps_behind nothing more = more
steps_behind (steps v) more = v ∷ more
steps_behind count more = more
steps_behind (steps_count v) more = v ∷ more
steps_behind (count_steps v) more = v ∷ more

abbrev pub counts_behind : Seen → ℕ → ℕ
counts_behind nothing n = n
counts_behind (steps v) n = n
counts_behind count n = suc n
counts_behind (steps_count v) n = suc n
counts_behind (count_steps v) n = suc n

-- ---- `--count`

abbrev CountGoes : Stage → Type 0
CountGoes s = (words : List Text) (m : List Text) (n : ℕ) (o : List Text)
    → ((next : Stage) → Comes (walk_at next) words (steps_behind (seen_of next) m) (counts_behind (seen_of next) n) o)
    → Comes (walk_at s) (codes "--count" ∷ words) (steps_behind (seen_of s) m) (counts_behind (seen_of s) (suc n)) o

pub count_met : (s : Stage) → CountGoes s
unfolding clap_on_literals
count_met (after nothing) words m n o next =
    on (walk_at (after nothing)) (walk_at (after count)) (codes "--count") words m (suc n) o refl refl (next (after count))
count_met (after (steps v)) words m n o next =
    on (walk_at (after (steps v))) (walk_at (after (steps_count v))) (codes "--count") words (v ∷ m) (suc n) o refl refl (next (after (steps_count v)))
count_met (asks v) words m n o next =
    on (walk_at (asks v)) (walk_at (after (steps_count v))) (codes "--count") words (v ∷ m) (suc n) o refl refl (next (after (steps_count v)))
count_met (after count) words m n o next = off (walk_at (after count)) (codes "--count") words kind.ArgumentConflict m (suc (suc n)) o refl refl
count_met (after (steps_count v)) words m n o next =
    off (walk_at (after (steps_count v))) (codes "--count") words kind.ArgumentConflict (v ∷ m) (suc (suc n)) o refl refl
count_met (after (count_steps v)) words m n o next =
    off (walk_at (after (count_steps v))) (codes "--count") words kind.ArgumentConflict (v ∷ m) (suc (suc n)) o refl refl
count_met (count_asks v) words m n o next = off (walk_at (count_asks v)) (codes "--count") words kind.ArgumentConflict (v ∷ m) (suc (suc n)) o refl refl

-- ---- `--steps=N`

-- two bounds ask for nothing
pub twice : (v w : Text) (m : List Text) (n : ℕ) (o : List Text) → asked (v ∷ w ∷ m) n o ≡ None
twice v w m (suc n) o = refl
twice v w m zero [] = refl
twice v w m zero (mode ∷ files) = go (bytes_eq mode (codes "run")) (bytes_eq mode (codes "check"))
  where
    go : (a b : Bool) → cond a (run_of (bound_of (v ∷ w ∷ m)) files) (cond b (check_of (v ∷ w ∷ m) files) None) ≡ None
    go true b = refl
    go false true = refl
    go false false = refl

abbrev JoinedGoes : Stage → Type 0
JoinedGoes s = (w : Text) (words : List Text) (m : List Text) (n : ℕ) (o : List Text)
    → ((next : Stage) → Comes (walk_at next) words (steps_behind (seen_of next) m) (counts_behind (seen_of next) n) o)
    → Comes (walk_at s) ((codes "--steps=" ++ w) ∷ words) (steps_behind (seen_of s) (w ∷ m)) (counts_behind (seen_of s) n) o

pub joined_met : (s : Stage) → JoinedGoes s
unfolding clap_on_literals
joined_met (after nothing) w words m n o next =
    on (walk_at (after nothing)) (walk_at (after (steps w))) (codes "--steps=" ++ w) words (w ∷ m) n o refl refl (next (after (steps w)))
joined_met (after count) w words m n o next =
    on (walk_at (after count)) (walk_at (after (count_steps w))) (codes "--steps=" ++ w) words (w ∷ m) (suc n) o refl refl (next (after (count_steps w)))
joined_met (after (steps v)) w words m n o next =
    off (walk_at (after (steps v))) (codes "--steps=" ++ w) words kind.ArgumentConflict (v ∷ w ∷ m) n o refl (twice v w m n o)
joined_met (asks v) w words m n o next = off (walk_at (asks v)) (codes "--steps=" ++ w) words kind.ArgumentConflict (v ∷ w ∷ m) n o refl (twice v w m n o)
joined_met (after (steps_count v)) w words m n o next =
    off (walk_at (after (steps_count v))) (codes "--steps=" ++ w) words kind.ArgumentConflict (v ∷ w ∷ m) (suc n) o refl (twice v w m (suc n) o)
joined_met (after (count_steps v)) w words m n o next =
    off (walk_at (after (count_steps v))) (codes "--steps=" ++ w) words kind.ArgumentConflict (v ∷ w ∷ m) (suc n) o refl (twice v w m (suc n) o)
joined_met (count_asks v) w words m n o next =
    off (walk_at (count_asks v)) (codes "--steps=" ++ w) words kind.ArgumentConflict (v ∷ w ∷ m) (suc n) o refl (twice v w m (suc n) o)

-- ---- a word that is no option

-- what `clap` sees of it
pub record IsPlainWord (w : Text) : Type 0 where
  pub no_dashes : bytes_eq w (codes "--") ≡ false
  pub no_long : long_of w ≡ None
  pub no_short : short_of w ≡ None

-- the word goes to the mode
pub mode_met : (s : Stage) (m : Text) → IsPlainWord m
    → (turn_fault line.top [] (walk_at s) m ≡ []) × (walked_on (walk_at s) m ≡ walk_with (rows_at (seen_of s)) (Some (codes "mode", m ∷ [])) 2)
unfolding clap_on_literals
mode_met (after nothing) m p = (rw (p.no_dashes, p.no_long, p.no_short) refl, rw (p.no_dashes, p.no_long, p.no_short) refl)
mode_met (after (steps v)) m p = (rw (p.no_dashes, p.no_long, p.no_short) refl, rw (p.no_dashes, p.no_long, p.no_short) refl)
mode_met (after count) m p = (rw (p.no_dashes, p.no_long, p.no_short) refl, rw (p.no_dashes, p.no_long, p.no_short) refl)
mode_met (after (steps_count v)) m p = (rw (p.no_dashes, p.no_long, p.no_short) refl, rw (p.no_dashes, p.no_long, p.no_short) refl)
mode_met (after (count_steps v)) m p = (rw (p.no_dashes, p.no_long, p.no_short) refl, rw (p.no_dashes, p.no_long, p.no_short) refl)
mode_met (asks v) m p = (rw (p.no_dashes, p.no_long, p.no_short) refl, rw (p.no_dashes, p.no_long, p.no_short) refl)
mode_met (count_asks v) m p = (rw (p.no_dashes, p.no_long, p.no_short) refl, rw (p.no_dashes, p.no_long, p.no_short) refl)

-- ---- `--steps` and the word after it

-- `--steps` was read before, or not
abbrev pub HasSteps : Seen → Type 0
HasSteps nothing = ⊥
HasSteps (steps v) = ⊤
HasSteps count = ⊥
HasSteps (steps_count v) = ⊤
HasSteps (count_steps v) = ⊤

-- the number of `--steps` is read, and not yet used
abbrev pub walk_asks : Seen → Text → Walk
walk_asks seen v = walk_with (rows_at seen) (Some (codes "steps", v ∷ [])) 1

steps_word : (s : Stage) → (turn_fault line.top [] (walk_at s) (codes "--steps") ≡ []) × (walked_on (walk_at s) (codes "--steps") ≡ walk_waits (seen_of s))
unfolding clap_on_literals
steps_word (after nothing) = (refl, refl)
steps_word (after (steps v)) = (refl, refl)
steps_word (after count) = (refl, refl)
steps_word (after (steps_count v)) = (refl, refl)
steps_word (after (count_steps v)) = (refl, refl)
steps_word (asks v) = (refl, refl)
steps_word (count_asks v) = (refl, refl)

number_word : (seen : Seen) (v : Text) → IsPlainWord v
    → (turn_fault line.top [] (walk_waits seen) v ≡ []) × (walked_on (walk_waits seen) v ≡ walk_asks seen v)
unfolding clap_on_literals
number_word nothing v p = (rw (p.no_dashes, p.no_long, p.no_short) refl, rw (p.no_dashes, p.no_long, p.no_short) refl)
number_word (steps x) v p = (rw (p.no_dashes, p.no_long, p.no_short) refl, rw (p.no_dashes, p.no_long, p.no_short) refl)
number_word count v p = (rw (p.no_dashes, p.no_long, p.no_short) refl, rw (p.no_dashes, p.no_long, p.no_short) refl)
number_word (steps_count x) v p = (rw (p.no_dashes, p.no_long, p.no_short) refl, rw (p.no_dashes, p.no_long, p.no_short) refl)
number_word (count_steps x) v p = (rw (p.no_dashes, p.no_long, p.no_short) refl, rw (p.no_dashes, p.no_long, p.no_short) refl)

unfoldable pub IsOver : List Text → Type 0
IsOver words = (seen : Seen) (v : Text) → HasSteps seen → left (walk_asks seen v) words ≡ kind.ArgumentConflict ∷ []

-- a second use, which is refused with the next word, whatever it is
pub over_end : IsOver []
unfolding clap_on_literals IsOver
over_end nothing v h = absurd h
over_end (steps x) v h = refl
over_end count v h = absurd h
over_end (steps_count x) v h = refl
over_end (count_steps x) v h = refl

over_on : (w : Walk) (word : Text) (words : List Text) → turn_fault line.top [] w word ≡ kind.ArgumentConflict ∷ [] → left w (word ∷ words) ≡ kind.ArgumentConflict ∷ []
unfolding walk_fault
over_on w word words fault =
    ap (λ (x : Kinds). or_else (or_else x (walk_fault line.top [] (walked_on w word) words)) (end_fault (fold walked_on (walked_on w word) words))) fault

pub over_count : (words : List Text) → IsOver (codes "--count" ∷ words)
unfolding clap_on_literals IsOver
over_count words nothing v h = absurd h
over_count words (steps x) v h = over_on (walk_asks (steps x) v) (codes "--count") words refl
over_count words count v h = absurd h
over_count words (steps_count x) v h = over_on (walk_asks (steps_count x) v) (codes "--count") words refl
over_count words (count_steps x) v h = over_on (walk_asks (count_steps x) v) (codes "--count") words refl

pub over_steps : (words : List Text) → IsOver (codes "--steps" ∷ words)
unfolding clap_on_literals IsOver
over_steps words nothing v h = absurd h
over_steps words (steps x) v h = over_on (walk_asks (steps x) v) (codes "--steps") words refl
over_steps words count v h = absurd h
over_steps words (steps_count x) v h = over_on (walk_asks (steps_count x) v) (codes "--steps") words refl
over_steps words (count_steps x) v h = over_on (walk_asks (count_steps x) v) (codes "--steps") words refl

pub over_joined : (w : Text) (words : List Text) → IsOver ((codes "--steps=" ++ w) ∷ words)
unfolding clap_on_literals IsOver
over_joined w words nothing v h = absurd h
over_joined w words (steps x) v h = over_on (walk_asks (steps x) v) (codes "--steps=" ++ w) words refl
over_joined w words count v h = absurd h
over_joined w words (steps_count x) v h = over_on (walk_asks (steps_count x) v) (codes "--steps=" ++ w) words refl
over_joined w words (count_steps x) v h = over_on (walk_asks (count_steps x) v) (codes "--steps=" ++ w) words refl

pub over_plain : (m : Text) → IsPlainWord m → (words : List Text) → IsOver (m ∷ words)
unfolding clap_on_literals IsOver
over_plain m p words nothing v h = absurd h
over_plain m p words (steps x) v h = over_on (walk_asks (steps x) v) m words (rw (p.no_dashes, p.no_long, p.no_short) refl)
over_plain m p words count v h = absurd h
over_plain m p words (steps_count x) v h = over_on (walk_asks (steps_count x) v) m words (rw (p.no_dashes, p.no_long, p.no_short) refl)
over_plain m p words (count_steps x) v h = over_on (walk_asks (count_steps x) v) m words (rw (p.no_dashes, p.no_long, p.no_short) refl)

over_ends : (w : Walk) (words : List Text) (s : List Text) (c : ℕ) (o : List Text) → left w words ≡ kind.ArgumentConflict ∷ [] → asked s c o ≡ None → Comes w words s c o
unfolding Comes
over_ends w words s c o fault none = subst (λ (x : Kinds). Ends x (rows_left w words) s c o) (sym fault) none

module _ (s : Stage) (v : Text) (p : IsPlainWord v) (words : List Text) (m : List Text) (n : ℕ) (o : List Text) where
  abbrev Behind : (seen : Seen) → Type 0
  Behind seen = Comes (walk_asks seen v) words (steps_behind seen (v ∷ m)) (counts_behind seen n) o

  behind : (seen : Seen) → IsOver words → ((next : Stage) → Comes (walk_at next) words (steps_behind (seen_of next) m) (counts_behind (seen_of next) n) o) → Behind seen
  unfolding IsOver
  behind nothing over next = next (asks v)
  behind count over next = next (count_asks v)
  behind (steps x) over next = over_ends (walk_asks (steps x) v) words (x ∷ v ∷ m) n o (over (steps x) v tt) (twice x v m n o)
  behind (steps_count x) over next = over_ends (walk_asks (steps_count x) v) words (x ∷ v ∷ m) (suc n) o (over (steps_count x) v tt) (twice x v m (suc n) o)
  behind (count_steps x) over next = over_ends (walk_asks (count_steps x) v) words (x ∷ v ∷ m) (suc n) o (over (count_steps x) v tt) (twice x v m (suc n) o)

  pub steps_met : IsOver words → ((next : Stage) → Comes (walk_at next) words (steps_behind (seen_of next) m) (counts_behind (seen_of next) n) o)
      → Comes (walk_at s) (codes "--steps" ∷ v ∷ words) (steps_behind (seen_of s) (v ∷ m)) (counts_behind (seen_of s) n) o
  steps_met over next =
      let first = steps_word s in
      let second = number_word (seen_of s) v p in
      on (walk_at s) (walk_waits (seen_of s)) (codes "--steps") (v ∷ words) (steps_behind (seen_of s) (v ∷ m)) (counts_behind (seen_of s) n) o first.0 first.1
      (on (walk_waits (seen_of s)) (walk_asks (seen_of s) v) v words (steps_behind (seen_of s) (v ∷ m)) (counts_behind (seen_of s) n) o second.0 second.1
      (behind (seen_of s) over next))

-- ---- the mode and its files

abbrev walk_mode : Seen → Text → Walk
walk_mode seen m = walk_with (rows_at seen) (Some (codes "mode", m ∷ [])) 2

-- the files before the last
abbrev file_rows : List Text → List Row
file_rows [] = []
file_rows (x ∷ xs) = row (codes "files") (x ∷ xs) ∷ []

abbrev walk_files : Seen → Text → List Text → Text → Walk
walk_files seen m before f =
    record (walk_with (rows_at seen ++ row (codes "mode") (m ∷ []) ∷ file_rows before) (Some (codes "files", f ∷ [])) 2) { waiting = positional }

first_file : (seen : Seen) (m f : Text) → IsPlainWord f
    → (turn_fault line.top [] (walk_mode seen m) f ≡ []) × (walked_on (walk_mode seen m) f ≡ walk_files seen m [] f)
unfolding clap_on_literals
first_file nothing m f p = (rw (p.no_dashes, p.no_long, p.no_short) refl, rw (p.no_dashes, p.no_long, p.no_short) refl)
first_file (steps x) m f p = (rw (p.no_dashes, p.no_long, p.no_short) refl, rw (p.no_dashes, p.no_long, p.no_short) refl)
first_file count m f p = (rw (p.no_dashes, p.no_long, p.no_short) refl, rw (p.no_dashes, p.no_long, p.no_short) refl)
first_file (steps_count x) m f p = (rw (p.no_dashes, p.no_long, p.no_short) refl, rw (p.no_dashes, p.no_long, p.no_short) refl)
first_file (count_steps x) m f p = (rw (p.no_dashes, p.no_long, p.no_short) refl, rw (p.no_dashes, p.no_long, p.no_short) refl)

next_file : (seen : Seen) (m : Text) (before : List Text) (f g : Text) → IsPlainWord g
    → (turn_fault line.top [] (walk_files seen m before f) g ≡ []) × (walked_on (walk_files seen m before f) g ≡ walk_files seen m (before ++ f ∷ []) g)
unfolding clap_on_literals
next_file nothing m [] f g p = (rw (p.no_dashes, p.no_long, p.no_short) refl, rw (p.no_dashes, p.no_long, p.no_short) refl)
next_file nothing m (y ∷ ys) f g p = (rw (p.no_dashes, p.no_long, p.no_short) refl, rw (p.no_dashes, p.no_long, p.no_short) refl)
next_file (steps x) m [] f g p = (rw (p.no_dashes, p.no_long, p.no_short) refl, rw (p.no_dashes, p.no_long, p.no_short) refl)
next_file (steps x) m (y ∷ ys) f g p = (rw (p.no_dashes, p.no_long, p.no_short) refl, rw (p.no_dashes, p.no_long, p.no_short) refl)
next_file count m [] f g p = (rw (p.no_dashes, p.no_long, p.no_short) refl, rw (p.no_dashes, p.no_long, p.no_short) refl)
next_file count m (y ∷ ys) f g p = (rw (p.no_dashes, p.no_long, p.no_short) refl, rw (p.no_dashes, p.no_long, p.no_short) refl)
next_file (steps_count x) m [] f g p = (rw (p.no_dashes, p.no_long, p.no_short) refl, rw (p.no_dashes, p.no_long, p.no_short) refl)
next_file (steps_count x) m (y ∷ ys) f g p = (rw (p.no_dashes, p.no_long, p.no_short) refl, rw (p.no_dashes, p.no_long, p.no_short) refl)
next_file (count_steps x) m [] f g p = (rw (p.no_dashes, p.no_long, p.no_short) refl, rw (p.no_dashes, p.no_long, p.no_short) refl)
next_file (count_steps x) m (y ∷ ys) f g p = (rw (p.no_dashes, p.no_long, p.no_short) refl, rw (p.no_dashes, p.no_long, p.no_short) refl)

-- ---- the end

no_mode : (s : Stage) → Comes (walk_at s) [] (steps_behind (seen_of s) []) (counts_behind (seen_of s) 0) []
unfolding clap_on_literals Comes
no_mode (after nothing) = refl
no_mode (after (steps v)) = refl
no_mode (after count) = refl
no_mode (after (steps_count v)) = refl
no_mode (after (count_steps v)) = refl
no_mode (asks v) = refl
no_mode (count_asks v) = refl

mode_alone : (seen : Seen) (m : Text) → Comes (walk_mode seen m) [] (steps_behind seen []) (counts_behind seen 0) (m ∷ [])
unfolding clap_on_literals Comes
mode_alone nothing m = (refl, inr refl)
mode_alone (steps v) m = (refl, inr refl)
mode_alone count m = (refl, inl refl)
mode_alone (steps_count v) m = (refl, inl refl)
mode_alone (count_steps v) m = (refl, inl refl)

files_end : (seen : Seen) (m : Text) (before : List Text) (f : Text)
    → Comes (walk_files seen m before f) [] (steps_behind seen []) (counts_behind seen 0) (m ∷ before ++ f ∷ [])
unfolding clap_on_literals Comes
files_end nothing m [] f = (refl, inr refl)
files_end nothing m (y ∷ ys) f = (refl, inr refl)
files_end (steps v) m [] f = (refl, inr refl)
files_end (steps v) m (y ∷ ys) f = (refl, inr refl)
files_end count m [] f = (refl, inl refl)
files_end count m (y ∷ ys) f = (refl, inl refl)
files_end (steps_count v) m [] f = (refl, inl refl)
files_end (steps_count v) m (y ∷ ys) f = (refl, inl refl)
files_end (count_steps v) m [] f = (refl, inl refl)
files_end (count_steps v) m (y ∷ ys) f = (refl, inl refl)

files_met : (seen : Seen) (m : Text) (before : List Text) (f : Text) (fs : List Text) → AllByRecursion IsPlainWord fs
    → Comes (walk_files seen m before f) fs (steps_behind seen []) (counts_behind seen 0) (m ∷ before ++ f ∷ fs)
files_met seen m before f [] p = files_end seen m before f
files_met seen m before f (g ∷ gs) p =
    let step = next_file seen m before f g p.0 in
    let s = steps_behind seen [] in
    let c = counts_behind seen 0 in
    on (walk_files seen m before f) (walk_files seen m (before ++ f ∷ []) g) g gs s c (m ∷ before ++ f ∷ g ∷ gs) step.0 step.1
    (subst (λ (o : List Text). Comes (walk_files seen m (before ++ f ∷ []) g) gs s c (m ∷ o)) (append_assoc before (f ∷ []) (g ∷ gs)) (files_met seen m (before ++ f ∷ []) g gs p.1))

-- from an option to the end, where no option follows
pub others_met : (s : Stage) (others : List Text) → AllByRecursion IsPlainWord others
    → Comes (walk_at s) others (steps_behind (seen_of s) []) (counts_behind (seen_of s) 0) others
others_met s [] p = no_mode s
others_met s (m ∷ fs) p =
    let step = mode_met s m p.0 in
    let c = counts_behind (seen_of s) 0 in
    on (walk_at s) (walk_mode (seen_of s) m) m fs (steps_behind (seen_of s) []) c (m ∷ fs) step.0 step.1 (files_from (seen_of s) m fs p.1)
  where
    files_from : (seen : Seen) (m : Text) (fs : List Text) → AllByRecursion IsPlainWord fs
        → Comes (walk_mode seen m) fs (steps_behind seen []) (counts_behind seen 0) (m ∷ fs)
    files_from seen m [] p = mode_alone seen m
    files_from seen m (f ∷ fs) p =
        let step = first_file seen m f p.0 in
        on (walk_mode seen m) (walk_files seen m [] f) f fs (steps_behind seen []) (counts_behind seen 0) (m ∷ f ∷ fs) step.0 step.1 (files_met seen m [] f fs p.1)

-- what it is to come to its parts
pub come_is : (w : Walk) (words : List Text) (s : List Text) (c : ℕ) (o : List Text) → Comes w words s c o → Ends (left w words) (rows_left w words) s c o
unfolding Comes
come_is w words s c o h = h
