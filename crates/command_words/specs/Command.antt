-- What the words of a command line ask for.
-- Here: CommandWords, command_of; run_of, check_of, bound_of
use Rattle.std.specs.Prelude.{ℕ, zero, suc, ◌&&◌, Bool, true, false, not, List, [], ◌∷◌, length, Option, Some, None, codes, bytes_eq, nat_le, if◌then◌else◌}
use Rattle.std.specs.List.{list_all, list_any}
use Rattle.std.specs.Char.{is_ascii_digit}
use Rattle.std.specs.Str.Parse.{digits_value}
use Rattle.command_words.specs.Words.{Text, are_known, steps_in, counts_in, others_in}

-- What a command asks for, with the names of its files.
pub data CommandWords : Type 0 where
  -- run drivers under a scenario, at most so many steps
  run_words : (scenario : Text) (drivers : List Text) (steps : ℕ) → CommandWords
  -- say which drivers' texts are accepted
  check_words : (files : List Text) → CommandWords

-- the most driver files of a command
abbrev pub most_drivers : ℕ
most_drivers = 4

-- the bound of a run where `--steps` is not given, and the greatest that can be given
abbrev pub usual_bound : ℕ
usual_bound = 100000

abbrev pub greatest_bound : ℕ
greatest_bound = 10000000

-- A number of steps: 1 to 8 decimal digits, of a value that is not above the greatest bound.
abbrev pub is_bound : Text → Bool
is_bound w = nat_le 1 (length w) && (nat_le (length w) 8 && (list_all is_ascii_digit w && nat_le (digits_value 10 w) greatest_bound))

-- The bound that is given by `--steps`, once at most.
abbrev pub bound_of : (steps : List Text) → Option ℕ
bound_of [] = Some usual_bound
bound_of (number ∷ []) = if is_bound number then Some (digits_value 10 number) else None
bound_of _ = None

-- Whether no file is named twice.
abbrev pub is_named_in : Text → List Text → Bool
is_named_in file files = list_any (bytes_eq file) files

abbrev pub all_differ : List Text → Bool
all_differ [] = true
all_differ (file ∷ files) = not (is_named_in file files) && all_differ files

-- Whether there are as many files as a command may have drivers.
abbrev pub are_drivers : List Text → Bool
are_drivers files = nat_le 1 (length files) && nat_le (length files) most_drivers

-- `run`, a scenario file and 1 to 4 driver files, with a bound.
abbrev pub run_of : (bound : Option ℕ) (files : List Text) → Option CommandWords
run_of (Some bound) (scenario ∷ drivers) =
    if are_drivers drivers && all_differ (scenario ∷ drivers) then Some (run_words scenario drivers bound) else None
run_of _ _ = None

-- `check` and 1 to 4 driver files, without a bound.
abbrev pub check_of : (steps files : List Text) → Option CommandWords
check_of [] files = if are_drivers files && all_differ files then Some (check_words files) else None
check_of _ files = None

-- What is asked for by the values of `--steps`, how often `--count` is given, and the other words: the first of them is the mode, the rest are its files.
-- What `--count` asks for is not built, so no command has it yet.
abbrev pub asked : (steps : List Text) (counts : ℕ) (others : List Text) → Option CommandWords
asked steps (suc _) others = None
asked steps zero [] = None
asked steps zero (mode ∷ files) = if bytes_eq mode (codes "run") then run_of (bound_of steps) files
    else (if bytes_eq mode (codes "check") then check_of steps files else None)

-- The command that the words are, or None where they are none.
abbrev pub command_of : (words : List Text) → Option CommandWords
command_of words = if are_known false words then asked (steps_in false words) (counts_in false words) (others_in false words) else None
