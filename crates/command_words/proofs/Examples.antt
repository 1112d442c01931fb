-- The definition on worked words.
use Rattle.std.proofs.Common.{◌≡◌, refl, List, [], ◌∷◌, Option, Some, None, codes}
use Rattle.command_words.specs.Words.{Text}
use Rattle.command_words.specs.Command.{CommandWords, run_words, check_words, command_of}

-- `run` has the usual bound, or one that is given anywhere, in either way of writing it
a_run : command_of (codes "run" ∷ codes "s.txt" ∷ codes "a.c" ∷ []) ≡ Some (run_words (codes "s.txt") (codes "a.c" ∷ []) 100000)
a_run = refl

four_drivers : command_of (codes "run" ∷ codes "s" ∷ codes "a" ∷ codes "b" ∷ codes "c" ∷ codes "d" ∷ [])
    ≡ Some (run_words (codes "s") (codes "a" ∷ codes "b" ∷ codes "c" ∷ codes "d" ∷ []) 100000)
four_drivers = refl

a_bound_first : command_of (codes "--steps" ∷ codes "0" ∷ codes "run" ∷ codes "s" ∷ codes "a" ∷ []) ≡ Some (run_words (codes "s") (codes "a" ∷ []) 0)
a_bound_first = refl

a_bound_last : command_of (codes "run" ∷ codes "s" ∷ codes "a" ∷ codes "--steps=10000000" ∷ []) ≡ Some (run_words (codes "s") (codes "a" ∷ []) 10000000)
a_bound_last = refl

zeros_lead : command_of (codes "run" ∷ codes "s" ∷ codes "--steps" ∷ codes "00000012" ∷ codes "a" ∷ []) ≡ Some (run_words (codes "s") (codes "a" ∷ []) 12)
zeros_lead = refl

-- `check` has one to four files; names differ as texts do
a_check : command_of (codes "check" ∷ codes "a.c" ∷ codes "./a.c" ∷ []) ≡ Some (check_words (codes "a.c" ∷ codes "./a.c" ∷ []))
a_check = refl

-- an empty word, a word that begins with `-`, no number behind `--steps`
abbrev IsNone : List Text → Type 0
IsNone words = command_of words ≡ None

empty_words : IsNone []
empty_words = refl

an_empty_name : IsNone (codes "run" ∷ codes "s" ∷ codes "" ∷ [])
an_empty_name = refl

an_unknown_option : IsNone (codes "run" ∷ codes "s" ∷ codes "a" ∷ codes "--help" ∷ [])
an_unknown_option = refl

a_minus : IsNone (codes "check" ∷ codes "-" ∷ [])
a_minus = refl

two_minuses : IsNone (codes "check" ∷ codes "--" ∷ codes "a" ∷ [])
two_minuses = refl

steps_last : IsNone (codes "run" ∷ codes "s" ∷ codes "a" ∷ codes "--steps" ∷ [])
steps_last = refl

steps_before_an_option : IsNone (codes "run" ∷ codes "s" ∷ codes "a" ∷ codes "--steps" ∷ codes "--steps=4" ∷ [])
steps_before_an_option = refl

nothing_joined : IsNone (codes "run" ∷ codes "s" ∷ codes "a" ∷ codes "--steps=" ∷ [])
nothing_joined = refl

-- `--steps` takes the next word, also where it was meant as a file
steps_takes_a_file : IsNone (codes "run" ∷ codes "s" ∷ codes "--steps" ∷ codes "a" ∷ [])
steps_takes_a_file = refl

-- `--steps` twice, with another mode than `run`, out of its range, no number; `--count`
steps_twice : IsNone (codes "run" ∷ codes "s" ∷ codes "a" ∷ codes "--steps" ∷ codes "4" ∷ codes "--steps=4" ∷ [])
steps_twice = refl

steps_of_a_check : IsNone (codes "check" ∷ codes "a" ∷ codes "--steps" ∷ codes "4" ∷ [])
steps_of_a_check = refl

too_many_steps : IsNone (codes "run" ∷ codes "--steps" ∷ codes "10000001" ∷ codes "s.txt" ∷ codes "a.c" ∷ [])
too_many_steps = refl

nine_digits : IsNone (codes "run" ∷ codes "--steps" ∷ codes "000000004" ∷ codes "s.txt" ∷ codes "a.c" ∷ [])
nine_digits = refl

no_digits : IsNone (codes "run" ∷ codes "--steps=+4" ∷ codes "s.txt" ∷ codes "a.c" ∷ [])
no_digits = refl

a_count : IsNone (codes "check" ∷ codes "a.c" ∷ codes "--count" ∷ [])
a_count = refl

a_count_of_a_run : IsNone (codes "run" ∷ codes "--count" ∷ codes "s" ∷ codes "a.c" ∷ [])
a_count_of_a_run = refl

-- another mode, a wrong number of files, a file named twice
another_mode : IsNone (codes "code" ∷ codes "a.c" ∷ [])
another_mode = refl

no_driver : IsNone (codes "run" ∷ codes "s.txt" ∷ [])
no_driver = refl

five_drivers : IsNone (codes "run" ∷ codes "s" ∷ codes "a" ∷ codes "b" ∷ codes "c" ∷ codes "d" ∷ codes "e" ∷ [])
five_drivers = refl

no_file : IsNone (codes "check" ∷ [])
no_file = refl

five_files : IsNone (codes "check" ∷ codes "a" ∷ codes "b" ∷ codes "c" ∷ codes "d" ∷ codes "e" ∷ [])
five_files = refl

a_file_twice : IsNone (codes "check" ∷ codes "a.c" ∷ codes "a.c" ∷ [])
a_file_twice = refl

the_scenario_twice : IsNone (codes "run" ∷ codes "a" ∷ codes "b" ∷ codes "a" ∷ [])
the_scenario_twice = refl
