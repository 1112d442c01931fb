-- The command line as `clap` is told of it, and the words as it is handed them.
-- Here: command_line; options_in, handed
use Rattle.std.specs.Prelude.{ℕ, ◌≡◌, ◌⊎◌, Bool, true, false, List, [], ◌∷◌, ◌++◌, Option, Some, None, codes, unwrap_or, if◌then◌else◌, Result, Ok, Err, ⊤}
use Rattle.std.specs.Option.{option_map_or}
use Rattle.std.specs.Str.{bytes_eq}
use Rattle.clap.specs.Walk.{Row, Rule, all_of, first_of, one_of, rows_of}
use Rattle.clap.specs.Simple.{App, matches_of, new_app, new_rule, on_top, with_rule}
use Rattle.clap.specs.Faults.{fault_of}
use Rattle.clap.specs.Matches.{found_of}
use Rattle.clap.specs.declared.parser.matches.ArgMatches.{ArgMatches}
use Rattle.command_words.specs.declared.commands.WordsFault.{WordsFault}
use Rattle.command_words.specs.declared.commands.WordsFault.TheVariants as fault
use Rattle.clap.specs.declared.builder.action.ArgAction.TheVariants.{Append, SetTrue}
use Rattle.command_words.specs.Words.{Text, is_option, is_steps, others_in}
use Rattle.command_words.specs.Command.{CommandWords, asked}

abbrev pub mode_rule : Rule
mode_rule = record (new_rule (codes "mode")) { required = true }

abbrev pub files_rule : Rule
files_rule = record (new_rule (codes "files")) { action = Some Append }

abbrev pub steps_rule : Rule
steps_rule = record (new_rule (codes "steps")) { long = Some (codes "steps") }

abbrev pub count_rule : Rule
count_rule = record (new_rule (codes "count")) { long = Some (codes "count"); action = Some SetTrue }

-- One simple command: a mode, files, `--steps` with a value and `--count`, without help and version; the first word is no program's name.
abbrev pub bare_line : App
bare_line = on_top (λ s. record s { no_binary_name = true; disable_help_flag = true; disable_version_flag = true }) (new_app (codes "safedrive"))

abbrev pub command_line : App
command_line = with_rule (with_rule (with_rule (with_rule bare_line mode_rule) files_rule) steps_rule) count_rule

-- The options, each `--steps` with the word after it.
abbrev pub options_in : (waits : Bool) → List Text → List Text
options_in waits [] = []
options_in true (w ∷ ws) = w ∷ options_in false ws
options_in false (w ∷ ws) = if is_option w then w ∷ options_in (is_steps w) ws else options_in false ws

-- What `clap` is handed: the options first, so that the files stand together.
abbrev pub handed : List Text → List Text
handed words = options_in false words ++ others_in false words

-- ---- what a parse found

abbrev pub to_list : Option Text → List Text
to_list None = []
to_list (Some text) = text ∷ []

abbrev pub count_of_flag : Bool → ℕ
count_of_flag true = 1
count_of_flag false = 0

-- The text of `--count` as a flag, true or false.
abbrev pub IsFlag : Option Text → Type 0
IsFlag flag = (flag ≡ Some (codes "true")) ⊎ (flag ≡ Some (codes "false"))

abbrev pub is_set : Option Text → Bool
is_set flag = option_map_or (λ text. bytes_eq text (codes "true")) flag false

abbrev pub with_files : Option Text → List Text → List Text
with_files None files = []
with_files (Some mode) files = mode ∷ files

-- what the parts that a parse found ask for
abbrev pub asked_by : List Row → Option CommandWords
asked_by rows = asked (to_list (first_of (codes "steps") rows)) (count_of_flag (is_set (one_of (codes "count") rows)))
    (with_files (first_of (codes "mode") rows) (unwrap_or (all_of (codes "files") rows) []))

-- What a parse answers: matches where no word fails, and else that the words are no command; of want of memory nothing is said.
abbrev pub IsParse : List Text → Result ArgMatches WordsFault → Type 0
IsParse words (Ok m) = (fault_of command_line words ≡ []) × (rows_of (found_of m) ≡ matches_of command_line words)
IsParse words (Err fault.NoCommand) = fault_of command_line words ≡ [] → ⊥
IsParse words (Err fault.Memory) = ⊤
