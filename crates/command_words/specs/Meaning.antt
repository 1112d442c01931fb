-- What an answer of the code says of the words.
use Rattle.std.specs.Prelude.{◌≡◌, Option, Some, None, Result, Ok, Err, map, ⊤}
use Rattle.std.specs.String.{string_bytes}
use Rattle.command_words.specs.declared.commands.Command.{Command}
use Rattle.command_words.specs.declared.commands.Command.TheVariants as command
use Rattle.command_words.specs.declared.commands.WordsFault.{WordsFault}
use Rattle.command_words.specs.declared.commands.WordsFault.TheVariants as fault
use Rattle.command_words.specs.Command.{CommandWords, run_words, check_words}

-- the names and the bound that a command holds
abbrev pub meaning_of : Command → CommandWords
meaning_of (command.Run scenario drivers steps) = run_words (string_bytes scenario) (map string_bytes drivers.items) steps
meaning_of (command.Check files) = check_words (map string_bytes files.items)

-- The answer is the command that is asked for, or there is none, or memory was wanting, of which nothing is said.
abbrev pub IsAnswer : Option CommandWords → Result Command WordsFault → Type 0
IsAnswer asked (Ok command) = asked ≡ Some (meaning_of command)
IsAnswer asked (Err fault.NoCommand) = asked ≡ None
IsAnswer asked (Err fault.Memory) = ⊤
