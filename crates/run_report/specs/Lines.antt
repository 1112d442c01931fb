-- The line of an item, with its line feed: every line that is printed, one case a line.
-- Here: line_of, print
use Rattle.std.specs.Prelude.{ℕ, Bool, true, false, List, [], ◌++◌, codes}
use Rattle.std.specs.Fmt.{decimal, signed_decimal}
use Rattle.std.specs.List.{flat_map}
use Rattle.run_report.specs.declared.item.Item.{Item}
use Rattle.run_report.specs.declared.item.Item.TheVariants as item
use Rattle.run_report.specs.declared.item.Operands.{Operands}
use Rattle.run_report.specs.declared.item.Operands.TheVariants as operands
use Rattle.run_report.specs.Words.{driver, owner, task, activity, order_word, obstacle_word, check_word, failure_word, text_said}
use Rattle.run_report.specs.Rows.{row_line, undone_words}

-- a word and a number
abbrev pub counted : List ℕ → ℕ → List ℕ
counted word n = word ++ decimal n ++ codes "\n"

-- whether a check is tested
abbrev pub kept_word : Bool → List ℕ
kept_word true = codes "kept"
kept_word false = codes "removed"

-- what stands behind the word of an instruction
abbrev pub operand_words : Operands → List ℕ
operand_words operands.Nothing = []
operand_words (operands.Number n) = codes " " ++ signed_decimal n
operand_words (operands.Numbers m n) = codes " " ++ signed_decimal m ++ codes " " ++ signed_decimal n
operand_words (operands.Word w) = codes " " ++ w

abbrev pub line_of : Item → List ℕ
-- driver texts and scenarios
line_of (item.Accepted k) = counted (codes "accepted ") k
line_of (item.Refused k line cause) = codes "refused " ++ decimal k ++ codes " " ++ decimal line ++ codes " " ++ cause ++ codes "\n"
line_of (item.Unread line) = counted (codes "scenario ") line
line_of (item.PastLimit line) = codes "scenario " ++ decimal line ++ codes " limit\n"
-- events
line_of (item.Loaded k) = driver k ++ codes " loaded\n"
line_of (item.Restarted k) = driver k ++ codes " restarted\n"
line_of (item.Unloaded k) = driver k ++ codes " unloaded\n"
line_of (item.Declined k order why) = driver k ++ codes " " ++ order_word order ++ codes " refused: " ++ obstacle_word why ++ codes "\n"
line_of (item.Idle t) = task t ++ codes " idle\n"
line_of item.TickRefused = codes "tick refused\n"
line_of (item.Irq line o) = codes "irq " ++ decimal line ++ codes " " ++ owner o ++ codes "\n"
line_of (item.IrqNobody line) = codes "irq " ++ decimal line ++ codes " nobody\n"
line_of (item.IrqWaits line) = codes "irq " ++ decimal line ++ codes " waits\n"
line_of (item.Timer k id) = codes "timer " ++ driver k ++ codes " " ++ signed_decimal id ++ codes "\n"
line_of (item.Work k) = codes "work " ++ driver k ++ codes "\n"
line_of (item.Reply v) = codes "kernel " ++ signed_decimal v ++ codes "\n"
-- activities
line_of (item.Print who v) = activity who ++ codes " print " ++ signed_decimal v ++ codes "\n"
line_of (item.Out who port v) = activity who ++ codes " out " ++ decimal port ++ codes " " ++ signed_decimal v ++ codes "\n"
line_of (item.Text who text) = activity who ++ codes " text " ++ text_said text ++ codes "\n"
line_of (item.Answered who v) = activity who ++ codes " done " ++ signed_decimal v ++ codes "\n"
line_of (item.Done who) = activity who ++ codes " done\n"
line_of (item.Blocked who lock) = activity who ++ codes " blocked " ++ signed_decimal lock ++ codes "\n"
line_of (item.Failed who kind line) = activity who ++ codes " failed " ++ failure_word kind ++ codes " " ++ decimal line ++ codes "\n"
line_of (item.Wild who line) = activity who ++ codes " wild " ++ decimal line ++ codes "\n"
-- undoing and tables
line_of (item.Undone k what) = driver k ++ codes " undo " ++ undone_words what ++ codes "\n"
line_of item.Tables = codes "tables\n"
line_of (item.Row row handler) = row_line row handler
-- the end
line_of (item.End steps) = counted (codes "end ") steps
line_of (item.Bound steps) = counted (codes "bound ") steps
line_of (item.Tested checks) = counted (codes "checks ") checks
-- listings of checks and code
line_of (item.Check function id line kind is_kept) =
    function ++ codes " " ++ decimal id ++ codes " " ++ decimal line ++ codes " " ++ check_word kind ++ codes " " ++ kept_word is_kept ++ codes "\n"
line_of (item.Instruction function place line word what) =
    function ++ codes " " ++ decimal place ++ codes " " ++ decimal line ++ codes " " ++ word ++ operand_words what ++ codes "\n"
-- generated drivers
line_of (item.Generated n) = counted (codes "gen ") n
line_of (item.GeneratedText bytes) = counted (codes "text ") bytes
line_of (item.GeneratedChecks checks kept) = codes "checks " ++ decimal checks ++ codes " kept " ++ decimal kept ++ codes "\n"
line_of (item.GeneratedSteps steps) = counted (codes "steps ") steps
line_of (item.GeneratedValue v) = codes "printed " ++ signed_decimal v ++ codes "\n"

-- The lines of items, in order.
abbrev pub print : List Item → List ℕ
print items = flat_map line_of items
