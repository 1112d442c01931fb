-- The lines of the tables' rows, and the items that are undone.
-- Here: row_line, undone_words
use Rattle.std.specs.Prelude.{ℕ, ◌==◌, List, ◌++◌, ℤ, codes, if◌then◌else◌}
use Rattle.std.specs.Fmt.{decimal, signed_decimal}
use Rattle.kernel_tables.specs.declared.row.Row.{Row}
use Rattle.kernel_tables.specs.declared.row.Row.TheVariants as row
use Rattle.run_report.specs.declared.item.UndoneItem.{UndoneItem}
use Rattle.run_report.specs.declared.item.UndoneItem.TheVariants as undone
use Rattle.run_report.specs.Words.{owner, state_word}

-- the holder of a line: the kernel, or a driver and its function
abbrev pub holder_words : ℕ → List ℕ → List ℕ
holder_words o name = if o == 0 then codes "k" else owner o ++ codes " " ++ name

-- a timer, and when it fires
abbrev pub due_words : ℤ → ℕ → List ℕ
due_words id due = signed_decimal id ++ codes " " ++ decimal due

-- the function that is called, and its argument
abbrev pub call_words : List ℕ → ℤ → List ℕ
call_words name arg = name ++ codes " " ++ signed_decimal arg

-- A row; the name is that of the function that the row names by its number.
abbrev pub row_line : Row → List ℕ → List ℕ
row_line (row.Block o base size state) name =
    codes "block " ++ owner o ++ codes " " ++ decimal base ++ codes " " ++ decimal size ++ codes " " ++ state_word state ++ codes "\n"
row_line (row.Line line o handler) name = codes "line " ++ signed_decimal line ++ codes " " ++ holder_words o name ++ codes "\n"
row_line (row.Ports base n o) name =
    codes "ports " ++ signed_decimal base ++ codes " " ++ signed_decimal n ++ codes " " ++ owner o ++ codes "\n"
row_line (row.Device id o) name = codes "device " ++ signed_decimal id ++ codes " " ++ owner o ++ codes "\n"
row_line (row.Param key value o) name =
    codes "param " ++ signed_decimal key ++ codes " " ++ signed_decimal value ++ codes " " ++ owner o ++ codes "\n"
row_line (row.Timer o id due handler arg) name =
    codes "timer " ++ owner o ++ codes " " ++ due_words id due ++ codes " " ++ call_words name arg ++ codes "\n"
row_line (row.Lock lock who) name =
    codes "lock " ++ signed_decimal lock ++ codes " " ++ owner who.owner ++ codes " " ++ decimal who.task ++ codes "\n"
row_line (row.Mask who) name = codes "mask " ++ owner who.owner ++ codes " " ++ decimal who.task ++ codes "\n"
row_line (row.Hold domain n) name = codes "hold " ++ signed_decimal domain ++ codes " " ++ decimal n ++ codes "\n"
row_line (row.Work o handler arg) name = codes "work " ++ owner o ++ codes " " ++ call_words name arg ++ codes "\n"
row_line (row.Clock now) name = codes "clock " ++ decimal now ++ codes "\n"

-- An item that is undone.
abbrev pub undone_words : UndoneItem → List ℕ
undone_words (undone.Block base) = codes "block " ++ decimal base
undone_words (undone.Free base) = codes "free " ++ decimal base
undone_words (undone.Line line) = codes "line " ++ signed_decimal line
undone_words (undone.Ports base n) = codes "ports " ++ signed_decimal base ++ codes " " ++ signed_decimal n
undone_words (undone.Device id) = codes "device " ++ signed_decimal id
undone_words (undone.Param key) = codes "param " ++ signed_decimal key
undone_words (undone.Timer id) = codes "timer " ++ signed_decimal id
undone_words (undone.Lock lock) = codes "lock " ++ signed_decimal lock
undone_words (undone.Mask task) = codes "mask " ++ decimal task
undone_words (undone.Hold domain) = codes "hold " ++ signed_decimal domain
undone_words (undone.Work handler arg) = codes "work " ++ call_words handler arg
