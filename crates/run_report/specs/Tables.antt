-- What the kernel's tables print as: the line `tables`, and a line for each row.
-- Here: row_name, row_item, told_rows, table_items
use Rattle.std.specs.Prelude.{ℕ, List, [], ◌∷◌, map, take}
use Rattle.kernel_tables.specs.declared.row.Row.{Row}
use Rattle.kernel_tables.specs.declared.row.Row.TheVariants as row
use Rattle.run_report.specs.declared.item.Item.{Item}
use Rattle.run_report.specs.declared.item.Item.TheVariants as item

-- the name of the function that a row names by its number, where owners' functions have these names
abbrev pub row_name : (ℕ → ℕ → List ℕ) → Row → List ℕ
row_name names (row.Line line o handler) = names o handler
row_name names (row.Timer o id due handler arg) = names o handler
row_name names (row.Work o handler arg) = names o handler
row_name names _ = []

-- a row as it is printed
abbrev pub row_item : (ℕ → ℕ → List ℕ) → Row → Item
row_item names r = item.Row r (row_name names r)

-- The rows that are asked for, by numbers of 32 bits. These are all rows: `all_rows_are_told` says so of every history.
unfoldable pub told_rows : List Row → List Row
told_rows rows = take 4294967295 rows

-- the tables with these rows
abbrev pub table_items : (ℕ → ℕ → List ℕ) → List Row → List Item
table_items names rows = item.Tables ∷ map (row_item names) (told_rows rows)
