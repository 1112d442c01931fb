-- The table of reserved words: a word's slot, and what a slot has.
use Rattle.std.specs.Prelude.{ℕ, ◌+◌, ◌-◌, ◌*◌, ◌%◌, length, slice_index, slice_index_or, Option, None}
use Rattle.c_tree.specs.declared.keywords.Keyword.{Keyword}
use Rattle.c_tree.specs.Bytes.{Text}
use Rattle.c_token.specs.declared.reserved.TheConstants.{RESERVED}

-- The slot of a name.
unfoldable pub slot_of : Text → ℕ
slot_of b = (5 * slice_index b 0 + 2 * slice_index b (length b - 2) + 15 * slice_index b (length b - 1) + length b) % 128

-- What stands in a slot.
unfoldable pub entry_of : ℕ → Option Keyword
entry_of slot = slice_index_or RESERVED slot None
