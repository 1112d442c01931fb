-- What each update of a net list put into the tables.
use Rattle.std.specs.Prelude.{◌≡◌, List, [], ◌∷◌, map, Option, Some}
use Rattle.sd_base.specs.declared.history.Update.{Update}
use Rattle.sd_base.specs.Blocks.{Block, blocks_after}
use Rattle.update_tracker.specs.declared.undo.Undo.{Undo}
use Rattle.update_tracker.specs.NetPart.{item_of}

-- the blocks that the updates of one owner grant, the newest first
abbrev pub blocks_in : List Update → List Block
blocks_in [] = []
blocks_in (u ∷ us) = blocks_after u (blocks_in us)

-- of each update of a net list its item, if it has one; the base of a block is that of the blocks before
abbrev pub items_of : List Update → List (Option Undo)
items_of [] = []
items_of (u ∷ us) = item_of u (blocks_in us) ∷ items_of us

-- the items are those of the updates, one for each, in order
abbrev pub AreItemsOf : List Undo → List Update → Type 0
AreItemsOf items net = map (λ (item : Undo). Some item) items ≡ items_of net
