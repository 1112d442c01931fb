-- How a driver is loaded: all bytes are 0 but those of its image, which are copied in; and each block of the image is granted. So each text
-- has a driver with which the law of runs begins.
use Rattle.std.specs.Prelude.{◌≡◌, ℕ, ◌<◌, ◌≤◌, List, [], ◌∷◌, map, All, Ok}
use Rattle.byte_memory.specs.declared.tested.GrantedRange.{GrantedRange}
use Rattle.byte_memory.specs.Bytes.{overwritten, zeros}
use Rattle.sd_base.specs.Blocks.{Block}
use Rattle.sd_base.specs.declared.history.BlockState.TheVariants.{Image}
use Rattle.c_tree.specs.declared.items.Unit.{Unit as TextUnit}
use Rattle.checked_tree.specs.declared.units.ImageBlock.{ImageBlock}
use Rattle.deputy_types.specs.Fitting.{elem_bytes}
use Rattle.deputy_types.specs.Table.{Table}
use Rattle.deputy_types.specs.UnitLayout.{layout}
use Rattle.driver_safety.specs.RunLaw.{Driver, IsFirst}

-- bytes with the blocks of an image copied in
abbrev pub copied_in : List ImageBlock → List ℕ → List ℕ
copied_in [] bytes = bytes
copied_in (i ∷ image) bytes = copied_in image (overwritten bytes i.base i.bytes)

-- the granted block of a block of the image, and its range
abbrev pub block_of : Table → ImageBlock → Block
block_of t i = record {
  base = i.base;
  layout = record { elem = i.elem; size = elem_bytes t.elems t.structs i.elem; nullterm = i.nullterm };
  count = i.count;
  state = Image;
}

abbrev pub range_of : ImageBlock → GrantedRange
range_of i = record { base = i.base; size = i.size }

-- the driver of a text in a memory of so many bytes
abbrev pub first_driver : Table → ℕ → Driver
first_driver t n = record {
  blocks = map (block_of t) t.image;
  memory = record { bytes = copied_in t.image (zeros n); granted = map range_of t.image };
  activities = [];
}

-- it is loaded as the law of runs asks, in a memory that has room for an image
abbrev pub EachTextCanBeLoaded : Type 0
EachTextCanBeLoaded =
    (u : TextUnit) (t : Table) → layout u ≡ Ok t → All (λ i. All (λ b. b < 256) i.bytes) t.image → (n : ℕ) → 524288 ≤ n
    → IsFirst t (first_driver t n)
