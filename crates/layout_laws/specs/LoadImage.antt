-- The load image of a text: one block for each global, then one for each string, each in text order; where they lie, and what they hold at
-- first.
use Rattle.std.specs.Prelude.{◌≡◌, ℕ, ◌+◌, ◌*◌, ◌≤◌, true, false, List, [], ◌∷◌, ◌++◌, length, Option, Some, None, slice_get, All, Ok}
use Rattle.c_tree.specs.declared.items.Const.{Const}
use Rattle.c_tree.specs.declared.items.GlobalItem.{GlobalItem}
use Rattle.c_tree.specs.declared.items.Item.{Item}
use Rattle.c_tree.specs.declared.items.Item.TheVariants as item
use Rattle.c_tree.specs.declared.items.Unit.{Unit as TextUnit}
use Rattle.checked_tree.specs.declared.shapes.Scalar.{Scalar}
use Rattle.checked_tree.specs.declared.shapes.Scalar.TheVariants as scalar
use Rattle.checked_tree.specs.declared.shapes.Shape.TheVariants as shape
use Rattle.checked_tree.specs.declared.units.ImageBlock.{ImageBlock}
use Rattle.checked_tree.specs.Numbers.{converted}
use Rattle.deputy_types.specs.Extents.{round_up_to}
use Rattle.deputy_types.specs.Fitting.{elem_bytes, place_value, AreZero}
use Rattle.deputy_types.specs.Found.{first_found, found_items, struct_names}
use Rattle.deputy_types.specs.StructLaws.{IsMultiple}
use Rattle.deputy_types.specs.StructLayout.{const_value, element_count}
use Rattle.deputy_types.specs.Table.{Table, elem}
use Rattle.deputy_types.specs.UnitLayout.{layout}

-- the globals that are declared among items, in text order
abbrev pub global_items : List Item → List GlobalItem
global_items [] = []
global_items (item.Struct s ∷ xs) = global_items xs
global_items (item.Global g ∷ xs) = g ∷ global_items xs
global_items (item.Function f ∷ xs) = global_items xs
global_items (item.Prototype h ∷ xs) = global_items xs

-- the strings of a text, in its order
abbrev pub text_strings : TextUnit → List (List ℕ)
text_strings u = (found_items (struct_names u.items []) u.items first_found).strings

-- ---- where blocks lie
-- in turn from an address on: each at the next multiple of 16 behind the end of the one before
abbrev pub AreInTurn : ℕ → List ImageBlock → Type 0
AreInTurn from [] = Unit {0}
AreInTurn from (b ∷ bs) = (b.base ≡ round_up_to 16 from) × AreInTurn (b.base + b.size) bs

-- no two share a byte: each ends before those behind it begin
abbrev pub AreApart : List ImageBlock → Type 0
AreApart [] = Unit {0}
AreApart (b ∷ bs) = All (λ c. b.base + b.size ≤ c.base) bs × AreApart bs

-- a block at a multiple of 16, from 16 on, that ends by 524,288
pub record IsWithinImage (b : ImageBlock) : Type 0 where
  pub aligned : IsMultiple 16 b.base
  pub from : 16 ≤ b.base
  pub to : b.base + b.size ≤ 524288

-- ---- what blocks hold at first
-- what a global without a value holds: zeros
abbrev pub HoldsFirst : Table → ImageBlock → Option Const → Type 0
HoldsFirst t b None = AreZero b.bytes 0 b.size
HoldsFirst t b (Some c) =
    (s : Scalar) × (slice_get t.elems b.elem ≡ Some (shape.Int s)) × (place_value b.bytes 0 (shape.Int s) ≡ converted s (const_value c))

-- the block of a global: as many elements of its type as it is declared with, and its first value, converted to its type, or zeros
pub record IsBlockOfGlobal (t : Table) (g : GlobalItem) (b : ImageBlock) : Type 0 where
  pub elem : elem t g.declaration.type_name ≡ Some b.elem
  pub count : element_count g.declaration.size ≡ Some b.count
  pub size : b.size ≡ b.count * elem_bytes t.elems t.structs b.elem
  pub no_text : b.nullterm ≡ false
  pub bytes : length b.bytes ≡ b.size
  pub first : HoldsFirst t b g.value

-- the block of a string: its bytes and a 0, of the element `char`
pub record IsBlockOfString (t : Table) (text : List ℕ) (b : ImageBlock) : Type 0 where
  pub elem : slice_get t.elems b.elem ≡ Some (shape.Int scalar.U8)
  pub count : b.count ≡ length text + 1
  pub size : b.size ≡ length text + 1
  pub is_text : b.nullterm ≡ true
  pub bytes : b.bytes ≡ text ++ 0 ∷ []

-- a block with a number
abbrev pub HasBlock : Table → ℕ → (ImageBlock → Type 0) → Type 0
HasBlock t n P = (b : ImageBlock) × (slice_get t.image n ≡ Some b) × P b

-- the load image of a text's globals and strings
pub record HasImage (t : Table) (globals : List GlobalItem) (strings : List (List ℕ)) : Type 0 where
  pub number : length t.image ≡ length globals + length strings
  pub literals : t.literals ≡ length strings
  pub global : (k : ℕ) (g : GlobalItem) → slice_get globals k ≡ Some g → HasBlock t k (IsBlockOfGlobal t g)
  pub string : (k : ℕ) (text : List ℕ) → slice_get strings k ≡ Some text → HasBlock t (length globals + k) (IsBlockOfString t text)
  pub turn : AreInTurn 16 t.image
  pub within : All IsWithinImage t.image
  pub apart : AreApart t.image

-- so in each table of a text
abbrev pub EachHasImage : Type 0
EachHasImage = (u : TextUnit) (t : Table) → layout u ≡ Ok t → HasImage t (global_items u.items) (text_strings u)
