-- Each block of a load image fits its type: a global without a value is zeros, and the others are integers.
use Rattle.std.proofs.Common.{◌≡◌, inl, inr, ℕ, ◌+◌, ◌-◌, ◌*◌, ◌<◌, ◌≤◌, List, length, Option, Some, None, option_map, unwrap_or, slice_get, slice_index_or, sym, ◌∙◌, ap, subst, arith}
use Rattle.std.proofs.lemmas.Bool.{cases_lt}
use Rattle.std.proofs.lemmas.Option.{slice_get_within}
use Rattle.sd_base.specs.Blocks.{Block}
use Rattle.c_tree.specs.declared.items.Const.{Const}
use Rattle.c_tree.specs.declared.items.GlobalItem.{GlobalItem}
use Rattle.checked_tree.specs.declared.shapes.Scalar.{Scalar}
use Rattle.checked_tree.specs.declared.shapes.Scalar.TheVariants as scalar
use Rattle.checked_tree.specs.declared.shapes.Shape.{Shape}
use Rattle.checked_tree.specs.declared.shapes.Shape.TheVariants as shape
use Rattle.checked_tree.specs.declared.shapes.StructShape.{StructShape}
use Rattle.checked_tree.specs.declared.units.ImageBlock.{ImageBlock}
use Rattle.deputy_types.specs.Fitting.{shape_size, elem_bytes, Part, whole, member, is_any, AreZero, AreNested, BytesFit}
use Rattle.deputy_types.specs.Table.{Table}
use Rattle.layout_laws.proofs.ZeroFits.{zero_fits}
use Rattle.layout_laws.specs.FirstFits.{Holds, FitsAtFirst, EachBlockFitsAtFirst}
use Rattle.layout_laws.specs.LoadImage.{global_items, text_strings, HoldsFirst, IsBlockOfGlobal, IsBlockOfString, HasImage}
use Rattle.layout_laws.proofs.ImageLaws.{has_image}
use Rattle.layout_laws.proofs.Places.{element_at}
use Rattle.layout_laws.proofs.StructsDeclared.{structs_nested}

-- ---- an integer fits
no_struct_in : (structs : List StructShape) (at : ℕ) (s : Scalar) (b : ℕ) (y : Shape) → Part structs is_any at (shape.Int s) b y → y ≡ shape.Int s
no_struct_in structs at s b y (whole e f) = f
no_struct_in structs at s b y (member c n k j t m p is mem passes l e f) = let g : shape.Struct n ≡ shape.Int s = no_struct_in structs at s c (shape.Struct n) p in absurd cc

int_fits : (granted : List Block) (elems : List Shape) (structs : List StructShape) (bytes : List ℕ) (at : ℕ) (s : Scalar) → BytesFit granted elems structs bytes at (shape.Int s)
int_fits granted elems structs bytes at s = record {
  whole = tt;
  members = λ b n k j t m p is mem used l. absurd (let g : shape.Struct n ≡ shape.Int s = no_struct_in structs at s b (shape.Struct n) p in cc);
}

-- a block of integers
integers_fit : (t : Table) (b : ImageBlock) (s : Scalar) → slice_get t.elems b.elem ≡ Some (shape.Int s) → FitsAtFirst t b
integers_fit t b s e granted memory x j holds at below =
    let same : shape.Int s ≡ x = let f : Some (shape.Int s) ≡ Some x = sym e ∙ at in cc in
    subst (λ (y : Shape). BytesFit granted t.elems t.structs memory (b.base + j * shape_size t.structs y) y) same
    (int_fits granted t.elems t.structs memory (b.base + j * shape_size t.structs (shape.Int s)) s)

-- ---- zeros fit
within_all : (j count size all i : ℕ) → all ≡ count * size → j < count → i < size → j * size + i < all
within_all j count size all i e l k =
    let more : (j + 1) * size ≤ count * size = grind arith in
    let next : (j + 1) * size ≡ j * size + size = grind arith in
    omega arith

element_zero : (memory : List ℕ) (b : ImageBlock) (size j : ℕ) → Holds memory b → AreZero b.bytes 0 b.size → b.size ≡ b.count * size → j < b.count → AreZero memory (b.base + j * size) size
element_zero memory b size j holds zeros e l i k =
    let place : j * size + i < b.size = within_all j b.count size b.size i e l k in
    let moved : b.base + (j * size + i) ≡ b.base + j * size + i = omega arith in
    let front : 0 + (j * size + i) ≡ j * size + i = omega arith in
    let zero_there : slice_index_or b.bytes (j * size + i) 0 ≡ 0 = subst (λ (n : ℕ). slice_index_or b.bytes n 0 ≡ 0) front (zeros (j * size + i) place) in
    subst (λ (n : ℕ). slice_index_or memory n 0 ≡ 0) moved (holds (j * size + i) place ∙ zero_there)

zeros_fit : (t : Table) (b : ImageBlock) → AreNested t.structs → AreZero b.bytes 0 b.size → b.size ≡ b.count * elem_bytes t.elems t.structs b.elem → FitsAtFirst t b
zeros_fit t b nested zeros size granted memory x j holds at below =
    let bytes : elem_bytes t.elems t.structs b.elem ≡ shape_size t.structs x = ap (λ (o : Option Shape). unwrap_or (option_map (shape_size t.structs) o) 0) at in
    let all : b.size ≡ b.count * shape_size t.structs x = size ∙ ap (λ (n : ℕ). b.count * n) bytes in
    zero_fits granted t.elems t.structs memory (b.base + j * shape_size t.structs x) x nested (element_zero memory b (shape_size t.structs x) j holds zeros all below)

-- ---- a global, a string
global_fits : (t : Table) (g : GlobalItem) (b : ImageBlock) (c : Option Const) → AreNested t.structs → HoldsFirst t b c → b.size ≡ b.count * elem_bytes t.elems t.structs b.elem → FitsAtFirst t b
global_fits t g b None nested first size = zeros_fit t b nested first size
global_fits t g b (Some c) nested first size = integers_fit t b first.0 first.1

block_is : (t : Table) (n : ℕ) (b c : ImageBlock) → slice_get t.image n ≡ Some c → slice_get t.image n ≡ Some b → c ≡ b
block_is t n b c e f = let g : Some c ≡ Some b = sym e ∙ f in cc

-- a block of the image, by its number
global_block_fits : (t : Table) (globals : List GlobalItem) (strings : List (List ℕ)) (n : ℕ) (b : ImageBlock) → HasImage t globals strings → AreNested t.structs
    → slice_get t.image n ≡ Some b → n < length globals → FitsAtFirst t b
global_block_fits t globals strings n b image nested at l =
    let g = element_at globals n l in
    let has = image.global n g.0 g.1 in
    let is : IsBlockOfGlobal t g.0 b = subst (λ (c : ImageBlock). IsBlockOfGlobal t g.0 c) (block_is t n b has.0 has.1 at) has.2 in
    global_fits t g.0 b g.0.value nested is.first is.size

string_block_fits : (t : Table) (globals : List GlobalItem) (strings : List (List ℕ)) (n : ℕ) (b : ImageBlock) → HasImage t globals strings
    → slice_get t.image n ≡ Some b → length globals ≤ n → FitsAtFirst t b
string_block_fits t globals strings n b image at l =
    let below : n < length t.image = slice_get_within t.image n b at in
    let number = image.number in
    let k : ℕ = n - length globals in
    let place : length globals + k ≡ n = omega arith in
    let text = element_at strings k (omega arith) in
    let has = image.string k text.0 text.1 in
    let here : slice_get t.image n ≡ Some has.0 = subst (λ (m : ℕ). slice_get t.image m ≡ Some has.0) place has.1 in
    let is : IsBlockOfString t text.0 b = subst (λ (c : ImageBlock). IsBlockOfString t text.0 c) (block_is t n b has.0 here at) has.2 in
    integers_fit t b scalar.U8 is.elem

pub image_fits : EachBlockFitsAtFirst
image_fits u t n b h at =
    let image = has_image u t h in
    elim (cases_lt n (length (global_items u.items))) [
      | inl l ↦ global_block_fits t (global_items u.items) (text_strings u) n b image (structs_nested u t h) at l
      | inr l ↦ string_block_fits t (global_items u.items) (text_strings u) n b image at l
    ]
