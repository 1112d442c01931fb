-- The load image of a table: a block for each global and each string of its text.
use Rattle.std.proofs.Common.{◌≡◌, ℕ, ◌+◌, ◌*◌, List, [], ◌∷◌, ◌++◌, length, All, Option, Some, None, slice_get, refl, sym, ◌∙◌, ap, subst, arith}
use Rattle.std.specs.List.{AllZip}
use Rattle.std.proofs.lemmas.List.{length-append}
use Rattle.c_tree.specs.declared.items.Const.{Const}
use Rattle.c_tree.specs.declared.items.GlobalItem.{GlobalItem}
use Rattle.c_tree.specs.declared.items.Unit.{Unit as TextUnit}
use Rattle.checked_tree.specs.declared.units.ImageBlock.{ImageBlock}
use Rattle.deputy_types.specs.declared.element.Element.{Element}
use Rattle.deputy_types.specs.declared.element.Element.TheVariants as element
use Rattle.deputy_types.specs.declared.global.GlobalShape.{GlobalShape}
use Rattle.deputy_types.specs.declared.types.Types.{Types}
use Rattle.deputy_types.specs.Extents.{key_extent}
use Rattle.deputy_types.specs.Fitting.{elem_bytes}
use Rattle.deputy_types.specs.Options.{and_then}
use Rattle.deputy_types.specs.Table.{Table, elem}
use Rattle.deputy_types.specs.Types.{element_number, type_key}
use Rattle.deputy_types.specs.UnitLayout.{nothing_declared, global_block, string_block, elem_shape, table_of}
use Rattle.layout_laws.specs.LoadImage.{global_items, text_strings, AreInTurn, IsBlockOfGlobal, IsBlockOfString, HoldsFirst, EachHasImage}
use Rattle.layout_laws.proofs.Blocks.{EndsWithin, IsGlobalBlock, IsStringBlock, blocks_of, turn_apart, turn_within}
use Rattle.layout_laws.proofs.ElementSizes.{numbered, elem_at, elem_bytes_are, char_first, scalar_same}
use Rattle.layout_laws.proofs.FirstValues.{HasFirst, has_first}
use Rattle.layout_laws.proofs.GlobalsDeclared.{IsGlobalOf, globals_added}
use Rattle.layout_laws.proofs.Lists.{slice_front, slice_behind, zip_length, zip_at, zip_joined}
use Rattle.layout_laws.proofs.Steps.{types_in, found_in, steps}
use Rattle.layout_laws.proofs.StringsFound.{lines_of}
use Rattle.layout_laws.proofs.StructsDeclared.{HasLayouts, layouts_of}

-- ---- the block of a global
holds_first : (t : Table) (x : GlobalShape) (base : ℕ) (key : Element) (c : Option Const) → HasFirst key c x → x.size ≡ (key_extent t.extents key).bytes
    → slice_get t.elems x.elem ≡ Some (elem_shape t.types.elements t.extents key) → HoldsFirst t (global_block x base) c
unfolding elem_shape
holds_first t x base key None f size at = f.zeros refl
holds_first t x base key (Some v) f size at =
    let r = f.value v refl in
    let bytes : x.size ≡ (key_extent t.extents (element.Int r.0)).bytes = subst (λ (k : Element). x.size ≡ (key_extent t.extents k).bytes) r.1 size in
    let here : slice_get t.elems x.elem ≡ Some (elem_shape t.types.elements t.extents (element.Int r.0)) =
    subst (λ (k : Element). slice_get t.elems x.elem ≡ Some (elem_shape t.types.elements t.extents k)) r.1 at in
    (r.0, here, r.2 (bytes ∙ sym (scalar_same r.0)))

global_placed : (u : TextUnit) (t : Table) (h : HasLayouts u t) (g : GlobalItem) (x : GlobalShape) (base : ℕ) → IsGlobalOf (types_in u) t.extents g x
    → IsBlockOfGlobal t g (global_block x base)
unfolding elem
global_placed u t h g x base is =
    let key_is : type_key t.types g.declaration.type_name ≡ Some is.key = ap (λ (y : Types). type_key y g.declaration.type_name) h.types ∙ is.key_is in
    let number : element_number t.types.elements is.key ≡ Some x.elem = ap (λ (y : Types). element_number y.elements is.key) h.types ∙ is.elem in
    let listed : slice_get t.types.elements x.elem ≡ Some is.key = numbered t.types.elements is.key x.elem number in
    let bytes : elem_bytes t.elems t.structs x.elem ≡ (key_extent t.extents is.key).bytes = elem_bytes_are u t h x.elem is.key listed in
    let first = has_first (types_in u) g.declaration.type_name is.key g.declaration.size g.value x is.key_is is.value is.count in
    record {
      elem = ap (λ (o : Option Element). and_then o (λ key. element_number t.types.elements key)) key_is ∙ number;
      count = is.count;
      size = ap (λ (n : ℕ). x.count * n) (is.size ∙ sym bytes);
      no_text = refl;
      bytes = first.long;
      first = holds_first t x base is.key g.value first is.size (elem_at u t h x.elem is.key listed);
    }

global_goes : (u : TextUnit) (t : Table) (h : HasLayouts u t) (g : GlobalItem) (x : GlobalShape) (b : ImageBlock) → IsGlobalOf (types_in u) t.extents g x → IsGlobalBlock x b
    → IsBlockOfGlobal t g b
global_goes u t h g x b is e = subst (λ (y : ImageBlock). IsBlockOfGlobal t g y) (sym e) (global_placed u t h g x b.base is)

-- ---- the block of a string
string_goes : (u : TextUnit) (t : Table) (h : HasLayouts u t) (text : List ℕ) (b : ImageBlock) → IsStringBlock text b → IsBlockOfString t text b
string_goes u t h text b e =
    let is : IsBlockOfString t text (string_block text b.base) = record { elem = char_first u t h; count = refl; size = refl; is_text = refl; bytes = refl } in
    subst (λ (y : ImageBlock). IsBlockOfString t text y) (sym e) is

-- ---- the image
zip_strings : (u : TextUnit) (t : Table) (h : HasLayouts u t) (strings : List (List ℕ)) (blocks : List ImageBlock) → AllZip IsStringBlock strings blocks → AllZip (IsBlockOfString t) strings blocks
zip_strings u t h [] [] z = tt
zip_strings u t h [] (b ∷ bs) z = absurd z
zip_strings u t h (s ∷ ss) [] z = absurd z
zip_strings u t h (s ∷ ss) (b ∷ bs) z = (string_goes u t h s b z.0, zip_strings u t h ss bs z.1)

pub has_image : EachHasImage
unfolding table_of
has_image u t h =
    let all = steps u t h in
    let layouts = layouts_of u t h in
    let together = lines_of u all.declared all.first in
    let blocks = blocks_of all.declared (found_in u).strings all.image together.lines all.image_is in
    let added = globals_added (types_in u) (found_in u).ends nothing_declared all.declared u.items all.first in
    let extents : all.declared.extents ≡ t.extents = ap (λ (x : Table). x.extents) all.is in
    let image : all.image.blocks ≡ t.image = ap (λ (x : Table). x.image) all.is in
    let literals : length all.declared.lines ≡ t.literals = ap (λ (x : Table). x.literals) all.is in
    let joined : t.image ≡ blocks.globals ++ blocks.texts = sym image ∙ blocks.is in
    let declared : AllZip (IsGlobalOf (types_in u) t.extents) (global_items u.items) all.declared.globals =
    subst (λ (l : List GlobalShape). AllZip (IsGlobalOf (types_in u) t.extents) (global_items u.items) l) (sym added.is)
    (subst (λ e. AllZip (IsGlobalOf (types_in u) e) (global_items u.items) added.new) extents added.each) in
    let globals : AllZip (IsBlockOfGlobal t) (global_items u.items) blocks.globals =
    zip_joined (IsGlobalOf (types_in u) t.extents) IsGlobalBlock (IsBlockOfGlobal t) (global_goes u t layouts) (global_items u.items) all.declared.globals blocks.globals declared blocks.each_global in
    let texts : AllZip (IsBlockOfString t) (text_strings u) blocks.texts = zip_strings u t layouts (text_strings u) blocks.texts blocks.each_text in
    let many : length (global_items u.items) ≡ length blocks.globals = zip_length (IsBlockOfGlobal t) (global_items u.items) blocks.globals globals in
    let more : length (text_strings u) ≡ length blocks.texts = zip_length (IsBlockOfString t) (text_strings u) blocks.texts texts in
    let turn = subst (λ (l : List ImageBlock). AreInTurn 16 l) image blocks.turn in
    let ends = subst (λ (l : List ImageBlock). All EndsWithin l) image blocks.ends in
    record {
      number = ap (λ (l : List ImageBlock). length l) joined ∙ (length-append blocks.globals blocks.texts ∙ counted (length blocks.globals) (length blocks.texts) (length (global_items u.items)) (length (text_strings u)) many more);
      literals = sym literals ∙ together.lines;
      global = λ k g at.
          let r = zip_at (IsBlockOfGlobal t) (global_items u.items) blocks.globals k g globals at in
          (r.other, subst (λ (l : List ImageBlock). slice_get l k ≡ Some r.other) (sym joined) (slice_front blocks.globals blocks.texts k r.other r.at), r.goes);
      string = λ k text at.
          let r = zip_at (IsBlockOfString t) (text_strings u) blocks.texts k text texts at in
          let n : ℕ = length (global_items u.items) in
          (r.other, subst (λ (l : List ImageBlock). slice_get l (n + k) ≡ Some r.other) (sym joined) (slice_behind blocks.globals blocks.texts k n r.other (sym many) r.at), r.goes);
      turn = turn;
      within = turn_within 16 t.image (omega arith) turn ends;
      apart = turn_apart 16 t.image turn;
    }
  where
    counted : (a b m n : ℕ) → m ≡ a → n ≡ b → a + b ≡ m + n
    counted a b m n e f = omega arith
