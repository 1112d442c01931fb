-- The globals of a text, one by one: what was declared of each.
use Rattle.std.proofs.Common.{◌≡◌, ℕ, ◌<◌, nat_lt, Bool, true, false, List, [], ◌∷◌, ◌++◌, length, Option, Some, None, is_some, Ok, if◌then◌else◌, refl, sym, ◌∙◌, ap, subst, append_assoc}
use Rattle.std.specs.List.{AllZip}
use Rattle.std.proofs.lemmas.Bool.{ltb-true}
use Rattle.std.proofs.lemmas.List.{append-nil, get_or_append_left}
use Rattle.std.proofs.lemmas.Option.{unwrap_or-slice_get}
use Rattle.c_tree.specs.declared.items.GlobalItem.{GlobalItem}
use Rattle.c_tree.specs.declared.items.Item.{Item}
use Rattle.c_tree.specs.declared.items.Item.TheVariants as item
use Rattle.deputy_types.specs.declared.element.Element.{Element}
use Rattle.deputy_types.specs.declared.element.Element.TheVariants as element
use Rattle.deputy_types.specs.declared.extent.Extent.{Extent}
use Rattle.deputy_types.specs.declared.global.GlobalShape.{GlobalShape}
use Rattle.deputy_types.specs.declared.types.Types.{Types}
use Rattle.deputy_types.specs.Extents.{no_extent, struct_extent, key_extent}
use Rattle.deputy_types.specs.Options.{and_then}
use Rattle.deputy_types.specs.StructLayout.{element_count}
use Rattle.deputy_types.specs.Types.{element_number, type_key}
use Rattle.deputy_types.specs.UnitLayout.{is_new_global, first_value, if_declared, global_of, global_declared, with_global_shape, with_taken, strings_behind, with_item, with_items}
use Rattle.deputy_types.proofs.Inversions.{some_then, some_map, if_some, ok_then}
use Rattle.layout_laws.specs.LoadImage.{global_items}
use Rattle.layout_laws.proofs.Declarations.{adds_struct, adds_global, adds_body}
use Rattle.layout_laws.proofs.Lists.{Extends, extends_itself, extends_push, extends_twice}
use Rattle.deputy_types.specs.declared.unit_items.Declared.{Declared}

-- ---- the extents only grow
item_extends : (types : Types) (ends : List ℕ) (d : Declared) (x : Item) (next : Declared) → with_item types ends d x ≡ Ok next → Extends d.extents next.extents
unfolding with_item with_global_shape
item_extends types ends d (item.Struct s) next h =
    let a = adds_struct types d s next h in
    extends_push d.extents next.extents a.laid.extent (ap (λ (x : Declared). x.extents) (sym a.next))
item_extends types ends d (item.Global g) next h =
    let a = adds_global types d g next h in
    subst (λ (x : Declared). Extends d.extents x.extents) a.next (extends_itself d.extents)
item_extends types ends d (item.Function f) next h =
    let a = adds_body d f.head.name f.head.line (strings_behind ends d) next h in
    subst (λ (x : Declared). Extends d.extents x.extents) a.next (extends_itself d.extents)
item_extends types ends d (item.Prototype p) next h =
    let same : with_taken d p.name ≡ next = cc in
    subst (λ (x : Declared). Extends d.extents x.extents) same (extends_itself d.extents)

pub items_extend : (types : Types) (ends : List ℕ) (d out : Declared) (items : List Item) → with_items types ends d items ≡ Ok out → Extends d.extents out.extents
items_extend types ends d out [] h = let e : d ≡ out = cc in subst (λ (x : Declared). Extends d.extents x.extents) e (extends_itself d.extents)
items_extend types ends d out (x ∷ xs) h =
    let a = ok_then (with_item types ends d x) (λ next. with_items types ends next xs) out h in
    extends_twice d.extents a.0.extents out.extents (item_extends types ends d x a.0 a.1) (items_extend types ends a.0 out xs a.2)

-- ---- a type that stands has the same extent with those of later structs
extent_front : (xs ys : List Extent) (s : ℕ) → s < length xs → struct_extent xs s ≡ struct_extent (xs ++ ys) s
extent_front xs ys s l = unwrap_or-slice_get xs s no_extent ∙ (sym (get_or_append_left xs ys no_extent s l) ∙ sym (unwrap_or-slice_get (xs ++ ys) s no_extent))

record KeepsExtent (before now : List Extent) (key out : Element) : Type 0 where
  same : key ≡ out
  extent : key_extent before key ≡ key_extent now key

struct_keeps : (before now : List Extent) (s : ℕ) (out : Element) (b : Bool) → Extends before now → nat_lt s (length before) ≡ b
    → (if b then Some (element.Struct s) else None) ≡ Some out → KeepsExtent before now (element.Struct s) out
struct_keeps before now s out false e below h = absurd cc
struct_keeps before now s out true e below h = record {
  same = cc;
  extent = extent_front before e.more s (ltb-true s (length before) below) ∙ ap (λ (l : List Extent). struct_extent l s) (sym e.is);
}

keeps_extent : (before now : List Extent) (key out : Element) → Extends before now → if_declared (length before) key ≡ Some out → KeepsExtent before now key out
keeps_extent before now (element.Int s) out e h = record { same = cc; extent = refl }
keeps_extent before now (element.Struct s) out e h = struct_keeps before now s out (nat_lt s (length before)) e refl h
keeps_extent before now (element.Sentinel n) out e h = record { same = cc; extent = refl }
keeps_extent before now (element.Nullterm n) out e h = record { same = cc; extent = refl }
keeps_extent before now (element.Count n k) out e h = record { same = cc; extent = refl }

-- ---- a global
pub record IsGlobalOf (types : Types) (extents : List Extent) (g : GlobalItem) (x : GlobalShape) : Type 0 where
  pub key : Element
  pub key_is : type_key types g.declaration.type_name ≡ Some key
  pub elem : element_number types.elements key ≡ Some x.elem
  pub count : element_count g.declaration.size ≡ Some x.count
  pub size : x.size ≡ (key_extent extents key).bytes
  pub array : x.array ≡ is_some g.declaration.size
  pub value : first_value key g.declaration.size g.value ≡ Some x.value

pub global_is : (types : Types) (d : Declared) (now : List Extent) (g : GlobalItem) (x : GlobalShape) → Extends d.extents now → global_declared types d g ≡ Some x → IsGlobalOf types now g x
unfolding global_declared
global_is types d now g x e h =
    let key_of : Option Element = type_key types g.declaration.type_name in
    let a = if_some (is_new_global d g.declaration.name) (and_then (and_then key_of (if_declared (length d.extents))) (global_of types d g)) x h in
    let b = some_then (and_then key_of (if_declared (length d.extents))) (global_of types d g) x a in
    let c = some_then key_of (if_declared (length d.extents)) b.0 b.1 in
    let keeps = keeps_extent d.extents now c.0 b.0 e c.2 in
    let elem = some_then (element_number types.elements b.0) _ x b.2 in
    let count = some_then (element_count g.declaration.size) _ x elem.2 in
    let value = some_map (first_value b.0 g.declaration.size g.value) _ x count.2 in
    let shape : GlobalShape = record { line = g.line; elem = elem.0; count = count.0; size = (key_extent d.extents b.0).bytes; array = is_some g.declaration.size; value = value.0 } in
    let same : shape ≡ x = value.2 in
    let extent : key_extent d.extents b.0 ≡ key_extent now b.0 = subst (λ (k : Element). key_extent d.extents k ≡ key_extent now k) keeps.same keeps.extent in
    let is : IsGlobalOf types now g shape = record {
      key = b.0;
      key_is = subst (λ (k : Element). key_of ≡ Some k) keeps.same c.1;
      elem = elem.1;
      count = count.1;
      size = ap (λ (y : Extent). y.bytes) extent;
      array = refl;
      value = value.1;
    } in
    subst (λ (y : GlobalShape). IsGlobalOf types now g y) same is

-- what items add to the globals
pub record AddsGlobals (types : Types) (d out : Declared) (globals : List GlobalItem) : Type 0 where
  pub new : List GlobalShape
  pub is : out.globals ≡ d.globals ++ new
  pub each : AllZip (IsGlobalOf types out.extents) globals new

same_globals : (types : Types) (d next out : Declared) (globals : List GlobalItem) → next.globals ≡ d.globals → AddsGlobals types next out globals → AddsGlobals types d out globals
same_globals types d next out globals e a = record { new = a.new; is = a.is ∙ ap (λ (l : List GlobalShape). l ++ a.new) e; each = a.each }

pub globals_added : (types : Types) (ends : List ℕ) (d out : Declared) (items : List Item) → with_items types ends d items ≡ Ok out → AddsGlobals types d out (global_items items)
unfolding with_item with_global_shape
globals_added types ends d out [] h =
    let e : d ≡ out = cc in
    record { new = []; is = ap (λ (x : Declared). x.globals) (sym e) ∙ sym (append-nil d.globals); each = tt }
globals_added types ends d out (item.Struct s ∷ xs) h =
    let a = ok_then (with_item types ends d (item.Struct s)) (λ next. with_items types ends next xs) out h in
    let one = adds_struct types d s a.0 a.1 in
    same_globals types d a.0 out (global_items xs) (ap (λ (x : Declared). x.globals) (sym one.next)) (globals_added types ends a.0 out xs a.2)
globals_added types ends d out (item.Global g ∷ xs) h =
    let a = ok_then (with_item types ends d (item.Global g)) (λ next. with_items types ends next xs) out h in
    let one = adds_global types d g a.0 a.1 in
    let more = globals_added types ends a.0 out xs a.2 in
    let grown : Extends d.extents out.extents = extends_twice d.extents a.0.extents out.extents (item_extends types ends d (item.Global g) a.0 a.1) (items_extend types ends a.0 out xs a.2) in
    let pushed : a.0.globals ≡ d.globals ++ one.shape ∷ [] = ap (λ (x : Declared). x.globals) (sym one.next) in
    record {
      new = one.shape ∷ more.new;
      is = more.is ∙ (ap (λ (l : List GlobalShape). l ++ more.new) pushed ∙ append_assoc d.globals (one.shape ∷ []) more.new);
      each = (global_is types d out.extents g one.shape grown one.is, more.each);
    }
globals_added types ends d out (item.Function f ∷ xs) h =
    let a = ok_then (with_item types ends d (item.Function f)) (λ next. with_items types ends next xs) out h in
    let one = adds_body d f.head.name f.head.line (strings_behind ends d) a.0 a.1 in
    same_globals types d a.0 out (global_items xs) (ap (λ (x : Declared). x.globals) (sym one.next)) (globals_added types ends a.0 out xs a.2)
globals_added types ends d out (item.Prototype p ∷ xs) h =
    same_globals types d (with_taken d p.name) out (global_items xs) refl (globals_added types ends (with_taken d p.name) out xs h)
