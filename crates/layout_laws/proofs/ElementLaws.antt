-- The elements of a table, and its strings, by number.
use Rattle.std.proofs.Common.{◌≡◌, ℕ, ◌+◌, ◌<◌, List, length, Option, Some, None, option_map, slice_get, nat_lt, sym, ◌∙◌, ap, arith}
use Rattle.std.proofs.lemmas.Bool.{ltb-true, lt-ltb, cond-true}
use Rattle.std.proofs.lemmas.List.{length-map}
use Rattle.checked_tree.specs.declared.shapes.Shape.{Shape}
use Rattle.deputy_types.specs.declared.element.Element.{Element}
use Rattle.deputy_types.specs.Extents.{key_extent}
use Rattle.deputy_types.specs.Fitting.{shape_size}
use Rattle.deputy_types.specs.Table.{elem_size, literal}
use Rattle.deputy_types.specs.UnitLayout.{elem_shape}
use Rattle.layout_laws.specs.Elements.{EachHasElements}
use Rattle.layout_laws.specs.Lookups.{EachStringIsFound}
use Rattle.layout_laws.proofs.ElementSizes.{type_bytes, char_first}
use Rattle.layout_laws.proofs.GlobalNumbers.{globals_found, if_true}
use Rattle.layout_laws.proofs.ImageLaws.{has_image}
use Rattle.layout_laws.proofs.StructsDeclared.{layouts_of, from_mapped}

pub has_elements : EachHasElements
unfolding elem_size
has_elements u t h =
    let all = layouts_of u t h in
    record {
      many = ap (λ (l : List Shape). length l) all.elems ∙ length-map t.types.elements (elem_shape t.types.elements t.extents);
      char = char_first u t all;
      bytes = λ n x at.
          let listed = ap (λ (l : List Shape). slice_get l n) (sym all.elems) ∙ at in
          let key = from_mapped (elem_shape t.types.elements t.extents) t.types.elements n x listed in
          let size : (key_extent t.extents key.0).bytes ≡ shape_size t.structs x = sym (type_bytes u t all key.0) ∙ ap (shape_size t.structs) key.2 in
          ap (λ (o : Option Element). option_map (λ (k : Element). (key_extent t.extents k).bytes) o) key.1 ∙ ap (λ (m : ℕ). Some m) size;
    }

pub strings_found : EachStringIsFound
unfolding literal
strings_found u t room h =
    let image = has_image u t h in
    let literals = image.literals in
    let names = (globals_found u t room h).names in
    record {
      found = λ k l.
          cond-true (nat_lt k t.literals) (Some (length t.globals + k)) None (lt-ltb k t.literals (omega (arith, literals, l))) ∙ ap (λ (n : ℕ). Some (n + k)) names;
      only = λ k n e.
          let test = if_true (nat_lt k t.literals) (Some (length t.globals + k)) n e in
          let below : k < t.literals = ltb-true k t.literals test in
          let is : Some (length t.globals + k) ≡ Some n = sym (cond-true (nat_lt k t.literals) (Some (length t.globals + k)) None test) ∙ e in
          let place : length t.globals + k ≡ n = cc in
          (omega (arith, literals, below), omega (arith, place, names));
    }
