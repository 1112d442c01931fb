-- The bytes of an element, by its number and by its type.
use Rattle.std.proofs.Common.{◌≡◌, ℕ, Option, Some, option_map, unwrap_or, ap, ◌∙◌}
use Rattle.checked_tree.specs.declared.shapes.Shape.{Shape}
use Rattle.deputy_types.specs.declared.element.Element.{Element}
use Rattle.deputy_types.specs.Extents.{key_extent}
use Rattle.deputy_types.specs.Fitting.{elem_bytes, shape_size}
use Rattle.deputy_types.specs.Table.{Table, element_at}
use Rattle.driver_safety.specs.TypeFacts.{HasTypes}

pub element_size : (t : Table) → HasTypes t → (n : ℕ) (key : Element) → element_at t n ≡ Some key → elem_bytes t.elems t.structs n ≡
    (key_extent t.extents key).bytes
element_size t types n key is = ap (λ (o : Option Shape). unwrap_or (option_map (shape_size t.structs) o) 0) (types.elements n key is).0
    ∙ types.bytes key
