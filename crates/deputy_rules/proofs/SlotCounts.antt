-- There are as many shapes of slots as slots.
use Rattle.std.proofs.Common.{◌≡◌, ◌+◌, List, [], ◌∷◌, ◌++◌, length, map, Bool, true, false, Option, Some, if◌then◌else◌, arith, length-append}
use Rattle.std.proofs.lemmas.List.{length-map}
use Rattle.c_tree.specs.declared.items.Function.{Function}
use Rattle.c_tree.specs.declared.items.Local.{Local}
use Rattle.c_tree.specs.Slots.{hidden_slots, is_automatic, slots, parameter, local, low_bound, high_bound}
use Rattle.checked_tree.specs.declared.shapes.Shape.{Shape}
use Rattle.checked_tree.specs.declared.shapes.Shape.TheVariants as shape
use Rattle.deputy_rules.specs.Heads.{with_hidden, slot_shapes, parameter_shapes, parameter_shape, parameter_siblings, local_shape, local_siblings}
use Rattle.deputy_types.specs.Table.{Table}

abbrev Shapes : Type 0
Shapes = List (Option Shape)

abbrev with_two : Shapes → Shapes
with_two shapes = shapes ++ (Some shape.Address ∷ Some shape.Address ∷ [])

hidden_counted : (ls : List Local) (shapes : Shapes) → length (with_hidden ls shapes) ≡ length shapes + length (hidden_slots ls)
hidden_counted [] shapes = omega arith
hidden_counted (l ∷ ls) shapes = by (is_automatic l) (hidden_counted ls (with_two shapes)) (hidden_counted ls shapes)
  where
    by : (b : Bool) → length (with_hidden ls (with_two shapes)) ≡ length (with_two shapes) + length (hidden_slots ls)
        → length (with_hidden ls shapes) ≡ length shapes + length (hidden_slots ls)
        → length (with_hidden ls (if b then with_two shapes else shapes)) ≡ length shapes + length
        (if b then low_bound l ∷ high_bound l ∷ hidden_slots ls else hidden_slots ls)
    by true more less =
        let two = length-append shapes (Some shape.Address ∷ Some shape.Address ∷ []) in
        omega (arith, more, two)
    by false more less = less

pub slots_counted : (t : Table) (f : Function) → length (slot_shapes t f) ≡ length (slots f)
unfolding slot_shapes parameter_shapes
slots_counted t f =
    let hidden = hidden_counted f.locals (parameter_shapes t f.head.params ++ map (local_shape t (local_siblings t.types f)) f.locals) in
    let front = length-append (parameter_shapes t f.head.params) (map (local_shape t (local_siblings t.types f)) f.locals) in
    let params = length-map f.head.params (parameter_shape t (parameter_siblings t.types f.head.params)) in
    let locals = length-map f.locals (local_shape t (local_siblings t.types f)) in
    let outer = length-append (map parameter f.head.params) (map local f.locals ++ hidden_slots f.locals) in
    let inner = length-append (map local f.locals) (hidden_slots f.locals) in
    let slot_params = length-map f.head.params parameter in
    let slot_locals = length-map f.locals local in
    omega (arith, hidden, front, params, locals, outer, inner, slot_params, slot_locals)
