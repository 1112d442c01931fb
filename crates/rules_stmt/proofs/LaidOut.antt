-- What the table of a text bounds, after the laws of tables.
use Rattle.std.proofs.Common.{◌≡◌, ℕ, ◌≤◌, ◌<◌, ◌^◌, [], length, Option, Some, None, Ok, option_map, unwrap_or, slice_get, get_or, ⊎_elim, sym, subst, arith}
use Rattle.std.proofs.lemmas.Option.{slice_get_cases, slice_get_past}
use Rattle.c_tree.specs.declared.items.StructItem.{StructItem}
use Rattle.c_tree.specs.declared.items.Unit.{Unit as TextUnit}
use Rattle.checked_tree.specs.declared.shapes.StructShape.{StructShape}
use Rattle.deputy_types.specs.Table.{Table, members_of}
use Rattle.deputy_types.specs.UnitLayout.{layout}
use Rattle.layout_laws.specs.StructTable.{struct_items}
use Rattle.layout_laws.proofs.LimitLaws.{keeps_limits}
use Rattle.layout_laws.proofs.MemberNumbers.{members_found}
use Rattle.layout_laws.proofs.StructsDeclared.{structs_declared}
use Rattle.rules_heads.specs.AreFewItems.{AreFewItems}

-- a number is that of a struct that the text declares, or of none, which has no members
few_members : (u : TextUnit) (t : Table) → layout u ≡ Ok t → (s : ℕ) → length (members_of t s) < 2 ^ 32
few_members u t h s = ⊎_elim declared none (slice_get_cases (struct_items u.items) s).1
  where
    declared : (d : StructItem) × (s < length (struct_items u.items)) × (slice_get (struct_items u.items) s ≡ Some d) × (get_or (struct_items u.items) s d ≡ d)
        → length (members_of t s) < 2 ^ 32
    declared p = (members_found u t s p.0 h p.2).few

    none : (length (struct_items u.items) ≤ s) × (slice_get (struct_items u.items) s ≡ None) → length (members_of t s) < 2 ^ 32
    none p =
        let past = p.0 in
        let as_many = (structs_declared u t h).structs in
        let is_none = slice_get_past t.structs s (omega (arith, past, as_many)) in
        subst (λ (o : Option StructShape). length (unwrap_or (option_map (λ (x : StructShape). x.members) o) []) < 2 ^ 32) (sym is_none) (omega arith)

pub laid_out : (u : TextUnit) (t : Table) → layout u ≡ Ok t → AreFewItems t u.items
laid_out u t h =
    let few = (keeps_limits u t h).functions in
    record { members_fit = few_members u t h; functions_fit = omega (arith, few) }
