-- A table keeps the limits.
use Rattle.std.proofs.Common.{◌≡◌, ℕ, ◌+◌, ◌*◌, ◌<◌, ◌≤◌, max, List, [], ◌∷◌, ◌++◌, length, get_or, Some, None, slice_get, Ok, refl, sym, ◌∙◌, ap, subst, arith}
use Rattle.std.proofs.lemmas.Option.{slice_get-get_or}
use Rattle.c_tree.specs.declared.items.Arm.{Arm}
use Rattle.c_tree.specs.declared.items.Declaration.{Declaration}
use Rattle.c_tree.specs.declared.items.Field.{Field}
use Rattle.c_tree.specs.declared.items.Field.TheVariants as field
use Rattle.c_tree.specs.declared.items.Item.{Item}
use Rattle.c_tree.specs.declared.items.Item.TheVariants as item
use Rattle.c_tree.specs.declared.items.Unit.{Unit as TextUnit}
use Rattle.checked_tree.specs.declared.shapes.Shape.{Shape}
use Rattle.checked_tree.specs.declared.shapes.StructShape.{StructShape}
use Rattle.deputy_types.specs.declared.extent.Extent.{Extent}
use Rattle.deputy_types.specs.declared.global.GlobalShape.{GlobalShape}
use Rattle.deputy_types.specs.declared.refusal.TypeRefusal.TheVariants as refusal
use Rattle.deputy_types.specs.declared.types.Types.{Types}
use Rattle.deputy_types.specs.Extents.{type_extent, round_up_to}
use Rattle.deputy_types.specs.UnitLayout.{functions_of}
use Rattle.deputy_types.specs.StructLayout.{Surroundings, or_no_decl, field_declared, within_limits, placed, with_plain, union_extent, with_arms_in_turn, is_new_union, with_union_of, with_union_arms, with_union_at, with_union, with_any_field, empty_struct, with_fields_in_turn, laid_out, struct_siblings}
use Rattle.deputy_types.specs.Table.{Table}
use Rattle.deputy_types.specs.UnitLayout.{nothing_declared, with_global_shape, with_taken, strings_behind, with_item, with_items, table_of}
use Rattle.deputy_types.proofs.Inversions.{ok_then, if_ok}
use Rattle.layout_laws.specs.Limits.{IsSmall, EachIsWithinLimits}
use Rattle.layout_laws.specs.StructTable.{struct_items}
use Rattle.layout_laws.proofs.Declarations.{adds_struct, adds_global, adds_body, items_within}
use Rattle.layout_laws.proofs.GlobalsDeclared.{globals_added}
use Rattle.layout_laws.proofs.ImageLaws.{has_image}
use Rattle.layout_laws.proofs.Lists.{zip_length}
use Rattle.deputy_types.specs.declared.laying.Arms.{Arms}
use Rattle.deputy_types.specs.declared.unit_items.Declared.{Declared}
use Rattle.deputy_types.specs.declared.laying.Laid.{Laid}
use Rattle.deputy_types.specs.declared.laying.Laying.{Laying}
use Rattle.layout_laws.proofs.Steps.{types_in, found_in, steps}
use Rattle.layout_laws.proofs.StringsFound.{lines_of}
use Rattle.layout_laws.proofs.StructExtents.{laying_of, struct_laying, laid_is_extent}
use Rattle.layout_laws.proofs.StructsDeclared.{HasLayouts, nothing_is_declared, laid_at, layouts_of, structs_declared, from_mapped, item_at}

-- ---- functions with bodies
record CountsBodies (d out : Declared) (n : ℕ) : Type 0 where
  all : out.bodies ≡ d.bodies + n
  few : out.bodies ≤ 4096

same_bodies : (d next out : Declared) (n : ℕ) → next.bodies ≡ d.bodies → CountsBodies next out n → CountsBodies d out n
same_bodies d next out n e c = record { all = let a = c.all in omega arith; few = c.few }

bodies_counted : (types : Types) (ends : List ℕ) (d out : Declared) (items : List Item) → d.bodies ≤ 4096 → with_items types ends d items ≡ Ok out
    → CountsBodies d out (length (functions_of items))
unfolding with_item with_global_shape
bodies_counted types ends d out [] few h =
    let e : d ≡ out = cc in
    subst (λ (x : Declared). CountsBodies d x 0) e (record { all = omega arith; few = few })
bodies_counted types ends d out (item.Struct s ∷ xs) few h =
    let a = ok_then (with_item types ends d (item.Struct s)) (λ next. with_items types ends next xs) out h in
    let one = adds_struct types d s a.0 a.1 in
    let same : a.0.bodies ≡ d.bodies = ap (λ (x : Declared). x.bodies) (sym one.next) in
    same_bodies d a.0 out (length (functions_of xs)) same (bodies_counted types ends a.0 out xs (omega arith) a.2)
bodies_counted types ends d out (item.Global g ∷ xs) few h =
    let a = ok_then (with_item types ends d (item.Global g)) (λ next. with_items types ends next xs) out h in
    let one = adds_global types d g a.0 a.1 in
    let same : a.0.bodies ≡ d.bodies = ap (λ (x : Declared). x.bodies) (sym one.next) in
    same_bodies d a.0 out (length (functions_of xs)) same (bodies_counted types ends a.0 out xs (omega arith) a.2)
bodies_counted types ends d out (item.Function f ∷ xs) few h =
    let a = ok_then (with_item types ends d (item.Function f)) (λ next. with_items types ends next xs) out h in
    let one = adds_body d f.head.name f.head.line (strings_behind ends d) a.0 a.1 in
    let more : a.0.bodies ≡ d.bodies + 1 = ap (λ (x : Declared). x.bodies) (sym one.next) in
    let below : d.bodies < 4096 = one.bodies in
    let rest = bodies_counted types ends a.0 out xs (omega arith) a.2 in
    record { all = let r = rest.all in omega arith; few = rest.few }
bodies_counted types ends d out (item.Prototype p ∷ xs) few h =
    same_bodies d (with_taken d p.name) out (length (functions_of xs)) refl (bodies_counted types ends (with_taken d p.name) out xs few h)

-- ---- fields
placed_counts : (x : Laying) (line : ℕ) (y : Shape) (count : ℕ) (extent : Extent) (out : Laying) → placed x line y count extent ≡ Ok out → out.fields ≡ x.fields + 1
unfolding placed
placed_counts x line y count extent out p =
    let at : ℕ = round_up_to extent.align x.end in
    let a = ok_then (within_limits line x.fields (at + count * extent.bytes)) _ out p in
    let next : Laying = record {
      members = x.members ++ (record { offset = at; count = count; shape = y; arm = None }) ∷ [];
      unions = x.unions;
      names = x.names;
      end = a.0;
      align = max x.align extent.align;
      fields = x.fields + 1;
    } in
    let same : next ≡ out = cc in
    ap (λ (o : Laying). o.fields) (sym same)

plain_counts : (at : Surroundings) (x : Laying) (line : ℕ) (d : Declaration) (out : Laying) → with_plain at x line d ≡ Ok out → out.fields ≡ x.fields + 1
unfolding with_plain
plain_counts at x line d out p =
    let extent : Extent = type_extent at.types at.extents d.type_name in
    let a = ok_then (or_no_decl line (field_declared at x d)) (λ y. placed x line y.0 y.1 extent) out p in
    placed_counts x line a.0.0 a.0.1 extent out a.2

union_counts : (at : Surroundings) (x : Laying) (line : ℕ) (arms : List Arm) (name : List ℕ) (out : Laying) → with_union at x line arms name ≡ Ok out → out.fields ≡ x.fields + 1
unfolding with_union with_union_at with_union_arms with_union_of
union_counts at x line arms name out p =
    let extent : Extent = union_extent at.types arms in
    let offset : ℕ = round_up_to extent.align x.end in
    let u = if_ok (is_new_union at x name) (with_union_at at x line arms name extent) (refusal.NoDecl line) out p in
    let a = ok_then (within_limits line x.fields (offset + extent.bytes)) (with_union_arms at x arms name offset extent) out u in
    let none : Arms = record { members = x.members; tag = None; values = [] } in
    let r = ok_then (with_arms_in_turn at x.unions (length x.unions) (length x.members) offset none arms) (λ read. Ok (with_union_of x name offset extent a.0 read)) out a.2 in
    let same : with_union_of x name offset extent a.0 r.0 ≡ out = cc in
    ap (λ (o : Laying). o.fields) (sym same)

any_counts : (at : Surroundings) (x : Laying) (f : Field) (out : Laying) → with_any_field at x f ≡ Ok out → out.fields ≡ x.fields + 1
any_counts at x (field.Plain line d) out p = plain_counts at x line d out p
any_counts at x (field.Union line arms name) out p = union_counts at x line arms name out p

fields_count : (at : Surroundings) (x : Laying) (fields : List Field) (out : Laying) → with_fields_in_turn at x fields ≡ Ok out → out.fields ≡ x.fields + length fields
fields_count at x [] out p = let e : x ≡ out = cc in subst (λ (o : Laying). o.fields ≡ x.fields + 0) e (omega arith)
fields_count at x (f ∷ fields) out p =
    let n = ok_then (with_any_field at x f) (λ next. with_fields_in_turn at next fields) out p in
    let one = any_counts at x f n.0 n.1 in
    let rest = fields_count at n.0 fields out n.2 in
    omega arith

-- ---- the table
pub keeps_limits : EachIsWithinLimits
unfolding table_of laid_out
keeps_limits u t h =
    let all = steps u t h in
    let layouts = layouts_of u t h in
    let image = has_image u t h in
    let declared = structs_declared u t h in
    let within = items_within (types_in u) (found_in u).ends nothing_declared u.items all.declared nothing_is_declared all.first in
    let added = globals_added (types_in u) (found_in u).ends nothing_declared all.declared u.items all.first in
    let together = lines_of u all.declared all.first in
    let bodies = bodies_counted (types_in u) (found_in u).ends nothing_declared all.declared u.items (omega arith) all.first in
    let extents : length t.extents ≡ length all.declared.extents = ap (λ (x : Table). length x.extents) (sym all.is) in
    let number = image.number in
    let globals = zip_length _ _ _ added.each in
    let new : length all.declared.globals ≡ length added.new = ap (λ (l : List GlobalShape). length l) added.is in
    let lines = together.lines in
    let few = within.structs in
    let blocks = within.blocks in
    let as_many : length t.structs ≡ length t.extents = declared.structs ∙ sym declared.extents in
    record {
      structs = omega arith;
      each = λ k d l.
          let at : slice_get t.structs k ≡ Some (get_or t.structs k d) = slice_get-get_or t.structs k d l in
          small u t layouts k (get_or t.structs k d) at;
      fields = λ k s at.
          let one = laid_at (types_in u) t.extents 0 k (struct_items u.items) layouts.laid s layouts.are at in
          let read = laying_of (types_in u) t.extents (0 + k) s one.one one.is in
          let limit = (struct_laying (types_in u) t.extents (0 + k) s one.one layouts.within read).fields in
          let count = fields_count (record { types = types_in u; extents = t.extents; number = 0 + k; siblings = struct_siblings (types_in u) s.fields }) empty_struct s.fields read.laying read.read in
          omega (arith, limit, count);
      blocks = omega arith;
      functions = let a = bodies.all in let f = bodies.few in omega arith;
    }
  where
    small : (u : TextUnit) (t : Table) (h : HasLayouts u t) (k : ℕ) (x : StructShape) → slice_get t.structs k ≡ Some x → IsSmall x
    small u t h k x at =
        let listed = ap (λ (l : List StructShape). slice_get l k) (sym h.shapes) ∙ at in
        let one = from_mapped (λ (l : Laid). l.shape) h.laid k x listed in
        let item = item_at (types_in u) t.extents 0 k (struct_items u.items) h.laid one.0 h.are one.1 in
        let again = laid_at (types_in u) t.extents 0 k (struct_items u.items) h.laid item.0 h.are item.1 in
        let same : again.one ≡ one.0 = let e : Some again.one ≡ Some one.0 = sym again.at ∙ one.1 in cc in
        let read = laying_of (types_in u) t.extents (0 + k) item.0 again.one again.is in
        let limits = struct_laying (types_in u) t.extents (0 + k) item.0 again.one h.within read in
        let extent = laid_is_extent (types_in u) t.extents (0 + k) item.0 again.one h.within again.is in
        let now : Laid = laid_out (types_in u) item.0.fields (struct_siblings (types_in u) item.0.fields) read.laying in
        let unions = limits.unions in
        let fields = limits.fields in
        let bytes : now.extent.bytes ≤ 65536 = subst (λ (l : Laid). l.extent.bytes ≤ 65536) (sym read.is) extent.bytes in
        let is : IsSmall now.shape = record { size = bytes; unions = omega arith } in
        subst (λ (y : StructShape). IsSmall y) (ap (λ (l : Laid). l.shape) (read.is ∙ same) ∙ one.2) is
