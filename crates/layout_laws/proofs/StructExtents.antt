-- A struct that was laid out is within the limits: at most 64 fields, of which at most all are unions, and at most 65,536 bytes; its alignment is 1, 2 or 4.
use Rattle.std.proofs.Common.{◌≡◌, ℕ, ◌+◌, ◌*◌, ◌≤◌, ◌<◌, max, nat_le, nat_lt, List, [], ◌∷◌, ◌++◌, length, None, Ok, refl, ◌⊎◌, inl, inr, sym, subst, arith}
use Rattle.std.proofs.lemmas.Bool.{leb-false, ltb-false}
use Rattle.std.proofs.lemmas.List.{length_push}
use Rattle.c_tree.specs.declared.items.Arm.{Arm}
use Rattle.c_tree.specs.declared.items.Declaration.{Declaration}
use Rattle.c_tree.specs.declared.items.Field.{Field}
use Rattle.c_tree.specs.declared.items.Field.TheVariants as field
use Rattle.c_tree.specs.declared.items.StructItem.{StructItem}
use Rattle.c_tree.specs.declared.limits.LimitKind.TheVariants as limit
use Rattle.checked_tree.specs.declared.shapes.Shape.{Shape}
use Rattle.deputy_types.specs.declared.extent.Extent.{Extent}
use Rattle.deputy_types.specs.declared.refusal.TypeRefusal.TheVariants as refusal
use Rattle.deputy_types.specs.declared.siblings.Siblings.{Siblings}
use Rattle.deputy_types.specs.declared.types.Types.{Types}
use Rattle.deputy_types.specs.Extents.{IsExtent, AreExtents, type_extent, round_up_to}
use Rattle.deputy_types.specs.StructLayout.{Surroundings, IsLaying, or_no_decl, field_declared, within_limits, placed, with_plain, union_extent, with_arms_in_turn, is_new_union, with_union_of, with_union_arms, with_union_at, with_union, with_any_field, empty_struct, with_fields_in_turn, laid_out, head_of_struct, struct_siblings, laid_with, struct_laid}
use Rattle.deputy_types.proofs.Inversions.{ok_then, if_ok, unless_ok}
use Rattle.deputy_types.specs.declared.laying.Arms.{Arms}
use Rattle.deputy_types.specs.declared.laying.Laid.{Laid}
use Rattle.deputy_types.specs.declared.laying.Laying.{Laying}
use Rattle.layout_laws.proofs.Steps.{else_ok}
use Rattle.deputy_types.proofs.TypeExtents.{IsAlign, align_of, max_align, type_is_extent, union_is_extent}

-- a field that ends within the limits
record EndsWithin (fields end out : ℕ) : Type 0 where
  few : fields < 64
  low : out ≤ 65536

ends_within : (line fields end out : ℕ) → within_limits line fields end ≡ Ok out → EndsWithin fields end out
unfolding within_limits
ends_within line fields end out h =
    let a = else_ok (nat_le 64 fields) _ (refusal.Limit line limit.Fields) out h in
    let b = else_ok (nat_lt 65536 end) (Ok end) (refusal.Limit line limit.Size) out a.rest in
    let e : end ≡ out = cc in
    let below : end ≤ 65536 = ltb-false 65536 end b.test in
    record { few = leb-false 64 fields a.test; low = omega arith }

-- with one more field of this extent
next_laying : (x out : Laying) (extent : Extent) → IsLaying x → IsExtent extent → EndsWithin x.fields 0 out.end → out.align ≡ max x.align extent.align
    → out.fields ≡ x.fields + 1 → length out.unions ≤ length x.unions + 1 → IsLaying out
next_laying x out extent h k e align fields unions =
    let is = max_align x.align extent.align (record { least = h.least; greatest = h.greatest; other = h.other }) (align_of extent k) in
    let same : IsAlign out.align = subst (λ (n : ℕ). IsAlign n) (sym align) is in
    let before : length x.unions ≤ x.fields = h.unions in
    let few : x.fields < 64 = e.few in
    record { end = e.low; least = same.least; greatest = same.greatest; other = same.other; unions = omega arith; fields = omega arith }

placed_laying : (x : Laying) (line : ℕ) (y : Shape) (count : ℕ) (extent : Extent) (out : Laying)
    → IsLaying x → IsExtent extent → placed x line y count extent ≡ Ok out → IsLaying out
unfolding placed
placed_laying x line y count extent out h k p =
    let at : ℕ = round_up_to extent.align x.end in
    let a = ok_then (within_limits line x.fields (at + count * extent.bytes)) _ out p in
    let e = ends_within line x.fields (at + count * extent.bytes) a.0 a.1 in
    let next : Laying = record {
      members = x.members ++ (record { offset = at; count = count; shape = y; arm = None }) ∷ [];
      unions = x.unions;
      names = x.names;
      end = a.0;
      align = max x.align extent.align;
      fields = x.fields + 1;
    } in
    let same : next ≡ out = cc in
    subst (λ (o : Laying). IsLaying o) same (next_laying x next extent h k (record { few = e.few; low = e.low }) refl refl (omega arith))

plain_laying : (at : Surroundings) (x : Laying) (line : ℕ) (d : Declaration) (out : Laying) → AreExtents at.extents → IsLaying x → with_plain at x line d ≡ Ok out → IsLaying out
unfolding with_plain
plain_laying at x line d out extents h p =
    let extent : Extent = type_extent at.types at.extents d.type_name in
    let a = ok_then (or_no_decl line (field_declared at x d)) (λ y. placed x line y.0 y.1 extent) out p in
    placed_laying x line a.0.0 a.0.1 extent out h (type_is_extent at.types at.extents d.type_name extents) a.2

union_laying : (at : Surroundings) (x : Laying) (line : ℕ) (arms : List Arm) (name : List ℕ) (out : Laying)
    → AreExtents at.extents → IsLaying x → with_union at x line arms name ≡ Ok out → IsLaying out
unfolding with_union with_union_at with_union_arms with_union_of
union_laying at x line arms name out extents h p =
    let extent : Extent = union_extent at.types arms in
    let is : IsExtent extent = union_is_extent at.types arms in
    let offset : ℕ = round_up_to extent.align x.end in
    let u = if_ok (is_new_union at x name) (with_union_at at x line arms name extent) (refusal.NoDecl line) out p in
    let a = ok_then (within_limits line x.fields (offset + extent.bytes)) (with_union_arms at x arms name offset extent) out u in
    let e = ends_within line x.fields (offset + extent.bytes) a.0 a.1 in
    let none : Arms = record { members = x.members; tag = None; values = [] } in
    let r = ok_then (with_arms_in_turn at x.unions (length x.unions) (length x.members) offset none arms) (λ read. Ok (with_union_of x name offset extent a.0 read)) out a.2 in
    let next : Laying = with_union_of x name offset extent a.0 r.0 in
    let same : next ≡ out = cc in
    let more : length next.unions ≤ length x.unions + 1 = rw length_push (omega arith) in
    subst (λ (o : Laying). IsLaying o) same (next_laying x next extent h is (record { few = e.few; low = e.low }) refl refl more)

pub any_laying : (at : Surroundings) (x : Laying) (f : Field) (out : Laying) → AreExtents at.extents → IsLaying x → with_any_field at x f ≡ Ok out → IsLaying out
any_laying at x (field.Plain line d) out extents h p = plain_laying at x line d out extents h p
any_laying at x (field.Union line arms name) out extents h p = union_laying at x line arms name out extents h p

fields_laying : (at : Surroundings) (x : Laying) (fields : List Field) (out : Laying) → AreExtents at.extents → IsLaying x → with_fields_in_turn at x fields ≡ Ok out → IsLaying out
fields_laying at x [] out extents h p = let e : x ≡ out = cc in subst (λ (o : Laying). IsLaying o) e h
fields_laying at x (f ∷ fields) out extents h p =
    let n = ok_then (with_any_field at x f) (λ next. with_fields_in_turn at next fields) out p in
    fields_laying at n.0 fields out extents (any_laying at x f n.0 extents h n.1) n.2

-- a size that is within the limit is so when it is rounded up to an alignment
cases : (a : ℕ) → IsAlign a → (a ≡ 1) ⊎ ((a ≡ 2) ⊎ (a ≡ 4))
cases a h = grind (arith, h.least, h.greatest, h.other)

rounded_within : (a n : ℕ) → IsAlign a → n ≤ 65536 → round_up_to a n ≤ 65536
rounded_within a n h k = elim (cases a h) [ inl e ↦ by_one e | inr o ↦ elim o [ inl e ↦ by_two e | inr e ↦ by_four e ] ]
  where
    one : (n : ℕ) → n ≤ 65536 → round_up_to 1 n ≤ 65536
    one n k = omega arith

    two : (n : ℕ) → n ≤ 65536 → round_up_to 2 n ≤ 65536
    two n k = omega arith

    four : (n : ℕ) → n ≤ 65536 → round_up_to 4 n ≤ 65536
    four n k = omega arith

    by_one : a ≡ 1 → round_up_to a n ≤ 65536
    by_one e = subst (λ (m : ℕ). round_up_to m n ≤ 65536) (sym e) (one n k)

    by_two : a ≡ 2 → round_up_to a n ≤ 65536
    by_two e = subst (λ (m : ℕ). round_up_to m n ≤ 65536) (sym e) (two n k)

    by_four : a ≡ 4 → round_up_to a n ≤ 65536
    by_four e = subst (λ (m : ℕ). round_up_to m n ≤ 65536) (sym e) (four n k)

-- what was laid out, with what was read of its fields
pub record HasLaying (types : Types) (extents : List Extent) (number : ℕ) (s : StructItem) (laid : Laid) : Type 0 where
  pub laying : Laying
  pub read : with_fields_in_turn (record { types = types; extents = extents; number = number; siblings = struct_siblings types s.fields }) empty_struct s.fields ≡ Ok laying
  pub is : laid_out types s.fields (struct_siblings types s.fields) laying ≡ laid

pub laying_of : (types : Types) (extents : List Extent) (number : ℕ) (s : StructItem) (laid : Laid) → struct_laid types extents number s ≡ Ok laid → HasLaying types extents number s laid
unfolding struct_laid
laying_of types extents number s laid h =
    let siblings : Siblings = struct_siblings types s.fields in
    let at : Surroundings = record { types = types; extents = extents; number = number; siblings = siblings } in
    let u = unless_ok (head_of_struct types number s) (laid_with types extents number s.fields siblings) laid h in
    let n = ok_then (with_fields_in_turn at empty_struct s.fields) (λ laying. Ok (laid_out types s.fields siblings laying)) laid u in
    record { laying = n.0; read = n.1; is = cc }

pub empty_laying : IsLaying empty_struct
empty_laying = record { end = omega arith; least = omega arith; greatest = omega arith; other = omega arith; unions = omega arith; fields = omega arith }

pub struct_laying : (types : Types) (extents : List Extent) (number : ℕ) (s : StructItem) (laid : Laid) → AreExtents extents → (h : HasLaying types extents number s laid) → IsLaying h.laying
struct_laying types extents number s laid are h =
    fields_laying (record { types = types; extents = extents; number = number; siblings = struct_siblings types s.fields }) empty_struct s.fields h.laying are empty_laying h.read

pub laid_is_extent : (types : Types) (extents : List Extent) (number : ℕ) (s : StructItem) (laid : Laid) → AreExtents extents → struct_laid types extents number s ≡ Ok laid → IsExtent laid.extent
unfolding laid_out
laid_is_extent types extents number s laid are h =
    let l = laying_of types extents number s laid h in
    let k = struct_laying types extents number s laid are l in
    let align : IsAlign l.laying.align = record { least = k.least; greatest = k.greatest; other = k.other } in
    let next : Laid = laid_out types s.fields (struct_siblings types s.fields) l.laying in
    let is : IsExtent next.extent = record { bytes = rounded_within l.laying.align l.laying.end align k.end; least = k.least; greatest = k.greatest; other = k.other } in
    subst (λ (x : Laid). IsExtent x.extent) l.is is
