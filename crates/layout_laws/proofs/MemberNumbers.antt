-- The number of a member's name is its place among the members of its struct.
use Rattle.std.proofs.Common.{◌≡◌, ℕ, zero, suc, ◌+◌, ◌-◌, ◌*◌, ◌^◌, ◌<◌, ◌≤◌, max, Bool, true, false, not, ◌||◌, cond, List, [], ◌∷◌, ◌++◌, length, get_or, ℤ, Option, Some, None, option_map, unwrap_or, slice_get, position, bytes_eq, nat_lt, if◌then◌else◌, Result, Ok, Err, refl, sym, ◌∙◌, ap, subst, append_assoc, arith}
use Rattle.std.specs.List.{list_any}
use Rattle.std.proofs.lemmas.Bool.{and_parts, or_parts, eqb-true, ltb-true}
use Rattle.std.proofs.lemmas.List.{append-nil, length_push, length-append}
use Rattle.std.proofs.lemmas.List.Quantifiers.{position-Some}
use Rattle.std.proofs.lemmas.Option.{slice_get-get_or}
use Rattle.std.proofs.lemmas.Slice.Eq.{bytes_eq-Decides}
use Rattle.c_tree.specs.declared.items.Arm.{Arm}
use Rattle.c_tree.specs.declared.items.Declaration.{Declaration}
use Rattle.c_tree.specs.declared.items.Field.{Field}
use Rattle.c_tree.specs.declared.items.Field.TheVariants as field_form
use Rattle.checked_tree.specs.declared.shapes.Member.{Member}
use Rattle.checked_tree.specs.declared.shapes.Shape.{Shape}
use Rattle.checked_tree.specs.declared.shapes.StructShape.{StructShape}
use Rattle.checked_tree.specs.declared.shapes.UnionShape.{UnionShape}
use Rattle.deputy_types.specs.declared.extent.Extent.{Extent}
use Rattle.deputy_types.specs.declared.refusal.TypeRefusal.{TypeRefusal}
use Rattle.deputy_types.specs.declared.refusal.TypeRefusal.TheVariants as refusal
use Rattle.deputy_types.specs.declared.sibling.MemberName.{MemberName}
use Rattle.deputy_types.specs.declared.sibling.Role.{Role}
use Rattle.deputy_types.specs.declared.sibling.Role.TheVariants as role
use Rattle.deputy_types.specs.declared.siblings.Siblings.{Siblings}
use Rattle.deputy_types.specs.declared.struct_names.StructNames.{StructNames}
use Rattle.deputy_types.specs.declared.types.Types.{Types}
use Rattle.deputy_types.specs.Extents.{AreExtents, type_extent, round_up_to}
use Rattle.deputy_types.specs.Found.{with_name}
use Rattle.deputy_types.specs.Options.{and_then}
use Rattle.deputy_types.specs.Siblings.{same_part, is_member, member_number, is_new_member, with_member, with_sibling, no_siblings}
use Rattle.deputy_types.specs.StructLayout.{Surroundings, IsLaying, is_first, is_before, or_no_decl, is_new_field, field_shape, element_count, counted, field_declared, within_limits, placed, with_plain, const_value, union_extent, arm_tag, arm_shape, with_arm_of, with_tagged_arm, with_arm, with_next_arm, with_arms_in_turn, is_new_union, with_union_of, with_union_arms, with_union_at, with_union, with_any_field, empty_struct, with_fields_in_turn, tags_of, next_part, with_field_sibling, with_arm_siblings, field_siblings, struct_siblings, laid_out}
use Rattle.deputy_types.specs.Table.{Table, field, arm, union_of, members_of}
use Rattle.deputy_types.proofs.Inversions.{some_then, some_map, ok_then, ok_declared, if_some}
use Rattle.layout_laws.specs.MemberLookups.{arm_names, member_names, union_names, look_up, EachMemberIsFound}
use Rattle.layout_laws.specs.StructTable.{struct_items}
use Rattle.layout_laws.proofs.GlobalNumbers.{if_true, not_true}
use Rattle.deputy_types.specs.declared.laying.Arms.{Arms}
use Rattle.deputy_types.specs.declared.laying.Laid.{Laid}
use Rattle.deputy_types.specs.declared.laying.Laying.{Laying}
use Rattle.layout_laws.proofs.Places.{AreFresh, fresh_at, named_at, element_at, with_name_new}
use Rattle.layout_laws.proofs.Steps.{types_in}
use Rattle.layout_laws.proofs.StructExtents.{any_laying, empty_laying, laying_of}
use Rattle.layout_laws.proofs.StructNumbers.{number_found}
use Rattle.layout_laws.proofs.StructsDeclared.{mapped, laid_at, layouts_of}

-- ---- members with their numbers
-- names that have these numbers, one after another, in a list of names
abbrev AreNumbered : List MemberName → ℕ → List MemberName → Type 0
AreNumbered all n [] = Unit {0}
AreNumbered all n (m ∷ ms) = (member_number all m.part m.name ≡ Some n) × AreNumbered all (n + 1) ms

numbered_append : (all : List MemberName) (n p : ℕ) (xs ys : List MemberName) → n + length xs ≡ p → AreNumbered all n xs → AreNumbered all p ys → AreNumbered all n (xs ++ ys)
numbered_append all n p [] ys e h k = let same : p ≡ n = omega arith in subst (λ (m : ℕ). AreNumbered all m ys) same k
numbered_append all n p (x ∷ xs) ys e h k = (h.0, numbered_append all (n + 1) p xs ys (omega arith) h.1 k)

numbered_at : (all : List MemberName) (n k : ℕ) (xs : List MemberName) (m : MemberName) → AreNumbered all n xs → slice_get xs k ≡ Some m → member_number all m.part m.name ≡ Some (n + k)
numbered_at all n k [] m h e = absurd cc
numbered_at all n zero (x ∷ xs) m h e =
    let same : x ≡ m = cc in
    let zeroth : n ≡ n + 0 = omega arith in
    subst (λ (y : MemberName). member_number all y.part y.name ≡ Some (n + 0)) same (h.0 ∙ ap (λ (i : ℕ). Some i) zeroth)
numbered_at all n (suc k) (x ∷ xs) m h e =
    let place : n + 1 + k ≡ n + suc k = omega arith in
    numbered_at all (n + 1) k xs m h.1 e ∙ ap (λ (i : ℕ). Some i) place

-- a name that was tested has the number that comes next
pub first_number : (siblings : Siblings) (m : ℕ) (part : Option ℕ) (name : List ℕ) → is_first siblings m part name ≡ true → member_number siblings.names part name ≡ Some m
unfolding is_first
first_number siblings m part name h = number_found m (member_number siblings.names part name) h

-- ---- a field that is no union
placed_members : (x : Laying) (line : ℕ) (y : Shape) (count : ℕ) (extent : Extent) (out : Laying) → placed x line y count extent ≡ Ok out
    → (length out.members ≡ length x.members + 1) × (out.unions ≡ x.unions) × (out.names ≡ x.names)
unfolding placed
placed_members x line y count extent out p =
    let at : ℕ = round_up_to extent.align x.end in
    let a = ok_then (within_limits line x.fields (at + count * extent.bytes)) _ out p in
    let new : Member = record { offset = at; count = count; shape = y; arm = None } in
    let next : Laying = record { members = x.members ++ new ∷ []; unions = x.unions; names = x.names; end = a.0; align = max x.align extent.align; fields = x.fields + 1 } in
    let same : out ≡ next = cc in
    (ap (λ (o : Laying). length o.members) same ∙ length_push x.members new, ap (λ (o : Laying). o.unions) same, ap (λ (o : Laying). o.names) same)

record AddsField (at : Surroundings) (x out : Laying) (d : Declaration) : Type 0 where
  number : member_number at.siblings.names None d.name ≡ Some (length x.members)
  long : length out.members ≡ length x.members + 1
  unions : out.unions ≡ x.unions
  names : out.names ≡ x.names

adds_field : (at : Surroundings) (x : Laying) (line : ℕ) (d : Declaration) (out : Laying) → with_plain at x line d ≡ Ok out → AddsField at x out d
unfolding with_plain field_declared is_new_field
adds_field at x line d out p =
    let extent : Extent = type_extent at.types at.extents d.type_name in
    let a = ok_then (or_no_decl line (field_declared at x d)) (λ y. placed x line y.0 y.1 extent) out p in
    let declared = ok_declared line (field_declared at x d) a.0 a.1 in
    let new = if_true (is_new_field at x d.name) (counted (field_shape at (length x.members) d) (element_count d.size)) a.0 declared in
    let parts = and_parts (is_first at.siblings (length x.members) None d.name) (not (list_any (bytes_eq d.name) x.names)) new in
    let more = placed_members x line a.0.0 a.0.1 extent out a.2 in
    record { number = first_number at.siblings (length x.members) None d.name parts.0; long = more.0; unions = more.1; names = more.2 }

-- ---- the arms of a union
record AddsArms (at : Surroundings) (part : ℕ) (arms out : Arms) (more : List Arm) : Type 0 where
  long : length out.members ≡ length arms.members + length more
  numbered : AreNumbered at.siblings.names (length arms.members) (arm_names part more)

adds_arm : (at : Surroundings) (unions : List UnionShape) (part start offset : ℕ) (arms : Arms) (a : Arm) (out : Arms) → with_arm at unions part start offset arms a ≡ Some out
    → (member_number at.siblings.names (Some part) a.name ≡ Some (length arms.members)) × (length out.members ≡ length arms.members + 1)
unfolding with_arm
adds_arm at unions part start offset arms a out h =
    let value : ℤ = const_value a.value in
    let rest : Option Arms = and_then (arm_tag at unions start arms a.tag value) (with_tagged_arm at part offset arms a) in
    let first = if_true (is_first at.siblings (length arms.members) (Some part) a.name) rest out h in
    let c = if_some (is_first at.siblings (length arms.members) (Some part) a.name) rest out h in
    let k = some_then (arm_tag at unions start arms a.tag value) (with_tagged_arm at part offset arms a) out c in
    let x = some_map (arm_shape at a) (with_arm_of part offset arms value k.0) out k.2 in
    let new : Member = record { offset = offset; count = 1; shape = x.0; arm = Some (part, value) } in
    (first_number at.siblings (length arms.members) (Some part) a.name first, ap (λ (o : Arms). length o.members) (sym x.2) ∙ length_push arms.members new)

adds_arms : (at : Surroundings) (unions : List UnionShape) (part start offset : ℕ) (arms : Arms) (more : List Arm) (out : Arms) → with_arms_in_turn at unions part start offset arms more ≡ Ok out
    → AddsArms at part arms out more
adds_arms at unions part start offset arms [] out h =
    let e : arms ≡ out = cc in
    subst (λ (o : Arms). AddsArms at part arms o []) e (record { long = omega arith; numbered = tt })
adds_arms at unions part start offset arms (a ∷ more) out h =
    let n = ok_then (with_next_arm at unions part start offset arms a) (λ next. with_arms_in_turn at unions part start offset next more) out h in
    let one = adds_arm at unions part start offset arms a n.0 (ok_declared a.line (with_arm at unions part start offset arms a) n.0 n.1) in
    let rest = adds_arms at unions part start offset n.0 more out n.2 in
    let long = rest.long in
    let next = one.1 in
    record { long = omega arith; numbered = (one.0, subst (λ (i : ℕ). AreNumbered at.siblings.names i (arm_names part more)) next rest.numbered) }

passed : {A : Type 0} (b : Bool) (r : Result A TypeRefusal) (e : TypeRefusal) (a : A) → (if b then r else Err e) ≡ Ok a → (b ≡ true) × (r ≡ Ok a)
passed true r e a h = (refl, h)
passed false r e a h = absurd cc

record AddsUnion (at : Surroundings) (x out : Laying) (arms : List Arm) (name : List ℕ) : Type 0 where
  long : length out.members ≡ length x.members + length arms
  numbered : AreNumbered at.siblings.names (length x.members) (arm_names (length x.unions) arms)
  fresh : list_any (bytes_eq name) x.names ≡ false
  unions : length out.unions ≡ length x.unions + 1
  names : out.names ≡ with_name x.names name

adds_union : (at : Surroundings) (x : Laying) (line : ℕ) (arms : List Arm) (name : List ℕ) (out : Laying) → with_union at x line arms name ≡ Ok out → AddsUnion at x out arms name
unfolding with_union with_union_at with_union_arms with_union_of is_new_union
adds_union at x line arms name out p =
    let extent : Extent = union_extent at.types arms in
    let offset : ℕ = round_up_to extent.align x.end in
    let known : Bool = list_any (bytes_eq name) x.names || is_before (length x.members) (member_number at.siblings.names None name) in
    let u = passed (is_new_union at x name) (with_union_at at x line arms name extent) (refusal.NoDecl line) out p in
    let new : not known ≡ true = u.0 in
    let a = ok_then (within_limits line x.fields (offset + extent.bytes)) (with_union_arms at x arms name offset extent) out u.1 in
    let none : Arms = record { members = x.members; tag = None; values = [] } in
    let r = ok_then (with_arms_in_turn at x.unions (length x.unions) (length x.members) offset none arms) (λ read. Ok (with_union_of x name offset extent a.0 read)) out a.2 in
    let more = adds_arms at x.unions (length x.unions) (length x.members) offset none arms r.0 r.1 in
    let shape : UnionShape = record { offset = offset; size = extent.bytes; tag = unwrap_or r.0.tag 0 } in
    let same : out ≡ with_union_of x name offset extent a.0 r.0 = cc in
    record {
      long = ap (λ (o : Laying). length o.members) same ∙ more.long;
      numbered = more.numbered;
      fresh = (or_parts (list_any (bytes_eq name) x.names) (is_before (length x.members) (member_number at.siblings.names None name)) (not_true known new)).0;
      unions = ap (λ (o : Laying). length o.unions) same ∙ length_push x.unions shape;
      names = ap (λ (o : Laying). o.names) same;
    }

-- ---- all fields
-- a struct whose unions have their names, within the limits
record IsNamed (x : Laying) : Type 0 where
  laying : IsLaying x
  names : length x.names ≡ length x.unions

record AddsFields (at : Surroundings) (x out : Laying) (fields : List Field) : Type 0 where
  long : length out.members ≡ length x.members + length (member_names (length x.unions) fields)
  numbered : AreNumbered at.siblings.names (length x.members) (member_names (length x.unions) fields)
  names : out.names ≡ x.names ++ union_names fields
  fresh : AreFresh x.names (union_names fields)

arm_count : (part : ℕ) (arms : List Arm) → length (arm_names part arms) ≡ length arms
arm_count part [] = refl
arm_count part (a ∷ arms) = ap suc (arm_count part arms)

adds_fields : (at : Surroundings) (x : Laying) (fields : List Field) (out : Laying) → AreExtents at.extents → IsNamed x → with_fields_in_turn at x fields ≡ Ok out → AddsFields at x out fields
adds_fields at x [] out extents is h =
    let e : x ≡ out = cc in
    subst (λ (o : Laying). AddsFields at x o []) e (record { long = omega arith; numbered = tt; names = sym (append-nil x.names); fresh = tt })
adds_fields at x (field_form.Plain line d ∷ fields) out extents is h =
    let n = ok_then (with_any_field at x (field_form.Plain line d)) (λ next. with_fields_in_turn at next fields) out h in
    let one = adds_field at x line d n.0 n.1 in
    let unions : length n.0.unions ≡ length x.unions = ap (λ (l : List UnionShape). length l) one.unions in
    let names : length n.0.names ≡ length n.0.unions = ap (λ (l : List (List ℕ)). length l) one.names ∙ (is.names ∙ sym unions) in
    let next : IsNamed n.0 = record { laying = any_laying at x (field_form.Plain line d) n.0 extents is.laying n.1; names = names } in
    let more = adds_fields at n.0 fields out extents next n.2 in
    let one_long = one.long in
    let long : length out.members ≡ length n.0.members + length (member_names (length x.unions) fields) =
    subst (λ (i : ℕ). length out.members ≡ length n.0.members + length (member_names i fields)) unions more.long in
    let numbered : AreNumbered at.siblings.names (length n.0.members) (member_names (length x.unions) fields) =
    subst (λ (i : ℕ). AreNumbered at.siblings.names (length n.0.members) (member_names i fields)) unions more.numbered in
    record {
      long = omega arith;
      numbered = (one.number, subst (λ (i : ℕ). AreNumbered at.siblings.names i (member_names (length x.unions) fields)) one_long numbered);
      names = more.names ∙ ap (λ (l : List (List ℕ)). l ++ union_names fields) one.names;
      fresh = subst (λ (l : List (List ℕ)). AreFresh l (union_names fields)) one.names more.fresh;
    }
adds_fields at x (field_form.Union line arms name ∷ fields) out extents is h =
    let n = ok_then (with_any_field at x (field_form.Union line arms name)) (λ next. with_fields_in_turn at next fields) out h in
    let one = adds_union at x line arms name n.0 n.1 in
    let counted_names = is.names in
    let few : length x.unions ≤ x.fields = is.laying.unions in
    let limit : x.fields ≤ 64 = is.laying.fields in
    let pushed : n.0.names ≡ x.names ++ name ∷ [] = one.names ∙ with_name_new x.names name one.fresh (omega arith) in
    let long_names : length n.0.names ≡ length x.names + 1 = ap (λ (l : List (List ℕ)). length l) pushed ∙ length_push x.names name in
    let unions = one.unions in
    let next : IsNamed n.0 = record { laying = any_laying at x (field_form.Union line arms name) n.0 extents is.laying n.1; names = omega arith } in
    let more = adds_fields at n.0 fields out extents next n.2 in
    let one_long = one.long in
    let arm_long : length (arm_names (length x.unions) arms) ≡ length arms = arm_count (length x.unions) arms in
    let rest_names : List MemberName = member_names (length x.unions + 1) fields in
    let long : length out.members ≡ length n.0.members + length rest_names = subst (λ (i : ℕ). length out.members ≡ length n.0.members + length (member_names i fields)) unions more.long in
    let numbered : AreNumbered at.siblings.names (length n.0.members) rest_names = subst (λ (i : ℕ). AreNumbered at.siblings.names (length n.0.members) (member_names i fields)) unions more.numbered in
    let all_long : length (arm_names (length x.unions) arms ++ rest_names) ≡ length (arm_names (length x.unions) arms) + length rest_names = length-append (arm_names (length x.unions) arms) rest_names in
    record {
      long = omega arith;
      numbered = numbered_append at.siblings.names (length x.members) (length n.0.members) (arm_names (length x.unions) arms) rest_names (omega arith) one.numbered numbered;
      names = more.names ∙ (ap (λ (l : List (List ℕ)). l ++ union_names fields) pushed ∙ append_assoc x.names (name ∷ []) (union_names fields));
      fresh = (one.fresh, subst (λ (l : List (List ℕ)). AreFresh l (union_names fields)) pushed more.fresh);
    }

-- ---- there are no more names than members
record IsShortBy (siblings out : Siblings) (n : ℕ) : Type 0 where
  long : length out.names ≤ length siblings.names + n
  few : length out.names < 2 ^ 32

member_added : (names : List MemberName) (name : MemberName) (b : Bool) → is_new_member names name ≡ b → length names < 2 ^ 32 → (length (cond b (names ++ name ∷ []) names) ≤ length names + 1) × (length (cond b (names ++ name ∷ []) names) < 2 ^ 32)
unfolding is_new_member
member_added names name false e few = (omega arith, few)
member_added names name true e few =
    let room = tested (list_any (is_member name.part name.name) names) (nat_lt (length names) (2 ^ 32 - 1)) e in
    let below : length names < 2 ^ 32 - 1 = ltb-true (length names) (2 ^ 32 - 1) room in
    let long : length (names ++ name ∷ []) ≡ length names + 1 = length_push names name in
    (omega arith, omega arith)
  where
    tested : (a b : Bool) → (if a then false else b) ≡ true → b ≡ true
    tested true b h = absurd cc
    tested false b h = h

-- the siblings with one more, if its name is new
abbrev added_if : Bool → Siblings → MemberName → Role → Siblings
added_if b siblings name r = if b then record { names = with_member siblings.names name; roles = siblings.roles ++ r ∷ [] } else record { names = with_member siblings.names name; roles = siblings.roles }

sibling_names : (siblings : Siblings) (name : MemberName) (r : Role) (b : Bool) → (added_if b siblings name r).names ≡ with_member siblings.names name
sibling_names siblings name r true = refl
sibling_names siblings name r false = refl

sibling_added : (siblings : Siblings) (name : MemberName) (r : Role) → length siblings.names < 2 ^ 32 → IsShortBy siblings (with_sibling siblings name r) 1
unfolding with_sibling with_member
sibling_added siblings name r few =
    let names : (with_sibling siblings name r).names ≡ with_member siblings.names name = sibling_names siblings name r (is_new_member siblings.names name) in
    let add = member_added siblings.names name (is_new_member siblings.names name) refl few in
    let long : length (with_sibling siblings name r).names ≡ length (with_member siblings.names name) = ap (λ (l : List MemberName). length l) names in
    record { long = subst (λ (n : ℕ). n ≤ length siblings.names + 1) (sym long) add.0; few = subst (λ (n : ℕ). n < 2 ^ 32) (sym long) add.1 }

short_twice : (a b c : Siblings) (m n : ℕ) → IsShortBy a b m → IsShortBy b c n → IsShortBy a c (m + n)
short_twice a b c m n h k = let x = h.long in let y = k.long in record { long = omega arith; few = k.few }

arms_added : (part : ℕ) (siblings : Siblings) (arms : List Arm) → length siblings.names < 2 ^ 32 → IsShortBy siblings (with_arm_siblings part siblings arms) (length arms)
arms_added part siblings [] few = record { long = omega arith; few = few }
arms_added part siblings (a ∷ arms) few =
    let next : Siblings = with_sibling siblings (record { part = Some part; name = a.name }) role.Other in
    let one = sibling_added siblings (record { part = Some part; name = a.name }) role.Other few in
    let rest = arms_added part next arms one.few in
    let all = short_twice siblings next (with_arm_siblings part next arms) 1 (length arms) one rest in
    let count : 1 + length arms ≡ suc (length arms) = omega arith in
    subst (λ (n : ℕ). IsShortBy siblings (with_arm_siblings part next arms) n) count all

fields_added : (types : Types) (tags : List (List ℕ)) (part p : ℕ) (siblings : Siblings) (fields : List Field) → length siblings.names < 2 ^ 32
    → IsShortBy siblings (field_siblings types tags part siblings fields) (length (member_names p fields))
fields_added types tags part p siblings [] few = record { long = omega arith; few = few }
fields_added types tags part p siblings (field_form.Plain line d ∷ fields) few =
    let next : Siblings = with_field_sibling types tags siblings d in
    let one = sibling_added siblings (record { part = None; name = d.name }) _ few in
    let rest = fields_added types tags part p next fields one.few in
    let all = short_twice siblings next (field_siblings types tags part next fields) 1 (length (member_names p fields)) one rest in
    let count : 1 + length (member_names p fields) ≡ suc (length (member_names p fields)) = omega arith in
    subst (λ (n : ℕ). IsShortBy siblings (field_siblings types tags part next fields) n) count all
fields_added types tags part p siblings (field_form.Union line arms name ∷ fields) few =
    let next : Siblings = with_arm_siblings part siblings arms in
    let one = arms_added part siblings arms few in
    let rest = fields_added types tags (next_part part) (p + 1) next fields one.few in
    let all = short_twice siblings next (field_siblings types tags (next_part part) next fields) (length arms) (length (member_names (p + 1) fields)) one rest in
    let arm_long : length (arm_names p arms) ≡ length arms = arm_count p arms in
    let joined : length (arm_names p arms ++ member_names (p + 1) fields) ≡ length (arm_names p arms) + length (member_names (p + 1) fields) = length-append (arm_names p arms) (member_names (p + 1) fields) in
    let count : length arms + length (member_names (p + 1) fields) ≡ length (arm_names p arms ++ member_names (p + 1) fields) = omega arith in
    subst (λ (n : ℕ). IsShortBy siblings (field_siblings types tags (next_part part) next fields) n) count all

-- ---- what has a number has its name
same_parts : (a b : Option ℕ) → same_part a b ≡ true → a ≡ b
same_parts None None h = refl
same_parts (Some a) (Some b) h = ap (λ (n : ℕ). Some n) (eqb-true a b h)
same_parts None (Some b) h = absurd cc
same_parts (Some a) None h = absurd cc

abbrev named : Option ℕ → List ℕ → MemberName
named part name = record { part = part; name = name }

both_named : (p q : Option ℕ) (a b : List ℕ) → p ≡ q → a ≡ b → named p a ≡ named q b
both_named p q a b e f = cc

same_member : (part : Option ℕ) (name : List ℕ) (m : MemberName) → is_member part name m ≡ true → named part name ≡ m
same_member part name m h =
    let both = and_parts (same_part part m.part) (bytes_eq name m.name) h in
    both_named part m.part name m.name (same_parts part m.part both.0) ((bytes_eq-Decides name m.name).0 both.1)

member_at : (all : List MemberName) (part : Option ℕ) (name : List ℕ) (k : ℕ) → member_number all part name ≡ Some k → (k < length all) × (slice_get all k ≡ Some (named part name))
member_at all part name k h =
    let p = position-Some (is_member part name) all k (named part name) h in
    (p.0, slice_get-get_or all k (named part name) p.0 ∙ ap (λ (m : MemberName). Some m) (sym (same_member part name (get_or all k (named part name)) p.1)))

-- ---- the members of a table's struct
-- what is looked up in a struct of these names
abbrev found_in_names : Table → ℕ → Option ℕ → List ℕ → Option ℕ
found_in_names t s part name = and_then (slice_get t.names s) (λ n. member_number n.members part name)

look_up_is : (t : Table) (s : ℕ) (part : Option ℕ) (name : List ℕ) → look_up t s part name ≡ found_in_names t s part name
unfolding field arm
look_up_is t s None name = refl
look_up_is t s (Some part) name = refl

-- a list of members, each of which has a place below a number, has no more
no_more : (all : List MemberName) (names : List MemberName) → AreNumbered all 0 names → length names ≤ length all
no_more all names h = by (length names) refl
  where
    by : (n : ℕ) → length names ≡ n → length names ≤ length all
    by zero e = omega arith
    by (suc n) e =
        let m = element_at names n (omega arith) in
        let place = numbered_at all 0 n names m.0 h m.1 in
        let below = (member_at all m.0.part m.0.name (0 + n) place).0 in
        omega arith

pub members_found : EachMemberIsFound
unfolding laid_out struct_siblings union_of
members_found u t s d h at =
    let all = layouts_of u t h in
    let types : Types = types_in u in
    let one = laid_at types t.extents 0 s (struct_items u.items) all.laid d all.are at in
    let read = laying_of types t.extents (0 + s) d one.one one.is in
    let siblings : Siblings = struct_siblings types d.fields in
    let surroundings : Surroundings = record { types = types; extents = t.extents; number = 0 + s; siblings = siblings } in
    let adds = adds_fields surroundings empty_struct d.fields read.laying all.within (record { laying = empty_laying; names = refl }) read.read in
    let declared : List MemberName = member_names 0 d.fields in
    let short = fields_added types (tags_of [] d.fields) 0 0 no_siblings d.fields (omega arith) in
    let shape : slice_get t.structs s ≡ Some one.one.shape = mapped (λ (l : Laid). l.shape) t.structs all.laid s one.one all.shapes one.at in
    let names : slice_get t.names s ≡ Some one.one.names = mapped (λ (l : Laid). l.names) t.names all.laid s one.one all.names one.at in
    let members_are : one.one.shape.members ≡ read.laying.members = ap (λ (l : Laid). l.shape.members) (sym read.is) in
    let names_are : one.one.names.members ≡ siblings.names = ap (λ (l : Laid). l.names.members) (sym read.is) in
    let unions_are : one.one.names.unions ≡ union_names d.fields = ap (λ (l : Laid). l.names.unions) (sym read.is) ∙ adds.names in
    let counted : length (members_of t s) ≡ length declared =
    ap (λ (o : Option StructShape). length (unwrap_or (option_map (λ (x : StructShape). x.members) o) [])) shape
    ∙ (ap (λ (l : List Member). length l) members_are ∙ sum_of (length read.laying.members) (length declared) adds.long) in
    let found_here : (part : Option ℕ) (name : List ℕ) → look_up t s part name ≡ member_number siblings.names part name = λ part name.
    look_up_is t s part name
    ∙ (ap (λ (o : Option StructNames). and_then o (λ n. member_number n.members part name)) names ∙ ap (λ (l : List MemberName). member_number l part name) names_are) in
    let union_here : (name : List ℕ) → union_of t s name ≡ position (bytes_eq name) (union_names d.fields) = λ name.
    ap (λ (o : Option StructNames). and_then o (λ n. position (bytes_eq name) n.unions)) names ∙ ap (λ (l : List (List ℕ)). position (bytes_eq name) l) unions_are in
    let fits : length declared ≤ length siblings.names = no_more siblings.names declared adds.numbered in
    let few = short.few in
    let long = short.long in
    let no_name : length no_siblings.names ≡ 0 = refl in
    record {
      members = counted;
      few = omega arith;
      found = λ k m e.
          let zeroth : 0 + k ≡ k = omega arith in
          found_here m.part m.name ∙ (numbered_at siblings.names 0 k declared m adds.numbered e ∙ ap (λ (n : ℕ). Some n) zeroth);
      only = λ part name k e.
          let here = member_at siblings.names part name k (sym (found_here part name) ∙ e) in
          let m = element_at declared k (below_by k (length siblings.names) (length declared) here.0 long) in
          let zeroth : 0 + k ≡ k = omega arith in
          let there = member_at siblings.names m.0.part m.0.name k (numbered_at siblings.names 0 k declared m.0 adds.numbered m.1 ∙ ap (λ (n : ℕ). Some n) zeroth) in
          let same : named m.0.part m.0.name ≡ named part name = let f : Some (named m.0.part m.0.name) ≡ Some (named part name) = sym there.1 ∙ here.1 in cc in
          m.1 ∙ ap (λ (x : MemberName). Some x) same;
      union_found = λ k name e.
          let zeroth : length {0} {A = List ℕ} [] + k ≡ k = omega arith in
          union_here name ∙ (fresh_at [] (union_names d.fields) k name adds.fresh e ∙ ap (λ (n : ℕ). Some n) zeroth);
      union_only = λ name k e.
          let here = named_at (union_names d.fields) name k (sym (union_here name) ∙ e) in
          let back : get_or (union_names d.fields) k [] ≡ name = sym here.is in
          slice_get-get_or (union_names d.fields) k [] here.below ∙ ap (λ (x : List ℕ). Some x) back;
    }
  where
    sum_of : (a b : ℕ) → a ≡ 0 + b → a ≡ b
    sum_of a b e = omega arith

    below_by : (k n m : ℕ) → k < n → n ≤ 0 + m → k < m
    below_by k n m l e = omega arith
