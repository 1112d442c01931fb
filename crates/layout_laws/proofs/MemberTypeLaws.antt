-- What a member's pointer points to is an element of the table, and a struct in a struct is an earlier one.
use Rattle.std.proofs.Common.{◌≡◌, ℕ, ◌+◌, ◌*◌, ◌<◌, max, true, List, [], ◌∷◌, ◌++◌, length, ℤ, All, Option, Some, None, slice_get, Ok, sym, ◌∙◌, ap, subst, arith}
use Rattle.std.proofs.lemmas.Bool.{ltb-true}
use Rattle.std.proofs.lemmas.List.{length-map}
use Rattle.std.proofs.lemmas.List.Elements.{All-nil, All-push}
use Rattle.std.proofs.lemmas.List.Quantifiers.{position-Some}
use Rattle.c_tree.specs.declared.items.Arm.{Arm}
use Rattle.c_tree.specs.declared.items.Declaration.{Declaration}
use Rattle.c_tree.specs.declared.items.Field.{Field}
use Rattle.c_tree.specs.declared.items.Field.TheVariants as field
use Rattle.c_tree.specs.declared.types.Star.{Star}
use Rattle.c_tree.specs.declared.types.TypeName.{TypeName}
use Rattle.checked_tree.specs.declared.shapes.Member.{Member}
use Rattle.checked_tree.specs.declared.shapes.Shape.{Shape}
use Rattle.checked_tree.specs.declared.shapes.Shape.TheVariants as shape
use Rattle.checked_tree.specs.declared.shapes.StructShape.{StructShape}
use Rattle.checked_tree.specs.declared.shapes.UnionShape.{UnionShape}
use Rattle.deputy_types.specs.declared.element.Element.{Element}
use Rattle.deputy_types.specs.declared.element.Element.TheVariants as element
use Rattle.deputy_types.specs.declared.extent.Extent.{Extent}
use Rattle.deputy_types.specs.declared.refusal.TypeRefusal.TheVariants as refusal
use Rattle.deputy_types.specs.declared.sibling.Unannotated.{Unannotated}
use Rattle.deputy_types.specs.declared.sibling.Unannotated.TheVariants as unannotated
use Rattle.deputy_types.specs.declared.siblings.Siblings.{Siblings}
use Rattle.deputy_types.specs.declared.types.Types.{Types}
use Rattle.deputy_types.specs.Declarations.{plain_shape, star_bounds, pointer_shape, shape_behind, typed_shape}
use Rattle.deputy_types.specs.Extents.{key_extent, type_extent, round_up_to}
use Rattle.deputy_types.specs.Siblings.{no_siblings}
use Rattle.deputy_types.specs.StructLayout.{Surroundings, or_no_decl, is_first, is_new_field, field_shape, field_declared, is_complete, if_complete, siblings_of, counted, element_count, within_limits, placed, with_plain, const_value, union_extent, arm_tag, if_number, arm_shape, with_arm_of, with_tagged_arm, with_arm, with_next_arm, with_arms_in_turn, is_new_union, with_union_of, with_union_arms, with_union_at, with_union, with_any_field, empty_struct, with_fields_in_turn, laid_out, struct_siblings}
use Rattle.deputy_types.specs.Types.{element_number, same_element, pointed_key, last_star}
use Rattle.deputy_types.specs.UnitLayout.{elem_shape}
use Rattle.deputy_types.proofs.Inversions.{some_then, some_map, if_some, ok_then, ok_declared, if_ok}
use Rattle.layout_laws.specs.MemberShapes.{IsMemberShape, EachMemberHasItsType}
use Rattle.layout_laws.specs.StructTable.{struct_items}
use Rattle.layout_laws.proofs.GlobalNumbers.{if_true}
use Rattle.deputy_types.specs.declared.laying.Arms.{Arms}
use Rattle.deputy_types.specs.declared.laying.Laid.{Laid}
use Rattle.deputy_types.specs.declared.laying.Laying.{Laying}
use Rattle.layout_laws.proofs.Steps.{types_in}
use Rattle.layout_laws.proofs.StructExtents.{laying_of}
use Rattle.layout_laws.proofs.StructsDeclared.{from_mapped, laid_at, item_at, layouts_of}

-- ---- a declared shape
-- a shape whose pointers point to one of so many elements
abbrev IsTyped : ℕ → Shape → Type 0
IsTyped elements (shape.Int scalar) = Unit {0}
IsTyped elements (shape.Pointer elem bounds) = elem < elements
IsTyped elements (shape.Struct s) = Unit {0}
IsTyped elements shape.Address = ⊥

plain_typed : (n : ℕ) (key : Element) (x : Shape) → plain_shape key ≡ Some x → IsTyped n x
plain_typed n (element.Int s) x h = let e : shape.Int s ≡ x = cc in subst (IsTyped n) e tt
plain_typed n (element.Struct s) x h = let e : shape.Struct s ≡ x = cc in subst (IsTyped n) e tt
plain_typed n (element.Sentinel k) x h = absurd cc
plain_typed n (element.Nullterm k) x h = absurd cc
plain_typed n (element.Count k m) x h = absurd cc

behind_typed : (elements : List Element) (extents : List Extent) (plain : Unannotated) (siblings : Siblings) (place : ℕ) (key : Element) (o : Option Star) (x : Shape)
    → shape_behind elements extents plain siblings place key o ≡ Some x → IsTyped (length elements) x
unfolding pointer_shape
behind_typed elements extents plain siblings place key None x h = plain_typed (length elements) key x h
behind_typed elements extents plain siblings place key (Some star) x h =
    let a = some_then (element_number elements key) _ x h in
    let b = some_map (star_bounds (key_extent extents key).bytes plain siblings place a.0 key star.annotation) (λ b. shape.Pointer a.0 b) x a.2 in
    let below : a.0 < length elements = (position-Some (same_element key) elements a.0 key a.1).0 in
    subst (IsTyped (length elements)) b.2 below

typed : (types : Types) (extents : List Extent) (plain : Unannotated) (siblings : Siblings) (place : ℕ) (t : TypeName) (x : Shape)
    → typed_shape types extents plain siblings place t ≡ Some x → IsTyped (length types.elements) x
unfolding typed_shape
typed types extents plain siblings place t x h =
    let key = some_then (pointed_key types t) (λ k. shape_behind types.elements extents plain siblings place k (last_star t.stars)) x h in
    behind_typed types.elements extents plain siblings place key.0 (last_star t.stars) x key.2

complete_member : (n number : ℕ) (x : Shape) → IsTyped n x → is_complete number x ≡ true → IsMemberShape n number x
complete_member n number (shape.Int s) h e = tt
complete_member n number (shape.Pointer elem b) h e = h
complete_member n number (shape.Struct s) h e = ltb-true s number e
complete_member n number shape.Address h e = h

number_member : (n number : ℕ) (x y : Shape) → IsTyped n x → if_number x ≡ Some y → IsMemberShape n number y
number_member n number (shape.Int s) y h e = let f : shape.Int s ≡ y = cc in subst (IsMemberShape n number) f tt
number_member n number (shape.Pointer elem b) y h e = let f : shape.Pointer elem b ≡ y = cc in subst (IsMemberShape n number) f h
number_member n number (shape.Struct s) y h e = absurd cc
number_member n number shape.Address y h e = absurd cc

-- ---- a struct so far
abbrev AreTyped : Surroundings → List Member → Type 0
AreTyped at members = All (λ (m : Member). IsMemberShape (length at.types.elements) at.number m.shape) members

field_typed : (at : Surroundings) (x : Laying) (d : Declaration) (y : Shape × ℕ) → field_declared at x d ≡ Some y → IsMemberShape (length at.types.elements) at.number y.0
unfolding field_declared field_shape
field_typed at x d y h =
    let m : ℕ = length x.members in
    let c : counted (field_shape at m d) (element_count d.size) ≡ Some y = if_some (is_new_field at x d.name) (counted (field_shape at m d) (element_count d.size)) y h in
    let a = some_then (field_shape at m d) _ y c in
    let b = some_map (element_count d.size) (λ (n : ℕ). (a.0, n)) y a.2 in
    let t = some_then (typed_shape at.types at.extents unannotated.Safe (siblings_of at.siblings d.size) m d.type_name) (if_complete at.number) a.0 a.1 in
    let whole = if_true (is_complete at.number t.0) (Some t.0) a.0 t.2 in
    let same : Some t.0 ≡ Some a.0 = if_some (is_complete at.number t.0) (Some t.0) a.0 t.2 in
    let out : t.0 ≡ y.0 = let e : t.0 ≡ a.0 = cc in e ∙ ap (λ (z : Shape × ℕ). z.0) b.2 in
    let is = typed at.types at.extents unannotated.Safe (siblings_of at.siblings d.size) m d.type_name t.0 t.1 in
    subst (IsMemberShape (length at.types.elements) at.number) out (complete_member (length at.types.elements) at.number t.0 is whole)

plain_types : (at : Surroundings) (x : Laying) (line : ℕ) (d : Declaration) (out : Laying) → AreTyped at x.members → with_plain at x line d ≡ Ok out → AreTyped at out.members
unfolding with_plain placed
plain_types at x line d out all p =
    let extent : Extent = type_extent at.types at.extents d.type_name in
    let a = ok_then (or_no_decl line (field_declared at x d)) (λ y. placed x line y.0 y.1 extent) out p in
    let is = field_typed at x d a.0 (ok_declared line (field_declared at x d) a.0 a.1) in
    let place : ℕ = round_up_to extent.align x.end in
    let e = ok_then (within_limits line x.fields (place + a.0.1 * extent.bytes)) _ out a.2 in
    let new : Member = record { offset = place; count = a.0.1; shape = a.0.0; arm = None } in
    let next : Laying = record { members = x.members ++ new ∷ []; unions = x.unions; names = x.names; end = e.0; align = max x.align extent.align; fields = x.fields + 1 } in
    let same : next ≡ out = cc in
    subst (λ (o : Laying). AreTyped at o.members) same (All-push (λ (m : Member). IsMemberShape (length at.types.elements) at.number m.shape) x.members new all is)

arm_types : (at : Surroundings) (unions : List UnionShape) (part start offset : ℕ) (arms : Arms) (a : Arm) (out : Arms) → AreTyped at arms.members
    → with_arm at unions part start offset arms a ≡ Some out → AreTyped at out.members
unfolding with_arm arm_shape
arm_types at unions part start offset arms a out all h =
    let value : ℤ = const_value a.value in
    let c = if_some (is_first at.siblings (length arms.members) (Some part) a.name) _ out h in
    let k = some_then (arm_tag at unions start arms a.tag value) (with_tagged_arm at part offset arms a) out c in
    let x = some_map (arm_shape at a) (with_arm_of part offset arms value k.0) out k.2 in
    let t = some_then (typed_shape at.types at.extents unannotated.Safe no_siblings 0 a.type_name) if_number x.0 x.1 in
    let is = number_member (length at.types.elements) at.number t.0 x.0 (typed at.types at.extents unannotated.Safe no_siblings 0 a.type_name t.0 t.1) t.2 in
    let new : Member = record { offset = offset; count = 1; shape = x.0; arm = Some (part, value) } in
    subst (λ (o : Arms). AreTyped at o.members) x.2 (All-push (λ (m : Member). IsMemberShape (length at.types.elements) at.number m.shape) arms.members new all is)

arms_types : (at : Surroundings) (unions : List UnionShape) (part start offset : ℕ) (arms : Arms) (more : List Arm) (out : Arms) → AreTyped at arms.members
    → with_arms_in_turn at unions part start offset arms more ≡ Ok out → AreTyped at out.members
arms_types at unions part start offset arms [] out all h = let e : arms ≡ out = cc in subst (λ (o : Arms). AreTyped at o.members) e all
arms_types at unions part start offset arms (a ∷ more) out all h =
    let n = ok_then (with_next_arm at unions part start offset arms a) (λ next. with_arms_in_turn at unions part start offset next more) out h in
    let one = arm_types at unions part start offset arms a n.0 all (ok_declared a.line (with_arm at unions part start offset arms a) n.0 n.1) in
    arms_types at unions part start offset n.0 more out one n.2

union_types : (at : Surroundings) (x : Laying) (line : ℕ) (arms : List Arm) (name : List ℕ) (out : Laying) → AreTyped at x.members → with_union at x line arms name ≡ Ok out → AreTyped at out.members
unfolding with_union with_union_at with_union_arms with_union_of
union_types at x line arms name out all p =
    let extent : Extent = union_extent at.types arms in
    let offset : ℕ = round_up_to extent.align x.end in
    let u = if_ok (is_new_union at x name) (with_union_at at x line arms name extent) (refusal.NoDecl line) out p in
    let a = ok_then (within_limits line x.fields (offset + extent.bytes)) (with_union_arms at x arms name offset extent) out u in
    let none : Arms = record { members = x.members; tag = None; values = [] } in
    let r = ok_then (with_arms_in_turn at x.unions (length x.unions) (length x.members) offset none arms) (λ read. Ok (with_union_of x name offset extent a.0 read)) out a.2 in
    let more = arms_types at x.unions (length x.unions) (length x.members) offset none arms r.0 all r.1 in
    let same : with_union_of x name offset extent a.0 r.0 ≡ out = cc in
    subst (λ (o : Laying). AreTyped at o.members) same more

any_types : (at : Surroundings) (x : Laying) (f : Field) (out : Laying) → AreTyped at x.members → with_any_field at x f ≡ Ok out → AreTyped at out.members
any_types at x (field.Plain line d) out all p = plain_types at x line d out all p
any_types at x (field.Union line arms name) out all p = union_types at x line arms name out all p

fields_types : (at : Surroundings) (x : Laying) (fields : List Field) (out : Laying) → AreTyped at x.members → with_fields_in_turn at x fields ≡ Ok out → AreTyped at out.members
fields_types at x [] out all p = let e : x ≡ out = cc in subst (λ (o : Laying). AreTyped at o.members) e all
fields_types at x (f ∷ fields) out all p =
    let n = ok_then (with_any_field at x f) (λ next. with_fields_in_turn at next fields) out p in
    fields_types at n.0 fields out (any_types at x f n.0 all n.1) n.2

-- ---- a struct of a table
pub members_typed : EachMemberHasItsType
unfolding laid_out
members_typed u t s x h at =
    let all = layouts_of u t h in
    let types : Types = types_in u in
    let listed = ap (λ (l : List StructShape). slice_get l s) (sym all.shapes) ∙ at in
    let one = from_mapped (λ (l : Laid). l.shape) all.laid s x listed in
    let d = item_at types t.extents 0 s (struct_items u.items) all.laid one.0 all.are one.1 in
    let again = laid_at types t.extents 0 s (struct_items u.items) all.laid d.0 all.are d.1 in
    let same : again.one ≡ one.0 = let e : Some again.one ≡ Some one.0 = sym again.at ∙ one.1 in cc in
    let read = laying_of types t.extents (0 + s) d.0 again.one again.is in
    let surroundings : Surroundings = record { types = types; extents = t.extents; number = 0 + s; siblings = struct_siblings types d.0.fields } in
    let typed_members : AreTyped surroundings read.laying.members =
    fields_types surroundings empty_struct d.0.fields read.laying (All-nil (λ (m : Member). IsMemberShape (length types.elements) (0 + s) m.shape)) read.read in
    let members : read.laying.members ≡ x.members = ap (λ (l : Laid). l.shape.members) (read.is ∙ same) ∙ ap (λ (y : StructShape). y.members) one.2 in
    let zeroth : 0 + s ≡ s = omega arith in
    let many : length types.elements ≡ length t.elems =
    ap (λ (y : Types). length y.elements) (sym all.types) ∙ sym (ap (λ (l : List Shape). length l) all.elems ∙ length-map t.types.elements (elem_shape t.types.elements t.extents)) in
    subst (λ (n : ℕ). All (λ (m : Member). IsMemberShape n s m.shape) x.members) many
    (subst (λ (k : ℕ). All (λ (m : Member). IsMemberShape (length types.elements) k m.shape) x.members) zeroth
    (subst (λ (l : List Member). All (λ (m : Member). IsMemberShape (length types.elements) (0 + s) m.shape) l) members typed_members))
