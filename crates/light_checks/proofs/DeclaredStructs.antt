-- A struct of short fields that was laid out: where its members lie, what its annotations reach, and what they name.
use Rattle.std.proofs.Common.{◌≡◌, ◌≢◌, ◌⊎◌, inl, inr, ℕ, zero, suc, ◌+◌, ◌*◌, ◌≤◌, ◌<◌, max, Bool, true, false, not, ◌&&◌, nat_lt, nat_le, is_some, List, [], ◌∷◌, ◌++◌, map, length, Option, Some, None, option_map, unwrap_or, Ok, Err, ℤ, position, bytes_eq, slice_get, if◌then◌else◌, All, refl, sym, ap, ◌∙◌, subst, append-nil, append_assoc, arith}
use Rattle.std.specs.List.{list_any}
use Rattle.std.specs.Option.{option_flatten}
use Rattle.std.proofs.lemmas.Bool.{and_parts, ltb-false, leb-false, leb-true, false≢true}
use Rattle.std.proofs.lemmas.List.{length-append}
use Rattle.std.proofs.lemmas.List.Elements.{All-nil, All-push, All-map, All-weaker}
use Rattle.c_tree.specs.declared.items.Arm.{Arm}
use Rattle.c_tree.specs.declared.items.Declaration.{Declaration}
use Rattle.c_tree.specs.declared.items.Field.{Field}
use Rattle.c_tree.specs.declared.items.Field.TheVariants as field
use Rattle.c_tree.specs.declared.items.StructItem.{StructItem}
use Rattle.c_tree.specs.declared.limits.LimitKind.TheVariants as limit
use Rattle.c_tree.specs.declared.types.Number.{Number}
use Rattle.c_tree.specs.Spelling.{type_words}
use Rattle.checked_tree.specs.declared.shapes.Member.{Member}
use Rattle.checked_tree.specs.declared.shapes.Shape.{Shape}
use Rattle.checked_tree.specs.declared.shapes.Shape.TheVariants as shape
use Rattle.checked_tree.specs.declared.shapes.UnionShape.{UnionShape}
use Rattle.checked_tree.specs.declared.shapes.Bounds.TheVariants as bounds
use Rattle.checked_tree.specs.declared.shapes.Edge.{Edge}
use Rattle.deputy_types.specs.declared.element.Element.{Element}
use Rattle.deputy_types.specs.declared.extent.Extent.{Extent}
use Rattle.deputy_types.specs.declared.refusal.TypeRefusal.{TypeRefusal}
use Rattle.deputy_types.specs.declared.refusal.TypeRefusal.TheVariants as refusal
use Rattle.deputy_types.specs.declared.sibling.MemberName.{MemberName}
use Rattle.deputy_types.specs.declared.sibling.Role.{Role}
use Rattle.deputy_types.specs.declared.sibling.Role.TheVariants as role
use Rattle.deputy_types.specs.declared.sibling.Unannotated.TheVariants as unannotated
use Rattle.deputy_types.specs.declared.siblings.Siblings.{Siblings}
use Rattle.deputy_types.specs.declared.types.Types.{Types}
use Rattle.deputy_rules.specs.Changes.{shape_of}
use Rattle.deputy_types.specs.Declarations.{typed_shape, declared_role}
use Rattle.deputy_types.specs.Extents.{IsExtent, AreExtents, key_extent, type_extent, round_up_to}
use Rattle.deputy_types.specs.Options.{and_then}
use Rattle.deputy_types.specs.Siblings.{is_member, member_number, role_of, is_new_member, with_member, with_sibling, no_siblings}
use Rattle.deputy_types.specs.StructLayout.{Surroundings, or_no_decl, tags_of, with_field_sibling, with_arm_siblings, next_part, field_siblings, struct_siblings, is_first, is_new_field, field_shape, field_declared, is_complete, if_complete, siblings_of, counted, element_count, within_limits, placed, with_plain, union_extent, const_value, arm_tag, if_number, arm_shape, with_arm_of, with_tagged_arm, with_arm, with_next_arm, with_arms_in_turn, is_new_union, with_union_of, with_union_arms, with_union_at, with_union, empty_struct, with_fields_in_turn, laid_out, head_of_struct, laid_with, struct_laid}
use Rattle.deputy_types.proofs.TypeExtents.{key_is_extent, type_is_extent, union_is_extent}
use Rattle.deputy_types.proofs.Inversions.{some_then, some_map, if_some, ok_then, ok_declared, if_ok, unless_ok, within_is}
use Rattle.light_checks.specs.Within.{is_integer, shape_at, IsShape, AreShapes}
use Rattle.light_checks.specs.Words.{IsReadable}
use Rattle.light_checks.proofs.DeclaredSides.{IsCounted, IsRoled, IsRoledShape, shape_roled}
use Rattle.light_checks.proofs.DeclaredSlots.{role_integer, not_before, joined, is_new, map_push, append_at, map_length, roled_shape_is}
use Rattle.light_checks.proofs.Ensuring.{some_same, given}
use Rattle.layout_laws.proofs.Lists.{slice_front}
use Rattle.layout_laws.proofs.MemberNumbers.{first_number}
use Rattle.deputy_types.specs.declared.laying.Laying.{Laying}
use Rattle.deputy_types.specs.declared.laying.Arms.{Arms}
use Rattle.deputy_types.specs.declared.laying.Laid.{Laid}

-- ---- extents
rounded_small : (align n : ℕ) → 1 ≤ align → align ≤ 4 → align ≢ 3 → n ≤ 65536 → round_up_to align n ≤ 65536
rounded_small zero n l g o h = absurd (omega arith)
rounded_small (suc zero) n l g o h = grind arith
rounded_small (suc (suc zero)) n l g o h = grind arith
rounded_small (suc (suc (suc zero))) n l g o h = absurd (o refl)
rounded_small (suc (suc (suc (suc zero)))) n l g o h = grind arith
rounded_small (suc (suc (suc (suc (suc m))))) n l g o h = absurd (omega arith)

-- ---- siblings so far
abbrev Extends : Siblings → Siblings → Type 0
Extends full s = (more : List MemberName) × (full.names ≡ s.names ++ more)

extends_more : (a b c : Siblings) → Extends a b → Extends b c → Extends a c
extends_more a b c x y = (y.0 ++ x.0, x.1 ∙ (ap (λ l. l ++ x.0) y.1 ∙ append_assoc c.names y.0 x.0))

extends_self : (s : Siblings) → Extends s s
extends_self s = ([], sym (append-nil s.names))

extends_one : (s : Siblings) (m : MemberName) (r : Role) → Extends (with_sibling s m r) s
unfolding with_sibling with_member
extends_one s m r = by (is_new_member s.names m)
  where
    by : (b : Bool) → Extends (if b then record { names = if b then s.names ++ m ∷ [] else s.names; roles = s.roles ++ r ∷ [] }
        else record { names = if b then s.names ++ m ∷ [] else s.names; roles = s.roles }) s
    by true = (m ∷ [], refl)
    by false = ([], sym (append-nil s.names))

extends_arms : (part : ℕ) (s : Siblings) (arms : List Arm) → Extends (with_arm_siblings part s arms) s
extends_arms part s [] = extends_self s
extends_arms part s (a ∷ arms) =
    let next = with_sibling s (record { part = Some part; name = a.name }) role.Other in
    extends_more (with_arm_siblings part next arms) next s (extends_arms part next arms) (extends_one s (record { part = Some part; name = a.name }) role.Other)

extends_fields : (types : Types) (tags : List (List ℕ)) (part : ℕ) (s : Siblings) (fields : List Field) → Extends (field_siblings types tags part s fields) s
extends_fields types tags part s [] = extends_self s
extends_fields types tags part s (field.Plain n d ∷ fields) =
    let next = with_field_sibling types tags s d in
    extends_more (field_siblings types tags part next fields) next s (extends_fields types tags part next fields)
    (extends_one s (record { part = None; name = d.name }) (declared_role types (is_some d.size) (list_any (bytes_eq d.name) tags) d.type_name))
extends_fields types tags part s (field.Union n arms name ∷ fields) =
    let next = with_arm_siblings part s arms in
    extends_more (field_siblings types tags (next_part part) next fields) next s (extends_fields types tags (next_part part) next fields) (extends_arms part s arms)

-- ---- members so far
pub record IsMember (full : Siblings) (m : Member) : Type 0 where
  pub offset : m.offset ≤ 65536
  pub count : m.count ≤ 65536
  pub shape : IsRoledShape full m.shape

-- the members of a struct so far, and its siblings so far, one by one
record Tracks (full s : Siblings) (members : List Member) : Type 0 where
  names : length s.names ≡ length members
  roles : length s.roles ≡ length members
  integers : (k : ℕ) → slice_get s.roles k ≡ Some role.Integer → is_integer (shape_at (map shape_of members) k) ≡ true
  lie : All (IsMember full) members

integer_front : (xs ys : List (Option Shape)) (k : ℕ) → is_integer (shape_at xs k) ≡ true → is_integer (shape_at (xs ++ ys) k) ≡ true
integer_front xs ys k h = by (slice_get xs k) refl h
  where
    by : (o : Option (Option Shape)) → slice_get xs k ≡ o → is_integer (option_flatten o) ≡ true → is_integer (shape_at (xs ++ ys) k) ≡ true
    by None e h = absurd (false≢true h)
    by (Some x) e h = ap (λ q. is_integer (option_flatten q)) (slice_front xs ys k x e) ∙ h

end_at : {X : Type 0} (xs : List X) (x : X) → slice_get (xs ++ x ∷ []) (length xs) ≡ Some x
end_at [] x = refl
end_at (y ∷ xs) x = end_at xs x

only_at : (r : Role) (j : ℕ) → slice_get (r ∷ []) j ≡ Some role.Integer → (j ≡ 0) × (r ≡ role.Integer)
only_at r zero h = (refl, some_same r role.Integer h)
only_at r (suc j) h = absurd cc

tracks_push : (full s : Siblings) (members : List Member) (m : Member) (name : MemberName) (r : Role) → Tracks full s members → IsMember full m → Extends full s
    → member_number full.names name.part name.name ≡ Some (length members) → length members ≤ 200000 → (r ≡ role.Integer → is_integer (Some m.shape) ≡ true)
    → Tracks full (with_sibling s name r) (members ++ m ∷ [])
tracks_push full s members m name r t is e found few integer =
    let number : position (is_member name.part name.name) (s.names ++ e.0) ≡ Some (length s.names) =
    ap (position (is_member name.part name.name)) (sym e.1) ∙ (found ∙ ap (λ n. Some n) (sym t.names)) in
    let size = t.names in
    let new = is_new s.names name (not_before (is_member name.part name.name) s.names e.0 number) (omega arith) in
    let here : (k : ℕ) → slice_get (s.roles ++ r ∷ []) k ≡ Some role.Integer → is_integer (shape_at (map shape_of members ++ Some m.shape ∷ []) k) ≡ true = at in
    subst (λ z. Tracks full z (members ++ m ∷ [])) (sym (joined s name r new)) (record {
      names = length-append s.names (name ∷ []) ∙ (ap (λ n. n + 1) t.names ∙ sym (length-append members (m ∷ [])));
      roles = length-append s.roles (r ∷ []) ∙ (ap (λ n. n + 1) t.roles ∙ sym (length-append members (m ∷ [])));
      integers = λ k h. subst (λ l. is_integer (shape_at l k) ≡ true) (sym (map_push shape_of members m)) (here k h);
      lie = All-push (IsMember full) members m t.lie is;
    })
  where
    by : (k : ℕ) → (slice_get s.roles k ≡ Some role.Integer) ⊎ ((j : ℕ) × (k ≡ length s.roles + j) × (slice_get (r ∷ []) j ≡ Some role.Integer))
        → is_integer (shape_at (map shape_of members ++ Some m.shape ∷ []) k) ≡ true
    by k (inl h) = integer_front (map shape_of members) (Some m.shape ∷ []) k (t.integers k h)
    by k (inr (j, h, g)) =
        let o = only_at r j g in
        let none = o.0 in
        let size = t.roles in
        let mapped = map_length shape_of members in
        let place : k ≡ length (map shape_of members) = omega arith in
        ap (λ n. is_integer (shape_at (map shape_of members ++ Some m.shape ∷ []) n)) place
        ∙ (ap (λ q. is_integer (option_flatten q)) (end_at (map shape_of members) (Some m.shape)) ∙ integer o.1)

    at : (k : ℕ) → slice_get (s.roles ++ r ∷ []) k ≡ Some role.Integer → is_integer (shape_at (map shape_of members ++ Some m.shape ∷ []) k) ≡ true
    at k h = by k (append_at s.roles (r ∷ []) k role.Integer h)

-- ---- a field
-- the types of a field are readable
abbrev pub AreReadableArms : List Arm → Type 0
AreReadableArms [] = Unit {0}
AreReadableArms (a ∷ arms) = IsReadable (type_words a.type_name) × AreReadableArms arms

abbrev pub IsReadableField : Field → Type 0
IsReadableField (field.Plain n d) = IsReadable (type_words d.type_name)
IsReadableField (field.Union n arms name) = AreReadableArms arms

abbrev pub AreReadableFields : List Field → Type 0
AreReadableFields [] = Unit {0}
AreReadableFields (x ∷ xs) = IsReadableField x × AreReadableFields xs

-- how many members fields declare
abbrev pub members_in : Field → ℕ
members_in (field.Plain n d) = 1
members_in (field.Union n arms name) = length arms

abbrev pub count_members : List Field → ℕ
count_members [] = 0
count_members (x ∷ xs) = members_in x + count_members xs

-- a struct so far
record Sound (full s : Siblings) (laying : Laying) : Type 0 where
  end : laying.end ≤ 65536
  least : 1 ≤ laying.align
  greatest : laying.align ≤ 4
  other : laying.align ≢ 3
  fields : laying.fields ≤ 64
  few : length laying.unions ≤ laying.fields
  unions : All (λ (u : UnionShape). u.offset ≤ 65536) laying.unions
  tracks : Tracks full s laying.members

two_limits : (a b : Bool) (p q : TypeRefusal) (n out : ℕ) → (if a then Err p else (if b then Err q else Ok n)) ≡ Ok out → (a ≡ false) × (b ≡ false)
two_limits true b p q n out h = absurd cc
two_limits false true p q n out h = absurd cc
two_limits false false p q n out h = (refl, refl)

limits_hold : (line fields end out : ℕ) → within_limits line fields end ≡ Ok out → (fields < 64) × (end ≤ 65536)
unfolding within_limits
limits_hold line fields end out h =
    let b = two_limits (nat_le 64 fields) (nat_lt 65536 end) (refusal.Limit line limit.Fields) (refusal.Limit line limit.Size) end out h in
    (leb-false 64 fields b.0, ltb-false 65536 end b.1)

pub if_true : {A : Type 0} (t : Bool) (x : Option A) (a : A) → (if t then x else None) ≡ Some a → t ≡ true
if_true true x a h = refl
if_true false x a h = absurd cc

pub count_small : (size : Option Number) (n : ℕ) → element_count size ≡ Some n → n ≤ 65536
unfolding element_count
count_small None n h = given (λ k. k ≤ 65536) 1 n h (omega arith)
count_small (Some x) n h = by (nat_le 1 x.value && nat_le x.value 65536) refl h
  where
    by : (b : Bool) → (nat_le 1 x.value && nat_le x.value 65536) ≡ b → (if b then Some x.value else None) ≡ Some n → n ≤ 65536
    by true e h = given (λ k. k ≤ 65536) x.value n h (leb-true x.value 65536 (and_parts (nat_le 1 x.value) (nat_le x.value 65536) e).1)
    by false e h = absurd cc

-- what names no sibling fits any siblings
nowhere : (siblings : Siblings) (e : Edge) → IsRoled no_siblings e → IsRoled siblings e
nowhere siblings e r = record { bytes = r.bytes; weight = r.weight; roles = All-weaker (IsCounted no_siblings) (IsCounted siblings) (λ t h. absurd (none t.1 h)) e.terms r.roles }
  where
    none : (k : ℕ) → role_of no_siblings k ≡ Some role.Integer → ⊥
    none k h = absurd cc

nowhere_shape : (siblings : Siblings) (x : Shape) → IsRoledShape no_siblings x → IsRoledShape siblings x
nowhere_shape siblings (shape.Int s) r = tt
nowhere_shape siblings (shape.Pointer elem bounds.Hidden) r = tt
nowhere_shape siblings (shape.Pointer elem bounds.Nullterm) r = tt
nowhere_shape siblings (shape.Pointer elem (bounds.Within lo hi)) r = (nowhere siblings lo r.0, nowhere siblings hi r.1)
nowhere_shape siblings (shape.Struct s) r = tt
nowhere_shape siblings shape.Address r = tt

module _ (at : Surroundings) (extents : AreExtents at.extents) where
  sizes : (key : Element) → (key_extent at.extents key).bytes ≤ 65536
  sizes key = (key_is_extent at.extents key extents).bytes

  field_roled : (m : ℕ) (d : Declaration) (x : Shape) → IsReadable (type_words d.type_name) → field_shape at m d ≡ Some x
      → IsRoledShape at.siblings x × ((tag : Bool) → declared_role at.types (is_some d.size) tag d.type_name ≡ role.Integer → is_integer (Some x) ≡ true)
  unfolding field_shape
  field_roled m d x r h =
      let t = some_then (typed_shape at.types at.extents unannotated.Safe (siblings_of at.siblings d.size) m d.type_name) (if_complete at.number) x h in
      let e : t.0 ≡ x = some_same t.0 x (if_some (is_complete at.number t.0) (Some t.0) x t.2) in (
        subst (IsRoledShape at.siblings) e (by d.size t.0 (shape_roled at.types at.extents unannotated.Safe (siblings_of at.siblings d.size) m d.type_name t.0 sizes r t.1)),
        λ tag g. subst (λ y. is_integer (Some y) ≡ true) e (role_integer at.types at.extents unannotated.Safe (siblings_of at.siblings d.size) m (is_some d.size) tag d.type_name t.0 g t.1),
      )
    where
      by : (size : Option Number) (y : Shape) → IsRoledShape (siblings_of at.siblings size) y → IsRoledShape at.siblings y
      by None y r = r
      by (Some n) y r = nowhere_shape at.siblings y r

  plain_sound : (tags : List (List ℕ)) (s : Siblings) (laying : Laying) (line : ℕ) (d : Declaration) (out : Laying) → Sound at.siblings s laying → Extends at.siblings s
      → IsReadable (type_words d.type_name) → length laying.members ≤ 200000 → with_plain at laying line d ≡ Ok out
      → Sound at.siblings (with_field_sibling at.types tags s d) out × (length out.members ≡ length laying.members + 1) × (length out.unions ≡ length laying.unions)
  unfolding with_plain field_declared is_new_field placed
  plain_sound tags s laying line d out sound more r few h =
      let m : ℕ = length laying.members in
      let extent : Extent = type_extent at.types at.extents d.type_name in
      let is = type_is_extent at.types at.extents d.type_name extents in
      let a = ok_then (or_no_decl line (field_declared at laying d)) (λ x. placed laying line x.0 x.1 extent) out h in
      let declared = ok_declared line (field_declared at laying d) a.0 a.1 in
      let new = if_true (is_new_field at laying d.name) (counted (field_shape at m d) (element_count d.size)) a.0 declared in
      let first = first_number at.siblings m None d.name (and_parts (is_first at.siblings m None d.name) (not (list_any (bytes_eq d.name) laying.names)) new).0 in
      let c = if_some (is_new_field at laying d.name) (counted (field_shape at m d) (element_count d.size)) a.0 declared in
      let x = some_then (field_shape at m d) (λ y. option_map (λ (n : ℕ). (y, n)) (element_count d.size)) a.0 c in
      let n = some_map (element_count d.size) (λ (n : ℕ). (x.0, n)) a.0 x.2 in
      let roled = field_roled m d x.0 r x.1 in
      let offset : ℕ = round_up_to extent.align laying.end in
      let same : x.0 ≡ a.0.0 = ap (λ (p : Shape × ℕ). p.0) n.2 in
      let count : n.0 ≡ a.0.1 = ap (λ (p : Shape × ℕ). p.1) n.2 in
      let small : a.0.1 ≤ 65536 = subst (λ k. k ≤ 65536) count (count_small d.size n.0 n.1) in
      let p = ok_then (within_limits line laying.fields (offset + a.0.1 * extent.bytes)) _ out a.2 in
      let holds = limits_hold line laying.fields (offset + a.0.1 * extent.bytes) p.0 p.1 in
      let end : offset + a.0.1 * extent.bytes ≡ p.0 = within_is line laying.fields (offset + a.0.1 * extent.bytes) p.0 p.1 in
      let member : Member = record { offset = offset; count = a.0.1; shape = a.0.0; arm = None } in
      let lies : IsMember at.siblings member = record { offset = omega (arith, holds.1); count = small; shape = subst (IsRoledShape at.siblings) same roled.0 } in
      let tag : Bool = list_any (bytes_eq d.name) tags in
      let next : Laying = record {
        members = laying.members ++ member ∷ [];
        unions = laying.unions;
        names = laying.names;
        end = p.0;
        align = max laying.align extent.align;
        fields = laying.fields + 1;
      } in
      let all : Sound at.siblings (with_field_sibling at.types tags s d) next = record {
        end = omega (arith, holds.1, end);
        least = omega (arith, sound.least, is.least);
        greatest = omega (arith, sound.greatest, is.greatest);
        other = omega (arith, sound.other, is.other);
        fields = omega (arith, holds.0);
        few = omega (arith, sound.few);
        unions = sound.unions;
        tracks = tracks_push at.siblings s laying.members member (record { part = None; name = d.name }) (declared_role at.types (is_some d.size) tag d.type_name) sound.tracks lies more first few
            (λ g. subst (λ y. is_integer (Some y) ≡ true) same (roled.1 tag g));
      } in
      let e : next ≡ out = cc in (
        subst (λ (o : Laying). Sound at.siblings (with_field_sibling at.types tags s d) o) e all,
        ap (λ (o : Laying). length o.members) (sym e) ∙ length-append laying.members (member ∷ []),
        ap (λ (o : Laying). length o.unions) (sym e),
      )

  -- ---- the arms of a union
  arm_roled : (a : Arm) (x : Shape) → IsReadable (type_words a.type_name) → arm_shape at a ≡ Some x → IsRoledShape at.siblings x
  unfolding arm_shape
  arm_roled a x r h =
      let t = some_then (typed_shape at.types at.extents unannotated.Safe no_siblings 0 a.type_name) if_number x h in
      subst (IsRoledShape at.siblings) (same_number t.0 x t.2) (nowhere_shape at.siblings t.0 (shape_roled at.types at.extents unannotated.Safe no_siblings 0 a.type_name t.0 sizes r t.1))
    where
      same_number : (y x : Shape) → if_number y ≡ Some x → y ≡ x
      same_number (shape.Int s) x h = cc
      same_number (shape.Pointer elem bounds) x h = cc
      same_number (shape.Struct s) x h = absurd cc
      same_number shape.Address x h = absurd cc

  arm_sound : (unions : List UnionShape) (part start offset : ℕ) (s : Siblings) (arms out : Arms) (a : Arm) → Tracks at.siblings s arms.members → Extends at.siblings s → offset ≤ 65536
      → IsReadable (type_words a.type_name) → length arms.members ≤ 200000 → with_arm at unions part start offset arms a ≡ Some out
      → Tracks at.siblings (with_sibling s (record { part = Some part; name = a.name }) role.Other) out.members × (length out.members ≡ length arms.members + 1)
  unfolding with_arm
  arm_sound unions part start offset s arms out a t more small r few h =
      let value : ℤ = const_value a.value in
      let rest = and_then (arm_tag at unions start arms a.tag value) (with_tagged_arm at part offset arms a) in
      let first = first_number at.siblings (length arms.members) (Some part) a.name (if_true (is_first at.siblings (length arms.members) (Some part) a.name) rest out h) in
      let c = if_some (is_first at.siblings (length arms.members) (Some part) a.name) rest out h in
      let k = some_then (arm_tag at unions start arms a.tag value) (with_tagged_arm at part offset arms a) out c in
      let x = some_map (arm_shape at a) (with_arm_of part offset arms value k.0) out k.2 in
      let member : Member = record { offset = offset; count = 1; shape = x.0; arm = Some (part, value) } in
      let lies : IsMember at.siblings member = record { offset = small; count = omega arith; shape = arm_roled a x.0 r x.1 } in
      let pushed = tracks_push at.siblings s arms.members member (record { part = Some part; name = a.name }) role.Other t lies more first few (λ g. absurd (not_other g)) in
      let same : arms.members ++ member ∷ [] ≡ out.members = ap (λ (o : Arms). o.members) x.2 in
      (subst (λ l. Tracks at.siblings (with_sibling s (record { part = Some part; name = a.name }) role.Other) l) same pushed, ap length (sym same) ∙ length-append arms.members (member ∷ []))
    where
      not_other : role.Other ≡ role.Integer → ⊥
      not_other g = absurd cc

  arms_sound : (unions : List UnionShape) (part start offset : ℕ) (s : Siblings) (arms out : Arms) (more : List Arm) → Tracks at.siblings s arms.members
      → Extends at.siblings (with_arm_siblings part s more) → offset ≤ 65536 → AreReadableArms more → length arms.members + length more ≤ 200000
      → with_arms_in_turn at unions part start offset arms more ≡ Ok out
      → Tracks at.siblings (with_arm_siblings part s more) out.members × (length out.members ≡ length arms.members + length more)
  arms_sound unions part start offset s arms out [] t e small r few h =
      let same : arms ≡ out = cc in
      (subst (λ (o : Arms). Tracks at.siblings s o.members) same t, ap (λ (o : Arms). length o.members) (sym same) ∙ omega arith)
  arms_sound unions part start offset s arms out (a ∷ more) t e small r few h =
      let s' = with_sibling s (record { part = Some part; name = a.name }) role.Other in
      let n = ok_then (with_next_arm at unions part start offset arms a) (λ next. with_arms_in_turn at unions part start offset next more) out h in
      let w = ok_declared a.line (with_arm at unions part start offset arms a) n.0 n.1 in
      let back = extends_more at.siblings (with_arm_siblings part s' more) s e (extends_more (with_arm_siblings part s' more) s' s (extends_arms part s' more) (extends_one s (record { part = Some part; name = a.name }) role.Other)) in
      let one = arm_sound unions part start offset s arms n.0 a t back small r.0 (omega arith) w in
      let size = one.1 in
      let rest = arms_sound unions part start offset s' n.0 out more one.0 e small r.1 (omega arith) n.2 in
      (rest.0, rest.1 ∙ omega arith)

  -- a union
  union_sound : (s : Siblings) (laying : Laying) (line : ℕ) (arms : List Arm) (name : List ℕ) (out : Laying) → Sound at.siblings s laying
      → Extends at.siblings (with_arm_siblings (length laying.unions) s arms) → AreReadableArms arms → length laying.members + length arms ≤ 200000
      → with_union at laying line arms name ≡ Ok out
      → Sound at.siblings (with_arm_siblings (length laying.unions) s arms) out × (length out.members ≡ length laying.members + length arms) × (length out.unions ≡ length laying.unions + 1)
  unfolding with_union with_union_at with_union_arms with_union_of
  union_sound s laying line arms name out sound more r few h =
      let extent : Extent = union_extent at.types arms in
      let is : IsExtent extent = union_is_extent at.types arms in
      let offset : ℕ = round_up_to extent.align laying.end in
      let u = if_ok (is_new_union at laying name) (with_union_at at laying line arms name extent) (refusal.NoDecl line) out h in
      let a = ok_then (within_limits line laying.fields (offset + extent.bytes)) (with_union_arms at laying arms name offset extent) out u in
      let holds = limits_hold line laying.fields (offset + extent.bytes) a.0 a.1 in
      let end : offset + extent.bytes ≡ a.0 = within_is line laying.fields (offset + extent.bytes) a.0 a.1 in
      let none : Arms = record { members = laying.members; tag = None; values = [] } in
      let q = ok_then (with_arms_in_turn at laying.unions (length laying.unions) (length laying.members) offset none arms) (λ read. Ok (with_union_of laying name offset extent a.0 read)) out a.2 in
      let tracked = arms_sound laying.unions (length laying.unions) (length laying.members) offset s none q.0 arms sound.tracks more (omega (arith, holds.1)) r few q.1 in
      let next : Laying = with_union_of laying name offset extent a.0 q.0 in
      let union : UnionShape = record { offset = offset; size = extent.bytes; tag = unwrap_or q.0.tag 0 } in
      let grown = length-append laying.unions (union ∷ []) in
      let all : Sound at.siblings (with_arm_siblings (length laying.unions) s arms) next = record {
        end = omega (arith, holds.1, end);
        least = omega (arith, sound.least, is.least);
        greatest = omega (arith, sound.greatest, is.greatest);
        other = omega (arith, sound.other, is.other);
        fields = omega (arith, holds.0);
        few = omega (arith, sound.few, grown);
        unions = All-push (λ (u : UnionShape). u.offset ≤ 65536) laying.unions union sound.unions (omega (arith, holds.1));
        tracks = tracked.0;
      } in
      let same : next ≡ out = cc in (
        subst (λ (o : Laying). Sound at.siblings (with_arm_siblings (length laying.unions) s arms) o) same all,
        ap (λ (o : Laying). length o.members) (sym same) ∙ tracked.1,
        ap (λ (o : Laying). length o.unions) (sym same) ∙ grown,
      )

  -- ---- all fields
  fields_sound : (tags : List (List ℕ)) (s : Siblings) (laying : Laying) (fields : List Field) (out : Laying) → Sound at.siblings s laying
      → at.siblings ≡ field_siblings at.types tags (length laying.unions) s fields → AreReadableFields fields → length laying.members + count_members fields ≤ 200000
      → with_fields_in_turn at laying fields ≡ Ok out → Sound at.siblings at.siblings out
  fields_sound tags s laying [] out sound e r few h =
      let same : laying ≡ out = cc in
      subst (λ (o : Laying). Sound at.siblings at.siblings o) same (subst (λ z. Sound at.siblings z laying) (sym e) sound)
  fields_sound tags s laying (field.Plain line d ∷ fields) out sound e r few h =
      let n = ok_then (with_plain at laying line d) (λ next. with_fields_in_turn at next fields) out h in
      let s' = with_field_sibling at.types tags s d in
      let rest : Extends at.siblings s' = subst (λ z. Extends z s') (sym e) (extends_fields at.types tags (length laying.unions) s' fields) in
      let back = extends_more at.siblings s' s rest (extends_one s (record { part = None; name = d.name }) (declared_role at.types (is_some d.size) (list_any (bytes_eq d.name) tags) d.type_name)) in
      let one = plain_sound tags s laying line d n.0 sound back r.0 (omega arith) n.1 in
      let more = one.1 in
      fields_sound tags s' n.0 fields out one.0 (e ∙ ap (λ p. field_siblings at.types tags p s' fields) (sym one.2)) r.1 (omega arith) n.2
  fields_sound tags s laying (field.Union line arms name ∷ fields) out sound e r few h =
      let n = ok_then (with_union at laying line arms name) (λ next. with_fields_in_turn at next fields) out h in
      let s' = with_arm_siblings (length laying.unions) s arms in
      let rest : Extends at.siblings s' = subst (λ z. Extends z s') (sym e) (extends_fields at.types tags (next_part (length laying.unions)) s' fields) in
      let one = union_sound s laying line arms name n.0 sound rest r.0 (omega arith) n.1 in
      let more = one.1 in
      let within = sound.few in
      let limit = sound.fields in
      let part : next_part (length laying.unions) ≡ length laying.unions + 1 = omega arith in
      fields_sound tags s' n.0 fields out one.0 (e ∙ ap (λ p. field_siblings at.types tags p s' fields) (part ∙ sym one.2)) r.1 (omega arith) n.2

-- ---- a struct
-- a struct as it is laid out
pub record IsStructWithin (laid : Laid) : Type 0 where
  pub extent : IsExtent laid.extent
  pub members : All (λ (m : Member). (m.offset ≤ 65536) × (m.count ≤ 65536)) laid.shape.members
  pub unions : All (λ (u : UnionShape). u.offset ≤ 65536) laid.shape.unions
  pub shapes : AreShapes (map shape_of laid.shape.members)

pub struct_within : (types : Types) (extents : List Extent) (number : ℕ) (s : StructItem) (laid : Laid) → AreExtents extents → AreReadableFields s.fields → count_members s.fields ≤ 200000
    → struct_laid types extents number s ≡ Ok laid → IsStructWithin laid
unfolding struct_laid laid_out struct_siblings
struct_within types extents number s laid are r few h =
    let siblings : Siblings = struct_siblings types s.fields in
    let at : Surroundings = record { types = types; extents = extents; number = number; siblings = siblings } in
    let u = unless_ok (head_of_struct types number s) (laid_with types extents number s.fields siblings) laid h in
    let n = ok_then (with_fields_in_turn at empty_struct s.fields) (λ laying. Ok (laid_out types s.fields siblings laying)) laid u in
    let start : Sound siblings no_siblings empty_struct = record {
      end = omega arith;
      least = omega arith;
      greatest = omega arith;
      other = omega arith;
      fields = omega arith;
      few = omega arith;
      unions = All-nil (λ (u : UnionShape). u.offset ≤ 65536);
      tracks = record { names = refl; roles = refl; integers = λ k g. absurd cc; lie = All-nil (IsMember siblings) };
    } in
    let sound = fields_sound at are (tags_of [] s.fields) no_siblings empty_struct s.fields n.0 start refl r (omega arith) n.1 in
    let shapes = map shape_of n.0.members in
    let next : Laid = laid_out types s.fields siblings n.0 in
    let is : IsStructWithin next = record {
      extent = record { bytes = rounded_small n.0.align n.0.end sound.least sound.greatest sound.other sound.end; least = sound.least; greatest = sound.greatest; other = sound.other };
      members = All-weaker (IsMember siblings) (λ (m : Member). (m.offset ≤ 65536) × (m.count ≤ 65536)) (λ m l. (l.offset, l.count)) n.0.members sound.tracks.lie;
      unions = sound.unions;
      shapes = All-map (IsShape shapes) shape_of n.0.members (All-weaker (IsMember siblings) (λ m. IsShape shapes (Some m.shape)) (λ m l. roled_shape_is siblings shapes sound.tracks.integers m.shape l.shape) n.0.members sound.tracks.lie);
    } in
    let same : next ≡ laid = cc in subst (λ (o : Laid). IsStructWithin o) same is
