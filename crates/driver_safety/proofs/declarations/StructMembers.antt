-- How a struct is laid out: each member is that of its declaration, each name has the number of its member, and each union has arms of its
-- own, which begin with it, end within it, and have constants of their own.
use Rattle.std.proofs.Common.{◌≡◌, ◌≢◌, ◌⊎◌, inl, inr, ℕ, zero, suc, ◌+◌, ◌-◌, ◌*◌, ◌^◌, ◌≤◌, ◌<◌, ◌==◌, max, Bool, true, false, not, ◌&&◌}
use Rattle.std.proofs.Common.{◌||◌, nat_lt, nat_le, is_some, List, [], ◌∷◌, ◌++◌, map, length, ℤ, Option, Some, None, option_map, unwrap_or}
use Rattle.std.proofs.Common.{Ok, position, bytes_eq, slice_get, if◌then◌else◌, refl, sym, ap, ◌∙◌, subst, append-nil, append_assoc}
use Rattle.std.proofs.Common.{true≢false, arith}
use Rattle.std.specs.List.{list_any}
use Rattle.std.specs.Ordering.{int_eq}
use Rattle.std.proofs.lemmas.Bool.{and_parts, or_left, or_right, eqb-true, eq-eqb, ltb-true, leb-true, leb-false}
use Rattle.std.proofs.lemmas.Bool.Decides.{Decides-int_eq}
use Rattle.std.proofs.lemmas.List.{length-append}
use Rattle.std.proofs.lemmas.List.Folds.{list_any-append}
use Rattle.std.proofs.lemmas.List.Quantifiers.{position-Some}
use Rattle.std.proofs.lemmas.Option.{slice_get-get_or}
use Rattle.c_tree.specs.declared.items.Arm.{Arm}
use Rattle.c_tree.specs.declared.items.Declaration.{Declaration}
use Rattle.c_tree.specs.declared.items.Field.{Field}
use Rattle.c_tree.specs.declared.items.Field.TheVariants as field
use Rattle.c_tree.specs.declared.types.Star.{Star}
use Rattle.checked_tree.specs.declared.shapes.Member.{Member}
use Rattle.checked_tree.specs.declared.shapes.Scalar.{Scalar}
use Rattle.checked_tree.specs.declared.shapes.Scalar.TheVariants as scalar
use Rattle.checked_tree.specs.declared.shapes.Shape.{Shape}
use Rattle.checked_tree.specs.declared.shapes.Shape.TheVariants as shape
use Rattle.checked_tree.specs.declared.shapes.UnionShape.{UnionShape}
use Rattle.deputy_types.specs.declared.element.Element.{Element}
use Rattle.deputy_types.specs.declared.element.Element.TheVariants as element
use Rattle.deputy_types.specs.declared.extent.Extent.{Extent}
use Rattle.deputy_types.specs.declared.laying.Arms.{Arms}
use Rattle.deputy_types.specs.declared.laying.Laying.{Laying}
use Rattle.deputy_types.specs.declared.refusal.TypeRefusal.TheVariants as refusal
use Rattle.deputy_types.specs.declared.sibling.MemberName.{MemberName}
use Rattle.deputy_types.specs.declared.sibling.Role.{Role}
use Rattle.deputy_types.specs.declared.sibling.Role.TheVariants as role
use Rattle.deputy_types.specs.declared.sibling.Unannotated.TheVariants as unannotated
use Rattle.deputy_types.specs.declared.siblings.Siblings.{Siblings}
use Rattle.deputy_types.specs.declared.types.Types.{Types}
use Rattle.deputy_types.specs.Declarations.{plain_shape, pointer_to, pointer_shape, shape_behind, star_bounds, typed_shape, declared_role}
use Rattle.deputy_types.specs.Extents.{AreExtents, natural, scalar_extent, no_extent, own_extent, key_extent, stars_extent}
use Rattle.deputy_types.specs.Extents.{greater, type_extent, arm_extent, round_up_to}
use Rattle.deputy_types.specs.MemberTypes.{arm_arrays, member_arrays, arm_keys, member_keys}
use Rattle.deputy_types.specs.Options.{and_then}
use Rattle.deputy_types.specs.Siblings.{is_member, member_number, sibling_number, role_of, is_new_member, with_member, with_sibling}
use Rattle.deputy_types.specs.Siblings.{no_siblings}
use Rattle.deputy_types.specs.StructLaws.{shape_extent}
use Rattle.deputy_types.specs.StructLayout.{Surroundings, or_no_decl, tags_of, with_field_sibling, with_arm_siblings, next_part}
use Rattle.deputy_types.specs.StructLayout.{field_siblings, struct_siblings, is_first, is_new_field, field_shape, field_declared}
use Rattle.deputy_types.specs.StructLayout.{is_complete, if_complete, siblings_of, counted, element_count, within_limits, placed}
use Rattle.deputy_types.specs.StructLayout.{with_plain, arms_extent, union_extent, const_value, tag_at, tag_number, is_own_tag, tag_holds}
use Rattle.deputy_types.specs.StructLayout.{arm_tag, if_number, arm_shape, with_arm_of, with_tagged_arm, with_arm, with_next_arm}
use Rattle.deputy_types.specs.StructLayout.{with_arms_in_turn, is_new_union, with_union_of, with_union_arms, with_union_at, with_union}
use Rattle.deputy_types.specs.StructLayout.{empty_struct, with_fields_in_turn}
use Rattle.deputy_types.specs.Types.{base_key, element_number, stars_key, front_stars, last_star, pointed_key, type_key}
use Rattle.deputy_types.proofs.Inversions.{some_then, some_map, ok_then, ok_declared, if_ok, within_is}
use Rattle.deputy_types.proofs.TypeExtents.{type_is_extent, union_is_extent}
use Rattle.layout_laws.specs.MemberLookups.{arm_names, member_names}
use Rattle.layout_laws.proofs.MemberNumbers.{first_number}
use Rattle.layout_laws.proofs.Lists.{slice_behind}
use Rattle.driver_safety.specs.TypeFacts.{IsInteger}
use Rattle.driver_safety.specs.UnionArms.{HaveArms}
use Rattle.light_checks.proofs.DeclaredSlots.{not_before, joined, is_new, map_push, map_length}
use Rattle.driver_safety.proofs.declarations.DeclaredShapes.{some_same, if_both, IsShapeOf, typed_is}

-- ---- the members that fields declare
pub data Piece : Type 0 where
  plain : Declaration → Piece
  arm : ℕ → Arm → Piece  -- of the union with this number

abbrev pub arm_pieces : ℕ → List Arm → List Piece
arm_pieces part [] = []
arm_pieces part (a ∷ arms) = arm part a ∷ arm_pieces part arms

abbrev pub pieces : ℕ → List Field → List Piece
pieces part [] = []
pieces part (field.Plain line d ∷ fields) = plain d ∷ pieces part fields
pieces part (field.Union line arms name ∷ fields) = arm_pieces part arms ++ pieces (part + 1) fields

abbrev pub name_of : Piece → MemberName
name_of (plain d) = record { part = None; name = d.name }
name_of (arm part a) = record { part = Some part; name = a.name }

abbrev pub role_for : Types → List (List ℕ) → Piece → Role
role_for types tags (plain d) = declared_role types (is_some d.size) (list_any (bytes_eq d.name) tags) d.type_name
role_for types tags (arm part a) = role.Other

abbrev pub is_array_piece : Piece → Bool
is_array_piece (plain d) = is_some d.size
is_array_piece (arm part a) = false

abbrev pub key_for : Types → Piece → Option Element
key_for types (plain d) = type_key types d.type_name
key_for types (arm part a) = type_key types a.type_name

map_both : {X Y : Type 0} (f : X → Y) (xs ys : List X) → map f (xs ++ ys) ≡ map f xs ++ map f ys
map_both f [] ys = refl
map_both f (x ∷ xs) ys = ap (λ l. f x ∷ l) (map_both f xs ys)

arrays_arms : (part : ℕ) (arms : List Arm) → arm_arrays arms ≡ map is_array_piece (arm_pieces part arms)
arrays_arms part [] = refl
arrays_arms part (a ∷ arms) = ap (λ l. false ∷ l) (arrays_arms part arms)

pub arrays_are : (part : ℕ) (fields : List Field) → member_arrays fields ≡ map is_array_piece (pieces part fields)
arrays_are part [] = refl
arrays_are part (field.Plain line d ∷ fields) = ap (λ l. is_some d.size ∷ l) (arrays_are part fields)
arrays_are part (field.Union line arms name ∷ fields) =
    ap (λ l. l ++ member_arrays fields) (arrays_arms part arms) ∙ (ap
    (λ l. map is_array_piece (arm_pieces part arms) ++ l) (arrays_are (part + 1) fields)
    ∙ sym (map_both is_array_piece (arm_pieces part arms) (pieces (part + 1) fields)))

keys_arms : (types : Types) (part : ℕ) (arms : List Arm) → arm_keys types arms ≡ map (key_for types) (arm_pieces part arms)
keys_arms types part [] = refl
keys_arms types part (a ∷ arms) = ap (λ l. type_key types a.type_name ∷ l) (keys_arms types part arms)

pub keys_are : (types : Types) (part : ℕ) (fields : List Field) → member_keys types fields ≡ map (key_for types) (pieces part fields)
keys_are types part [] = refl
keys_are types part (field.Plain line d ∷ fields) = ap (λ l. type_key types d.type_name ∷ l) (keys_are types part fields)
keys_are types part (field.Union line arms name ∷ fields) =
    ap (λ l. l ++ member_keys types fields) (keys_arms types part arms) ∙ (ap
    (λ l. map (key_for types) (arm_pieces part arms) ++ l) (keys_are types (part + 1) fields)
    ∙ sym (map_both (key_for types) (arm_pieces part arms) (pieces (part + 1) fields)))

names_arms : (part : ℕ) (arms : List Arm) → arm_names part arms ≡ map name_of (arm_pieces part arms)
names_arms part [] = refl
names_arms part (a ∷ arms) = ap (λ l. record { part = Some part; name = a.name } ∷ l) (names_arms part arms)

pub names_are : (part : ℕ) (fields : List Field) → member_names part fields ≡ map name_of (pieces part fields)
names_are part [] = refl
names_are part (field.Plain line d ∷ fields) = ap (λ l. record { part = None; name = d.name } ∷ l) (names_are part fields)
names_are part (field.Union line arms name ∷ fields) =
    ap (λ l. l ++ member_names (part + 1) fields) (names_arms part arms) ∙ (ap
    (λ l. map name_of (arm_pieces part arms) ++ l) (names_are (part + 1) fields)
    ∙ sym (map_both name_of (arm_pieces part arms) (pieces (part + 1) fields)))

-- ---- lists that grow by one
pub or_false : (a b : Bool) → (a || b) ≡ false → (a ≡ false) × (b ≡ false)
or_false true b h = absurd cc
or_false false b h = (refl, h)

pub pushed_at : {X : Type 0} (xs : List X) (x : X) (k : ℕ) (y : X) → slice_get (xs ++ x ∷ []) k ≡ Some y
    → (slice_get xs k ≡ Some y) ⊎ ((k ≡ length xs) × (x ≡ y))
pushed_at [] x zero y h = inr (refl, some_same x y h)
pushed_at [] x (suc k) y h = absurd cc
pushed_at (z ∷ xs) x zero y h = inl h
pushed_at (z ∷ xs) x (suc k) y h = by (pushed_at xs x k y h)
  where
    by : (slice_get xs k ≡ Some y) ⊎ ((k ≡ length xs) × (x ≡ y)) → (slice_get xs k ≡ Some y) ⊎ ((suc k ≡ suc (length xs)) × (x ≡ y))
    by (inl e) = inl e
    by (inr e) = inr (ap suc e.0, e.1)

pub behind_all : {X : Type 0} (xs : List X) (x : X) → slice_get (xs ++ x ∷ []) (length xs) ≡ Some x
behind_all [] x = refl
behind_all (y ∷ xs) x = behind_all xs x

pub before_end : {X : Type 0} (xs : List X) (x : X) (k : ℕ) (y : X) → slice_get xs k ≡ Some y → slice_get (xs ++ x ∷ []) k ≡ Some y
before_end [] x k y h = absurd cc
before_end (z ∷ xs) x zero y h = h
before_end (z ∷ xs) x (suc k) y h = before_end xs x k y h

pub within_list : {X : Type 0} (xs : List X) (k : ℕ) (y : X) → slice_get xs k ≡ Some y → k < length xs
within_list [] k y h = absurd cc
within_list (x ∷ xs) zero y h = omega arith
within_list (x ∷ xs) (suc k) y h = let more = within_list xs k y h in omega (arith, more)

-- ---- siblings so far
abbrev pub Extends : Siblings → Siblings → Type 0
Extends full s = (more : List MemberName) × (full.names ≡ s.names ++ more)

extends_more : (a b c : Siblings) → Extends a b → Extends b c → Extends a c
extends_more a b c x y = (y.0 ++ x.0, x.1 ∙ (ap (λ l. l ++ x.0) y.1 ∙ append_assoc c.names y.0 x.0))

extends_self : (s : Siblings) → Extends s s
extends_self s = ([], sym (append-nil s.names))

extends_one : (s : Siblings) (m : MemberName) (r : Role) → Extends (with_sibling s m r) s
unfolding with_sibling with_member
extends_one s m r = by (is_new_member s.names m)
  where
    by : (b : Bool) → Extends (if b then record { names = if b then s.names ++ m ∷ [] else s.names; roles = s.roles ++ r ∷ [] }
        else record { names = if b then s.names ++ m ∷ [] else s.names; roles = s.roles }) s
    by true = (m ∷ [], refl)
    by false = ([], sym (append-nil s.names))

extends_arms : (part : ℕ) (s : Siblings) (arms : List Arm) → Extends (with_arm_siblings part s arms) s
extends_arms part s [] = extends_self s
extends_arms part s (a ∷ arms) =
    let next = with_sibling s (record { part = Some part; name = a.name }) role.Other in
    extends_more (with_arm_siblings part next arms) next s (extends_arms part next arms) (extends_one s (record {
      part = Some part;
      name = a.name;
    }) role.Other)

extends_fields : (types : Types) (tags : List (List ℕ)) (part : ℕ) (s : Siblings) (fields : List Field)
    → Extends (field_siblings types tags part s fields) s
extends_fields types tags part s [] = extends_self s
extends_fields types tags part s (field.Plain n d ∷ fields) =
    let next = with_field_sibling types tags s d in
    extends_more (field_siblings types tags part next fields) next s (extends_fields types tags part next fields)
    (extends_one s (record {
      part = None;
      name = d.name;
    }) (declared_role types (is_some d.size) (list_any (bytes_eq d.name) tags) d.type_name))
extends_fields types tags part s (field.Union n arms name ∷ fields) =
    let next = with_arm_siblings part s arms in
    extends_more (field_siblings types tags (next_part part) next fields) next s (extends_fields types tags (next_part part) next fields)
    (extends_arms part s arms)

-- there are less than 2^32
abbrev AreFew : Siblings → Type 0
AreFew s = length s.names < 2 ^ 32

few_one : (s : Siblings) (m : MemberName) (r : Role) → AreFew s → AreFew (with_sibling s m r)
unfolding with_sibling with_member is_new_member
few_one s m r few = by (list_any (is_member m.part m.name) s.names) (nat_lt (length s.names) (2 ^ 32 - 1)) refl
  where
    pushed : length s.names < 2 ^ 32 - 1 → length (s.names ++ m ∷ []) < 2 ^ 32
    pushed l = let e = length-append s.names (m ∷ []) in omega (arith, e, l)

    by : (a b : Bool) → nat_lt (length s.names) (2 ^ 32 - 1) ≡ b → AreFew (if (if a then false else b)
        then record { names = if (if a then false else b) then s.names ++ m ∷ [] else s.names; roles = s.roles ++ r ∷ [] }
        else record { names = if (if a then false else b) then s.names ++ m ∷ [] else s.names; roles = s.roles })
    by true b e = few
    by false true e = pushed (ltb-true (length s.names) (2 ^ 32 - 1) e)
    by false false e = few

few_arms : (part : ℕ) (s : Siblings) (arms : List Arm) → AreFew s → AreFew (with_arm_siblings part s arms)
few_arms part s [] few = few
few_arms part s (a ∷ arms) few =
    few_arms part (with_sibling s (record { part = Some part; name = a.name }) role.Other) arms (few_one s (record {
      part = Some part;
      name = a.name;
    }) role.Other few)

few_fields : (types : Types) (tags : List (List ℕ)) (part : ℕ) (s : Siblings) (fields : List Field) → AreFew s
    → AreFew (field_siblings types tags part s fields)
few_fields types tags part s [] few = few
few_fields types tags part s (field.Plain n d ∷ fields) few =
    few_fields types tags part (with_field_sibling types tags s d) fields
    (few_one s (record {
      part = None;
      name = d.name;
    }) (declared_role types (is_some d.size) (list_any (bytes_eq d.name) tags) d.type_name) few)
few_fields types tags part s (field.Union n arms name ∷ fields) few =
    few_fields types tags (next_part part) (with_arm_siblings part s arms) fields (few_arms part s arms few)

-- ---- the extent of a union
arms_above : (types : Types) (x : Extent) (arms : List Arm) → x.bytes ≤ (arms_extent types x arms).bytes
arms_above types x [] = omega arith
arms_above types x (a ∷ arms) =
    let more = arms_above types (greater x (arm_extent types a.type_name)) arms in
    let both : x.bytes ≤ max x.bytes (arm_extent types a.type_name).bytes = omega arith in
    omega (arith, more, both)

-- each arm has room
abbrev HaveRoom : Types → ℕ → List Arm → Type 0
HaveRoom types size [] = Unit {0}
HaveRoom types size (a ∷ arms) = ((arm_extent types a.type_name).bytes ≤ size) × HaveRoom types size arms

have_room : (types : Types) (x : Extent) (arms : List Arm) → HaveRoom types (arms_extent types x arms).bytes arms
have_room types x [] = tt
have_room types x (a ∷ arms) =
    let next = greater x (arm_extent types a.type_name) in
    let more = arms_above types next arms in
    let both : (arm_extent types a.type_name).bytes ≤ max x.bytes (arm_extent types a.type_name).bytes = omega arith in
    (omega (arith, more, both), have_room types next arms)

either_max : (a b : ℕ) → (a ≡ max a b) ⊎ (b ≡ max a b)
either_max a b = by (nat_le a b) refl
  where
    by : (c : Bool) → nat_le a b ≡ c → (a ≡ max a b) ⊎ (b ≡ max a b)
    by true e = let below = leb-true a b e in inr (omega (arith, below))
    by false e = let above = leb-false a b e in inl (omega (arith, above))

-- and one has all the bytes, where the first is no shorter than what there was before
either_fills : (types : Types) (x : Extent) (arms : List Arm) → (x.bytes ≡ (arms_extent types x arms).bytes)
    ⊎ ((i : ℕ) × (a : Arm) × (slice_get arms i ≡ Some a) × ((arm_extent types a.type_name).bytes ≡ (arms_extent types x arms).bytes))
either_fills types x [] = inl refl
either_fills types x (a ∷ arms) = by (either_fills types (greater x (arm_extent types a.type_name)) arms)
  where
    next : Extent
    next = greater x (arm_extent types a.type_name)

    all : ℕ
    all = (arms_extent types next arms).bytes

    by : (next.bytes ≡ all) ⊎ ((i : ℕ) × (b : Arm) × (slice_get arms i ≡ Some b) × ((arm_extent types b.type_name).bytes ≡ all))
        → (x.bytes ≡ all) ⊎ ((i : ℕ) × (b : Arm) × (slice_get (a ∷ arms) i ≡ Some b) × ((arm_extent types b.type_name).bytes ≡ all))
    by (inr f) = inr (suc f.0, f.1, f.2, f.3)
    by (inl e) = pick (either_max x.bytes (arm_extent types a.type_name).bytes)
      where
        pick : (x.bytes ≡ max x.bytes (arm_extent types a.type_name).bytes) ⊎
            ((arm_extent types a.type_name).bytes ≡ max x.bytes (arm_extent types a.type_name).bytes)
            → (x.bytes ≡ all) ⊎ ((i : ℕ) × (b : Arm) × (slice_get (a ∷ arms) i ≡ Some b) × ((arm_extent types b.type_name).bytes ≡ all))
        pick (inl f) = inl (f ∙ e)
        pick (inr f) = inr (0, a, refl, f ∙ e)

pub rounded_above : (align n : ℕ) → 1 ≤ align → n ≤ round_up_to align n
rounded_above align n h = grind arith

farther : (align end p more : ℕ) → 1 ≤ align → round_up_to align end + more ≡ p → end ≤ p
farther align end p more l e = let above = rounded_above align end l in omega (arith, above, e)

-- ---- the extent of an arm is that of its shape
pub same_number : (y x : Shape) → if_number y ≡ Some x → y ≡ x
same_number (shape.Int s) x h = some_same (shape.Int s) x h
same_number (shape.Pointer elem bounds) x h = some_same (shape.Pointer elem bounds) x h
same_number (shape.Struct s) x h = absurd cc
same_number shape.Address x h = absurd cc

own_plain : (extents : List Extent) (key : Element) (y x : Shape) → plain_shape key ≡ Some y → if_number y ≡ Some x
    → own_extent key ≡ shape_extent extents x
own_plain extents (element.Int s) y x h k = ap (shape_extent extents) (some_same (shape.Int s) y h ∙ same_number y x k)
own_plain extents (element.Struct n) y x h k =
    let f : if_number (shape.Struct n)
    ≡ Some x = subst (λ (z : Shape). if_number z ≡ Some x) (sym (some_same (shape.Struct n) y h)) k in absurd cc
own_plain extents (element.Sentinel n) y x h k = absurd cc
own_plain extents (element.Nullterm n) y x h k = absurd cc
own_plain extents (element.Count n j) y x h k = absurd cc

pointer_extent : (elements : List Element) (extents : List Extent) (key : Element) (star : Star) (x : Shape)
    → pointer_shape elements extents unannotated.Safe no_siblings 0 key star ≡ Some x → natural 4 ≡ shape_extent extents x
unfolding pointer_shape
pointer_extent elements extents key star x h =
    let a = some_then (element_number elements key)
    (λ elem. pointer_to (key_extent extents key).bytes unannotated.Safe no_siblings 0 elem key star) x h in
    let b = some_map (star_bounds (key_extent extents key).bytes unannotated.Safe no_siblings 0 a.0 key star.annotation)
    (λ b. shape.Pointer a.0 b) x a.2 in
    ap (shape_extent extents) b.2

behind_extent : (elements : List Element) (extents : List Extent) (key : Element) (o : Option Star) (x : Shape)
    → (o ≡ None → ⊥) → shape_behind elements extents unannotated.Safe no_siblings 0 key o ≡ Some x → natural 4 ≡ shape_extent extents x
behind_extent elements extents key None x there h = absurd (there refl)
behind_extent elements extents key (Some star) x there h = pointer_extent elements extents key star x h

last_there : (s : Star) (ss : List Star) → last_star (s ∷ ss) ≡ None → ⊥
last_there s ss h = let e = slice_get-get_or (s ∷ ss) (length (s ∷ ss) - 1) s (omega arith) in absurd cc

own_by_stars : (elements : List Element) (extents : List Extent) (base : Option Element) (stars : List Star) (y x : Shape)
    → and_then (and_then base (λ key. stars_key elements key (front_stars stars)))
    (λ key. shape_behind elements extents unannotated.Safe no_siblings 0 key (last_star stars)) ≡ Some y → if_number y ≡ Some x
    → stars_extent (unwrap_or (option_map own_extent base) no_extent) stars ≡ shape_extent extents x
own_by_stars elements extents None stars y x h k = absurd cc
own_by_stars elements extents (Some key) [] y x h k = own_plain extents key y x h k
own_by_stars elements extents (Some key) (s ∷ ss) y x h k =
    let a = some_then (stars_key elements key (front_stars (s ∷ ss)))
    (λ j. shape_behind elements extents unannotated.Safe no_siblings 0 j (last_star (s ∷ ss))) y h in
    behind_extent elements extents a.0 (last_star (s ∷ ss)) y (last_there s ss) a.2 ∙ ap (shape_extent extents) (same_number y x k)

arm_has_extent : (at : Surroundings) (a : Arm) (x : Shape) → arm_shape at a ≡ Some x
    → arm_extent at.types a.type_name ≡ shape_extent at.extents x
unfolding arm_shape typed_shape pointed_key arm_extent
arm_has_extent at a x h =
    let t = some_then (typed_shape at.types at.extents unannotated.Safe no_siblings 0 a.type_name) if_number x h in
    own_by_stars at.types.elements at.extents (base_key at.types.structs a.type_name.base) a.type_name.stars t.0 x t.1 t.2

pub arm_typed : (at : Surroundings) (a : Arm) (x : Shape) → arm_shape at a ≡ Some x
    → (typed_shape at.types at.extents unannotated.Safe no_siblings 0 a.type_name ≡ Some x) × (if_number x ≡ Some x)
unfolding arm_shape
arm_typed at a x h =
    let t = some_then (typed_shape at.types at.extents unannotated.Safe no_siblings 0 a.type_name) if_number x h in
    let same = same_number t.0 x t.2 in
    (t.1 ∙ ap (λ (y : Shape). Some y) same, sym (ap if_number same) ∙ t.2)

whole_bytes : (s : Scalar) → IsInteger s → 1 ≤ (scalar_extent s).bytes
whole_bytes scalar.Void i = absurd i
whole_bytes (scalar.Pointer n) i = absurd i
whole_bytes scalar.U8 i = omega arith
whole_bytes scalar.I8 i = omega arith
whole_bytes scalar.U16 i = omega arith
whole_bytes scalar.I16 i = omega arith
whole_bytes scalar.I32 i = omega arith
whole_bytes scalar.U32 i = omega arith

pub member_there : (xs : List Member) (k : ℕ) → k < length xs → (m : Member) × (slice_get xs k ≡ Some m)
member_there [] k l = absurd (omega (arith, l))
member_there (x ∷ xs) zero l = (x, refl)
member_there (x ∷ xs) (suc k) l = member_there xs k (omega (arith, l))

arm_there : (xs : List Arm) (k : ℕ) → k < length xs → (a : Arm) × (slice_get xs k ≡ Some a)
arm_there [] k l = absurd (omega (arith, l))
arm_there (x ∷ xs) zero l = (x, refl)
arm_there (x ∷ xs) (suc k) l = arm_there xs k (omega (arith, l))

pub none_at : {X : Type 0} (p : X → Bool) (xs : List X) (k : ℕ) (x : X) → list_any p xs ≡ false → slice_get xs k ≡ Some x → p x ≡ false
none_at p [] k x n g = absurd cc
none_at p (y ∷ xs) zero x n g = subst (λ z. p z ≡ false) (some_same y x g) (or_false (p y) (list_any p xs) n).0
none_at p (y ∷ xs) (suc k) x n g = none_at p xs k x (or_false (p y) (list_any p xs) n).1 g

first_room : (types : Types) (size : ℕ) (arms : List Arm) (a : Arm) → HaveRoom types size arms → slice_get arms 0 ≡ Some a
    → (arm_extent types a.type_name).bytes ≤ size
first_room types size [] a r g = absurd cc
first_room types size (b ∷ arms) a r g = subst (λ (x : Arm). (arm_extent types x.type_name).bytes ≤ size) (some_same b a g) r.0

-- ---- a struct so far
module _ (at : Surroundings) (tags : List (List ℕ)) (few : length at.siblings.names < 2 ^ 32) (extents : AreExtents at.extents) where
  -- a field that is no union
  pub record IsField (k : ℕ) (d : Declaration) (m : Member) : Type 0 where
    pub number : member_number at.siblings.names None d.name ≡ Some k
    pub typed : typed_shape at.types at.extents unannotated.Safe (siblings_of at.siblings d.size) k d.type_name ≡ Some m.shape
    pub complete : is_complete at.number m.shape ≡ true
    pub count : element_count d.size ≡ Some m.count
    pub no_arm : m.arm ≡ None

  pub record IsArm (k part : ℕ) (a : Arm) (m : Member) : Type 0 where
    pub number : member_number at.siblings.names (Some part) a.name ≡ Some k
    pub shape_is : arm_shape at a ≡ Some m.shape
    pub one : m.count ≡ 1
    pub arm_is : m.arm ≡ Some (part, const_value a.value)

  abbrev pub IsMade : ℕ → Piece → Member → Type 0
  IsMade k (plain d) m = IsField k d m
  IsMade k (arm part a) m = IsArm k part a m

  -- a member that is an arm with all bytes of its union
  pub record IsFilledBy (members : List Member) (part size : ℕ) : Type 0 where
    pub number : ℕ
    pub member : Member
    pub found : slice_get members number ≡ Some member
    pub constant : ℤ
    pub arm_is : member.arm ≡ Some (part, constant)
    pub bytes : (shape_extent at.extents member.shape).bytes ≡ size

  abbrev pub HasRoom : ℕ → ℕ → Member → Type 0
  HasRoom offset size m = (m.offset ≡ offset) × ((shape_extent at.extents m.shape).bytes ≤ size)

  abbrev pub AreDistinct : List Member → ℕ → Type 0
  AreDistinct members part = (j k : ℕ) (a b : Member) → slice_get members j ≡ Some a → slice_get members k ≡ Some b → j ≢ k → (y z : ℤ)
      → a.arm ≡ Some (part, y)
      → b.arm ≡ Some (part, z) → y ≢ z

  -- a union of the struct
  pub record IsUnion (members : List Member) (end part : ℕ) (x : UnionShape) : Type 0 where
    pub tag_role : role_of at.siblings x.tag ≡ Some role.Tag
    pub arms : (k : ℕ) (m : Member) (z : ℤ) → slice_get members k ≡ Some m → m.arm ≡ Some (part, z) → HasRoom x.offset x.size m
    pub filled : IsFilledBy members part x.size
    pub ends : x.offset + x.size ≤ end
    pub distinct : AreDistinct members part

  abbrev pub AreUnions : List Member → ℕ → List UnionShape → Type 0
  AreUnions members end unions = (u : ℕ) (x : UnionShape) → slice_get unions u ≡ Some x → IsUnion members end u x

  -- the members so far, their names and roles, and their declarations
  pub record AreMade (s : Siblings) (done : List Piece) (members : List Member) : Type 0 where
    pub names : s.names ≡ map name_of done
    pub roles : s.roles ≡ map (role_for at.types tags) done
    pub many : length done ≡ length members
    pub made : (k : ℕ) (p : Piece) (m : Member) → slice_get done k ≡ Some p → slice_get members k ≡ Some m → IsMade k p m

  pub record SoFar (s : Siblings) (done : List Piece) (laying : Laying) : Type 0 where
    pub are : AreMade s done laying.members
    pub within : (k : ℕ) (m : Member) (u : ℕ) (z : ℤ) → slice_get laying.members k ≡ Some m → m.arm ≡ Some (u, z) → u < length laying.unions
    pub unions : AreUnions laying.members laying.end laying.unions
    pub own : (u v : ℕ) (x y : UnionShape) → slice_get laying.unions u ≡ Some x → slice_get laying.unions v ≡ Some y → x.tag ≡ y.tag → x ≡ y

  -- ---- one more member
  abbrev SiblingPushed : Siblings → Piece → Type 0
  SiblingPushed s p = with_sibling s (name_of p) (role_for at.types tags p)
      ≡ record { names = s.names ++ name_of p ∷ []; roles = s.roles ++ role_for at.types tags p ∷ [] }

  sibling_pushed : (s : Siblings) (done : List Piece) (p : Piece) → s.names ≡ map name_of done → Extends at.siblings s
      → member_number at.siblings.names (name_of p).part (name_of p).name ≡ Some (length done) → SiblingPushed s p
  sibling_pushed s done p names e found =
      let size : length s.names ≡ length done = ap length names ∙ map_length name_of done in
      let here : position (is_member (name_of p).part (name_of p).name) (s.names ++ e.0) ≡ Some (length s.names) =
      ap (position (is_member (name_of p).part (name_of p).name)) (sym e.1) ∙ (found ∙ ap (λ (n : ℕ). Some n) (sym size)) in
      let below = (position-Some (is_member (name_of p).part (name_of p).name) at.siblings.names (length done) (name_of p) found).0 in
      joined s (name_of p) (role_for at.types tags p)
      (is_new s.names (name_of p) (not_before (is_member (name_of p).part (name_of p).name) s.names e.0 here)
      (omega (arith, size, below, few)))

  made_pushed : (s : Siblings) (done : List Piece) (members : List Member) (p : Piece) (m : Member) → AreMade s done members
      → Extends at.siblings s
      → member_number at.siblings.names (name_of p).part (name_of p).name ≡ Some (length members) → IsMade (length members) p m
      → AreMade (with_sibling s (name_of p) (role_for at.types tags p)) (done ++ p ∷ []) (members ++ m ∷ [])
  made_pushed s done members p m are e found is =
      let many = are.many in
      let more = length-append done (p ∷ []) in
      let most = length-append members (m ∷ []) in
      let pushed = sibling_pushed s done p are.names e (found ∙ ap (λ (n : ℕ). Some n) (sym many)) in
      subst (λ (t : Siblings). AreMade t (done ++ p ∷ []) (members ++ m ∷ [])) (sym pushed) (record {
        names = ap (λ l. l ++ name_of p ∷ []) are.names ∙ sym (map_push name_of done p);
        roles = ap (λ l. l ++ role_for at.types tags p ∷ []) are.roles ∙ sym (map_push (role_for at.types tags) done p);
        many = omega (arith, many, more, most);
        made = λ k q n d g. by k q n (pushed_at done p k q d) (pushed_at members m k n g);
      })
    where
      by : (k : ℕ) (q : Piece) (n : Member) → (slice_get done k ≡ Some q) ⊎ ((k ≡ length done) × (p ≡ q))
          → (slice_get members k ≡ Some n) ⊎ ((k ≡ length members) × (m ≡ n))
          → IsMade k q n
      by k q n (inl d) (inl g) = are.made k q n d g
      by k q n (inl d) (inr g) = let l = within_list done k q d in let at = g.0 in let many = are.many in absurd
          (omega (arith, l, at, many))
      by k q n (inr d) (inl g) = let l = within_list members k n g in let at = d.0 in let many = are.many in absurd
          (omega (arith, l, at, many))
      by k q n (inr d) (inr g) =
          subst (λ (i : ℕ). IsMade i q n) (sym g.0) (subst (λ (x : Piece). IsMade (length members) x n) d.1 (subst
          (λ (x : Member). IsMade (length members) p x) g.1 is))

  -- what other unions say of their arms stays
  union_kept : (members : List Member) (m : Member) (end next part : ℕ) (x : UnionShape) → end ≤ next
      → ((z : ℤ) → m.arm ≡ Some (part, z) → ⊥)
      → IsUnion members end part x → IsUnion (members ++ m ∷ []) next part x
  union_kept members m end next part x l other is =
      let ends = is.ends in
      let fill = is.filled in
      record {
        tag_role = is.tag_role;
        arms = λ k n z g a. arms k n z (pushed_at members m k n g) a;
        filled = record {
          number = fill.number;
          member = fill.member;
          found = before_end members m fill.number fill.member fill.found;
          constant = fill.constant;
          arm_is = fill.arm_is;
          bytes = fill.bytes;
        };
        ends = omega (arith, l, ends);
        distinct = λ j k a b g h n y z p q. distinct j k a b (pushed_at members m j a g) (pushed_at members m k b h) n y z p q;
      }
    where
      arms : (k : ℕ) (n : Member) (z : ℤ) → (slice_get members k ≡ Some n) ⊎ ((k ≡ length members) × (m ≡ n)) → n.arm ≡ Some (part, z)
          → HasRoom x.offset x.size n
      arms k n z (inl g) a = is.arms k n z g a
      arms k n z (inr g) a = absurd (other z (ap (λ (y : Member). y.arm) g.1 ∙ a))

      distinct : (j k : ℕ) (a b : Member) → (slice_get members j ≡ Some a) ⊎ ((j ≡ length members) × (m ≡ a))
          → (slice_get members k ≡ Some b) ⊎ ((k ≡ length members) × (m ≡ b))
          → j ≢ k → (y z : ℤ) → a.arm ≡ Some (part, y) → b.arm ≡ Some (part, z) → y ≢ z
      distinct j k a b (inl g) (inl h) n y z p q = is.distinct j k a b g h n y z p q
      distinct j k a b (inr g) h n y z p q = absurd (other y (ap (λ (y : Member). y.arm) g.1 ∙ p))
      distinct j k a b (inl g) (inr h) n y z p q = absurd (other z (ap (λ (y : Member). y.arm) h.1 ∙ q))

  -- ---- a field that is no union
  shape_there : (k : ℕ) (d : Declaration) (x : Shape) → field_shape at k d ≡ Some x
      → (typed_shape at.types at.extents unannotated.Safe (siblings_of at.siblings d.size) k d.type_name ≡ Some x) ×
      (is_complete at.number x ≡ true)
  unfolding field_shape
  shape_there k d x h =
      let t = some_then (typed_shape at.types at.extents unannotated.Safe (siblings_of at.siblings d.size) k d.type_name)
      (if_complete at.number) x h in
      let c = if_both (is_complete at.number t.0) (Some t.0) x t.2 in
      let same : t.0 ≡ x = some_same t.0 x c.1 in
      (t.1 ∙ ap (λ (y : Shape). Some y) same, subst (λ (y : Shape). is_complete at.number y ≡ true) same c.0)

  plain_made : (s : Siblings) (done : List Piece) (laying : Laying) (line : ℕ) (d : Declaration) (out : Laying) → SoFar s done laying
      → Extends at.siblings s
      → with_plain at laying line d ≡ Ok out
      → SoFar (with_field_sibling at.types tags s d) (done ++ plain d ∷ []) out × (out.unions ≡ laying.unions)
  unfolding with_plain placed field_declared is_new_field
  plain_made s done laying line d out far e h =
      let extent : Extent = type_extent at.types at.extents d.type_name in
      let m : ℕ = length laying.members in
      let a = ok_then (or_no_decl line (field_declared at laying d)) (λ x. placed laying line x.0 x.1 extent) out h in
      let declared = ok_declared line (field_declared at laying d) a.0 a.1 in
      let c = if_both (is_new_field at laying d.name) (counted (field_shape at m d) (element_count d.size)) a.0 declared in
      let first = first_number at.siblings m None d.name
      (and_parts (is_first at.siblings m None d.name) (not (list_any (bytes_eq d.name) laying.names)) c.0).0 in
      let x = some_then (field_shape at m d) (λ y. option_map (λ (n : ℕ). (y, n)) (element_count d.size)) a.0 c.1 in
      let n = some_map (element_count d.size) (λ (n : ℕ). (x.0, n)) a.0 x.2 in
      let shape_is : x.0 ≡ a.0.0 = ap (λ (p : Shape × ℕ). p.0) n.2 in
      let count_is : n.0 ≡ a.0.1 = ap (λ (p : Shape × ℕ). p.1) n.2 in
      let typed = shape_there m d a.0.0 (x.1 ∙ ap (λ (y : Shape). Some y) shape_is) in
      let offset : ℕ = round_up_to extent.align laying.end in
      let p = ok_then (within_limits line laying.fields (offset + a.0.1 * extent.bytes)) _ out a.2 in
      let ends : offset + a.0.1 * extent.bytes ≡ p.0 = within_is line laying.fields (offset + a.0.1 * extent.bytes) p.0 p.1 in
      let new : Member = record { offset = offset; count = a.0.1; shape = a.0.0; arm = None } in
      let above : laying.end ≤ p.0 = farther extent.align laying.end p.0 (a.0.1 * extent.bytes)
      (type_is_extent at.types at.extents d.type_name extents).least ends in
      let next : Laying = record {
        members = laying.members ++ new ∷ [];
        unions = laying.unions;
        names = laying.names;
        end = p.0;
        align = max laying.align extent.align;
        fields = laying.fields + 1;
      } in
      let all : SoFar (with_field_sibling at.types tags s d) (done ++ plain d ∷ []) next = record {
        are = made_pushed s done laying.members (plain d) new far.are e first
            (record { number = first; typed = typed.0; complete = typed.1; count = n.1 ∙ ap (λ (i : ℕ). Some i) count_is; no_arm = refl });
        within = λ k y u z g b. within new refl k y u z (pushed_at laying.members new k y g) b;
        unions = λ u y g. union_kept laying.members new laying.end p.0 u y above (λ z q. absurd cc) (far.unions u y g);
        own = far.own;
      } in
      let same : next ≡ out = cc in (
        subst (λ (o : Laying). SoFar (with_field_sibling at.types tags s d) (done ++ plain d ∷ []) o) same all,
        ap
            (λ (o : Laying). o.unions) (sym same),
      )
    where
      within : (new : Member) → new.arm ≡ None → (k : ℕ) (y : Member) (u : ℕ) (z : ℤ)
          → (slice_get laying.members k ≡ Some y) ⊎ ((k ≡ length laying.members) × (new ≡ y))
          → y.arm ≡ Some (u, z) → u < length laying.unions
      within new none k y u z (inl g) b = far.within k y u z g b
      within new none k y u z (inr g) b = absurd (nothing (sym none ∙ (ap (λ (y : Member). y.arm) g.1 ∙ b)))
        where
          nothing : ◌≡◌ {A = Option (ℕ × ℤ)} None (Some (u, z)) → ⊥
          nothing e = absurd cc

  -- ---- the arms of a union
  module _ (unions : List UnionShape) (offset size end : ℕ) where
    abbrev part : ℕ
    part = length unions

    abbrev new_member : ℤ → Shape → Member
    new_member value x = record { offset = offset; count = 1; shape = x; arm = Some (part, value) }

    abbrev TagFits : Option ℕ → Type 0
    TagFits None = Unit {0}
    TagFits (Some k) = (role_of at.siblings k ≡ Some role.Tag) × (list_any (λ (u : UnionShape). u.tag == k) unions ≡ false)

    record ArmsSoFar (s : Siblings) (done : List Piece) (arms : Arms) : Type 0 where
      are : AreMade s done arms.members
      within : (k : ℕ) (m : Member) (u : ℕ) (z : ℤ) → slice_get arms.members k ≡ Some m → m.arm ≡ Some (u, z) → u < part + 1
      mine : (k : ℕ) (m : Member) (z : ℤ) → slice_get arms.members k ≡ Some m → m.arm ≡ Some (part, z)
          → HasRoom offset size m × (list_any (int_eq z) arms.values ≡ true)
      distinct : AreDistinct arms.members part
      others : AreUnions arms.members end unions
      tag : TagFits arms.tag

    tag_found : (start : ℕ) (name : List ℕ) (k : ℕ) → tag_number at start name ≡ Some k → role_of at.siblings k ≡ Some role.Tag
    unfolding tag_number
    tag_found start name k h =
        let i = some_then (sibling_number at.siblings name) (λ k. and_then (role_of at.siblings k) (λ r. tag_at start k r)) k h in
        let r = some_then (role_of at.siblings i.0) (λ r. tag_at start i.0 r) k i.2 in
        by i.0 r.0 r.1 r.2
      where
        by : (i : ℕ) (r : Role) → role_of at.siblings i ≡ Some r → tag_at start i r ≡ Some k → role_of at.siblings k ≡ Some role.Tag
        by i role.Integer e h = absurd cc
        by i (role.Pointer n) e h = absurd cc
        by i role.Other e h = absurd cc
        by i role.Tag e h =
            let b = if_both (nat_lt i start) (Some i) k h in
            let same : i ≡ k = some_same i k b.1 in subst (λ (j : ℕ). role_of at.siblings j ≡ Some role.Tag) same e

    own_found : (o : Option ℕ) (k : ℕ) → TagFits o → role_of at.siblings k ≡ Some role.Tag → is_own_tag unions o k ≡ true → TagFits (Some k)
    unfolding is_own_tag
    own_found None k t r h = (r, not_so (list_any (λ (u : UnionShape). u.tag == k) unions) h)
      where
        not_so : (b : Bool) → not b ≡ true → b ≡ false
        not_so true h = absurd cc
        not_so false h = refl
    own_found (Some first) k t r h =
        let same : first ≡ k = eqb-true first k h in subst (λ (j : ℕ). TagFits (Some j)) same t

    arm_made : (start : ℕ) (s : Siblings) (done : List Piece) (arms out : Arms) (a : Arm) → ArmsSoFar s done arms → Extends at.siblings s
        → (arm_extent at.types a.type_name).bytes ≤ size → with_arm at unions part start offset arms a ≡ Some out
        → ArmsSoFar (with_sibling s (record { part = Some part; name = a.name }) role.Other) (done ++ arm part a ∷ []) out
        × ((k : ℕ) × (out.tag ≡ Some k))
    unfolding with_arm arm_tag
    arm_made start s done arms out a far e room h =
        let value : ℤ = const_value a.value in
        let rest = and_then (arm_tag at unions start arms a.tag value) (with_tagged_arm at part offset arms a) in
        let c = if_both (is_first at.siblings (length arms.members) (Some part) a.name) rest out h in
        let first = first_number at.siblings (length arms.members) (Some part) a.name c.0 in
        let k = some_then (arm_tag at unions start arms a.tag value) (with_tagged_arm at part offset arms a) out c.1 in
        let x = some_map (arm_shape at a) (with_arm_of part offset arms value k.0) out k.2 in
        let j = some_then (tag_number at start a.tag)
        (λ k. if is_own_tag unions arms.tag k && (tag_holds arms.members k value && not (list_any (int_eq value) arms.values)) then Some k
        else None) k.0 k.1 in
        let b = if_both (is_own_tag unions arms.tag j.0 && (tag_holds arms.members j.0 value && not (list_any (int_eq value) arms.values)))
        (Some j.0) k.0 j.2 in
        let same : j.0 ≡ k.0 = some_same j.0 k.0 b.1 in
        let parts = and_parts (is_own_tag unions arms.tag j.0)
        (tag_holds arms.members j.0 value && not (list_any (int_eq value) arms.values)) b.0 in
        let new = no_value (list_any (int_eq value) arms.values)
        (and_parts (tag_holds arms.members j.0 value) (not (list_any (int_eq value) arms.values)) parts.1).1 in
        let own = own_found arms.tag j.0 far.tag (tag_found start a.tag j.0 j.1) parts.0 in
        let member : Member = record { offset = offset; count = 1; shape = x.0; arm = Some (part, value) } in
        let extent = arm_has_extent at a x.0 x.1 in
        let next : Arms = with_arm_of part offset arms value k.0 x.0 in
        let all : ArmsSoFar (with_sibling s (record {
          part = Some part;
          name = a.name;
        }) role.Other) (done ++ arm part a ∷ []) next = record {
          are = made_pushed s done arms.members (arm part a) member far.are e first (record {
            number = first;
            shape_is = x.1;
            one = refl;
            arm_is = refl;
          });
          within = λ i m u z g q. within value x.0 i m u z (pushed_at arms.members member i m g) q;
          mine = λ i m z g q. mine value x.0 (subst
              (λ (y : Extent). y.bytes ≤ size) extent room) i m z (pushed_at arms.members member i m g) q;
          distinct = λ i l m n g d ne y z p q. distinct value x.0 new i l m n (pushed_at arms.members member i m g)
              (pushed_at arms.members member l n d) ne y z p q;
          others = λ u y g. union_kept arms.members member end end u y (omega arith) (λ z q. other u y g (ap
              (λ (w : ℕ × ℤ). w.0) (some_same (part, value) (u, z) q))) (far.others u y g);
          tag = subst (λ (i : ℕ). TagFits (Some i)) same own;
        } in (
          subst (λ (o : Arms). ArmsSoFar (with_sibling s (record {
            part = Some part;
            name = a.name;
          }) role.Other) (done ++ arm part a ∷ []) o) x.2 all,
          (k.0, ap (λ (o : Arms). o.tag) (sym x.2)),
        )
      where
        no_value : (b : Bool) → not b ≡ true → b ≡ false
        no_value true h = absurd cc
        no_value false h = refl

        other : (u : ℕ) (y : UnionShape) → slice_get unions u ≡ Some y → part ≡ u → ⊥
        other u y g e = let l = within_list unions u y g in absurd (omega (arith, l, e))

        arm_same : (value : ℤ) (x : Shape) (m : Member) (u : ℕ) (z : ℤ) → new_member value x ≡ m → m.arm ≡ Some (u, z)
            → (part ≡ u) × (value ≡ z)
        arm_same value x m u z e q =
            let s = some_same (part, value) (u, z) (ap (λ (y : Member). y.arm) e ∙ q) in (
              ap (λ (w : ℕ × ℤ). w.0) s,
              ap
                  (λ (w : ℕ × ℤ). w.1) s,
            )

        within : (value : ℤ) (x : Shape) (i : ℕ) (m : Member) (u : ℕ) (z : ℤ)
            → (slice_get arms.members i ≡ Some m) ⊎ ((i ≡ length arms.members) × (new_member value x ≡ m))
            → m.arm ≡ Some (u, z) → u < part + 1
        within value x i m u z (inl g) q = far.within i m u z g q
        within value x i m u z (inr g) q = let same = (arm_same value x m u z g.1 q).0 in omega (arith, same)

        -- a value among more values
        among : (value z : ℤ) (b : Bool) → list_any (int_eq z) arms.values ≡ true → list_any (int_eq z) (arms.values ++ value ∷ []) ≡ true
        among value z b h = list_any-append (int_eq z) arms.values (value ∷ []) ∙ or_left (list_any (int_eq z) arms.values)
            (list_any (int_eq z) (value ∷ [])) h

        among_last : (value : ℤ) → list_any (int_eq value) (arms.values ++ value ∷ []) ≡ true
        among_last value =
            list_any-append (int_eq value) arms.values (value ∷ [])
            ∙ or_right (list_any (int_eq value) arms.values) (list_any (int_eq value) (value ∷ []))
            (or_left (int_eq value value) false ((Decides-int_eq value value).1 refl))

        mine : (value : ℤ) (x : Shape) → (shape_extent at.extents x).bytes ≤ size → (i : ℕ) (m : Member) (z : ℤ)
            → (slice_get arms.members i ≡ Some m) ⊎ ((i ≡ length arms.members) × (new_member value x ≡ m)) → m.arm ≡ Some (part, z)
            → HasRoom offset size m × (list_any (int_eq z) (arms.values ++ value ∷ []) ≡ true)
        mine value x room i m z (inl g) q = let f = far.mine i m z g q in (f.0, among value z true f.1)
        mine value x room i m z (inr g) q =
            let same = (arm_same value x m part z g.1 q).1 in (
              subst (λ (y : Member). HasRoom offset size y) g.1 (refl, room),
              subst (λ (y : ℤ). list_any (int_eq y) (arms.values ++ value ∷ []) ≡ true) same (among_last value),
            )

        fresh : (value y : ℤ) → list_any (int_eq value) arms.values ≡ false → list_any (int_eq y) arms.values ≡ true → y ≢ value
        fresh value y new old e = true≢false (sym old ∙ (ap (λ (w : ℤ). list_any (int_eq w) arms.values) e ∙ new))

        distinct : (value : ℤ) (x : Shape) → list_any (int_eq value) arms.values ≡ false → (i l : ℕ) (m n : Member)
            → (slice_get arms.members i ≡ Some m) ⊎ ((i ≡ length arms.members) × (new_member value x ≡ m))
            → (slice_get arms.members l ≡ Some n) ⊎ ((l ≡ length arms.members) × (new_member value x ≡ n)) → i ≢ l → (y z : ℤ)
            → m.arm ≡ Some (part, y) → n.arm ≡ Some (part, z) → y ≢ z
        distinct value x new i l m n (inl g) (inl d) ne y z p q s = far.distinct i l m n g d ne y z p q s
        distinct value x new i l m n (inl g) (inr d) ne y z p q s =
            fresh value y new (far.mine i m y g p).1 (s ∙ sym (arm_same value x n part z d.1 q).1)
        distinct value x new i l m n (inr g) (inl d) ne y z p q s =
            fresh value z new (far.mine l n z d q).1 (sym s ∙ sym (arm_same value x m part y g.1 p).1)
        distinct value x new i l m n (inr g) (inr d) ne y z p q s = ne (g.0 ∙ sym d.0)

    abbrev Tagged : Option ℕ → Type 0
    Tagged o = (k : ℕ) × (o ≡ Some k)

    arms_made : (start : ℕ) (s : Siblings) (done : List Piece) (arms out : Arms) (more : List Arm) → ArmsSoFar s done arms
        → Extends at.siblings (with_arm_siblings part s more)
        → HaveRoom at.types size more → with_arms_in_turn at unions part start offset arms more ≡ Ok out
        → ArmsSoFar (with_arm_siblings part s more) (done ++ arm_pieces part more) out × ((0 < length more) ⊎ Tagged arms.tag
        → Tagged out.tag)
    arms_made start s done arms out [] far e room h =
        let same : arms ≡ out = cc in (
          subst (λ (o : Arms). ArmsSoFar s (done ++ []) o) same (subst
              (λ (l : List Piece). ArmsSoFar s l arms) (sym (append-nil done)) far),
          tagged same,
        )
      where
        tagged : arms ≡ out → (0 < 0) ⊎ Tagged arms.tag → Tagged out.tag
        tagged same (inl l) = absurd (omega (arith, l))
        tagged same (inr t) = (t.0, ap (λ (o : Arms). o.tag) (sym same) ∙ t.1)
    arms_made start s done arms out (a ∷ more) far e room h =
        let s' = with_sibling s (record { part = Some part; name = a.name }) role.Other in
        let n = ok_then (with_next_arm at unions part start offset arms a)
        (λ next. with_arms_in_turn at unions part start offset next more) out h in
        let w = ok_declared a.line (with_arm at unions part start offset arms a) n.0 n.1 in
        let back = extends_more at.siblings (with_arm_siblings part s' more) s e
        (extends_more (with_arm_siblings part s' more) s' s (extends_arms part s' more) (extends_one s (record {
          part = Some part;
          name = a.name;
        }) role.Other)) in
        let one = arm_made start s done arms n.0 a far back room.0 w in
        let rest = arms_made start s' (done ++ arm part a ∷ []) n.0 out more one.0 e room.1 n.2 in (
          subst (λ (l : List Piece). ArmsSoFar (with_arm_siblings part s' more) l out)
              (append_assoc done (arm part a ∷ []) (arm_pieces part more)) rest.0,
          λ t. rest.1 (inr one.1),
        )

  -- ---- a union
  piece_at : (part : ℕ) (arms : List Arm) (i : ℕ) (a : Arm) → slice_get arms i ≡ Some a
      → slice_get (arm_pieces part arms) i ≡ Some (arm part a)
  piece_at part [] i a g = absurd cc
  piece_at part (b ∷ arms) zero a g = ap (λ (x : Arm). Some (arm part x)) (some_same b a g)
  piece_at part (b ∷ arms) (suc i) a g = piece_at part arms i a g

  -- the member that is an arm
  arm_member : (unions : List UnionShape) (offset size end : ℕ) (s : Siblings) (done : List Piece) (out : Arms) (arms : List Arm)
      → ArmsSoFar unions offset size end s (done ++ arm_pieces (length unions) arms) out
      → (i : ℕ) (a : Arm) → slice_get arms i ≡ Some a
      → (m : Member) × (slice_get out.members (length done + i) ≡ Some m) × IsArm (length done + i) (length unions) a m
  arm_member unions offset size end s done out arms far i a g =
      let piece : slice_get (done ++ arm_pieces (length unions) arms) (length done + i) ≡ Some (arm (length unions) a) =
      slice_behind done (arm_pieces (length unions) arms) i (length done) (arm (length unions) a) refl
      (piece_at (length unions) arms i a g) in
      let below = within_list (done ++ arm_pieces (length unions) arms) (length done + i) (arm (length unions) a) piece in
      let m = member_there out.members (length done + i) (subst (λ n. length done + i < n) far.are.many below) in
      (m.0, m.1, far.are.made (length done + i) (arm (length unions) a) m.0 piece m.1)

  -- an arm that has all bytes of its union
  filling : (unions : List UnionShape) (offset size end : ℕ) (s : Siblings) (done : List Piece) (out : Arms) (arms : List Arm)
      → ArmsSoFar unions offset size end s (done ++ arm_pieces (length unions) arms) out
      → (i : ℕ) (a : Arm) → slice_get arms i ≡ Some a → (arm_extent at.types a.type_name).bytes ≡ size
      → IsFilledBy out.members (length unions) size
  filling unions offset size end s done out arms far i a g e =
      let m = arm_member unions offset size end s done out arms far i a g in
      record {
        number = length done + i;
        member = m.0;
        found = m.1;
        constant = const_value a.value;
        arm_is = m.2.arm_is;
        bytes = ap (λ (y : Extent). y.bytes) (sym (arm_has_extent at a m.0.shape m.2.shape_is)) ∙ e;
      }

  -- an arm has at least one byte
  some_bytes : (a : Arm) (x : Shape) → arm_shape at a ≡ Some x → 1 ≤ (arm_extent at.types a.type_name).bytes
  some_bytes a x h =
      let i = arm_typed at a x h in
      subst (λ (e : Extent). 1 ≤ e.bytes) (sym (arm_has_extent at a x h))
      (by x i.1 (typed_is at.types at.extents unannotated.Safe no_siblings 0 a.type_name x i.0))
    where
      by : (x : Shape) → if_number x ≡ Some x → IsShapeOf at.types.elements unannotated.Safe no_siblings 0 x
          → 1 ≤ (shape_extent at.extents x).bytes
      by (shape.Int s) h is = whole_bytes s is
      by (shape.Pointer elem b) h is = omega arith
      by (shape.Struct n) h is = absurd cc
      by shape.Address h is = absurd is

  filled_by : (unions : List UnionShape) (offset end : ℕ) (s : Siblings) (done : List Piece) (out : Arms) (arms : List Arm)
      → 0 < length arms
      → ArmsSoFar unions offset (union_extent at.types arms).bytes end s (done ++ arm_pieces (length unions) arms) out
      → IsFilledBy out.members (length unions) (union_extent at.types arms).bytes
  filled_by unions offset end s done out arms some far = by (either_fills at.types (natural 1) arms)
    where
      size : ℕ
      size = (union_extent at.types arms).bytes

      first : (a : Arm) → slice_get arms 0 ≡ Some a → HaveRoom at.types size arms → 1 ≡ size
          → (arm_extent at.types a.type_name).bytes ≡ size
      first a g room e =
          let m = arm_member unions offset size end s done out arms far 0 a g in
          let least = some_bytes a m.0.shape m.2.shape_is in
          let most = first_room at.types size arms a room g in
          omega (arith, least, most, e)

      by : ((natural 1).bytes ≡ size) ⊎
          ((i : ℕ) × (a : Arm) × (slice_get arms i ≡ Some a) × ((arm_extent at.types a.type_name).bytes ≡ size))
          → IsFilledBy out.members (length unions) size
      by (inr f) = filling unions offset size end s done out arms far f.0 f.1 f.2 f.3
      by (inl e) =
          let a = arm_there arms 0 some in
          filling unions offset size end s done out arms far 0 a.0 a.1 (first a.0 a.1 (have_room at.types (natural 1) arms) e)

  union_more : (members : List Member) (end next part : ℕ) (x : UnionShape) → end ≤ next → IsUnion members end part x
      → IsUnion members next part x
  union_more members end next part x l is = let ends = is.ends in record {
    tag_role = is.tag_role;
    arms = is.arms;
    filled = is.filled;
    ends = omega (arith, l, ends);
    distinct = is.distinct;
  }

  union_made : (s : Siblings) (done : List Piece) (laying : Laying) (line : ℕ) (arms : List Arm) (name : List ℕ) (out : Laying)
      → SoFar s done laying
      → Extends at.siblings (with_arm_siblings (length laying.unions) s arms) → 0 < length arms
      → with_union at laying line arms name ≡ Ok out
      → SoFar (with_arm_siblings (length laying.unions) s arms) (done ++ arm_pieces (length laying.unions) arms) out ×
      (length out.unions ≡ length laying.unions + 1)
  unfolding with_union with_union_at with_union_arms with_union_of
  union_made s done laying line arms name out far more some h =
      let extent : Extent = union_extent at.types arms in
      let offset : ℕ = round_up_to extent.align laying.end in
      let u = if_ok (is_new_union at laying name) (with_union_at at laying line arms name extent) (refusal.NoDecl line) out h in
      let a = ok_then (within_limits line laying.fields (offset + extent.bytes))
      (with_union_arms at laying arms name offset extent) out u in
      let ends : offset + extent.bytes ≡ a.0 = within_is line laying.fields (offset + extent.bytes) a.0 a.1 in
      let above : laying.end ≤ a.0 = farther extent.align laying.end a.0 extent.bytes (union_is_extent at.types arms).least ends in
      let none : Arms = record { members = laying.members; tag = None; values = [] } in
      let q = ok_then (with_arms_in_turn at laying.unions (length laying.unions) (length laying.members) offset none arms)
      (λ read. Ok (with_union_of laying name offset extent a.0 read)) out a.2 in
      let start : ArmsSoFar laying.unions offset extent.bytes a.0 s done none = record {
        are = far.are;
        within = λ k m u z g b. let l = far.within k m u z g b in omega (arith, l);
        mine = λ k m z g b. let l = far.within k m (length laying.unions) z g b in absurd (omega (arith, l));
        distinct = λ j k m n g d ne y z p b. let l = far.within j m (length laying.unions) y g p in absurd (omega (arith, l));
        others = λ u x g. union_more laying.members laying.end a.0 u x above (far.unions u x g);
        tag = tt;
      } in
      let made = arms_made laying.unions offset extent.bytes a.0 (length laying.members) s done none q.0 arms start more
      (have_room at.types (natural 1) arms) q.1 in
      let tag = made.1 (inl some) in
      let fits : (role_of at.siblings tag.0 ≡ Some role.Tag) × (list_any (λ (u : UnionShape). u.tag == tag.0) laying.unions ≡ false) =
      subst (λ (o : Option ℕ). TagFits laying.unions offset extent.bytes a.0 o) tag.1 made.0.tag in
      let union : UnionShape = record { offset = offset; size = extent.bytes; tag = unwrap_or q.0.tag 0 } in
      let tag_is : unwrap_or q.0.tag 0 ≡ tag.0 = ap (λ (o : Option ℕ). unwrap_or o 0) tag.1 in
      let grown : length (laying.unions ++ union ∷ []) ≡ length laying.unions + 1 = length-append laying.unions (union ∷ []) in
      let one : IsUnion q.0.members a.0 (length laying.unions) union = record {
        tag_role = ap (role_of at.siblings) tag_is ∙ fits.0;
        arms = λ k m z g b. (made.0.mine k m z g b).0;
        filled = filled_by laying.unions offset a.0 (with_arm_siblings (length laying.unions) s arms) done q.0 arms some made.0;
        ends = omega (arith, ends);
        distinct = made.0.distinct;
      } in
      let next : Laying = with_union_of laying name offset extent a.0 q.0 in
      let all : SoFar (with_arm_siblings (length laying.unions) s arms) (done ++ arm_pieces (length laying.unions) arms) next = record {
        are = made.0.are;
        within = λ k m u z g b. let l = made.0.within k m u z g b in omega (arith, l, grown);
        unions = λ u x g. union_at q.0.members a.0 union one made.0.others u x (pushed_at laying.unions union u x g);
        own = λ u v x y g d e. own tag.0 union tag_is fits.1 u v x y (pushed_at laying.unions union u x g)
            (pushed_at laying.unions union v y d) e;
      } in
      let same : next ≡ out = cc in (
        subst (λ (o : Laying). SoFar (with_arm_siblings (length laying.unions) s arms)
            (done ++ arm_pieces (length laying.unions) arms) o) same all,
        ap (λ (o : Laying). length o.unions) (sym same) ∙ grown,
      )
    where
      union_at : (members : List Member) (end : ℕ) (union : UnionShape) → IsUnion members end (length laying.unions) union
          → AreUnions members end laying.unions
          → (u : ℕ) (x : UnionShape) → (slice_get laying.unions u ≡ Some x) ⊎ ((u ≡ length laying.unions) × (union ≡ x))
          → IsUnion members end u x
      union_at members end union one others u x (inl g) = others u x g
      union_at members end union one others u x (inr g) =
          subst (λ (i : ℕ). IsUnion members end i x) (sym g.0) (subst
          (λ (y : UnionShape). IsUnion members end (length laying.unions) y) g.1 one)

      apart : (k : ℕ) (u : ℕ) (x : UnionShape) → list_any (λ (u : UnionShape). u.tag == k) laying.unions ≡ false
          → slice_get laying.unions u ≡ Some x → x.tag ≢ k
      apart k u x none g e = true≢false (sym (eq-eqb x.tag k e) ∙ none_at (λ (u : UnionShape). u.tag == k) laying.unions u x none g)

      own : (k : ℕ) (union : UnionShape) → union.tag ≡ k → list_any (λ (u : UnionShape). u.tag == k) laying.unions ≡ false
          → (u v : ℕ) (x y : UnionShape) → (slice_get laying.unions u ≡ Some x) ⊎ ((u ≡ length laying.unions) × (union ≡ x))
          → (slice_get laying.unions v ≡ Some y) ⊎ ((v ≡ length laying.unions) × (union ≡ y)) → x.tag ≡ y.tag → x ≡ y
      own k union is none u v x y (inl g) (inl d) e = far.own u v x y g d e
      own k union is none u v x y (inl g) (inr d) e = absurd (apart k u x none g (e ∙ (ap (λ (z : UnionShape). z.tag) (sym d.1) ∙ is)))
      own k union is none u v x y (inr g) (inl d) e = absurd (apart k v y none d (sym e ∙ (ap (λ (z : UnionShape). z.tag) (sym g.1) ∙ is)))
      own k union is none u v x y (inr g) (inr d) e = sym g.1 ∙ d.1

  -- ---- all fields
  pub no_members : SoFar no_siblings [] empty_struct
  no_members = record {
    are = record { names = refl; roles = refl; many = refl; made = λ k p m g d. absurd cc };
    within = λ k m u z g b. absurd cc;
    unions = λ u x g. absurd cc;
    own = λ u v x y g d e. absurd cc;
  }

  pub fields_made : (s : Siblings) (done : List Piece) (laying : Laying) (fields : List Field) (out : Laying) → SoFar s done laying
      → at.siblings ≡ field_siblings at.types tags (length laying.unions) s fields → HaveArms fields
      → length laying.unions + length fields ≤ 1000000
      → with_fields_in_turn at laying fields ≡ Ok out → SoFar at.siblings (done ++ pieces (length laying.unions) fields) out
  fields_made s done laying [] out far e some l h =
      let same : laying ≡ out = cc in
      subst (λ (o : Laying). SoFar at.siblings (done ++ []) o) same (subst
      (λ (ps : List Piece). SoFar at.siblings ps laying) (sym (append-nil done)) (subst
      (λ (z : Siblings). SoFar z done laying) (sym e) far))
  fields_made s done laying (field.Plain line d ∷ fields) out far e some l h =
      let n = ok_then (with_plain at laying line d) (λ next. with_fields_in_turn at next fields) out h in
      let s' = with_field_sibling at.types tags s d in
      let rest : Extends at.siblings s' = subst
      (λ z. Extends z s') (sym e) (extends_fields at.types tags (length laying.unions) s' fields) in
      let back = extends_more at.siblings s' s rest (extends_one s (record {
        part = None;
        name = d.name;
      }) (declared_role at.types (is_some d.size) (list_any (bytes_eq d.name) tags) d.type_name)) in
      let one = plain_made s done laying line d n.0 far back n.1 in
      let count : length n.0.unions ≡ length laying.unions = ap length one.1 in
      let all = fields_made s' (done ++ plain d ∷ []) n.0 fields out one.0 (e ∙ ap
      (λ p. field_siblings at.types tags p s' fields) (sym count)) some.1 (omega (arith, count, l)) n.2 in
      subst (λ (ps : List Piece). SoFar at.siblings ps out) (append_assoc done (plain d ∷ []) (pieces (length laying.unions) fields))
      (subst (λ (i : ℕ). SoFar at.siblings ((done ++ plain d ∷ []) ++ pieces i fields) out) count all)
  fields_made s done laying (field.Union line arms name ∷ fields) out far e some l h =
      let n = ok_then (with_union at laying line arms name) (λ next. with_fields_in_turn at next fields) out h in
      let s' = with_arm_siblings (length laying.unions) s arms in
      let rest : Extends at.siblings s' = subst
      (λ z. Extends z s') (sym e) (extends_fields at.types tags (next_part (length laying.unions)) s' fields) in
      let one = union_made s done laying line arms name n.0 far rest some.0 n.1 in
      let count = one.1 in
      let part : next_part (length laying.unions) ≡ length laying.unions + 1 = omega (arith, l) in
      let all = fields_made s' (done ++ arm_pieces (length laying.unions) arms) n.0 fields out one.0
      (e ∙ ap (λ p. field_siblings at.types tags p s' fields) (part ∙ sym count)) some.1 (omega (arith, count, l)) n.2 in
      subst (λ (ps : List Piece). SoFar at.siblings ps out)
      (append_assoc done (arm_pieces (length laying.unions) arms) (pieces (length laying.unions + 1) fields))
      (subst (λ (i : ℕ). SoFar at.siblings ((done ++ arm_pieces (length laying.unions) arms) ++ pieces i fields) out) count all)

pub siblings_few : (types : Types) (fields : List Field) → length (struct_siblings types fields).names < 2 ^ 32
unfolding struct_siblings
siblings_few types fields = few_fields types (tags_of [] fields) 0 no_siblings fields (omega arith)
