-- The declaration and the layout of a struct: its fields in order, each at the next multiple of its alignment, and the first that stands against the
-- rules or passes a limit (C99 6.7.2.1 with natural alignment, and the dependent fields and tagged unions of Deputy, ESOP 2007).
use Rattle.std.specs.Prelude.{◌≢◌, ◌≤◌, ℕ, ◌+◌, ◌*◌, nat_lt, nat_le, Bool, true, false, not, ◌&&◌, ◌||◌, ◌==◌, if◌then◌else◌, List, [], ◌∷◌, ◌++◌, length, ℤ, pos, neg_ℤ, max, min, ◌^◌, ◌-◌, Option, Some, None, is_some, option_map, unwrap_or, slice_get, bytes_eq, Result, Ok, Err}
use Rattle.std.specs.List.{list_any}
use Rattle.std.specs.Ordering.{int_eq}
use Rattle.c_tree.specs.declared.items.Arm.{Arm}
use Rattle.c_tree.specs.declared.items.Const.{Const}
use Rattle.c_tree.specs.declared.items.Const.TheVariants as const
use Rattle.c_tree.specs.declared.items.Declaration.{Declaration}
use Rattle.c_tree.specs.declared.items.Field.{Field}
use Rattle.c_tree.specs.declared.items.Field.TheVariants as field
use Rattle.c_tree.specs.declared.items.StructItem.{StructItem}
use Rattle.c_tree.specs.declared.limits.LimitKind.TheVariants as limit
use Rattle.c_tree.specs.declared.types.Number.{Number}
use Rattle.checked_tree.specs.declared.shapes.Member.{Member}
use Rattle.checked_tree.specs.declared.shapes.Shape.{Shape}
use Rattle.checked_tree.specs.declared.shapes.Shape.TheVariants as shape
use Rattle.checked_tree.specs.declared.shapes.UnionShape.{UnionShape}
use Rattle.checked_tree.specs.Numbers.{is_of}
use Rattle.deputy_types.specs.declared.extent.Extent.{Extent}
use Rattle.deputy_types.specs.declared.laying.Arms.{Arms}
use Rattle.deputy_types.specs.declared.laying.Laid.{Laid}
use Rattle.deputy_types.specs.declared.laying.Laying.{Laying}
use Rattle.deputy_types.specs.declared.laying.Scope.{Scope}
use Rattle.deputy_types.specs.declared.refusal.TypeRefusal.{TypeRefusal}
use Rattle.deputy_types.specs.declared.refusal.TypeRefusal.TheVariants as refusal
use Rattle.deputy_types.specs.declared.sibling.Role.{Role}
use Rattle.deputy_types.specs.declared.sibling.Role.TheVariants as role
use Rattle.deputy_types.specs.declared.sibling.Unannotated.TheVariants as unannotated
use Rattle.deputy_types.specs.Declarations.{typed_shape, declared_role}
use Rattle.deputy_types.specs.Extents.{natural, type_extent, arm_extent, greater, round_up_to}
use Rattle.deputy_types.specs.Found.{with_name}
use Rattle.deputy_types.specs.MemberTypes.{member_arrays, member_keys}
use Rattle.deputy_types.specs.Options.{and_then}
use Rattle.deputy_types.specs.declared.siblings.Siblings.{Siblings}
use Rattle.deputy_types.specs.Siblings.{no_siblings, with_sibling, member_number, sibling_number, role_of}
use Rattle.deputy_types.specs.declared.types.Types.{Types}
use Rattle.deputy_types.specs.Types.{struct_number}

-- what comes next, where nothing was refused
abbrev pub and_ok : {A B : Type 0} → Result A TypeRefusal → (A → Result B TypeRefusal) → Result B TypeRefusal
and_ok (Ok a) f = f a
and_ok (Err e) f = Err e

-- the declaration on this line stands against the rules where there is nothing
abbrev pub or_no_decl : {A : Type 0} → ℕ → Option A → Result A TypeRefusal
or_no_decl line None = Err (refusal.NoDecl line)
or_no_decl line (Some a) = Ok a

-- the names of the fields that the arms of a union, and of a struct's unions, have as their tags
abbrev pub tags_of_arms : List (List ℕ) → List Arm → List (List ℕ)
tags_of_arms tags [] = tags
tags_of_arms tags (a ∷ arms) = tags_of_arms (with_name tags a.tag) arms

abbrev pub tags_of : List (List ℕ) → List Field → List (List ℕ)
tags_of tags [] = tags
tags_of tags (field.Plain n d ∷ fields) = tags_of tags fields
tags_of tags (field.Union n arms name ∷ fields) = tags_of (tags_of_arms tags arms) fields

-- with a field among the siblings
abbrev pub with_field_sibling : Types → List (List ℕ) → Siblings → Declaration → Siblings
with_field_sibling types tags siblings d =
    with_sibling siblings (record { part = None; name = d.name }) (declared_role types (is_some d.size) (list_any (bytes_eq d.name) tags) d.type_name)

-- with the arms of the union with this number among the siblings
abbrev pub with_arm_siblings : ℕ → Siblings → List Arm → Siblings
with_arm_siblings part siblings [] = siblings
with_arm_siblings part siblings (a ∷ arms) = with_arm_siblings part (with_sibling siblings (record { part = Some part; name = a.name }) role.Other) arms

-- the number of the union behind the one with this number. Unions have numbers below 2^32; a text has far fewer
abbrev pub next_part : ℕ → ℕ
next_part part = min (part + 1) (2 ^ 32 - 1)

-- the siblings of a struct: its fields and arms, behind those of the fields before; the next union has the number `part`
abbrev pub field_siblings : Types → List (List ℕ) → ℕ → Siblings → List Field → Siblings
field_siblings types tags part siblings [] = siblings
field_siblings types tags part siblings (field.Plain n d ∷ fields) = field_siblings types tags part (with_field_sibling types tags siblings d) fields
field_siblings types tags part siblings (field.Union n arms name ∷ fields) = field_siblings types tags (next_part part) (with_arm_siblings part siblings arms) fields

unfoldable pub struct_siblings : Types → List Field → Siblings
struct_siblings types fields = field_siblings types (tags_of [] fields) 0 no_siblings fields

-- a struct so far: nothing
abbrev pub empty_struct : Laying
empty_struct = record { members = []; unions = []; names = []; end = 0; align = 1; fields = 0 }

-- what a struct's fields are read with: the types, the extents of the structs, the struct's own number and its siblings
pub record Surroundings : Type 0 where
  pub types : Types
  pub extents : List Extent
  pub number : ℕ
  pub siblings : Siblings

abbrev pub around : Scope → Surroundings
around at = record { types = at.types.now; extents = at.extents.now; number = at.number; siblings = at.siblings.now }

-- what holds of a struct so far: it is within the limits, and its alignment is 1, 2 or 4
pub record IsLaying (x : Laying) : Type 0 where
  pub end : x.end ≤ 65536
  pub least : 1 ≤ x.align
  pub greatest : x.align ≤ 4
  pub other : x.align ≢ 3
  pub unions : length x.unions ≤ x.fields
  pub fields : x.fields ≤ 64

-- a number that was found
abbrev pub is_number : ℕ → Option ℕ → Bool
is_number m None = false
is_number m (Some k) = k == m

-- the member that is declared next is the first with its name
unfoldable pub is_first : Siblings → ℕ → Option ℕ → List ℕ → Bool
is_first siblings m part name = is_number m (member_number siblings.names part name)

-- how many elements: 1 where it is no array, 1 to 65,536 where it is
unfoldable pub element_count : Option Number → Option ℕ
element_count None = Some 1
element_count (Some n) = if nat_le 1 n.value && nat_le n.value 65536 then Some n.value else None

-- a shape of which a struct, with this number, can have a field: a struct in it is declared before it
abbrev pub is_complete : ℕ → Shape → Bool
is_complete number (shape.Int scalar) = true
is_complete number (shape.Pointer elem bounds) = true
is_complete number (shape.Struct s) = nat_lt s number
is_complete number shape.Address = false

abbrev pub if_complete : ℕ → Shape → Option Shape
if_complete number x = if is_complete number x then Some x else None

-- a shape without siblings: that of an array's elements, of an arm, of a global
abbrev pub constant_shape : Types → List Extent → Declaration → Option Shape
constant_shape types extents d = typed_shape types extents unannotated.Safe no_siblings 0 d.type_name

-- the siblings that the annotation of a field may name: none where it is an array
abbrev pub siblings_of : Siblings → Option Number → Siblings
siblings_of siblings None = siblings
siblings_of siblings (Some n) = no_siblings

-- the shape of the field that is the member m
unfoldable pub field_shape : Surroundings → ℕ → Declaration → Option Shape
field_shape at m d = and_then (typed_shape at.types at.extents unannotated.Safe (siblings_of at.siblings d.size) m d.type_name) (if_complete at.number)

-- a field ends within the limits: the kinds in the order of the limits
unfoldable pub within_limits : ℕ → ℕ → ℕ → Result ℕ TypeRefusal
within_limits line fields end = if nat_le 64 fields then Err (refusal.Limit line limit.Fields) else
    if nat_lt 65536 end then Err (refusal.Limit line limit.Size) else Ok end

-- with a field of this shape, count and extent
unfoldable pub placed : Laying → ℕ → Shape → ℕ → Extent → Result Laying TypeRefusal
placed laying line x count extent = and_ok (within_limits line laying.fields (round_up_to extent.align laying.end + count * extent.bytes))
    (λ end. Ok (record {
      members = laying.members ++ (record { offset = round_up_to extent.align laying.end; count = count; shape = x; arm = None }) ∷ [];
      unions = laying.unions;
      names = laying.names;
      end = end;
      align = max laying.align extent.align;
      fields = laying.fields + 1;
    }))

-- a name that no member and no union of the struct so far has
unfoldable pub is_new_field : Surroundings → Laying → List ℕ → Bool
is_new_field at laying name = is_first at.siblings (length laying.members) None name && not (list_any (bytes_eq name) laying.names)

-- a shape and a count, where both are there
abbrev pub counted : Option Shape → Option ℕ → Option (Shape × ℕ)
counted x count = and_then x (λ a. option_map (λ n. (a, n)) count)

-- the shape and the count of a field, where it meets the rules
unfoldable pub field_declared : Surroundings → Laying → Declaration → Option (Shape × ℕ)
field_declared at laying d = if is_new_field at laying d.name then counted (field_shape at (length laying.members) d) (element_count d.size) else None

-- with a field that is no union
unfoldable pub with_plain : Surroundings → Laying → ℕ → Declaration → Result Laying TypeRefusal
with_plain at laying line d = and_ok (or_no_decl line (field_declared at laying d))
    (λ x. placed laying line x.0 x.1 (type_extent at.types at.extents d.type_name))

-- the extent of the greatest of these arms and of x
abbrev pub arms_extent : Types → Extent → List Arm → Extent
arms_extent types x [] = x
arms_extent types x (a ∷ arms) = arms_extent types (greater x (arm_extent types a.type_name)) arms

-- the extent of a union: that of the greatest of its arms, and at least one byte
abbrev pub union_extent : Types → List Arm → Extent
union_extent types arms = arms_extent types (natural 1) arms

-- a written constant
abbrev pub const_value : Const → ℤ
const_value (const.Number n) = pos n.value
const_value (const.Negative n) = neg_ℤ (pos n.value)
const_value (const.Character c) = pos c

-- a tag before the union
abbrev pub tag_at : ℕ → ℕ → Role → Option ℕ
tag_at start k role.Integer = None
tag_at start k role.Tag = if nat_lt k start then Some k else None
tag_at start k (role.Pointer n) = None
tag_at start k role.Other = None

-- the number of the field that an arm names as the tag: an integer, no array, before the union
unfoldable pub tag_number : Surroundings → ℕ → List ℕ → Option ℕ
tag_number at start name = and_then (sibling_number at.siblings name) (λ k. and_then (role_of at.siblings k) (λ r. tag_at start k r))

-- the tag is that of the first arm; that of the first arm is the tag of no earlier union
unfoldable pub is_own_tag : List UnionShape → Option ℕ → ℕ → Bool
is_own_tag unions None k = not (list_any (λ u. u.tag == k) unions)
is_own_tag unions (Some first) k = first == k

-- a value that the tag can have
abbrev pub shape_holds : ℤ → Shape → Bool
shape_holds value (shape.Int scalar) = is_of scalar value
shape_holds value (shape.Pointer elem bounds) = false
shape_holds value (shape.Struct s) = false
shape_holds value shape.Address = false

unfoldable pub tag_holds : List Member → ℕ → ℤ → Bool
tag_holds members k value = unwrap_or (option_map (λ m. shape_holds value m.shape) (slice_get members k)) false

-- the number of the tag of the next arm, where its `when` meets the rules. The union begins at the member `start`
unfoldable pub arm_tag : Surroundings → List UnionShape → ℕ → Arms → List ℕ → ℤ → Option ℕ
arm_tag at unions start arms name value = and_then (tag_number at start name)
    (λ k. if is_own_tag unions arms.tag k && (tag_holds arms.members k value && not (list_any (int_eq value) arms.values)) then Some k else None)

-- an integer or a pointer
abbrev pub if_number : Shape → Option Shape
if_number (shape.Int scalar) = Some (shape.Int scalar)
if_number (shape.Pointer elem bounds) = Some (shape.Pointer elem bounds)
if_number (shape.Struct s) = None
if_number shape.Address = None

-- the shape of an arm
unfoldable pub arm_shape : Surroundings → Arm → Option Shape
arm_shape at a = and_then (typed_shape at.types at.extents unannotated.Safe no_siblings 0 a.type_name) if_number

-- with an arm of the union with the number `part` at this offset, of this value, tag and shape
abbrev pub with_arm_of : ℕ → ℕ → Arms → ℤ → ℕ → Shape → Arms
with_arm_of part offset arms value k x = record {
  members = arms.members ++ (record { offset = offset; count = 1; shape = x; arm = Some (part, value) }) ∷ [];
  tag = Some k;
  values = arms.values ++ value ∷ [];
}

-- with an arm whose tag is the member k
abbrev pub with_tagged_arm : Surroundings → ℕ → ℕ → Arms → Arm → ℕ → Option Arms
with_tagged_arm at part offset arms a k = option_map (with_arm_of part offset arms (const_value a.value) k) (arm_shape at a)

-- with an arm of the union with the number `part`, which begins at the member `start` and lies at this offset
unfoldable pub with_arm : Surroundings → List UnionShape → ℕ → ℕ → ℕ → Arms → Arm → Option Arms
with_arm at unions part start offset arms a = if is_first at.siblings (length arms.members) (Some part) a.name
    then and_then (arm_tag at unions start arms a.tag (const_value a.value)) (with_tagged_arm at part offset arms a) else None

-- with an arm, or its line where it stands against the rules
abbrev pub with_next_arm : Surroundings → List UnionShape → ℕ → ℕ → ℕ → Arms → Arm → Result Arms TypeRefusal
with_next_arm at unions part start offset arms a = or_no_decl a.line (with_arm at unions part start offset arms a)

-- with arms, up to the first that stands against the rules
abbrev pub with_arms_in_turn : Surroundings → List UnionShape → ℕ → ℕ → ℕ → Arms → List Arm → Result Arms TypeRefusal
with_arms_in_turn at unions part start offset arms [] = Ok arms
with_arms_in_turn at unions part start offset arms (a ∷ more) = and_ok (with_next_arm at unions part start offset arms a)
    (λ next. with_arms_in_turn at unions part start offset next more)

-- a number that was found, of a member before the next one
abbrev pub is_before : ℕ → Option ℕ → Bool
is_before m None = false
is_before m (Some k) = nat_lt k m

-- a name that no member and no union before has
unfoldable pub is_new_union : Surroundings → Laying → List ℕ → Bool
is_new_union at laying name = not (list_any (bytes_eq name) laying.names || is_before (length laying.members) (member_number at.siblings.names None name))

-- a struct with a union at this offset, of this extent and end, whose arms were read
unfoldable pub with_union_of : Laying → List ℕ → ℕ → Extent → ℕ → Arms → Laying
with_union_of laying name offset extent end arms = record {
  members = arms.members;
  unions = laying.unions ++ (record { offset = offset; size = extent.bytes; tag = unwrap_or arms.tag 0 }) ∷ [];
  names = with_name laying.names name;
  end = end;
  align = max laying.align extent.align;
  fields = laying.fields + 1;
}

-- a struct with a union at this offset, of this extent and end: its arms in turn
unfoldable pub with_union_arms : Surroundings → Laying → List Arm → List ℕ → ℕ → Extent → ℕ → Result Laying TypeRefusal
with_union_arms at laying arms name offset extent end = and_ok (with_arms_in_turn at laying.unions (length laying.unions) (length laying.members) offset
    (record { members = laying.members; tag = None; values = [] }) arms) (λ read. Ok (with_union_of laying name offset extent end read))

-- with a union of this extent: the limits are met at its own line, before its arms
unfoldable pub with_union_at : Surroundings → Laying → ℕ → List Arm → List ℕ → Extent → Result Laying TypeRefusal
with_union_at at laying line arms name extent = and_ok (within_limits line laying.fields (round_up_to extent.align laying.end + extent.bytes))
    (with_union_arms at laying arms name (round_up_to extent.align laying.end) extent)

-- with a union
unfoldable pub with_union : Surroundings → Laying → ℕ → List Arm → List ℕ → Result Laying TypeRefusal
with_union at laying line arms name = if is_new_union at laying name then with_union_at at laying line arms name (union_extent at.types arms)
    else Err (refusal.NoDecl line)

-- with a field
abbrev pub with_any_field : Surroundings → Laying → Field → Result Laying TypeRefusal
with_any_field at laying (field.Plain line d) = with_plain at laying line d
with_any_field at laying (field.Union line arms name) = with_union at laying line arms name

-- with fields, up to the first that is refused
abbrev pub with_fields_in_turn : Surroundings → Laying → List Field → Result Laying TypeRefusal
with_fields_in_turn at laying [] = Ok laying
with_fields_in_turn at laying (x ∷ xs) = and_ok (with_any_field at laying x) (λ next. with_fields_in_turn at next xs)

-- a struct that was laid out
unfoldable pub laid_out : Types → List Field → Siblings → Laying → Laid
laid_out types fields siblings laying = record {
  shape = record { size = round_up_to laying.align laying.end; members = laying.members; unions = laying.unions };
  extent = record { bytes = round_up_to laying.align laying.end; align = laying.align };
  names = record { members = siblings.names; unions = laying.names; arrays = member_arrays fields; keys = member_keys types fields };
}

-- the struct with this number: the first with its name, and at most the 256th
unfoldable pub head_of_struct : Types → ℕ → StructItem → Option TypeRefusal
head_of_struct types number s = if is_number number (struct_number types.structs s.name) then (if nat_le 256 number then Some (refusal.Limit s.line limit.Structs) else None)
    else Some (refusal.NoDecl s.line)

abbrev pub unless : {A : Type 0} → Option TypeRefusal → Result A TypeRefusal → Result A TypeRefusal
unless None outcome = outcome
unless (Some e) outcome = Err e

-- the layout of a struct by its siblings
abbrev pub laid_with : Types → List Extent → ℕ → List Field → Siblings → Result Laid TypeRefusal
laid_with types extents number fields siblings = and_ok (with_fields_in_turn (record { types = types; extents = extents; number = number; siblings = siblings }) empty_struct fields)
    (λ laying. Ok (laid_out types fields siblings laying))

-- the layout of the struct with this number, behind structs of these extents
unfoldable pub struct_laid : Types → List Extent → ℕ → StructItem → Result Laid TypeRefusal
struct_laid types extents number s = unless (head_of_struct types number s) (laid_with types extents number s.fields (struct_siblings types s.fields))
