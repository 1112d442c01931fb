-- The siblings of a declaration: the members of its struct, or the parameters and locals of its function, by name.
use Rattle.std.specs.Prelude.{ℕ, ◌-◌, ◌^◌, nat_lt, length, Bool, true, false, ◌&&◌, ◌==◌, if◌then◌else◌, List, [], ◌∷◌, ◌++◌, Option, Some, None, slice_get, position, bytes_eq}
use Rattle.std.specs.List.{list_any}
use Rattle.deputy_types.specs.declared.sibling.MemberName.{MemberName}
use Rattle.deputy_types.specs.declared.sibling.Role.{Role}
use Rattle.deputy_types.specs.declared.siblings.Siblings.{Siblings}

-- the same union, or none
abbrev pub same_part : Option ℕ → Option ℕ → Bool
same_part None None = true
same_part (Some a) (Some b) = a == b
same_part _ _ = false

-- a member with this name: an arm of the union, or none where there is no union
abbrev pub is_member : Option ℕ → List ℕ → MemberName → Bool
is_member part name m = same_part part m.part && bytes_eq name m.name

-- the number of a member
abbrev pub member_number : List MemberName → Option ℕ → List ℕ → Option ℕ
member_number names part name = position (is_member part name) names

-- the number of a sibling that an annotation names: no arm
abbrev pub sibling_number : Siblings → List ℕ → Option ℕ
sibling_number siblings name = member_number siblings.names None name

-- what an annotation can make of a sibling
abbrev pub role_of : Siblings → ℕ → Option Role
role_of siblings k = slice_get siblings.roles k

-- a name that no member has. A list of members has less than 2^32; a text has far fewer
unfoldable pub is_new_member : List MemberName → MemberName → Bool
is_new_member names name = if list_any (is_member name.part name.name) names then false else nat_lt (length names) (2 ^ 32 - 1)

-- names with one more, if it is new
unfoldable pub with_member : List MemberName → MemberName → List MemberName
with_member names name = if is_new_member names name then names ++ name ∷ [] else names

-- with one more sibling, if its name is new
unfoldable pub with_sibling : Siblings → MemberName → Role → Siblings
with_sibling siblings name role = if is_new_member siblings.names name then record { names = with_member siblings.names name; roles = siblings.roles ++ role ∷ [] }
    else record { names = with_member siblings.names name; roles = siblings.roles }

-- none
abbrev pub no_siblings : Siblings
no_siblings = record { names = []; roles = [] }
