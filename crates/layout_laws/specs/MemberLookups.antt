-- What is looked up in a struct by a name is the field, the arm or the union that was declared with it, and nothing else in the struct has
-- the name.
use Rattle.std.specs.Prelude.{◌≡◌, ℕ, ◌+◌, ◌<◌, ◌^◌, List, [], ◌∷◌, ◌++◌, length, Option, Some, None, slice_get, Ok}
use Rattle.c_tree.specs.declared.items.Arm.{Arm}
use Rattle.c_tree.specs.declared.items.Field.{Field}
use Rattle.c_tree.specs.declared.items.Field.TheVariants as field_form
use Rattle.c_tree.specs.declared.items.StructItem.{StructItem}
use Rattle.c_tree.specs.declared.items.Unit.{Unit as TextUnit}
use Rattle.deputy_types.specs.declared.sibling.MemberName.{MemberName}
use Rattle.deputy_types.specs.Table.{Table, field, arm, union_of, members_of}
use Rattle.deputy_types.specs.UnitLayout.{layout}
use Rattle.layout_laws.specs.StructTable.{struct_items}

-- the names of a union's arms, each with the number of the union
abbrev pub arm_names : ℕ → List Arm → List MemberName
arm_names part [] = []
arm_names part (a ∷ arms) = record { part = Some part; name = a.name } ∷ arm_names part arms

-- the names of the members of fields in text order, where the next union has the number `part`: each field that is no union, and each arm
-- of a union
abbrev pub member_names : ℕ → List Field → List MemberName
member_names part [] = []
member_names part (field_form.Plain line d ∷ fields) = record { part = None; name = d.name } ∷ member_names part fields
member_names part (field_form.Union line arms name ∷ fields) = arm_names part arms ++ member_names (part + 1) fields

-- the names of the unions among fields, in text order
abbrev pub union_names : List Field → List (List ℕ)
union_names [] = []
union_names (field_form.Plain line d ∷ fields) = union_names fields
union_names (field_form.Union line arms name ∷ fields) = name ∷ union_names fields

-- the look-up of a member: of a field, or of an arm of the union with a number
abbrev pub look_up : Table → ℕ → Option ℕ → List ℕ → Option ℕ
look_up t s None name = field t s name
look_up t s (Some part) name = arm t s part name

-- the number of a member's name is its place among the members of its declaration, and no other has the name; and so of unions. There are
-- less than 2^32 members
pub record FindsMembers (t : Table) (s : ℕ) (d : StructItem) : Type 0 where
  pub members : length (members_of t s) ≡ length (member_names 0 d.fields)
  pub few : length (members_of t s) < 2 ^ 32
  pub found : (k : ℕ) (m : MemberName) → slice_get (member_names 0 d.fields) k ≡ Some m → look_up t s m.part m.name ≡ Some k
  pub only : (part : Option ℕ) (name : List ℕ) (k : ℕ) → look_up t s part name ≡ Some k
      → slice_get (member_names 0 d.fields) k ≡ Some (record { part = part; name = name })
  pub union_found : (k : ℕ) (name : List ℕ) → slice_get (union_names d.fields) k ≡ Some name → union_of t s name ≡ Some k
  pub union_only : (name : List ℕ) (k : ℕ) → union_of t s name ≡ Some k → slice_get (union_names d.fields) k ≡ Some name

-- so in each struct of each table
abbrev pub EachMemberIsFound : Type 0
EachMemberIsFound =
    (u : TextUnit) (t : Table) (s : ℕ) (d : StructItem) → layout u ≡ Ok t → slice_get (struct_items u.items) s ≡ Some d → FindsMembers t s d
