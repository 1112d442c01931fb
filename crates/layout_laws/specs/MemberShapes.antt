-- The types of members: what a pointer points to is an element of the table, and a struct in a struct is one that is declared before it.
use Rattle.std.specs.Prelude.{◌≡◌, ℕ, ◌<◌, length, All, Some, slice_get, Ok}
use Rattle.c_tree.specs.declared.items.Unit.{Unit as TextUnit}
use Rattle.checked_tree.specs.declared.shapes.Shape.{Shape}
use Rattle.checked_tree.specs.declared.shapes.Shape.TheVariants as shape
use Rattle.checked_tree.specs.declared.shapes.StructShape.{StructShape}
use Rattle.deputy_types.specs.Table.{Table}
use Rattle.deputy_types.specs.UnitLayout.{layout}

-- a shape that a member of the struct with this number has, where there are so many types of elements
abbrev pub IsMemberShape : ℕ → ℕ → Shape → Type 0
IsMemberShape elements number (shape.Int scalar) = Unit {0}
IsMemberShape elements number (shape.Pointer elem bounds) = elem < elements
IsMemberShape elements number (shape.Struct s) = s < number
IsMemberShape elements number shape.Address = ⊥

-- so has each member of each struct of each table
abbrev pub EachMemberHasItsType : Type 0
EachMemberHasItsType = (u : TextUnit) (t : Table) (s : ℕ) (x : StructShape) → layout u ≡ Ok t → slice_get t.structs s ≡ Some x
    → All (λ m. IsMemberShape (length t.elems) s m.shape) x.members
