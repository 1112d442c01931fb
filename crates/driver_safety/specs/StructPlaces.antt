-- Members of a struct, and where they lie beside one another: apart, or as arms of one union.
use Rattle.std.specs.Prelude.{◌≡◌, ◌≢◌, ℕ, ◌+◌, ◌*◌, ◌≤◌, List, ℤ, Some, slice_get}
use Rattle.checked_tree.specs.declared.shapes.Member.{Member}
use Rattle.checked_tree.specs.declared.shapes.Shape.{Shape}
use Rattle.checked_tree.specs.declared.shapes.Shape.TheVariants as shape
use Rattle.checked_tree.specs.declared.shapes.StructShape.{StructShape}
use Rattle.deputy_types.specs.Fitting.{shape_size, AreNested}

-- the bytes of a member, all its elements
abbrev pub room_of : List StructShape → Member → ℕ
room_of structs m = m.count * shape_size structs m.shape

-- arms of one union
abbrev pub SameUnion : Member → Member → Type 0
SameUnion a b = (u : ℕ) × (y : ℤ) × (z : ℤ) × (a.arm ≡ Some (u, y)) × (b.arm ≡ Some (u, z))

-- members that lie apart, or are arms of one union
pub data Beside (structs : List StructShape) (a b : Member) : Type 0 where
  before : a.offset + room_of structs a ≤ b.offset → Beside structs a b
  behind : b.offset + room_of structs b ≤ a.offset → Beside structs a b
  arms : SameUnion a b → Beside structs a b

-- an arm is no struct
abbrev pub IsLeaf : Shape → Type 0
IsLeaf (shape.Struct s) = ⊥
IsLeaf _ = Unit {0}

-- structs whose members lie beside one another, and whose arms are numbers or pointers: so is each table
pub record AreTidy (structs : List StructShape) : Type 0 where
  pub nested : AreNested structs
  pub beside : (s : ℕ) (t : StructShape) (j k : ℕ) (a b : Member) → slice_get structs s ≡ Some t → slice_get t.members j ≡ Some a
      → slice_get t.members k ≡ Some b → j ≢ k → Beside structs a b
  pub plain : (s : ℕ) (t : StructShape) (k : ℕ) (a : Member) (u : ℕ) (z : ℤ) → slice_get structs s ≡ Some t → slice_get t.members k ≡ Some
      a → a.arm ≡ Some (u, z) → IsLeaf a.shape
