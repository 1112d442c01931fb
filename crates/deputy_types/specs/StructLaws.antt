-- What holds of a struct that was laid out: each member lies at a multiple of its alignment, behind those before it and within the struct,
-- and so does each struct of an array.
use Rattle.std.specs.Prelude.{ℕ, ◌+◌, ◌*◌, ◌≤◌, ◌<◌, ◌≡◌, ◌⊎◌, ◌==◌, Bool, true, false, ℤ, Option, Some, None, List, [], ◌∷◌, All}
use Rattle.checked_tree.specs.declared.shapes.Member.{Member}
use Rattle.checked_tree.specs.declared.shapes.Shape.{Shape}
use Rattle.checked_tree.specs.declared.shapes.Shape.TheVariants as shape
use Rattle.checked_tree.specs.declared.shapes.StructShape.{StructShape}
use Rattle.deputy_types.specs.declared.extent.Extent.{Extent}
use Rattle.deputy_types.specs.declared.laying.Laid.{Laid}
use Rattle.deputy_types.specs.Extents.{natural, scalar_extent, struct_extent}

-- a multiple of a number
abbrev pub IsMultiple : ℕ → ℕ → Type 0
IsMultiple a n = (k : ℕ) × (n ≡ k * a)

-- the extent of what has this shape
abbrev pub shape_extent : List Extent → Shape → Extent
shape_extent extents (shape.Int scalar) = scalar_extent scalar
shape_extent extents (shape.Pointer elem bounds) = natural 4
shape_extent extents (shape.Struct s) = struct_extent extents s
shape_extent extents shape.Address = natural 4

-- a member at a multiple of its alignment that ends within so many bytes
pub record LiesWithin (extents : List Extent) (end : ℕ) (m : Member) : Type 0 where
  pub aligned : IsMultiple (shape_extent extents m.shape).align m.offset
  pub within : m.offset + m.count * (shape_extent extents m.shape).bytes ≤ end

-- an arm of the union with this number
abbrev pub is_arm_of : ℕ → Option (ℕ × ℤ) → Bool
is_arm_of part None = false
is_arm_of part (Some arm) = arm.0 == part

-- two arms of one union
abbrev pub are_of_one_union : Option (ℕ × ℤ) → Option (ℕ × ℤ) → Bool
are_of_one_union a None = false
are_of_one_union a (Some b) = is_arm_of b.0 a

-- a member ends before another one begins, or both are arms of one union
abbrev pub IsBefore : List Extent → Member → Member → Type 0
IsBefore extents m n = (m.offset + m.count * (shape_extent extents m.shape).bytes ≤ n.offset) ⊎ (are_of_one_union m.arm n.arm ≡ true)

-- each member is so before all that are declared after it: no two share a byte but arms of one union
abbrev pub AreInOrder : List Extent → List Member → Type 0
AreInOrder extents [] = Unit {0}
AreInOrder extents (m ∷ ms) = All (IsBefore extents m) ms × AreInOrder extents ms

-- the members lie in order within the struct, whose size is a multiple of its alignment
pub record IsLaidOut (extents : List Extent) (laid : Laid) : Type 0 where
  pub members : All (LiesWithin extents laid.shape.size) laid.shape.members
  pub order : AreInOrder extents laid.shape.members
  pub size : IsMultiple laid.extent.align laid.shape.size
  pub bytes : laid.extent.bytes ≡ laid.shape.size

-- extents of structs that are the same up to a number
pub record AgreeBelow (n : ℕ) (before now : List Extent) : Type 0 where
  pub same : (s : ℕ) → s < n → struct_extent before s ≡ struct_extent now s

-- the struct with this number was laid out with these extents, its own among them
pub record IsStruct (extents : List Extent) (s : ℕ) (t : StructShape) : Type 0 where
  pub laid : Laid
  pub shape : laid.shape ≡ t
  pub extent : struct_extent extents s ≡ laid.extent
  pub lies : IsLaidOut extents laid
