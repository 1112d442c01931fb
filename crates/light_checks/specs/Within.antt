-- What the declarations of a text within its limits come to: how far annotations reach, and what they name.
use Rattle.std.specs.Prelude.{ℕ, ◌≤◌, ◌≡◌, ◌^◌, Bool, true, false, List, [], map, Option, Some, None, unsigned_abs, slice_get, All}
use Rattle.std.specs.Option.{option_flatten}
use Rattle.dep_expr.specs.Weight.{weight}
use Rattle.checked_tree.specs.declared.shapes.Bounds.{Bounds}
use Rattle.checked_tree.specs.declared.shapes.Bounds.TheVariants as bounds
use Rattle.checked_tree.specs.declared.shapes.Edge.{Edge}
use Rattle.checked_tree.specs.declared.shapes.Member.{Member}
use Rattle.checked_tree.specs.declared.shapes.Shape.{Shape}
use Rattle.checked_tree.specs.declared.shapes.Shape.TheVariants as shape
use Rattle.checked_tree.specs.declared.shapes.UnionShape.{UnionShape}
use Rattle.checked_tree.specs.declared.units.ImageBlock.{ImageBlock}
use Rattle.deputy_types.specs.declared.element.Element.{Element}
use Rattle.deputy_rules.specs.declared.signature.Returned.{Returned}
use Rattle.deputy_rules.specs.declared.signature.Returned.TheVariants as returned
use Rattle.deputy_rules.specs.declared.signature.Signature.{Signature}
use Rattle.deputy_rules.specs.Changes.{shape_of, unions_of}
use Rattle.deputy_rules.specs.Context.{Context}
use Rattle.deputy_types.specs.Extents.{key_extent}
use Rattle.deputy_types.specs.Keys.{IsKey}
use Rattle.deputy_rules.specs.Statements.{Home}
use Rattle.deputy_types.specs.Table.{Table, element_at, member, member_key, members_of}

-- what an annotation can name as a number of elements
abbrev pub is_integer : Option Shape → Bool
is_integer (Some (shape.Int s)) = true
is_integer (Some (shape.Pointer elem b)) = false
is_integer (Some (shape.Struct s)) = false
is_integer (Some shape.Address) = false
is_integer None = false

abbrev pub shape_at : List (Option Shape) → ℕ → Option Shape
shape_at shapes k = option_flatten (slice_get shapes k)

-- one side of an annotation: its numbers are small, and each of its factors stands before an integer
pub record IsEdge (shapes : List (Option Shape)) (e : Edge) : Type 0 where
  pub bytes : unsigned_abs e.bytes ≤ 2 ^ 60
  pub weight : weight e.terms ≤ 2 ^ 58
  pub integers : All (λ t. is_integer (shape_at shapes t.1) ≡ true) e.terms

abbrev pub IsBounds : List (Option Shape) → Bounds → Type 0
IsBounds shapes bounds.Hidden = Unit {0}
IsBounds shapes bounds.Nullterm = Unit {0}
IsBounds shapes (bounds.Within lo hi) = IsEdge shapes lo × IsEdge shapes hi

-- what is declared among siblings of these shapes
abbrev pub IsShape : List (Option Shape) → Option Shape → Type 0
IsShape shapes None = Unit {0}
IsShape shapes (Some (shape.Int s)) = Unit {0}
IsShape shapes (Some (shape.Pointer elem b)) = IsBounds shapes b
IsShape shapes (Some (shape.Struct s)) = Unit {0}
IsShape shapes (Some shape.Address) = Unit {0}

abbrev pub AreShapes : List (Option Shape) → Type 0
AreShapes shapes = All (IsShape shapes) shapes

-- the types, the structs and the load image of a text
pub record IsTable (t : Table) : Type 0 where
  pub sizes : (key : Element) → (key_extent t.extents key).bytes ≤ 65536
  pub elements : (n : ℕ) (key : Element) → element_at t n ≡ Some key → IsKey key
  pub keys : (s m : ℕ) (key : Element) → member_key t s m ≡ Some key → IsKey key
  pub members : (s m : ℕ) (x : Member) → member t s m ≡ Some x → (x.offset ≤ 65536) × (x.count ≤ 65536)
  pub unions : (s : ℕ) → All (λ (x : UnionShape). x.offset ≤ 65536) (unions_of t s)
  pub structs : (s : ℕ) → AreShapes (map shape_of (members_of t s))
  pub image : (k : ℕ) (b : ImageBlock) → slice_get t.image k ≡ Some b → (b.base ≤ 1048576) × (b.count ≤ 1048576)

-- where an expression stands
pub record IsContext (ctx : Context) : Type 0 where
  pub table : IsTable ctx.table
  pub slots : AreShapes ctx.slots

-- a result, which names nothing
abbrev pub IsResult : Returned → Type 0
IsResult returned.Nothing = Unit {0}
IsResult (returned.Value s) = IsShape [] (Some s)

-- where a body stands
pub record IsHome (home : Home) : Type 0 where
  pub functions : All (λ (f : Signature). AreShapes f.params) home.functions
  pub result : IsResult home.result
