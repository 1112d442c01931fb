-- The structs of a text lie within one another: the sizes by which their members were laid out are those of the structs themselves.
use Rattle.std.proofs.Common.{◌≡◌, ℕ, ◌+◌, ◌*◌, ◌≤◌, List, Option, Some, None, option_map, unwrap_or, slice_get, All, refl, ◌∙◌, ap, subst, arith}
use Rattle.std.proofs.lemmas.List.Elements.{All-weaker}
use Rattle.checked_tree.specs.declared.shapes.Member.{Member}
use Rattle.checked_tree.specs.declared.shapes.Scalar.{Scalar}
use Rattle.checked_tree.specs.declared.shapes.Scalar.TheVariants as scalar
use Rattle.checked_tree.specs.declared.shapes.Shape.{Shape}
use Rattle.checked_tree.specs.declared.shapes.Shape.TheVariants as shape
use Rattle.checked_tree.specs.declared.shapes.StructShape.{StructShape}
use Rattle.checked_tree.specs.Numbers.{scalar_size}
use Rattle.deputy_types.specs.declared.extent.Extent.{Extent}
use Rattle.deputy_types.specs.Extents.{scalar_extent, struct_extent}
use Rattle.deputy_types.specs.Fitting.{shape_size, AreNested}
use Rattle.deputy_types.specs.StructLaws.{shape_extent, LiesWithin, IsStruct}

scalar_same : (s : Scalar) → scalar_size s ≡ (scalar_extent s).bytes
scalar_same scalar.Void = refl
scalar_same scalar.U8 = refl
scalar_same scalar.I8 = refl
scalar_same scalar.U16 = refl
scalar_same scalar.I16 = refl
scalar_same scalar.I32 = refl
scalar_same scalar.U32 = refl
scalar_same (scalar.Pointer n) = refl

size_is : (extents : List Extent) (s : ℕ) (t : StructShape) → IsStruct extents s t → (struct_extent extents s).bytes ≡ t.size
size_is extents s t is = ap (λ (e : Extent). e.bytes) is.extent ∙ (is.lies.bytes ∙ ap (λ (x : StructShape). x.size) is.shape)

shape_less : (extents : List Extent) (structs : List StructShape) → ((s : ℕ) (t : StructShape) → slice_get structs s ≡ Some t → IsStruct extents s t)
    → (x : Shape) → shape_size structs x ≤ (shape_extent extents x).bytes
shape_less extents structs are (shape.Int s) = omega (arith, scalar_same s)
shape_less extents structs are (shape.Pointer elem bounds) = omega arith
shape_less extents structs are (shape.Struct s) = by_struct (slice_get structs s) refl
  where
    by_struct : (o : Option StructShape) → slice_get structs s ≡ o → unwrap_or (option_map (λ (t : StructShape). t.size) o) 0 ≤ (struct_extent extents s).bytes
    by_struct None e = omega arith
    by_struct (Some t) e = omega (arith, size_is extents s t (are s t e))
shape_less extents structs are shape.Address = omega arith

-- a member that lies within a struct by extents does so by sizes
lies_by_size : (extents : List Extent) (structs : List StructShape) → ((s : ℕ) (t : StructShape) → slice_get structs s ≡ Some t → IsStruct extents s t)
    → (end : ℕ) (m : Member) → LiesWithin extents end m → m.offset + m.count * shape_size structs m.shape ≤ end
lies_by_size extents structs are end m l =
    let less : shape_size structs m.shape ≤ (shape_extent extents m.shape).bytes = shape_less extents structs are m.shape in
    let within : m.offset + m.count * (shape_extent extents m.shape).bytes ≤ end = l.within in
    by_product m.offset m.count (shape_size structs m.shape) (shape_extent extents m.shape).bytes end less within
  where
    by_product : (o c u v n : ℕ) → u ≤ v → o + c * v ≤ n → o + c * u ≤ n
    by_product o c u v n h k = grind arith

-- structs that were laid out with extents, each its own among them
pub nested : (extents : List Extent) (structs : List StructShape) → ((s : ℕ) (t : StructShape) → slice_get structs s ≡ Some t → IsStruct extents s t) → AreNested structs
nested extents structs are s t is =
    let this = are s t is in
    let all : All (LiesWithin extents t.size) t.members = subst (λ (x : StructShape). All (LiesWithin extents x.size) x.members) this.shape this.lies.members in
    All-weaker (LiesWithin extents t.size) (λ (m : Member). m.offset + m.count * shape_size structs m.shape ≤ t.size) (lies_by_size extents structs are t.size) t.members all
