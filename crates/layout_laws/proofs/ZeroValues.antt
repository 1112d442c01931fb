-- Zero bytes are valid at each type of a table.
use Rattle.std.proofs.Common.{◌≡◌, ℕ, ◌+◌, ◌*◌, List, pos, refl, ◌∙◌, ap}
use Rattle.checked_tree.specs.declared.shapes.Scalar.{Scalar}
use Rattle.checked_tree.specs.declared.shapes.Scalar.TheVariants as scalar
use Rattle.checked_tree.specs.declared.shapes.Shape.{Shape}
use Rattle.checked_tree.specs.declared.shapes.Shape.TheVariants as shape
use Rattle.checked_tree.specs.declared.shapes.StructShape.{StructShape}
use Rattle.checked_tree.specs.Numbers.{converted, scalar_size}
use Rattle.deputy_types.specs.Fitting.{shape_size, member, place_value, AreZero, AreNested}
use Rattle.deputy_types.specs.Table.{Table}
use Rattle.layout_laws.proofs.ZeroFits.{zero_bytes, lies_in, zero_part, zero_fits}
use Rattle.layout_laws.specs.ZeroBytes.{AreNull, IsValidZero, ZeroIsValid}
use Rattle.layout_laws.proofs.StructsDeclared.{structs_nested}

-- ---- zero bytes are the number 0
-- 0 is 0 in each integer type
pub zero_converted : (s : Scalar) → converted s (pos 0) ≡ pos 0
unfolding converted
zero_converted scalar.Void = refl
zero_converted scalar.U8 = refl
zero_converted scalar.I8 = refl
zero_converted scalar.U16 = refl
zero_converted scalar.I16 = refl
zero_converted scalar.I32 = refl
zero_converted scalar.U32 = refl
zero_converted (scalar.Pointer n) = refl

pub zero_place : (structs : List StructShape) (bytes : List ℕ) (at : ℕ) (x : Shape) → AreZero bytes at (shape_size structs x) → place_value bytes at x ≡ pos 0
zero_place structs bytes at (shape.Int s) h = ap (λ (n : ℕ). converted s (pos n)) (zero_bytes bytes at (scalar_size s) h) ∙ zero_converted s
zero_place structs bytes at (shape.Pointer elem b) h = ap (λ (n : ℕ). pos n) (zero_bytes bytes at 4 h)
zero_place structs bytes at (shape.Struct s) h = refl
zero_place structs bytes at shape.Address h = ap (λ (n : ℕ). pos n) (zero_bytes bytes at 4 h)

-- ---- zero bytes are null
zero_null : (structs : List StructShape) (bytes : List ℕ) (at : ℕ) (x : Shape) → AreNested structs → AreZero bytes at (shape_size structs x) → AreNull structs bytes at x
zero_null structs bytes at x nested zeros = record {
  whole = zero_place structs bytes at x zeros;
  members = λ b s k j t m p is mem l.
      let a : ℕ = b + m.offset + j * shape_size structs m.shape in
      let here = lies_in structs at x a m.shape nested (member b s k j t m p is mem refl l refl refl) in
      zero_place structs bytes a m.shape (zero_part bytes at (shape_size structs x) a (shape_size structs m.shape) here zeros);
}

valid_zero : (t : Table) (x : Shape) → AreNested t.structs → IsValidZero t x
valid_zero t x nested = record {
  fits = λ blocks bytes at zeros. zero_fits blocks t.elems t.structs bytes at x nested zeros;
  null = λ bytes at zeros. zero_null t.structs bytes at x nested zeros;
}

pub zeros_valid : ZeroIsValid
zeros_valid u t h =
    let nested = structs_nested u t h in
    record { structs = λ s l. valid_zero t (shape.Struct s) nested; elems = λ n x at. valid_zero t x nested }
