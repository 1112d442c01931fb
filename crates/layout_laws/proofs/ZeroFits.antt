-- Zero bytes fit every type: each pointer in them is null.
use Rattle.std.proofs.Common.{◌≡◌, ℕ, zero, suc, ◌+◌, ◌-◌, ◌*◌, ◌≤◌, ◌<◌, List, [], ◌∷◌, take, drop, get_or, ℤ, pos, Option, Some, option_map, unwrap_or, slice_get, slice_index_or, All, refl, sym, ◌∙◌, ap, subst, arith}
use Rattle.std.proofs.lemmas.List.{get_or-drop}
use Rattle.std.proofs.lemmas.Option.{slice_get_within, get_or_from_slice_get}
use Rattle.sd_base.specs.Blocks.{Block}
use Rattle.byte_memory.specs.Bytes.{little_endian, bytes_at}
use Rattle.checked_tree.specs.declared.shapes.Bounds.{Bounds}
use Rattle.checked_tree.specs.declared.shapes.Bounds.TheVariants as bounds
use Rattle.checked_tree.specs.declared.shapes.Member.{Member}
use Rattle.checked_tree.specs.declared.shapes.Shape.{Shape}
use Rattle.checked_tree.specs.declared.shapes.Shape.TheVariants as shape
use Rattle.checked_tree.specs.declared.shapes.StructShape.{StructShape}
use Rattle.deputy_types.specs.Fitting.{shape_size, Part, whole, member, is_any, null, FitsBounds, HoldsFitting, member_value, BytesFit, AreZero, AreNested}

-- ---- zero bytes are the number 0
zero_number : (n : ℕ) (xs : List ℕ) → ((i : ℕ) → i < n → get_or xs i 0 ≡ 0) → little_endian (take n xs) ≡ 0
unfolding little_endian
zero_number zero xs h = refl
zero_number (suc n) [] h = refl
zero_number (suc n) (b ∷ xs) h =
    let here : b ≡ 0 = h 0 (omega arith) in
    let rest : little_endian (take n xs) ≡ 0 = zero_number n xs (λ i l. h (suc i) (omega arith)) in
    omega (arith, here, rest)

pub zero_bytes : (bytes : List ℕ) (at n : ℕ) → AreZero bytes at n → little_endian (bytes_at bytes at n) ≡ 0
unfolding bytes_at
zero_bytes bytes at n h = zero_number n (drop at bytes) (λ i l. get_or-drop at bytes i 0 ∙ h i l)

-- ---- the parts of a place lie within it
at_member : (structs : List StructShape) (t : StructShape) (k j : ℕ) (m : Member)
    → All (λ (x : Member). x.offset + x.count * shape_size structs x.shape ≤ t.size) t.members → slice_get t.members k ≡ Some m → j < m.count
    → m.offset + j * shape_size structs m.shape + shape_size structs m.shape ≤ t.size
at_member structs t k j m all is l =
    let within : m.offset + m.count * shape_size structs m.shape ≤ t.size =
    subst (λ (x : Member). x.offset + x.count * shape_size structs x.shape ≤ t.size) (get_or_from_slice_get t.members k m m is) (all k m (slice_get_within t.members k m is)) in
    let more : (j + 1) * shape_size structs m.shape ≤ m.count * shape_size structs m.shape = grind arith in
    grind arith

pub record LiesIn (at size b n : ℕ) : Type 0 where
  pub from : at ≤ b
  pub to : b + n ≤ at + size

struct_size : (structs : List StructShape) (s : ℕ) (t : StructShape) → slice_get structs s ≡ Some t → shape_size structs (shape.Struct s) ≡ t.size
struct_size structs s t is = ap (λ (o : Option StructShape). unwrap_or (option_map (λ (t : StructShape). t.size) o) 0) is

pub lies_in : (structs : List StructShape) (at : ℕ) (x : Shape) (b : ℕ) (y : Shape) → AreNested structs → Part structs is_any at x b y → LiesIn at (shape_size structs x) b (shape_size structs y)
lies_in structs at x b y nested (whole e f) = subst (λ (z : Shape). LiesIn at (shape_size structs x) b (shape_size structs z)) (sym f) (record { from = omega arith; to = omega arith })
lies_in structs at x b y nested (member c s k j t m p is mem passes l e f) =
    let outer = lies_in structs at x c (shape.Struct s) nested p in
    let size = struct_size structs s t is in
    let inner = at_member structs t k j m (nested s t is) mem l in
    subst (λ (z : Shape). LiesIn at (shape_size structs x) b (shape_size structs z)) (sym f) (record { from = omega (arith, outer.from); to = omega (arith, outer.to, size, inner) })

-- ---- null fits
null_fits : (blocks : List Block) (elems : List Shape) (structs : List StructShape) (sibling : ℕ → ℤ) (elem : ℕ) (b : Bounds) (v : ℤ) → v ≡ pos 0
    → FitsBounds blocks elems structs sibling elem b v
null_fits blocks elems structs sibling elem bounds.Hidden v e = tt
null_fits blocks elems structs sibling elem bounds.Nullterm v e = null e
null_fits blocks elems structs sibling elem (bounds.Within lo hi) v e = null e

zero_place : (blocks : List Block) (elems : List Shape) (structs : List StructShape) (sibling : ℕ → ℤ) (bytes : List ℕ) (at : ℕ) (x : Shape)
    → AreZero bytes at (shape_size structs x) → HoldsFitting blocks elems structs sibling bytes at x
zero_place blocks elems structs sibling bytes at (shape.Int scalar) h = tt
zero_place blocks elems structs sibling bytes at (shape.Pointer elem b) h = null_fits blocks elems structs sibling elem b _ (ap (λ (n : ℕ). pos n) (zero_bytes bytes at 4 h))
zero_place blocks elems structs sibling bytes at (shape.Struct s) h = tt
zero_place blocks elems structs sibling bytes at shape.Address h = tt

pub zero_part : (bytes : List ℕ) (at size b n : ℕ) → LiesIn at size b n → AreZero bytes at size → AreZero bytes b n
zero_part bytes at size b n l zeros i below =
    let e : at + (b - at + i) ≡ b + i = omega (arith, l.from) in
    subst (λ (k : ℕ). slice_index_or bytes k 0 ≡ 0) e (zeros (b - at + i) (omega (arith, l.from, l.to)))

-- zero bytes fit every type
pub zero_fits : (blocks : List Block) (elems : List Shape) (structs : List StructShape) (bytes : List ℕ) (at : ℕ) (x : Shape)
    → AreNested structs → AreZero bytes at (shape_size structs x) → BytesFit blocks elems structs bytes at x
zero_fits blocks elems structs bytes at x nested zeros = record {
  whole = zero_place blocks elems structs (λ k. pos 0) bytes at x zeros;
  members = λ b s k j t m p is mem used l.
      let a : ℕ = b + m.offset + j * shape_size structs m.shape in
      let here = lies_in structs at x a m.shape nested (member b s k j t m p is mem refl l refl refl) in
      zero_place blocks elems structs (member_value bytes b t) bytes a m.shape (zero_part bytes at (shape_size structs x) a (shape_size structs m.shape) here zeros);
}
