-- A write that touches no byte of an element leaves what it holds.
use Rattle.std.proofs.Common.{◌≡◌, ◌⊎◌, inl, inr, ℕ, ◌+◌, ◌*◌, ◌≤◌, ◌<◌, true, List, length, ℤ, pos, Option, Some}
use Rattle.std.proofs.Common.{None, option_map, unwrap_or, slice_get, slice_index_or, refl, sym, ap, ◌∙◌, subst, arith}
use Rattle.std.specs.Ordering.{int_eq}
use Rattle.sd_base.specs.Blocks.{Block}
use Rattle.byte_memory.specs.Bytes.{little_endian, overwritten}
use Rattle.byte_memory.proofs.Addresses.{other_loads}
use Rattle.byte_memory.proofs.Words.{load_1, length-overwritten}
use Rattle.checked_tree.specs.declared.shapes.Member.{Member}
use Rattle.checked_tree.specs.declared.shapes.Shape.{Shape}
use Rattle.checked_tree.specs.declared.shapes.Shape.TheVariants as shape
use Rattle.checked_tree.specs.declared.shapes.StructShape.{StructShape}
use Rattle.layout_laws.proofs.ZeroFits.{LiesIn, lies_in}
use Rattle.deputy_types.specs.Fitting.{shape_size, Part, whole, member, is_any, AreNested, FitsBounds, HoldsFitting, BytesFit, place_value}
use Rattle.deputy_types.specs.Fitting.{member_value, is_used}
use Rattle.driver_safety.proofs.memory.Stores.{unreached}

fun_ext : {A B : Type 0} (f g : A → B) → ((a : A) → f a ≡ g a) → f ≡ g
fun_ext f g h = λ i a. h a i

-- a byte that is not written
pub other_byte : (bytes new : List ℕ) (to k : ℕ) → to + length new ≤ length bytes → k < length bytes → (k + 1 ≤ to) ⊎ (to + length new ≤ k)
    → slice_index_or (overwritten bytes to new) k 0 ≡ slice_index_or bytes k 0
other_byte bytes new to k l m apart =
    let long = length-overwritten bytes new to l in
    sym (load_1 (overwritten bytes to new) k (omega (arith, long, m)))
    ∙ ap little_endian (other_loads bytes (record { at = to; bytes = new }) k 1 l (omega (arith, m)) apart)
    ∙ load_1 bytes k (omega (arith, m))

module _ (blocks : List Block) (elems : List Shape) (structs : List StructShape) (nested : AreNested structs)
    (some : (s k : ℕ) (t : StructShape) (m : Member) → slice_get structs s ≡ Some t → slice_get t.members k ≡ Some m → 0 < m.count)
    (bytes new : List ℕ) (to at : ℕ) (x : Shape) (written : to + length new ≤ length bytes) (inside : at + shape_size structs x ≤ length
    bytes)
    (apart : (at + shape_size structs x ≤ to) ⊎ (to + length new ≤ at)) where
  abbrev after : List ℕ
  after = overwritten bytes to new

  apart_from : (a n : ℕ) → LiesIn at (shape_size structs x) a n → (at + shape_size structs x ≤ to) ⊎ (to + length new ≤ at)
      → (a + n ≤ to) ⊎ (to + length new ≤ a)
  apart_from a n lies (inl l) = let end = lies.to in inl (omega (arith, l, end))
  apart_from a n lies (inr l) = let from = lies.from in inr (omega (arith, l, from))

  value_same : (a : ℕ) (y : Shape) → LiesIn at (shape_size structs x) a (shape_size structs y) → place_value after a y ≡ place_value bytes
      a y
  value_same a y lies = let end = lies.to in unreached bytes new to a y structs written (omega (arith, end, inside))
      (apart_from a (shape_size structs y) lies apart)

  part_same : (a : ℕ) (y : Shape) → Part structs is_any at x a y → place_value after a y ≡ place_value bytes a y
  part_same a y p = value_same a y (lies_in structs at x a y nested p)

  holds_still : (sibling : ℕ → ℤ) (a : ℕ) (y : Shape) → place_value after a y ≡ place_value bytes a y
      → HoldsFitting blocks elems structs sibling bytes a y → HoldsFitting blocks elems structs sibling after a y
  holds_still sibling a (shape.Pointer elem b) e h = subst (λ (v : ℤ). FitsBounds blocks elems structs sibling elem b v) (sym e) h
  holds_still sibling a (shape.Int s) e h = tt
  holds_still sibling a (shape.Struct s) e h = tt
  holds_still sibling a shape.Address e h = tt

  -- the names of a struct place
  value_stays : (b s k : ℕ) (t : StructShape) → Part structs is_any at x b (shape.Struct s) → slice_get structs s ≡ Some t
      → member_value after b t k ≡ member_value bytes b t k
  value_stays b s k t p is = by (slice_get t.members k) refl
    where
      by : (o : Option Member) → slice_get t.members k ≡ o
          → unwrap_or (option_map (λ m. place_value after (b + m.offset) m.shape) o) (pos 0) ≡ unwrap_or
          (option_map (λ m. place_value bytes (b + m.offset) m.shape) o) (pos 0)
      by None h = refl
      by (Some m) h =
          let first : b + m.offset ≡ b + m.offset + 0 * shape_size structs m.shape = omega arith in
          part_same (b + m.offset) m.shape (member b s k 0 t m p is h refl (some s k t m is h) first refl)

  values_stay : (b s : ℕ) (t : StructShape) → Part structs is_any at x b (shape.Struct s) → slice_get structs s ≡ Some t
      → member_value after b t ≡ member_value bytes b t
  values_stay b s t p is = fun_ext (member_value after b t) (member_value bytes b t) (λ k. value_stays b s k t p is)

  used_before : (b : ℕ) (t : StructShape) (arm : Option (ℕ × ℤ)) → member_value after b t ≡ member_value bytes b t → is_used after b t arm
      ≡ true → is_used bytes b t arm ≡ true
  used_before b t None e h = h
  used_before b t (Some arm) e h = subst (λ (v : ℕ → ℤ). int_eq (v (unwrap_or (option_map (λ u. u.tag) (slice_get t.unions arm.0)) 0))
      arm.1 ≡ true) e h

  pub outside_keeps : BytesFit blocks elems structs bytes at x → BytesFit blocks elems structs after at x
  outside_keeps fit = record {
    whole = holds_still (λ k. pos 0) at x (part_same at x (whole refl refl)) fit.whole;
    members = λ b s k j t m p is mem used l.
        let values = values_stay b s t p is in
        let here = part_same (b + m.offset + j * shape_size structs m.shape) m.shape (member b s k j t m p is mem refl l refl refl) in
        subst (λ (v : ℕ → ℤ). HoldsFitting blocks elems structs v after (b + m.offset + j * shape_size structs m.shape) m.shape)
        (sym values)
        (holds_still (member_value bytes b t) (b + m.offset + j * shape_size structs m.shape) m.shape here (fit.members b s k j t m p is
        mem (used_before b t m.arm values used) l));
  }
