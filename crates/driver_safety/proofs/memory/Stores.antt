-- A write to one member of a struct place leaves every other struct place of its element as it was.
use Rattle.std.proofs.Common.{◌≡◌, ◌⊎◌, inl, inr, ℕ, ◌+◌, ◌*◌, ◌≤◌, ◌<◌, ◌==◌, Bool, true, false, List, length, ℤ, pos}
use Rattle.std.proofs.Common.{Option, Some, None, option_map, unwrap_or, slice_get, refl, sym, ap, ◌∙◌, subst, true≢false, arith}
use Rattle.std.specs.Ordering.{int_eq}
use Rattle.std.proofs.lemmas.Bool.Decides.{Decides-eqb}
use Rattle.sd_base.specs.Blocks.{Block}
use Rattle.byte_memory.specs.Bytes.{little_endian, overwritten}
use Rattle.byte_memory.proofs.Addresses.{other_loads}
use Rattle.checked_tree.specs.declared.shapes.Member.{Member}
use Rattle.checked_tree.specs.declared.shapes.Shape.{Shape}
use Rattle.checked_tree.specs.declared.shapes.Shape.TheVariants as shape
use Rattle.checked_tree.specs.declared.shapes.StructShape.{StructShape}
use Rattle.checked_tree.specs.Numbers.{converted, scalar_size}
use Rattle.layout_laws.proofs.ZeroFits.{LiesIn}
use Rattle.deputy_types.specs.Fitting.{shape_size, Part, is_any, FitsBounds, HoldsFitting, BytesFit, place_value, member_value, is_used}
use Rattle.driver_safety.specs.StructPlaces.{IsLeaf, AreTidy}
use Rattle.driver_safety.proofs.memory.Apart.{Below, below, IsElement, address_of, bytes_of, Related, same, first, second, union, related}
use Rattle.driver_safety.proofs.memory.Apart.{of_siblings, within, holder}

fun_ext : {A B : Type 0} (f g : A → B) → ((a : A) → f a ≡ g a) → f ≡ g
fun_ext f g h = λ i a. h a i

not_none : {A : Type 0} (a : A) → ◌≡◌ {A = Option A} None (Some a) → ⊥
not_none a h = absurd cc

-- the number at a place that a write does not reach
pub unreached : (bytes new : List ℕ) (to a : ℕ) (y : Shape) (structs : List StructShape) → to + length new ≤ length bytes
    → a + shape_size structs y ≤ length bytes
    → (a + shape_size structs y ≤ to) ⊎ (to + length new ≤ a) → place_value (overwritten bytes to new) a y ≡ place_value bytes a y
unreached bytes new to a (shape.Int s) structs l m apart = ap (λ (w : List ℕ). converted s (pos (little_endian w)))
    (other_loads bytes (record { at = to; bytes = new }) a (scalar_size s) l m apart)
unreached bytes new to a (shape.Pointer elem b) structs l m apart = ap (λ (w : List ℕ). pos (little_endian w))
    (other_loads bytes (record { at = to; bytes = new }) a 4 l m apart)
unreached bytes new to a (shape.Struct s) structs l m apart = refl
unreached bytes new to a shape.Address structs l m apart = ap (λ (w : List ℕ). pos (little_endian w))
    (other_loads bytes (record { at = to; bytes = new }) a 4 l m apart)

-- the members of one struct place hold what fits, by its own names
pub record StructFits (blocks : List Block) (elems : List Shape) (structs : List StructShape) (bytes : List ℕ) (b s : ℕ) : Type 0 where
  pub each : (k j : ℕ) (t : StructShape) (m : Member) → slice_get structs s ≡ Some t → slice_get t.members k ≡ Some m
      → is_used bytes b t m.arm ≡ true → j < m.count
      → HoldsFitting blocks elems structs (member_value bytes b t) bytes (b + m.offset + j * shape_size structs m.shape) m.shape

module _ (blocks : List Block) (elems : List Shape) (structs : List StructShape) (tidy : AreTidy structs)
    (some : (s k : ℕ) (t : StructShape) (m : Member) → slice_get structs s ≡ Some t → slice_get t.members k ≡ Some m → 0 < m.count)
    (bytes new : List ℕ) (at : ℕ) (x : Shape) (inside : at + shape_size structs x ≤ length bytes)
    (b0 s0 k0 j0 : ℕ) (e0 : IsElement structs s0 k0 j0) (leaf0 : IsLeaf e0.member.shape) (here0 : Below structs b0 (shape.Struct s0) at x)
    (fills : length new ≡ bytes_of e0) where
  abbrev after : List ℕ
  after = overwritten bytes (address_of b0 e0) new

  written_in : LiesIn at (shape_size structs x) (address_of b0 e0) (bytes_of e0)
  written_in = within structs tidy b0 s0 k0 j0 e0 at x here0

  -- another struct place
  abbrev IsOther : ℕ → ℕ → Type 0
  IsOther b s = b0 ≡ b → s0 ≡ s → ⊥

  elsewhere : (b s k j : ℕ) (e : IsElement structs s k j) → IsLeaf e.member.shape → Below structs b (shape.Struct s) at x → IsOther b s
      → place_value after (address_of b e) e.member.shape ≡ place_value bytes (address_of b e) e.member.shape
  elsewhere b s k j e leaf p other =
      let i = within structs tidy b s k j e at x p in
      by i (related structs tidy b0 s0 k0 j0 e0 b s k j e leaf0 leaf at x here0 p)
    where
      by : LiesIn at (shape_size structs x) (address_of b e) (bytes_of e) → Related structs b0 s0 k0 j0 e0 b s k j e
          → place_value after (address_of b e) e.member.shape ≡ place_value bytes (address_of b e) e.member.shape
      by i (same p q r t) = absurd (other p q)
      by i (first l) = unreached bytes new (address_of b0 e0) (address_of b e) e.member.shape structs
          (omega (arith, written_in.to, inside, fills)) (omega (arith, i.to, inside)) (inr (omega (arith, l, fills)))
      by i (second l) = unreached bytes new (address_of b0 e0) (address_of b e) e.member.shape structs
          (omega (arith, written_in.to, inside, fills)) (omega (arith, i.to, inside)) (inl l)
      by i (union p q u) = absurd (other p q)

  plain_or : (y : Shape) (a : ℕ) → (IsLeaf y → place_value after a y ≡ place_value bytes a y) → place_value after a y ≡ place_value bytes a
      y
  plain_or (shape.Struct s) a h = refl
  plain_or (shape.Int s) a h = h tt
  plain_or (shape.Pointer elem b) a h = h tt
  plain_or shape.Address a h = h tt

  -- the names of another struct place have their old values
  value_stays : (b s k : ℕ) (t : StructShape) → slice_get structs s ≡ Some t → Below structs b (shape.Struct s) at x → IsOther b s
      → member_value after b t k ≡ member_value bytes b t k
  value_stays b s k t is p other = by (slice_get t.members k) refl
    where
      by : (o : Option Member) → slice_get t.members k ≡ o → unwrap_or (option_map (λ m. place_value after (b + m.offset) m.shape) o)
          (pos 0) ≡ unwrap_or (option_map (λ m. place_value bytes (b + m.offset) m.shape) o) (pos 0)
      by None h = refl
      by (Some m) h = plain_or m.shape (b + m.offset) (λ leaf.
          let e : IsElement structs s k 0 = record {
            structure = t;
            structure_is = is;
            member = m;
            member_is = h;
            there = some s k t m is h;
          } in
          let a : b + m.offset + 0 * shape_size structs m.shape ≡ b + m.offset = omega arith in
          subst (λ (n : ℕ). place_value after n m.shape ≡ place_value bytes n m.shape) a (elsewhere b s k 0 e leaf p other))

  values_stay : (b s : ℕ) (t : StructShape) → slice_get structs s ≡ Some t → Below structs b (shape.Struct s) at x → IsOther b s
      → member_value after b t ≡ member_value bytes b t
  values_stay b s t is p other = fun_ext (member_value after b t) (member_value bytes b t) (λ k. value_stays b s k t is p other)

  used_before : (b : ℕ) (t : StructShape) (arm : Option (ℕ × ℤ)) → member_value after b t ≡ member_value bytes b t → is_used after b t arm
      ≡ true → is_used bytes b t arm ≡ true
  used_before b t None e h = h
  used_before b t (Some arm) e h = subst (λ (v : ℕ → ℤ). int_eq (v (unwrap_or (option_map (λ u. u.tag) (slice_get t.unions arm.0)) 0))
      arm.1 ≡ true) e h

  -- a member of another struct place holds what it held
  holds_still : (sibling : ℕ → ℤ) (a : ℕ) (y : Shape) → place_value after a y ≡ place_value bytes a y → HoldsFitting blocks elems structs
      sibling bytes a y → HoldsFitting blocks elems structs sibling after a y
  holds_still sibling a (shape.Pointer elem b) e h = subst (λ (v : ℤ). FitsBounds blocks elems structs sibling elem b v) (sym e) h
  holds_still sibling a (shape.Int s) e h = tt
  holds_still sibling a (shape.Struct s) e h = tt
  holds_still sibling a shape.Address e h = tt

  other_fits : (b s k j : ℕ) (t : StructShape) (m : Member) → BytesFit blocks elems structs bytes at x → Part structs is_any at x b
      (shape.Struct s) → slice_get structs s ≡ Some t → slice_get t.members k ≡ Some m
      → is_used after b t m.arm ≡ true → j < m.count → IsOther b s → HoldsFitting blocks elems structs (member_value after b t) after
      (b + m.offset + j * shape_size structs m.shape) m.shape
  other_fits b s k j t m fit p is mem used l other =
      let lies = below structs at x b (shape.Struct s) p in
      let values = values_stay b s t is lies other in
      let e : IsElement structs s k j = record { structure = t; structure_is = is; member = m; member_is = mem; there = l } in
      subst (λ (v : ℕ → ℤ). HoldsFitting blocks elems structs v after (b + m.offset + j * shape_size structs m.shape) m.shape) (sym values)
      (holds_still (member_value bytes b t) (address_of b e) m.shape (plain_or m.shape (address_of b e) (λ leaf. elsewhere b s k j e leaf
      lies other))
      (fit.members b s k j t m p is mem (used_before b t m.arm values used) l))

  whole_fits : (y : Shape) → y ≡ x → HoldsFitting blocks elems structs (λ k. pos 0) after at y
  whole_fits (shape.Struct s) e = tt
  whole_fits (shape.Int s) e = tt
  whole_fits (shape.Pointer elem b) e = absurd (holder structs tidy b0 s0 at x here0 (subst IsLeaf e tt))
  whole_fits shape.Address e = tt

  own_fits : (b : ℕ) → b0 ≡ b → (s : ℕ) → s0 ≡ s → StructFits blocks elems structs after b0 s0 → StructFits blocks elems structs after b s
  own_fits b p s q own = subst (λ (c : ℕ). StructFits blocks elems structs after c s) p (subst (λ (n : ℕ). StructFits blocks elems structs
      after b0 n) q own)

  not_same : (m n : ℕ) → (m == n) ≡ false → m ≡ n → ⊥
  not_same m n h e = true≢false (sym ((Decides-eqb m n).1 e) ∙ h)

  each_fits : (y z : Bool) (b s k j : ℕ) (t : StructShape) (m : Member) → (b0 == b) ≡ y → (s0 == s) ≡ z → BytesFit blocks elems structs
      bytes at x → StructFits blocks elems structs after b0 s0
      → Part structs is_any at x b (shape.Struct s) → slice_get structs s ≡ Some t → slice_get t.members k ≡ Some m
      → is_used after b t m.arm ≡ true → j < m.count → HoldsFitting blocks elems structs (member_value after b t) after
      (b + m.offset + j * shape_size structs m.shape) m.shape
  each_fits true true b s k j t m y z fit own p is mem used l = (own_fits b ((Decides-eqb b0 b).0 y) s ((Decides-eqb s0 s).0 z) own).each k
      j t m is mem used l
  each_fits false z b s k j t m y w fit own p is mem used l = other_fits b s k j t m fit p is mem used l (λ e f. not_same b0 b y e)
  each_fits true false b s k j t m y z fit own p is mem used l = other_fits b s k j t m fit p is mem used l (λ e f. not_same s0 s z f)

  -- where the members of the written struct place fit by its new values, everything does
  pub write_keeps : BytesFit blocks elems structs bytes at x → StructFits blocks elems structs after b0 s0 → BytesFit blocks elems structs
      after at x
  write_keeps fit own = record {
    whole = whole_fits x refl;
    members = λ b s k j t m p is mem used l. each_fits (b0 == b) (s0 == s) b s k j t m refl refl fit own p is mem used l;
  }

  -- the other members of the written struct place keep their values, where the written one is no arm
  beside_stays : (k : ℕ) (e : IsElement structs s0 k 0) → e0.member.arm ≡ None → (k0 ≡ k → ⊥) → IsLeaf e.member.shape
      → Related structs b0 s0 k0 j0 e0 b0 s0 k 0 e
      → place_value after (address_of b0 e) e.member.shape ≡ place_value bytes (address_of b0 e) e.member.shape
  beside_stays k e plain other leaf r = by (within structs tidy b0 s0 k 0 e at x here0) r
    where
      by : LiesIn at (shape_size structs x) (address_of b0 e) (bytes_of e) → Related structs b0 s0 k0 j0 e0 b0 s0 k 0 e
          → place_value after (address_of b0 e) e.member.shape ≡ place_value bytes (address_of b0 e) e.member.shape
      by i (same p q r t) = absurd (other r)
      by i (first l) = unreached bytes new (address_of b0 e0) (address_of b0 e) e.member.shape structs
          (omega (arith, written_in.to, inside, fills)) (omega (arith, i.to, inside)) (inr (omega (arith, l, fills)))
      by i (second l) = unreached bytes new (address_of b0 e0) (address_of b0 e) e.member.shape structs
          (omega (arith, written_in.to, inside, fills)) (omega (arith, i.to, inside)) (inl l)
      by i (union p q u) = absurd (not_none (u.0, u.1) (sym plain ∙ u.3))

  pub own_stays : (k : ℕ) → e0.member.arm ≡ None → (k0 ≡ k → ⊥) → member_value after b0 e0.structure k ≡ member_value bytes b0 e0.structure
      k
  own_stays k plain other = by (slice_get e0.structure.members k) refl
    where
      by : (o : Option Member) → slice_get e0.structure.members k ≡ o
          → unwrap_or (option_map (λ m. place_value after (b0 + m.offset) m.shape) o) (pos 0) ≡ unwrap_or
          (option_map (λ m. place_value bytes (b0 + m.offset) m.shape) o) (pos 0)
      by None h = refl
      by (Some m) h = plain_or m.shape (b0 + m.offset) (λ leaf.
          let e : IsElement structs s0 k 0 = record {
            structure = e0.structure;
            structure_is = e0.structure_is;
            member = m;
            member_is = h;
            there = some s0 k e0.structure m e0.structure_is h;
          } in
          let a : b0 + m.offset + 0 * shape_size structs m.shape ≡ b0 + m.offset = omega arith in
          subst (λ (n : ℕ). place_value after n m.shape ≡ place_value bytes n m.shape) a (beside_stays k e plain other leaf
          (of_siblings structs tidy b0 s0 k0 j0 k 0 e0 e)))
