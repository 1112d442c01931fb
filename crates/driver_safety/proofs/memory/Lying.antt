-- What lies in a block is inside: it is reached, and the values there fit.
use Rattle.std.proofs.Common.{◌≡◌, ℕ, ◌+◌, ◌*◌, ◌<◌, ◌≤◌, IsTrue, Bool, true, false, ◌&&◌, List, ℤ, pos, Option, Some, None}
use Rattle.std.proofs.Common.{is_none, option_map, unwrap_or, slice_get, refl, sym, ap, ◌∙◌, subst, arith}
use Rattle.sd_base.specs.Blocks.{Block, block_end}
use Rattle.byte_memory.specs.Tested.{Memory, is_inside}
use Rattle.checked_tree.specs.declared.shapes.Bounds.{Bounds}
use Rattle.checked_tree.specs.declared.shapes.Member.{Member}
use Rattle.checked_tree.specs.declared.shapes.Shape.{Shape}
use Rattle.checked_tree.specs.declared.shapes.Shape.TheVariants as shape
use Rattle.checked_tree.specs.declared.shapes.StructShape.{StructShape}
use Rattle.deputy_types.specs.Fitting.{shape_size, Part, whole, member, is_any, is_open, is_used, elem_bytes, place_value, member_value}
use Rattle.deputy_types.specs.Fitting.{HoldsFitting, FitsBounds}
use Rattle.deputy_types.specs.Table.{Table}
use Rattle.layout_laws.proofs.ZeroFits.{lies_in}
use Rattle.driver_safety.specs.Goodness.{IsBlock}
use Rattle.driver_safety.specs.Reaching.{IsOpenAt}
use Rattle.driver_safety.specs.TypeFacts.{HasTypes}

some_same : {A : Type 0} (a b : A) → ◌≡◌ {A = Option A} (Some a) (Some b) → a ≡ b
some_same a b h = cc

-- an open place is a place
pub any_part : (structs : List StructShape) (at : ℕ) (x : Shape) (a : ℕ) (y : Shape) → Part structs is_open at x a y → Part structs is_any
    at x a y
any_part structs at x a y (whole e f) = whole e f
any_part structs at x a y (member b s k j t m p is mem passes l e f) = member b s k j t m (any_part structs at x b (shape.Struct s) p) is
    mem refl l e f

pub record IsWithin (b : Block) (a n : ℕ) : Type 0 where
  pub from : b.base ≤ a
  pub to : a + n ≤ block_end b

-- an open member is used
both_first : (a b : Bool) → (a && b) ≡ true → a ≡ true
both_first true b h = refl
both_first false b h = absurd cc

none_is : (o : Option (ℕ × ℤ)) → is_none o ≡ true → o ≡ None
none_is None h = refl
none_is (Some x) h = absurd cc

pub open_no_arm : (t : StructShape) (k : ℕ) (m : Member) → is_open t k m ≡ true → m.arm ≡ None
open_no_arm t k m h = none_is m.arm (both_first (is_none m.arm) _ h)

pub used_none : (bytes : List ℕ) (b : ℕ) (t : StructShape) (arm : Option (ℕ × ℤ)) → arm ≡ None → is_used bytes b t arm ≡ true
used_none bytes b t arm e = subst (λ (o : Option (ℕ × ℤ)). is_used bytes b t o ≡ true) (sym e) refl

module _ (t : Table) (types : HasTypes t) (blocks : List Block) (m : Memory) (b : Block) (is : IsBlock t blocks m b) where
  -- a part of an element of a block lies within the block
  pub part_within : (x : Shape) (place a : ℕ) (y : Shape) → slice_get t.elems b.layout.elem ≡ Some x → place < b.count
      → Part t.structs is_any (b.base + place * b.layout.size) x a y → IsWithin b a (shape_size t.structs y)
  part_within x place a y known below p =
      let lies = lies_in t.structs (b.base + place * b.layout.size) x a y types.tidy.nested p in
      let bytes : elem_bytes t.elems t.structs b.layout.elem ≡ shape_size t.structs x =
      ap (λ (o : Option Shape). unwrap_or (option_map (shape_size t.structs) o) 0) known in
      let size = is.size in
      let more : (place + 1) * b.layout.size ≤ b.layout.size * b.count = grind arith in
      let next : (place + 1) * b.layout.size ≡ place * b.layout.size + b.layout.size = grind arith in
      record { from = omega (arith, lies.from); to = omega (arith, lies.to, bytes, size, more, next) }

  pub open_within : (own : Shape) (a : ℕ) → IsOpenAt t.elems t.structs b own a → IsWithin b a (shape_size t.structs own)
  open_within own a o = part_within o.element o.place a own o.element_is o.within (any_part t.structs (b.base + o.place * b.layout.size)
      o.element a own o.part)

  -- what lies within it is inside
  pub inside_block : (a n : ℕ) → IsWithin b a n → IsTrue (is_inside m a n)
  inside_block a n w = is.inside a n w.from w.to

  pub below_block : (a n : ℕ) → IsWithin b a n → a + n ≤ 1048576
  below_block a n w = let to = is.to in omega (arith, w.to, to)

  -- an open pointer fits by some names
  pub open_fits : (n : ℕ) (bs : Bounds) (a : ℕ) → b.layout.nullterm ≡ false → IsOpenAt t.elems t.structs b (shape.Pointer n bs) a
      → (sibling : ℕ → ℤ) × FitsBounds blocks t.elems t.structs sibling n bs (place_value m.bytes a (shape.Pointer n bs))
  open_fits n bs a plain o = by (b.base + o.place * b.layout.size) o.element (shape.Pointer n bs) refl refl refl o.part
    where
      element : o.element ≡ is.shape
      element = some_same o.element is.shape (sym o.element_is ∙ is.shape_is)

      by : (at : ℕ) (x y : Shape) → at ≡ b.base + o.place * b.layout.size → x ≡ o.element → y ≡ shape.Pointer n bs → Part t.structs is_open
          at x a y
          → (sibling : ℕ → ℤ) × FitsBounds blocks t.elems t.structs sibling n bs (place_value m.bytes a (shape.Pointer n bs))
      by at x y e f g (whole p q) =
          let fit = (is.fit o.place plain o.within).whole in
          let here : a ≡ b.base + o.place * b.layout.size = p ∙ e in
          let shape_is : is.shape ≡ shape.Pointer n bs = sym element ∙ sym f ∙ sym q ∙ g in (
            (λ k. pos 0),
            subst (λ (c : ℕ). HoldsFitting blocks t.elems t.structs (λ k. pos 0) m.bytes c (shape.Pointer n bs)) (sym here)
                (subst (λ (s : Shape). HoldsFitting blocks t.elems t.structs (λ k. pos 0) m.bytes (b.base + o.place * b.layout.size) s)
                shape_is fit),
          )
      by at x y e f g (member c s k j u w p known mem passes l q r) =
          let fit = (is.fit o.place plain o.within).members c s k j u w
          (subst (λ (d : ℕ). Part t.structs is_any d is.shape c (shape.Struct s)) e
          (subst (λ (z : Shape). Part t.structs is_any at z c (shape.Struct s)) (f ∙ element) (any_part t.structs at x c (shape.Struct s)
          p)))
          known mem (used_none m.bytes c u w.arm (open_no_arm u k w passes)) l in (
            member_value m.bytes c u,
            subst (λ (d : ℕ). HoldsFitting blocks t.elems t.structs (member_value m.bytes c u) m.bytes d (shape.Pointer n bs)) (sym q)
                (subst (λ (z : Shape). HoldsFitting blocks t.elems t.structs (member_value m.bytes c u) m.bytes
                (c + w.offset + j * shape_size t.structs w.shape) z)
                (sym r ∙ g) fit),
          )

  -- ---- the members of a struct place
  module _ (s a : ℕ) (o : IsOpenAt t.elems t.structs b (shape.Struct s) a) (u : StructShape) (known : slice_get t.structs s ≡ Some u)
      (k : ℕ) (w : Member) (mem : slice_get u.members k ≡ Some w) where
    first_at : a + w.offset ≡ a + w.offset + 0 * shape_size t.structs w.shape
    first_at = omega arith

    struct_part : Part t.structs is_any (b.base + o.place * b.layout.size) o.element a (shape.Struct s)
    struct_part = any_part t.structs (b.base + o.place * b.layout.size) o.element a (shape.Struct s) o.part

    pub member_within : 0 < w.count → IsWithin b (a + w.offset) (shape_size t.structs w.shape)
    member_within some = part_within o.element o.place (a + w.offset) w.shape o.element_is o.within (member a s k 0 u w struct_part known
        mem refl some first_at refl)

    -- a member that is open, as a place
    pub member_open : is_open u k w ≡ true → (j : ℕ) → j < w.count → IsOpenAt t.elems t.structs b w.shape (a + w.offset + j * shape_size
        t.structs w.shape)
    member_open is_free j l = record {
      element = o.element;
      element_is = o.element_is;
      place = o.place;
      within = o.within;
      part = member a s k j u w o.part known mem is_free l refl refl;
    }

    pub member_fits : b.layout.nullterm ≡ false → 0 < w.count → is_used m.bytes a u w.arm ≡ true
        → HoldsFitting blocks t.elems t.structs (member_value m.bytes a u) m.bytes (a + w.offset) w.shape
    member_fits plain some used =
        let element : o.element ≡ is.shape = some_same o.element is.shape (sym o.element_is ∙ is.shape_is) in
        subst (λ (d : ℕ). HoldsFitting blocks t.elems t.structs (member_value m.bytes a u) m.bytes d w.shape) (sym first_at)
        ((is.fit o.place plain o.within).members a s k 0 u w
        (subst (λ (z : Shape). Part t.structs is_any (b.base + o.place * b.layout.size) z a (shape.Struct s)) element struct_part) known
        mem used some)
