-- A write to one element of a granted block leaves a good memory, where that element fits then, and the end of a text stays.
use Rattle.std.proofs.Common.{◌≡◌, ◌⊎◌, inl, inr, ℕ, zero, suc, ◌+◌, ◌-◌, ◌*◌, ◌%◌, ◌/◌, ◌≤◌, ◌<◌, ◌==◌, nat_lt, Bool}
use Rattle.std.proofs.Common.{true, false, List, ◌++◌, All, length, take, drop, Option, Some, option_map, unwrap_or, slice_get}
use Rattle.std.proofs.Common.{slice_index_or, refl, sym, ap, ◌∙◌, subst, arith}
use Rattle.std.specs.List.{Contains}
use Rattle.std.proofs.lemmas.Bool.Decides.{Decides-eqb, nat_tests}
use Rattle.std.proofs.lemmas.List.Elements.{All-nil, All-cons, All-append, All-take, All-drop}
use Rattle.std.proofs.lemmas.Nat.{mul-le}
use Rattle.sd_base.specs.Blocks.{Block, block_end}
use Rattle.sd_base.specs.declared.history.Layout.{Layout}
use Rattle.byte_memory.specs.Bytes.{low_bytes, overwritten}
use Rattle.byte_memory.specs.Tested.{Memory}
use Rattle.byte_memory.proofs.Words.{length-overwritten}
use Rattle.checked_tree.specs.declared.shapes.Member.{Member}
use Rattle.checked_tree.specs.declared.shapes.Shape.{Shape}
use Rattle.checked_tree.specs.declared.shapes.StructShape.{StructShape}
use Rattle.deputy_types.specs.Fitting.{shape_size, BytesFit, elem_bytes}
use Rattle.deputy_types.specs.Table.{Table}
use Rattle.driver_safety.specs.Goodness.{IsBlock, IsMemory, IsSameBlock, AreApart}
use Rattle.driver_safety.specs.TypeFacts.{HasTypes}
use Rattle.driver_safety.proofs.memory.Outside.{other_byte, outside_keeps}

some_same : {A : Type 0} (a b : A) → ◌≡◌ {A = Option A} (Some a) (Some b) → a ≡ b
some_same a b h = cc

-- bytes that are written are bytes
pub low_small : (n v : ℕ) → All (λ b. b < 256) (low_bytes n v)
unfolding low_bytes
low_small zero v = All-nil (λ b. b < 256)
low_small (suc n) v = All-cons (λ b. b < 256) (v % 256) (low_bytes n (v / 256)) (grind arith) (low_small n (v / 256))

pub written_small : (bytes new : List ℕ) (to : ℕ) → All (λ b. b < 256) bytes → All (λ b. b < 256) new
    → All (λ b. b < 256) (overwritten bytes to new)
unfolding overwritten
written_small bytes new to all few = All-append (λ b. b < 256) (take to bytes ++ new) (drop (to + length new) bytes)
    (All-append (λ b. b < 256) (take to bytes) new (All-take (λ b. b < 256) to bytes all) few) (All-drop (λ b. b < 256) (to + length new)
    bytes all)

pub all_some : (t : Table) → HasTypes t → (s k : ℕ) (x : StructShape) (m : Member) → slice_get t.structs s ≡ Some x → slice_get x.members k
    ≡ Some m → 0 < m.count
all_some t types s k x m is mem = ((types.structs s x is).members k m mem).some

-- the element with number i of a block
abbrev pub element_from : Block → ℕ → ℕ
element_from b i = b.base + i * b.layout.size

module _ (t : Table) (types : HasTypes t) (blocks : List Block) (m : Memory) (good : IsMemory t blocks m) (w : Block)
    (granted : Contains blocks w)
    (to : ℕ) (new : List ℕ) (few : All (λ b. b < 256) new) (from_in : w.base ≤ to) (to_in : to + length new ≤ block_end w) where
  abbrev pub next : Memory
  next = record m { bytes = overwritten m.bytes to new }

  abbrev pub own_block : IsBlock t blocks m w
  own_block = good.each w granted

  within : to + length new ≤ length m.bytes
  within = let there = own_block.there in omega (arith, there, to_in)

  long : length (overwritten m.bytes to new) ≡ length m.bytes
  long = length-overwritten m.bytes new to within

  -- the element of a block lies in it
  element_in : (b : Block) (is : IsBlock t blocks m b) (i : ℕ) → i < b.count → element_from b i + shape_size t.structs is.shape ≤ block_end
      b
  element_in b is i l =
      let bytes : elem_bytes t.elems t.structs b.layout.elem ≡ shape_size t.structs is.shape =
      ap (λ (o : Option Shape). unwrap_or (option_map (shape_size t.structs) o) 0) is.shape_is in
      let size = is.size in
      let more : (i + 1) * b.layout.size ≤ b.layout.size * b.count = grind arith in
      let next' : (i + 1) * b.layout.size ≡ i * b.layout.size + b.layout.size = grind arith in
      omega (arith, bytes, size, more, next')

  -- what is not written fits as before
  kept : (b : Block) (is : IsBlock t blocks m b) (i : ℕ) → b.layout.nullterm ≡ false → i < b.count
      → (element_from b i + shape_size t.structs is.shape ≤ to) ⊎ (to + length new ≤ element_from b i)
      → BytesFit blocks t.elems t.structs (overwritten m.bytes to new) (element_from b i) is.shape
  kept b is i plain l apart =
      let there = is.there in
      let inside = element_in b is i l in
      outside_keeps blocks t.elems t.structs types.tidy.nested (all_some t types) m.bytes new to (element_from b i) is.shape within
      (omega (arith, inside, there)) apart (is.fit i plain l)

  -- an element of another block
  elsewhere : (b : Block) (is : IsBlock t blocks m b) (i : ℕ) → b.layout.nullterm ≡ false → i < b.count → (block_end b ≤ w.base) ⊎
      (block_end w ≤ b.base)
      → BytesFit blocks t.elems t.structs (overwritten m.bytes to new) (element_from b i) is.shape
  elsewhere b is i plain l (inl e) = let inside = element_in b is i l in kept b is i plain l (inl (omega (arith, inside, e, from_in)))
  elsewhere b is i plain l (inr e) = kept b is i plain l (inr (omega (arith, to_in, e)))

  -- a text has a last byte, and that of another block is not written
  some_byte : (b : Block) (is : IsBlock t blocks m b) → b.layout.nullterm ≡ true → b.base < block_end b
  some_byte b is text =
      let known = is.text text in
      let count = known.1 in
      let same : b.base + 1 * b.count ≡ block_end b = ap (λ (n : ℕ). b.base + n * b.count) (sym known.0) in
      omega (arith, count, same)

  other_end : (b : Block) (is : IsBlock t blocks m b) → b.base < block_end b → (block_end b ≤ w.base) ⊎ (block_end w ≤ b.base)
      → (block_end b - 1 + 1 ≤ to) ⊎ (to + length new ≤ block_end b - 1)
  other_end b is some (inl e) = inl (omega (arith, e, some, from_in))
  other_end b is some (inr e) = inr (omega (arith, e, to_in, some))

  ends_still : (b : Block) (is : IsBlock t blocks m b) → b.layout.nullterm ≡ true → (block_end b ≤ w.base) ⊎ (block_end w ≤ b.base)
      → slice_index_or (overwritten m.bytes to new) (block_end b - 1) 0 ≡ 0
  ends_still b is text apart =
      let some = some_byte b is text in
      let there = is.there in
      other_byte m.bytes new to (block_end b - 1) within (omega (arith, some, there)) (other_end b is some apart) ∙ is.ends text

  -- what is expected of the written block
  pub record KeepsBlock : Type 0 where
    pub fit : (i : ℕ) → w.layout.nullterm ≡ false → i < w.count → BytesFit blocks t.elems t.structs (overwritten m.bytes to new)
        (element_from w i) own_block.shape
    pub ends : w.layout.nullterm ≡ true → slice_index_or (overwritten m.bytes to new) (block_end w - 1) 0 ≡ 0

  -- where one element is written, the others fit as before
  pub one_element : (j : ℕ) → j < w.count → element_from w j ≤ to → to + length new ≤ element_from w j + shape_size t.structs
      own_block.shape
      → BytesFit blocks t.elems t.structs (overwritten m.bytes to new) (element_from w j) own_block.shape → (i : ℕ) → w.layout.nullterm ≡
      false → i < w.count
      → BytesFit blocks t.elems t.structs (overwritten m.bytes to new) (element_from w i) own_block.shape
  one_element j l low high fits i plain k = by (i == j) (nat_lt i j) refl refl
    where
      size : w.layout.size ≡ shape_size t.structs own_block.shape
      size = own_block.size ∙ ap (λ (o : Option Shape). unwrap_or (option_map (shape_size t.structs) o) 0) own_block.shape_is

      next_to : (a b n : ℕ) → a < b → a * n + n ≤ b * n
      next_to a b n less = let more : (a + 1) * n ≤ b * n = mul-le (a + 1) n b n (omega (arith, less)) (omega arith) in let same : (a + 1)
          * n ≡ a * n + n = grind arith in omega (arith, more, same)

      by : (x y : Bool) → (i == j) ≡ x → nat_lt i j ≡ y → BytesFit blocks t.elems t.structs (overwritten m.bytes to new) (element_from w i)
          own_block.shape
      by true y e g = subst (λ (n : ℕ). BytesFit blocks t.elems t.structs (overwritten m.bytes to new) (element_from w n) own_block.shape)
          (sym ((Decides-eqb i j).0 e)) fits
      by false true e g = let less : i < j = grind arith in let far = next_to i j w.layout.size less in kept w own_block i plain k
          (inl (omega (arith, far, size, low)))
      by false false e g = let less : j < i = grind (arith, nat_tests) in let far = next_to j i w.layout.size less in kept w own_block i
          plain k (inr (omega (arith, far, size, high)))

  module _ (keeps : KeepsBlock) where
    -- a block that is the written one, whatever it is used for
    same_fit : (b : Block) (is : IsBlock t blocks m b) → IsSameBlock b w → (i : ℕ) → b.layout.nullterm ≡ false → i < b.count
        → BytesFit blocks t.elems t.structs (overwritten m.bytes to new) (element_from b i) is.shape
    same_fit b is same i plain l =
        let layout = same.layout in
        let base = same.base in
        let count = same.count in
        let shape : own_block.shape ≡ is.shape = some_same own_block.shape is.shape (sym own_block.shape_is
        ∙ ap (λ (n : ℕ). slice_get t.elems n) (ap (λ (y : Layout). y.elem) (sym layout)) ∙ is.shape_is) in
        let at : element_from w i ≡ element_from b i = ap (λ (n : ℕ). n + i * w.layout.size) (sym base)
        ∙ ap (λ (y : Layout). b.base + i * y.size) (sym layout) in
        subst (λ (n : ℕ). BytesFit blocks t.elems t.structs (overwritten m.bytes to new) n is.shape) at
        (subst (λ (y : Shape). BytesFit blocks t.elems t.structs (overwritten m.bytes to new) (element_from w i) y) shape
        (keeps.fit i (ap (λ (y : Layout). y.nullterm) (sym layout) ∙ plain) (omega (arith, l, count))))

    fit_next : (b : Block) (is : IsBlock t blocks m b) → AreApart b w → (i : ℕ) → b.layout.nullterm ≡ false → i < b.count
        → BytesFit blocks t.elems t.structs (overwritten m.bytes to new) (element_from b i) is.shape
    fit_next b is (inl same) i plain l = same_fit b is same i plain l
    fit_next b is (inr apart) i plain l = elsewhere b is i plain l apart

    ends_next : (b : Block) (is : IsBlock t blocks m b) → AreApart b w → b.layout.nullterm ≡ true
        → slice_index_or (overwritten m.bytes to new) (block_end b - 1) 0 ≡ 0
    ends_next b is (inr apart) text = ends_still b is text apart
    ends_next b is (inl same) text =
        let end : block_end w ≡ block_end b = ap (λ (n : ℕ). n + w.layout.size * w.count) (sym same.base)
        ∙ ap (λ (y : Layout). b.base + y.size * w.count) (sym same.layout)
        ∙ ap (λ (n : ℕ). b.base + b.layout.size * n) (sym same.count) in
        subst (λ (n : ℕ). slice_index_or (overwritten m.bytes to new) (n - 1) 0 ≡ 0) end
        (keeps.ends (ap (λ (y : Layout). y.nullterm) (sym same.layout) ∙ text))

    block_next : (b : Block) → Contains blocks b → IsBlock t blocks next b
    block_next b g =
        let is = good.each b g in
        let there = is.there in
        record {
          shape = is.shape;
          shape_is = is.shape_is;
          size = is.size;
          from = is.from;
          to = is.to;
          inside = is.inside;
          there = omega (arith, there, long);
          fit = λ i plain l. fit_next b is (good.apart b w g granted) i plain l;
          text = is.text;
          ends = ends_next b is (good.apart b w g granted);
        }

    pub memory_next : IsMemory t blocks next
    memory_next = record { bytes = written_small m.bytes new to good.bytes few; each = block_next; apart = good.apart; image = good.image }
