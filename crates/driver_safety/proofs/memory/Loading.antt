-- The memory behind a load is good: each block of the image lies where it was laid, and holds its first values.
use Rattle.std.proofs.Common.{◌≡◌, ◌⊎◌, inl, inr, ℕ, zero, suc, ◌+◌, ◌-◌, ◌*◌, ◌≤◌, ◌<◌, nat_lt, Bool, true, false, List, [], ◌∷◌}
use Rattle.std.proofs.Common.{◌++◌, length, All, Option, Some, option_map, unwrap_or, Ok, slice_get, slice_index_or, Contains, refl}
use Rattle.std.proofs.Common.{sym, ap, ◌∙◌, subst, arith}
use Rattle.std.proofs.lemmas.Bool.{ltb-true, ltb-false}
use Rattle.std.proofs.lemmas.List.Elements.{All-head, All-tail}
use Rattle.std.proofs.lemmas.Option.{slice_get_within}
use Rattle.sd_base.specs.Blocks.{Block, block_end}
use Rattle.sd_base.specs.declared.history.Layout.{Layout}
use Rattle.byte_memory.specs.Tested.{Memory}
use Rattle.c_tree.specs.declared.items.GlobalItem.{GlobalItem}
use Rattle.c_tree.specs.declared.items.Unit.{Unit as TextUnit}
use Rattle.checked_tree.specs.declared.shapes.Scalar.TheVariants.{U8}
use Rattle.checked_tree.specs.declared.shapes.Shape.{Shape}
use Rattle.checked_tree.specs.declared.shapes.Shape.TheVariants as shape
use Rattle.checked_tree.specs.declared.units.ImageBlock.{ImageBlock}
use Rattle.deputy_types.specs.Fitting.{BytesFit, elem_bytes, shape_size}
use Rattle.deputy_types.specs.Table.{Table, elem}
use Rattle.deputy_types.specs.Types.{element_number, type_key}
use Rattle.deputy_types.specs.UnitLayout.{layout, elem_shape}
use Rattle.deputy_types.proofs.Inversions.{some_then}
use Rattle.layout_laws.specs.LoadImage.{global_items, text_strings, AreApart, IsWithinImage, IsBlockOfGlobal, IsBlockOfString, HasImage}
use Rattle.layout_laws.proofs.ElementSizes.{numbered, elem_at}
use Rattle.layout_laws.proofs.ImageFits.{image_fits}
use Rattle.layout_laws.proofs.ImageLaws.{has_image}
use Rattle.layout_laws.proofs.StructsDeclared.{layouts_of}
use Rattle.driver_safety.specs.Goodness.{IsBlock, IsSameBlock, IsMemory}
use Rattle.driver_safety.specs.Goodness.{AreApart as LieApart}
use Rattle.driver_safety.specs.LoadLaw.{IsLoadedBlock, IsLoaded, EachLoadIsGood}
use Rattle.driver_safety.proofs.declarations.DeclaredShapes.{some_same}

-- ---- lists
all_at : {X : Type 0} (P : X → Type 0) (xs : List X) (k : ℕ) (x : X) → All P xs → slice_get xs k ≡ Some x → P x
all_at P [] k x a g = absurd cc
all_at P (y ∷ xs) zero x a g = subst P (some_same y x g) (All-head P y xs a)
all_at P (y ∷ xs) (suc k) x a g = all_at P xs k x (All-tail P y xs a) g

apart_at : (xs : List ImageBlock) (k j : ℕ) (x y : ImageBlock) → AreApart xs → k < j → slice_get xs k ≡ Some x → slice_get xs j ≡ Some y
    → x.base + x.size ≤ y.base
apart_at [] k j x y a l g h = absurd cc
apart_at (z ∷ xs) k zero x y a l g h = absurd (omega (arith, l))
apart_at (z ∷ xs) zero (suc j) x y a l g h =
    subst (λ (w : ImageBlock). w.base + w.size ≤ y.base) (some_same z x g) (all_at
    (λ (c : ImageBlock). z.base + z.size ≤ c.base) xs j y a.0 h)
apart_at (z ∷ xs) (suc k) (suc j) x y a l g h = apart_at xs k j x y a.1 (omega (arith, l)) g h

pub some_at : {X : Type 0} (xs : List X) (k : ℕ) → k < length xs → (x : X) × (slice_get xs k ≡ Some x)
some_at [] k l = absurd (omega (arith, l))
some_at (x ∷ xs) zero l = (x, refl)
some_at (x ∷ xs) (suc k) l = some_at xs k (omega (arith, l))

last_is : (text : List ℕ) → slice_index_or (text ++ 0 ∷ []) (length text) 0 ≡ 0
last_is [] = refl
last_is (x ∷ text) = last_is text

layout_same : (a b : Layout) → a.elem ≡ b.elem → a.size ≡ b.size → a.nullterm ≡ b.nullterm → a ≡ b
layout_same a b p q r = λ i. record { size = q i; elem = p i; nullterm = r i }

module _ (u : TextUnit) (t : Table) (h : layout u ≡ Ok t) where
  pub image : HasImage t (global_items u.items) (text_strings u)
  image = has_image u t h

  -- a block of the image is that of a global or of a string
  abbrev pub Kind : ImageBlock → Type 0
  Kind i = ((g : GlobalItem) × IsBlockOfGlobal t g i) ⊎ ((text : List ℕ) × IsBlockOfString t text i)

  pub kind : (k : ℕ) (i : ImageBlock) → slice_get t.image k ≡ Some i → Kind i
  kind k i at = by (nat_lt k (length (global_items u.items))) refl
    where
      by : (b : Bool) → nat_lt k (length (global_items u.items)) ≡ b → Kind i
      by true e =
          let g = some_at (global_items u.items) k (ltb-true k (length (global_items u.items)) e) in
          let b = image.global k g.0 g.1 in
          inl (g.0, subst (IsBlockOfGlobal t g.0) (some_same b.0 i (sym b.1 ∙ at)) b.2)
      by false e =
          let n : ℕ = length (global_items u.items) in
          let above = ltb-false k n e in
          let below = slice_get_within t.image k i at in
          let many = image.number in
          let s = some_at (text_strings u) (k - n) (omega (arith, above, below, many)) in
          let b = image.string (k - n) s.0 s.1 in
          let place : n + (k - n) ≡ k = omega (arith, above) in
          inr (s.0, subst (IsBlockOfString t s.0) (some_same b.0 i (sym b.1 ∙ (ap (slice_get t.image) place ∙ at))) b.2)

  -- its element's shape, and its bytes
  pub record HasKind (i : ImageBlock) : Type 0 where
    pub shape : Shape
    pub shape_is : slice_get t.elems i.elem ≡ Some shape
    pub size : i.size ≡ i.count * elem_bytes t.elems t.structs i.elem
    pub text : i.nullterm ≡ true → (elem_bytes t.elems t.structs i.elem ≡ 1) × (0 < i.count) × (slice_index_or i.bytes (i.size - 1) 0 ≡ 0)

  global_kind : (g : GlobalItem) (i : ImageBlock) → IsBlockOfGlobal t g i → HasKind i
  unfolding elem
  global_kind g i b =
      let key = some_then (type_key t.types g.declaration.type_name) (λ key. element_number t.types.elements key) i.elem b.elem in
      record {
        shape = elem_shape t.types.elements t.extents key.0;
        shape_is = elem_at u t (layouts_of u t h) i.elem key.0 (numbered t.types.elements key.0 i.elem key.2);
        size = b.size;
        text = λ e. absurd (no_text (sym e ∙ b.no_text));
      }
    where
      no_text : true ≡ false → ⊥
      no_text e = absurd cc

  string_kind : (text : List ℕ) (i : ImageBlock) → IsBlockOfString t text i → HasKind i
  string_kind text i b =
      let one : elem_bytes t.elems t.structs i.elem
      ≡ 1 = ap (λ (o : Option Shape). unwrap_or (option_map (shape_size t.structs) o) 0) b.elem in
      let size = b.size in
      let count = b.count in
      record {
        shape = shape.Int U8;
        shape_is = b.elem;
        size = omega (arith, size, count) ∙ ap (λ (n : ℕ). i.count * n) (sym one);
        text = λ e. (
          one,
          omega (arith, count),
          ap (λ (l : List ℕ). slice_index_or l (i.size - 1) 0) b.bytes ∙ (ap
              (λ (n : ℕ). slice_index_or (text ++ 0 ∷ []) n 0) (less i.size (length text) size) ∙ last_is text),
        );
      }
    where
      less : (n m : ℕ) → n ≡ m + 1 → n - 1 ≡ m
      less n m e = omega (arith, e)

  pub has_kind : (i : ImageBlock) → Kind i → HasKind i
  has_kind i (inl g) = global_kind g.0 i g.1
  has_kind i (inr s) = string_kind s.0 i s.1

  module _ (blocks : List Block) (m : Memory) (is : IsLoaded t blocks m) where
    end_is : (b : Block) (i : ImageBlock) → IsLoadedBlock t i b → HasKind i → block_end b ≡ i.base + i.size
    end_is b i l k =
        ap (λ (n : ℕ). n + b.layout.size * b.count) l.base
        ∙ (ap (λ (n : ℕ). i.base + n * b.count) l.size ∙ (ap (λ (n : ℕ). i.base + elem_bytes t.elems t.structs i.elem * n) l.count
        ∙ ap (λ (n : ℕ). i.base + n) (turned (elem_bytes t.elems t.structs i.elem) i.count ∙ sym k.size)))
      where
        turned : (a b : ℕ) → a * b ≡ b * a
        turned a b = grind arith

    block_is : (b : Block) → Contains blocks b → IsBlock t blocks m b
    block_is b granted =
        let e = is.each b granted in
        let i = e.1 in
        let l = e.3 in
        let k = has_kind i (kind e.0 i e.2) in
        let lies = all_at IsWithinImage t.image e.0 i image.within e.2 in
        let end = end_is b i l k in
        let base = l.base in
        let from = lies.from in
        let to = lies.to in
        let long = is.long in
        record {
          shape = k.shape;
          shape_is = ap (slice_get t.elems) l.elem ∙ k.shape_is;
          size = l.size ∙ ap (elem_bytes t.elems t.structs) (sym l.elem);
          from = omega (arith, base, from);
          to = omega (arith, end, to);
          inside = λ at n a c. is.inside b granted at n a c;
          there = omega (arith, end, to, long);
          fit = λ j no_text less.
              subst (λ (n : ℕ). BytesFit blocks t.elems t.structs m.bytes (n + j * b.layout.size) k.shape) (sym l.base)
              (subst (λ (n : ℕ). BytesFit blocks t.elems t.structs m.bytes (i.base + j * n) k.shape) (sym (l.size ∙ size_of i k))
              (image_fits u t e.0 i h e.2 blocks m.bytes k.shape j (is.holds e.0 i e.2) k.shape_is (subst (λ n. j < n) l.count less)));
          text = λ nullterm. let y = k.text (sym l.nullterm ∙ nullterm) in (l.size ∙ y.0, subst (λ n. 0 < n) (sym l.count) y.1);
          ends = λ nullterm.
              let y = k.text (sym l.nullterm ∙ nullterm) in
              ap (λ (n : ℕ). slice_index_or m.bytes n 0) (last_at (block_end b) i.base i.size end (some_size i k y.0 y.1))
              ∙ (is.holds e.0 i e.2 (i.size - 1) (less_one i.size (some_size i k y.0 y.1)) ∙ y.2);
        }
      where
        size_of : (i : ImageBlock) (k : HasKind i) → elem_bytes t.elems t.structs i.elem ≡ shape_size t.structs k.shape
        size_of i k = ap (λ (o : Option Shape). unwrap_or (option_map (shape_size t.structs) o) 0) k.shape_is

        some_size : (i : ImageBlock) (k : HasKind i) → elem_bytes t.elems t.structs i.elem ≡ 1 → 0 < i.count → 0 < i.size
        some_size i k one some = let size = k.size ∙ ap (λ (n : ℕ). i.count * n) one in omega (arith, size, some)

        last_at : (end base size : ℕ) → end ≡ base + size → 0 < size → end - 1 ≡ base + (size - 1)
        last_at end base size e some = omega (arith, e, some)

        less_one : (size : ℕ) → 0 < size → size - 1 < size
        less_one size some = omega (arith, some)

    -- two blocks
    apart : (b c : Block) → Contains blocks b → Contains blocks c → LieApart b c
    apart b c x y =
        let e = is.each b x in
        let d = is.each c y in
        by e.0 d.0 e.1 d.1 e.2 d.2 e.3 d.3 (nat_lt e.0 d.0) (nat_lt d.0 e.0) refl refl
      where
        same : (i : ImageBlock) → IsLoadedBlock t i b → IsLoadedBlock t i c → IsSameBlock b c
        same i l r = record {
          base = l.base ∙ sym r.base;
          layout = layout_same b.layout c.layout (l.elem ∙ sym r.elem) (l.size ∙ sym r.size) (l.nullterm ∙ sym r.nullterm);
          count = l.count ∙ sym r.count;
        }

        by : (k j : ℕ) (i o : ImageBlock) → slice_get t.image k ≡ Some i → slice_get t.image j ≡ Some o → IsLoadedBlock t i b
            → IsLoadedBlock t o c → (p q : Bool)
            → nat_lt k j ≡ p → nat_lt j k ≡ q → LieApart b c
        by k j i o g f l r true q e d =
            let end = end_is b i l (has_kind i (kind k i g)) in
            let next = apart_at t.image k j i o image.apart (ltb-true k j e) g f in
            let base = r.base in
            inr (inl (omega (arith, end, next, base)))
        by k j i o g f l r false true e d =
            let end = end_is c o r (has_kind o (kind j o f)) in
            let next = apart_at t.image j k o i image.apart (ltb-true j k d) f g in
            let base = l.base in
            inr (inr (omega (arith, end, next, base)))
        by k j i o g f l r false false e d =
            let above = ltb-false k j e in
            let below = ltb-false j k d in
            let place : k ≡ j = omega (arith, above, below) in
            let one : i ≡ o = some_same i o (sym g ∙ (ap (slice_get t.image) place ∙ f)) in
            inl (same i l (subst (λ (z : ImageBlock). IsLoadedBlock t z c) (sym one) r))

    loaded : IsMemory t blocks m
    loaded = record {
      bytes = is.bytes;
      each = block_is;
      apart = apart;
      image = λ k i at.
          let b = is.granted k i at in
          record { block = b.0; granted = b.1; base = b.2.base; count = b.2.count; elem = b.2.elem; nullterm = b.2.nullterm };
    }

pub each_load : EachLoadIsGood
each_load u t h blocks m is = loaded u t h blocks m is
