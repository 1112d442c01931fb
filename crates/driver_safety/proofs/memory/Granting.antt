-- The memory where a block of zeros is granted: the new block fits, and all that fitted goes on fitting.
use Rattle.std.proofs.Common.{◌≡◌, ◌⊎◌, inl, inr, ℕ, ◌+◌, ◌*◌, ◌≤◌, ◌<◌, true, false, List, ℤ, pos, All, length, Option, ◌-◌}
use Rattle.std.proofs.Common.{option_map, unwrap_or, slice_index_or, Ok, refl, sym, ap, ◌∙◌, subst, arith}
use Rattle.std.proofs.lemmas.Nat.{mul-le}
use Rattle.std.specs.List.{Contains}
use Rattle.sd_base.specs.Blocks.{Block, block_end}
use Rattle.byte_memory.specs.Tested.{Memory}
use Rattle.c_tree.specs.declared.items.Unit.{Unit as TextUnit}
use Rattle.checked_tree.specs.declared.shapes.Bounds.TheVariants as bounds
use Rattle.checked_tree.specs.declared.shapes.Shape.{Shape}
use Rattle.checked_tree.specs.declared.shapes.Shape.TheVariants as shape
use Rattle.checked_tree.specs.declared.shapes.StructShape.{StructShape}
use Rattle.deputy_types.specs.Fitting.{HoldsFitting, BytesFit, AreZero, shape_size}
use Rattle.deputy_types.specs.Table.{Table}
use Rattle.deputy_types.specs.UnitLayout.{layout}
use Rattle.layout_laws.proofs.ZeroValues.{zeros_valid}
use Rattle.driver_safety.specs.Goodness.{IsBlock, IsSameBlock, IsMemory}
use Rattle.driver_safety.specs.Goodness.{AreApart as LieApart}
use Rattle.driver_safety.specs.GrantLaw.{IsGranting, EachGrantKeepsMemory}
use Rattle.driver_safety.proofs.memory.Growing.{fits_more}

module _ (blocks more : List Block) (all : (c : Block) → Contains blocks c → Contains more c) (elems : List Shape)
    (structs : List StructShape) where
  holding_more : (sibling : ℕ → ℤ) (bytes : List ℕ) (a : ℕ) (x : Shape) → HoldsFitting blocks elems structs sibling bytes a x
      → HoldsFitting more elems structs sibling bytes a x
  holding_more sibling bytes a (shape.Pointer elem bounds.Hidden) h = tt
  holding_more sibling bytes a (shape.Pointer elem bounds.Nullterm) h = fits_more blocks more elems structs elem _ _ _ _ all h
  holding_more sibling bytes a (shape.Pointer elem (bounds.Within lo hi)) h = fits_more blocks more elems structs elem _ _ _ _ all h
  holding_more sibling bytes a (shape.Int s) h = tt
  holding_more sibling bytes a (shape.Struct s) h = tt
  holding_more sibling bytes a shape.Address h = tt

  pub bytes_more : (bytes : List ℕ) (at : ℕ) (x : Shape) → BytesFit blocks elems structs bytes at x
      → BytesFit more elems structs bytes at x
  bytes_more bytes at x fit = record {
    whole = holding_more (λ k. pos 0) bytes at x fit.whole;
    members = λ b s k j t m p is mem used l. holding_more _ bytes _ m.shape (fit.members b s k j t m p is mem used l);
  }

module _ (u : TextUnit) (t : Table) (h : layout u ≡ Ok t) (blocks more : List Block) (m after : Memory) (b : Block)
    (good : IsMemory t blocks m) (is : IsGranting t blocks more m after b) (zero : AreZero m.bytes b.base (b.layout.size * b.count)) where
  at_index : (size i count k : ℕ) → i < count → k < size → i * size + k < size * count
  at_index size i count k l s = by (mul-le (i + 1) size count size (omega (arith, l)) (omega arith))
    where
      by : (i + 1) * size ≤ count * size → i * size + k < size * count
      by e =
          let one : (i + 1) * size ≡ i * size + size = grind arith in
          let two : count * size ≡ size * count = grind arith in
          omega (arith, e, one, two, s)

  zeros_in : (i : ℕ) → i < b.count → AreZero m.bytes (b.base + i * b.layout.size) (shape_size t.structs is.shape)
  zeros_in i l k s =
      let size : b.layout.size ≡ shape_size t.structs is.shape
      = is.size ∙ ap (λ (o : Option Shape). unwrap_or (option_map (shape_size t.structs) o) 0) is.shape_is in
      let place : b.base + i * b.layout.size + k ≡ b.base + (i * b.layout.size + k) = omega arith in
      ap (λ (n : ℕ). slice_index_or m.bytes n 0) place
      ∙ zero (i * b.layout.size + k) (at_index b.layout.size i b.count k l (subst (λ (n : ℕ). k < n) (sym size) s))

  new_block : IsBlock t more after b
  new_block = record {
    shape = is.shape;
    shape_is = is.shape_is;
    size = is.size;
    from = is.from;
    to = is.to;
    inside = is.inside;
    there = subst (λ (l : List ℕ). block_end b ≤ length l) (sym is.bytes) is.there;
    fit = λ i no_text less.
        subst (λ (l : List ℕ). BytesFit more t.elems t.structs l (b.base + i * b.layout.size) is.shape) (sym is.bytes)
        (((zeros_valid u t h).elems b.layout.elem is.shape is.shape_is).fits more m.bytes (b.base + i * b.layout.size) (zeros_in i less));
    text = λ text. absurd (no_text text);
    ends = λ text. absurd (no_text text);
  }
    where
      no_text : b.layout.nullterm ≡ true → ⊥
      no_text e = two (sym e ∙ is.no_text)
        where
          two : true ≡ false → ⊥
          two x = absurd cc

  old_block : (c : Block) → Contains blocks c → IsBlock t more after c
  old_block c x =
      let k = good.each c x in
      record {
        shape = k.shape;
        shape_is = k.shape_is;
        size = k.size;
        from = k.from;
        to = k.to;
        inside = λ at n a e. is.kept at n (k.inside at n a e);
        there = subst (λ (l : List ℕ). block_end c ≤ length l) (sym is.bytes) k.there;
        fit = λ i no_text less.
            subst (λ (l : List ℕ). BytesFit more t.elems t.structs l (c.base + i * c.layout.size) k.shape) (sym is.bytes)
            (bytes_more blocks more is.all t.elems t.structs m.bytes (c.base + i * c.layout.size) k.shape (k.fit i no_text less));
        text = k.text;
        ends = λ text. ap (λ (l : List ℕ). slice_index_or l (block_end c - 1) 0) is.bytes ∙ k.ends text;
      }

  one_block : (c : Block) → Contains blocks c ⊎ (c ≡ b) → IsBlock t more after c
  one_block c (inl x) = old_block c x
  one_block c (inr e) = subst (λ (d : Block). IsBlock t more after d) (sym e) new_block

  flipped : (c d : Block) → (block_end c ≤ d.base) ⊎ (block_end d ≤ c.base) → LieApart c d
  flipped c d l = inr l

  two_blocks : (c d : Block) → Contains blocks c ⊎ (c ≡ b) → Contains blocks d ⊎ (d ≡ b) → LieApart c d
  two_blocks c d (inl x) (inl y) = good.apart c d x y
  two_blocks c d (inl x) (inr e) = subst (λ (z : Block). LieApart c z) (sym e) (inr (is.apart c x))
  two_blocks c d (inr e) (inl y) = subst (λ (z : Block). LieApart z d) (sym e) (inr (turned (is.apart d y)))
    where
      turned : (block_end d ≤ b.base) ⊎ (block_end b ≤ d.base) → (block_end b ≤ d.base) ⊎ (block_end d ≤ b.base)
      turned (inl l) = inr l
      turned (inr l) = inl l
  two_blocks c d (inr e) (inr f) =
      inl (subst (λ (z : Block). IsSameBlock c z) (e ∙ sym f) (record { base = refl; layout = refl; count = refl }))

  granted : IsMemory t more after
  granted = record {
    bytes = subst (λ (l : List ℕ). All (λ x. x < 256) l) (sym is.bytes) good.bytes;
    each = λ c x. one_block c (is.only c x);
    apart = λ c d x y. two_blocks c d (is.only c x) (is.only d y);
    image = λ k i at.
        let g = good.image k i at in
        record {
          block = g.block;
          granted = is.all g.block g.granted;
          base = g.base;
          count = g.count;
          elem = g.elem;
          nullterm = g.nullterm;
        };
  }

pub each_grant_keeps : EachGrantKeepsMemory
each_grant_keeps u t h blocks more m after b good is zero = granted u t h blocks more m after b good is zero
