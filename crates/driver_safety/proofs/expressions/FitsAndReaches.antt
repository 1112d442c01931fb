-- A pointer to the element with a number fits exactly where it reaches what has the shape of the element.
use Rattle.std.proofs.Common.{◌≡◌, ℕ, ◌+◌, ◌-◌, ◌*◌, ◌≤◌, Bool, List, ℤ, true, Option, Some, option_map, unwrap_or, slice_get, sym}
use Rattle.std.proofs.Common.{ap, ◌∙◌, subst}
use Rattle.sd_base.specs.Blocks.{Block}
use Rattle.checked_tree.specs.declared.shapes.Shape.{Shape}
use Rattle.checked_tree.specs.declared.shapes.StructShape.{StructShape}
use Rattle.deputy_types.specs.Fitting.{Fits, null, in_text, in_bounds, IsOpenPlace, Part, is_open, elem_bytes, shape_size}
use Rattle.deputy_types.specs.StructLaws.{IsMultiple}
use Rattle.driver_safety.specs.Reaching.{IsOpenAt, Reaches, nowhere, into_text, between}

some_same : {A : Type 0} (a b : A) → ◌≡◌ {A = Option A} (Some a) (Some b) → a ≡ b
some_same a b h = cc

module _ (blocks : List Block) (elems : List Shape) (structs : List StructShape) (elem : ℕ) (own : Shape) (is : slice_get elems elem ≡ Some
    own) where
  bytes : elem_bytes elems structs elem ≡ shape_size structs own
  bytes = ap (λ (o : Option Shape). unwrap_or (option_map (shape_size structs) o) 0) is

  opened : (block : Block) (at : ℕ) → IsOpenPlace elems structs block elem at → IsOpenAt elems structs block own at
  opened block at o = record {
    element = o.element;
    element_is = o.element_is;
    place = o.place;
    within = o.within;
    part = subst (λ (x : Shape). Part structs is_open (block.base + o.place * block.layout.size) o.element at x)
        (some_same o.shape own (sym o.is ∙ is)) o.part;
  }

  placed : (block : Block) (at : ℕ) → IsOpenAt elems structs block own at → IsOpenPlace elems structs block elem at
  placed block at o = record {
    shape = own;
    is = is;
    element = o.element;
    element_is = o.element_is;
    place = o.place;
    within = o.within;
    part = o.part;
  }

  pub reaches : (nullterm : Bool) (lo hi v : ℤ) → Fits blocks elems structs elem nullterm lo hi v → Reaches blocks elems structs own
      nullterm lo hi v
  reaches nullterm lo hi v (null e) = nowhere e
  reaches nullterm lo hi v (in_text n t) = into_text n t
  reaches nullterm lo hi v (in_bounds n b) = between n (record {
    block = b.block;
    granted = b.granted;
    no_text = b.no_text;
    from = b.from;
    from_is = b.from_is;
    to = b.to;
    to_is = b.to_is;
    at = b.at;
    at_is = b.at_is;
    above = b.above;
    below = b.below;
    from_in = b.from_in;
    to_in = b.to_in;
    whole = subst (λ (n : ℕ). IsMultiple n (b.at - b.from)) bytes b.whole;
    elements = λ i l.
        subst (λ (n : ℕ). IsOpenAt elems structs b.block own (b.from + i * n)) bytes
        (opened b.block (b.from + i * elem_bytes elems structs elem) (b.elements i (subst (λ (n : ℕ). b.from + (i + 1) * n ≤ b.to)
        (sym bytes) l)));
  })

  pub fits : (nullterm : Bool) (lo hi v : ℤ) → Reaches blocks elems structs own nullterm lo hi v → Fits blocks elems structs elem nullterm
      lo hi v
  fits nullterm lo hi v (nowhere e) = null e
  fits nullterm lo hi v (into_text n t) = in_text n t
  fits nullterm lo hi v (between n b) = in_bounds n (record {
    block = b.block;
    granted = b.granted;
    no_text = b.no_text;
    from = b.from;
    from_is = b.from_is;
    to = b.to;
    to_is = b.to_is;
    at = b.at;
    at_is = b.at_is;
    above = b.above;
    below = b.below;
    from_in = b.from_in;
    to_in = b.to_in;
    whole = subst (λ (n : ℕ). IsMultiple n (b.at - b.from)) (sym bytes) b.whole;
    elements = λ i l.
        subst (λ (n : ℕ). IsOpenPlace elems structs b.block elem (b.from + i * n)) (sym bytes)
        (placed b.block (b.from + i * shape_size structs own) (b.elements i (subst (λ (n : ℕ). b.from + (i + 1) * n ≤ b.to) bytes l)));
  })

-- the bounds of null and of text say nothing
pub other_bounds : (blocks : List Block) (elems : List Shape) (structs : List StructShape) (own : Shape) (lo hi lo' hi' v : ℤ)
    → Reaches blocks elems structs own true lo hi v → Reaches blocks elems structs own true lo' hi' v
other_bounds blocks elems structs own lo hi lo' hi' v (nowhere e) = nowhere e
other_bounds blocks elems structs own lo hi lo' hi' v (into_text n t) = into_text n t
other_bounds blocks elems structs own lo hi lo' hi' v (between n b) = absurd cc
