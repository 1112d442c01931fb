-- Two numbers of the same element: what fits by the one fits by the other.
use Rattle.std.proofs.Common.{◌≡◌, ℕ, ◌+◌, ◌-◌, ◌*◌, ◌≤◌, Bool, List, ℤ, Option, Some, option_map, unwrap_or, slice_get, sym, ap, ◌∙◌}
use Rattle.std.proofs.Common.{subst}
use Rattle.sd_base.specs.Blocks.{Block}
use Rattle.checked_tree.specs.declared.shapes.Shape.{Shape}
use Rattle.checked_tree.specs.declared.shapes.StructShape.{StructShape}
use Rattle.deputy_types.specs.declared.element.Element.{Element}
use Rattle.deputy_rules.specs.Context.{Context}
use Rattle.deputy_types.specs.Fitting.{Fits, null, in_text, in_bounds, IsOpenPlace, elem_bytes, shape_size}
use Rattle.deputy_types.specs.StructLaws.{IsMultiple}
use Rattle.deputy_types.specs.Table.{element_at}
use Rattle.driver_safety.specs.TypeFacts.{HasTypes}

module _ (blocks : List Block) (elems : List Shape) (structs : List StructShape) (e m : ℕ) (same : slice_get elems e ≡ slice_get elems m)
  where
    bytes : elem_bytes elems structs e ≡ elem_bytes elems structs m
    bytes = ap (λ (o : Option Shape). unwrap_or (option_map (shape_size structs) o) 0) same

    open_again : (block : Block) (at : ℕ) → IsOpenPlace elems structs block e at → IsOpenPlace elems structs block m at
    open_again block at o = record {
      shape = o.shape;
      is = sym same ∙ o.is;
      element = o.element;
      element_is = o.element_is;
      place = o.place;
      within = o.within;
      part = o.part;
    }

    pub refit : (nullterm : Bool) (lo hi v : ℤ) → Fits blocks elems structs e nullterm lo hi v
        → Fits blocks elems structs m nullterm lo hi v
    refit nullterm lo hi v (null z) = null z
    refit nullterm lo hi v (in_text n t) = in_text n t
    refit nullterm lo hi v (in_bounds n b) = in_bounds n (record {
      block = b.block;
      granted = b.granted;
      no_text = b.no_text;
      from = b.from;
      from_is = b.from_is;
      to = b.to;
      to_is = b.to_is;
      at = b.at;
      at_is = b.at_is;
      above = b.above;
      below = b.below;
      from_in = b.from_in;
      to_in = b.to_in;
      whole = subst (λ (n : ℕ). IsMultiple n (b.at - b.from)) bytes b.whole;
      elements = λ i l.
          subst (λ (n : ℕ). IsOpenPlace elems structs b.block m (b.from + i * n)) bytes
          (open_again b.block (b.from + i * elem_bytes elems structs e) (b.elements i (subst (λ (n : ℕ). b.from + (i + 1) * n ≤ b.to)
          (sym bytes) l)));
    })

-- so of two numbers whose types are equal
pub refit_key : (ctx : Context) (blocks : List Block) (e m : ℕ) (key : Element) → HasTypes ctx.table → element_at ctx.table e ≡ Some key
    → element_at ctx.table m ≡ Some key → (nullterm : Bool) (lo hi v : ℤ)
    → Fits blocks ctx.table.elems ctx.table.structs e nullterm lo hi v → Fits blocks ctx.table.elems ctx.table.structs m nullterm lo hi v
refit_key ctx blocks e m key types h k nullterm lo hi v fits = refit blocks ctx.table.elems ctx.table.structs e m
    ((types.elements e key h).0 ∙ sym (types.elements m key k).0) nullterm lo hi v fits
