-- A pointer that is handed to a type with an annotation fits it behind the checks, by the names of that type: at an assignment, a call and
-- a return.
use Rattle.std.proofs.Common.{◌≡◌, ℕ, IsTrue, Bool, true, false, List, [], ℤ, pos, Some}
use Rattle.sd_base.specs.Blocks.{Block}
use Rattle.sd_base.specs.declared.kinds.CheckKind.TheVariants as kind
use Rattle.checked_tree.specs.declared.shapes.Bounds.TheVariants as bounds
use Rattle.checked_tree.specs.declared.shapes.Edge.{Edge}
use Rattle.checked_tree.specs.declared.shapes.Shape.TheVariants as shape
use Rattle.checked_tree.specs.declared.units.CheckedFn.{CheckedFn}
use Rattle.checked_tree.specs.Conditions.{State}
use Rattle.checked_tree.specs.Edges.{edge_value}
use Rattle.checked_tree.specs.Numbers.{is_word}
use Rattle.checked_tree.specs.Eval.{tests}
use Rattle.deputy_types.specs.declared.element.Element.{Element}
use Rattle.deputy_rules.specs.declared.handed.Handed.{Handed}
use Rattle.deputy_rules.specs.declared.naming.Naming.{Naming}
use Rattle.deputy_rules.specs.Calls.{coerce_shape}
use Rattle.deputy_rules.specs.Coercion.{coerce_within, coerce_to}
use Rattle.deputy_rules.specs.Context.{Context}
use Rattle.deputy_types.specs.Fitting.{Fits, null}
use Rattle.deputy_types.specs.Table.{element_at}
use Rattle.deputy_rules.specs.Values.{size_of, low_sum, high_sum, edge_sum}
use Rattle.deputy_rules.specs.SumValues.{HasValue}
use Rattle.driver_safety.specs.TypeFacts.{HasTypes}
use Rattle.driver_safety.proofs.assignments.ElementSizes.{element_size}
use Rattle.driver_safety.proofs.assignments.Coercions.{coerce_sound, narrow}
use Rattle.deputy_rules.specs.NameValues.{HaveNames}
use Rattle.deputy_rules.proofs.EdgesHave.{has_edge}
use Rattle.driver_safety.proofs.checks.Evaluations.{safe_weaker, Pass, pass_none}
use Rattle.driver_safety.proofs.checks.Sounding.{Sound, then_sound, pure_sound, lift_sound, if_sound, weaker}

module _ (f : CheckedFn) (ctx : Context) (blocks : List Block) (st : State) (types : HasTypes ctx.table) where
  -- a pointer that is handed over, to the element with this number
  pub record IsHanded (h : Handed) (elem : ℕ) (nullterm : Bool) (v : ℤ) : Type 0 where
    pub word : IsTrue (is_word v)
    pub at : HasValue st h.at v
    pub lo : ℤ
    pub low : HasValue st h.low lo
    pub hi : ℤ
    pub high : HasValue st h.high hi
    pub none : h.null ≡ true → v ≡ pos 0
    pub fits : Fits blocks ctx.table.elems ctx.table.structs elem nullterm lo hi v

  abbrev pub FitsAs : Naming → Handed → ℕ → Edge → Edge → List ℕ → Type 0
  FitsAs n h elem lo hi ids = (sibling : ℕ → ℤ) (v : ℤ) → IsHanded h elem false v → HaveNames st ctx n sibling lo
      → HaveNames st ctx n sibling hi
      → Pass f st ids (Fits blocks ctx.table.elems ctx.table.structs elem false (edge_value sibling v lo) (edge_value sibling v hi) v)

  pub coerce_to_sound : (n : Naming) (key : Element) (elem : ℕ) (lo hi : Edge) (h : Handed)
      → Sound f st ctx.first (coerce_to ctx n key (bounds.Within lo hi) h) (λ ids. element_at ctx.table elem ≡ Some key
      → FitsAs n h elem lo hi ids)
  unfolding coerce_to coerce_within low_sum high_sum
  coerce_to_sound n key elem lo hi h = if_sound f st ctx.first h.null _ _ _
      (λ e. pure_sound f st ctx.first [] _ (λ is sibling v handed low high. pass_none f st _ (null (handed.none e))))
      (λ e. weaker f st ctx.first _ _ _ (λ ids q is sibling v handed low high.
      safe_weaker (tests [] f st ids) _ _
      (q v handed.lo handed.hi (edge_value sibling v lo) (edge_value sibling v hi) handed.at handed.low handed.high
      (has_edge st ctx n sibling h.at v lo low handed.at) (has_edge st ctx n sibling h.at v hi high handed.at))
      (λ u g x. narrow blocks ctx.table.elems ctx.table.structs elem (size_of ctx key) _ _ _ _ v (element_size ctx.table types elem key is)
      handed.fits x))
      (coerce_sound f ctx st kind.Bound kind.Align h.at h.low h.high (edge_sum ctx n h.at lo) (edge_sum ctx n h.at hi) (size_of ctx key)))

  -- as an argument or a result of this shape
  pub coerce_shape_sound : (n : Naming) (elem : ℕ) (lo hi : Edge) (h : Handed) → Sound f st ctx.first
      (coerce_shape ctx n (shape.Pointer elem (bounds.Within lo hi)) h) (FitsAs n h elem lo hi)
  coerce_shape_sound n elem lo hi h = then_sound f st ctx.first _ _ (λ key. element_at ctx.table elem ≡ Some key) _
      (lift_sound f st ctx.first (element_at ctx.table elem) _ (λ key is. is)) (λ key. coerce_to_sound n key elem lo hi h)
