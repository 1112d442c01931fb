-- Assignment with siblings: what the checks of kind Change leave fits with the new value.
use Rattle.std.proofs.Common.{◌≡◌, ◌≢◌, ℕ, ◌+◌, ◌==◌, Bool, true, false, ◌||◌, List, [], ◌∷◌, ◌++◌, ℤ, ◌+ℤ◌}
use Rattle.std.proofs.Common.{◌*ℤ◌, Option, Some, None, refl, sym, ap, ◌∙◌, subst, true≢false}
use Rattle.std.specs.List.{list_any}
use Rattle.std.proofs.lemmas.Bool.Decides.{Decides-eqb}
use Rattle.sd_base.specs.Blocks.{Block}
use Rattle.sd_base.specs.declared.kinds.CheckKind.TheVariants as kind
use Rattle.checked_tree.specs.declared.shapes.Bounds.TheVariants as bounds
use Rattle.checked_tree.specs.declared.shapes.Edge.{Edge}
use Rattle.checked_tree.specs.declared.shapes.Shape.{Shape}
use Rattle.checked_tree.specs.declared.shapes.Shape.TheVariants as shape
use Rattle.checked_tree.specs.declared.units.CheckedFn.{CheckedFn}
use Rattle.checked_tree.specs.Conditions.{State}
use Rattle.checked_tree.specs.Edges.{edge_value, edge_from, edge_base}
use Rattle.checked_tree.specs.Eval.{tests}
use Rattle.deputy_types.specs.declared.element.Element.{Element}
use Rattle.deputy_rules.specs.declared.naming.Naming.{Naming}
use Rattle.deputy_rules.specs.Changes.{pointer_change, sibling_change, optional_change, sibling_changes}
use Rattle.deputy_rules.specs.Context.{Context}
use Rattle.deputy_rules.specs.Deriving.{pure}
use Rattle.deputy_types.specs.Fitting.{Fits}
use Rattle.deputy_types.specs.Table.{bounds_name, edge_names, is_base, element_at}
use Rattle.deputy_rules.specs.Values.{size_of, name_sum, low_sum, high_sum, edge_sum}
use Rattle.deputy_rules.specs.SumValues.{HasValue}
use Rattle.driver_safety.specs.TypeFacts.{HasTypes}
use Rattle.driver_safety.proofs.assignments.ElementSizes.{element_size}
use Rattle.driver_safety.proofs.assignments.Coercions.{coerce_sound, narrow}
use Rattle.deputy_rules.specs.NameValues.{HaveNames}
use Rattle.deputy_rules.proofs.EdgesHave.{has_edge}
use Rattle.driver_safety.proofs.checks.Evaluations.{safe_weaker, Pass, pass_none, pass_then}
use Rattle.driver_safety.proofs.checks.Sounding.{Sound, then_sound, pure_sound, lift_sound, if_sound, weaker}

-- ---- a side that does not name what changes
module _ (k : ℕ) (before after : ℕ → ℤ) where
  -- a name that does not change keeps its value
  abbrev pub Agrees : ℕ → Type 0
  Agrees j = j ≢ k → after j ≡ before j

  -- so do the names of a side
  abbrev pub TermsAgree : List (ℤ × ℕ) → Type 0
  TermsAgree [] = Unit {0}
  TermsAgree (t ∷ ts) = Agrees t.1 × TermsAgree ts

  abbrev pub BaseAgrees : Option ℕ → Type 0
  BaseAgrees None = Unit {0}
  BaseAgrees (Some j) = Agrees j

  abbrev pub EdgeAgrees : Edge → Type 0
  EdgeAgrees e = BaseAgrees e.base × TermsAgree e.terms

  not_named : (j : ℕ) → Agrees j → (j == k) ≡ false → after j ≡ before j
  not_named j a e = a (λ same. true≢false (sym ((Decides-eqb j k).1 same) ∙ e))

  or_false : (a b : Bool) → (a || b) ≡ false → (a ≡ false) × (b ≡ false)
  or_false true b h = absurd cc
  or_false false b h = (refl, h)

  same_terms : (ts : List (ℤ × ℕ)) (sum : ℤ) → TermsAgree ts → list_any (λ x. x.1 == k) ts ≡ false → edge_from after ts sum ≡ edge_from
      before ts sum
  same_terms [] sum a h = refl
  same_terms (t ∷ ts) sum a h =
      let both = or_false (t.1 == k) (list_any (λ x. x.1 == k) ts) h in
      ap (λ (z : ℤ). edge_from after ts (sum +ℤ (t.0 *ℤ z))) (not_named t.1 a.0 both.0) ∙ same_terms ts (sum +ℤ (t.0 *ℤ before t.1)) a.1
      both.1

  same_base : (v : ℤ) (b : Option ℕ) → BaseAgrees b → is_base k b ≡ false → edge_base after v b ≡ edge_base before v b
  same_base v None a h = refl
  same_base v (Some j) a h = not_named j a h

  pub same_edge : (v : ℤ) (e : Edge) → EdgeAgrees e → edge_names k e ≡ false → edge_value after v e ≡ edge_value before v e
  unfolding edge_value
  same_edge v e a h =
      let both = or_false (is_base k e.base) (list_any (λ x. x.1 == k) e.terms) h in
      ap (λ (z : ℤ). edge_from after e.terms (z +ℤ e.bytes)) (same_base v e.base a.0 both.0)
      ∙ same_terms e.terms (edge_base before v e.base +ℤ e.bytes) a.1 both.1

-- ---- one sibling
module _ (f : CheckedFn) (ctx : Context) (blocks : List Block) (st : State) (types : HasTypes ctx.table) (old new : Naming) (k : ℕ) where
  -- a pointer fits its annotation, with these numbers for the names
  abbrev pub Within : (ℕ → ℤ) → ℕ → Edge → Edge → ℤ → Type 0
  Within sibling elem lo hi v = Fits blocks ctx.table.elems ctx.table.structs elem false (edge_value sibling v lo)
      (edge_value sibling v hi) v

  -- the numbers that the names have, before and after
  pub record Renames (before after : ℕ → ℤ) (lo hi : Edge) : Type 0 where
    pub low_same : EdgeAgrees k before after lo
    pub high_same : EdgeAgrees k before after hi
    pub low : HaveNames st ctx old before lo
    pub high : HaveNames st ctx old before hi
    pub lower : HaveNames st ctx new after lo
    pub higher : HaveNames st ctx new after hi

  abbrev ChangeKeeps : ℕ → ℕ → Edge → Edge → List ℕ → Type 0
  ChangeKeeps i elem lo hi ids = (before after : ℕ → ℤ) → Renames before after lo hi → HasValue st (name_sum ctx old i) (before i)
      → Pass f st ids (Within before elem lo hi (before i) → Within after elem lo hi (before i))

  named_keeps : (i elem : ℕ) (lo hi : Edge) (key : Element)
      → Sound f st ctx.first (pointer_change ctx old new i (bounds.Within lo hi) key) (λ ids. element_at ctx.table elem ≡ Some key
      → ChangeKeeps i elem lo hi ids)
  unfolding pointer_change low_sum high_sum
  named_keeps i elem lo hi key =
      let at = name_sum ctx old i in
      weaker f st ctx.first _ _ _ (λ ids n is before after r h.
      safe_weaker (tests [] f st ids) _ _
      (n (before i) _ _ _ _ h (has_edge st ctx old before at (before i) lo r.low h) (has_edge st ctx old before at (before i) hi r.high h)
      (has_edge st ctx new after at (before i) lo r.lower h) (has_edge st ctx new after at (before i) hi r.higher h))
      (λ u e x fits. narrow blocks ctx.table.elems ctx.table.structs elem (size_of ctx key) _ _ _ _ (before i)
      (element_size ctx.table types elem key is) fits x))
      (coerce_sound f ctx st kind.Change kind.Change at (edge_sum ctx old at lo) (edge_sum ctx old at hi) (edge_sum ctx new at lo)
      (edge_sum ctx new at hi) (size_of ctx key))

  unnamed_keeps : (i elem : ℕ) (lo hi : Edge) → bounds_name k (bounds.Within lo hi) ≡ false → ChangeKeeps i elem lo hi []
  unnamed_keeps i elem lo hi e before after r h =
      let both = or_false' (edge_names k lo) (edge_names k hi) e in
      pass_none f st _ (λ fits. subst (λ (z : ℤ). Fits blocks ctx.table.elems ctx.table.structs elem false z (edge_value after (before i)
      hi) (before i)) (sym (same_edge k before after (before i) lo r.low_same both.0))
      (subst (λ (z : ℤ). Fits blocks ctx.table.elems ctx.table.structs elem false (edge_value before (before i) lo) z (before i))
      (sym (same_edge k before after (before i) hi r.high_same both.1)) fits))
    where
      or_false' : (a b : Bool) → (a || b) ≡ false → (a ≡ false) × (b ≡ false)
      or_false' true b h = absurd cc
      or_false' false b h = (refl, h)

  pub change_keeps : (i elem : ℕ) (lo hi : Edge) → Sound f st ctx.first (sibling_change ctx old new k i
      (shape.Pointer elem (bounds.Within lo hi))) (ChangeKeeps i elem lo hi)
  unfolding sibling_change
  change_keeps i elem lo hi = if_sound f st ctx.first (bounds_name k (bounds.Within lo hi)) _ _ _
      (λ e. then_sound f st ctx.first _ _ (λ key. element_at ctx.table elem ≡ Some key) _ (lift_sound f st ctx.first
      (element_at ctx.table elem) _ (λ key is. is))
      (λ key. named_keeps i elem lo hi key))
      (λ e. pure_sound f st ctx.first [] _ (unnamed_keeps i elem lo hi e))

  -- ---- all siblings in turn, from number i on
  -- each but the assigned one fits, by these numbers
  abbrev pub ShapeFits : (ℕ → ℤ) → ℕ → Option Shape → Type 0
  ShapeFits sibling i (Some (shape.Pointer elem (bounds.Within lo hi))) = Within sibling elem lo hi (sibling i)
  ShapeFits sibling i _ = Unit {0}

  -- each but the assigned one goes on fitting
  abbrev pub OthersKeep : (ℕ → ℤ) → (ℕ → ℤ) → ℕ → List (Option Shape) → Type 0
  OthersKeep before after i [] = Unit {0}
  OthersKeep before after i (s ∷ ss) = (i ≢ k → ShapeFits before i s → ShapeFits after i s) × OthersKeep before after (i + 1) ss

  -- the names in each annotation have their numbers
  abbrev pub ShapeRenames : (ℕ → ℤ) → (ℕ → ℤ) → ℕ → Option Shape → Type 0
  ShapeRenames before after i (Some (shape.Pointer elem (bounds.Within lo hi))) = Renames before after lo hi
      × HasValue st (name_sum ctx old i) (before i) × Agrees k before after i
  ShapeRenames before after i _ = Unit {0}

  abbrev pub AllRenamed : (ℕ → ℤ) → (ℕ → ℤ) → ℕ → List (Option Shape) → Type 0
  AllRenamed before after i [] = Unit {0}
  AllRenamed before after i (s ∷ ss) = ShapeRenames before after i s × AllRenamed before after (i + 1) ss

  abbrev OneKept : ℕ → Option Shape → List ℕ → Type 0
  OneKept i s ids = (before after : ℕ → ℤ) → ShapeRenames before after i s → Pass f st ids (i ≢ k → ShapeFits before i s
      → ShapeFits after i s)

  nothing_kept : (i : ℕ) (s : Option Shape) → ((sibling : ℕ → ℤ) → ShapeFits sibling i s) → Sound f st ctx.first (pure []) (OneKept i s)
  nothing_kept i s any = pure_sound f st ctx.first [] _ (λ before after r. pass_none f st _ (λ n fits. any after))

  one_kept : (i : ℕ) (s : Option Shape) → Sound f st ctx.first (optional_change ctx old new k i s) (OneKept i s)
  unfolding sibling_change
  one_kept i None = nothing_kept i None (λ x. tt)
  one_kept i (Some (shape.Int s)) = nothing_kept i (Some (shape.Int s)) (λ x. tt)
  one_kept i (Some (shape.Struct n)) = nothing_kept i (Some (shape.Struct n)) (λ x. tt)
  one_kept i (Some shape.Address) = nothing_kept i (Some shape.Address) (λ x. tt)
  one_kept i (Some (shape.Pointer elem bounds.Hidden)) = nothing_kept i (Some (shape.Pointer elem bounds.Hidden)) (λ x. tt)
  one_kept i (Some (shape.Pointer elem bounds.Nullterm)) = nothing_kept i (Some (shape.Pointer elem bounds.Nullterm)) (λ x. tt)
  one_kept i (Some (shape.Pointer elem (bounds.Within lo hi))) =
      weaker f st ctx.first _ _ _ (λ ids q before after r.
      safe_weaker (tests [] f st ids) _ _ (q before after r.0 r.1)
      (λ u e x n fits. subst (λ (v : ℤ). Within after elem lo hi v) (sym (r.2 n)) (x fits)))
      (change_keeps i elem lo hi)

  -- what is passed with the tests so far is passed with all of them, and all others fit then
  abbrev pub AllKept : Type 0 → (ℕ → ℤ) → (ℕ → ℤ) → ℕ → List (Option Shape) → List ℕ → List ℕ → Type 0
  AllKept P before after i ss ids out = AllRenamed before after i ss → Pass f st ids P → Pass f st out (P × OthersKeep before after i ss)

  pub siblings_kept : (P : Type 0) (before after : ℕ → ℤ) (i : ℕ) (ss : List (Option Shape)) (ids : List ℕ)
      → Sound f st ctx.first (sibling_changes ctx old new k i ss ids) (AllKept P before after i ss ids)
  siblings_kept P before after i [] ids = pure_sound f st ctx.first ids _ (λ r pass. safe_weaker (tests [] f st ids) _ _ pass
      (λ u e p. (p, tt)))
  siblings_kept P before after i (s ∷ ss) ids =
      then_sound f st ctx.first _ _ _ _ (one_kept i s) (λ more. weaker f st ctx.first _ _ _
      (λ out q one r pass.
      safe_weaker (tests [] f st out) _ _
      (q r.1 (pass_then f st ids more P (i ≢ k → ShapeFits before i s → ShapeFits after i s) pass (λ p. one before after r.0)))
      (λ u e x. (x.0.0, (x.0.1, x.1))))
      (siblings_kept (P × (i ≢ k → ShapeFits before i s → ShapeFits after i s)) before after (i + 1) ss (ids ++ more)))
