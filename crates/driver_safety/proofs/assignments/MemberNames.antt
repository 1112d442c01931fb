-- The siblings of a member that has a new value: which of them the checks of kind Change keep fitting, member by member.
use Rattle.std.proofs.Common.{◌≡◌, ◌≢◌, ℕ, zero, suc, ◌+◌, Bool, true, false, List, [], ◌∷◌, All, map, ℤ, pos}
use Rattle.std.proofs.Common.{◌+ℤ◌, ◌*ℤ◌, Option, Some, None, is_some, option_map, unwrap_or, slice_get, if◌then◌else◌, refl, sym, ap}
use Rattle.std.proofs.Common.{◌∙◌, subst, arith}
use Rattle.std.proofs.lemmas.List.Elements.{All-head, All-tail}
use Rattle.sd_base.specs.Blocks.{Block}
use Rattle.checked_tree.specs.declared.expressions.CheckedExpr.{CheckedExpr}
use Rattle.checked_tree.specs.declared.shapes.Bounds.TheVariants as bounds
use Rattle.checked_tree.specs.declared.shapes.Edge.{Edge}
use Rattle.checked_tree.specs.declared.shapes.Member.{Member}
use Rattle.checked_tree.specs.declared.shapes.Scalar.{Scalar}
use Rattle.checked_tree.specs.declared.shapes.Shape.{Shape}
use Rattle.checked_tree.specs.declared.shapes.Shape.TheVariants as shape
use Rattle.checked_tree.specs.declared.shapes.StructShape.{StructShape}
use Rattle.checked_tree.specs.declared.sums.Sum.{Sum}
use Rattle.checked_tree.specs.declared.units.CheckedFn.{CheckedFn}
use Rattle.checked_tree.specs.Conditions.{State}
use Rattle.checked_tree.specs.Edges.{edge_value, edge_from, edge_base}
use Rattle.deputy_types.specs.Fitting.{Fits, HoldsFitting, place_value, member_value}
use Rattle.deputy_rules.specs.declared.naming.Names.TheVariants as names
use Rattle.deputy_rules.specs.declared.naming.Naming.{Naming}
use Rattle.deputy_rules.specs.Changes.{changed, shape_of}
use Rattle.deputy_rules.specs.Context.{Context}
use Rattle.deputy_rules.specs.NameValues.{AreOnce, IsNamed, IsNumber, IsStructPlace}
use Rattle.deputy_rules.specs.SumValues.{HasValue}
use Rattle.deputy_rules.specs.Values.{of_struct}
use Rattle.driver_safety.specs.TypeFacts.{HasTypes, IsMemberOf, IsSibling, IsBaseOf, NamesSiblings, ShapeNamesSiblings}
use Rattle.driver_safety.proofs.assignments.SiblingRules.{ShapeFits, OthersKeep, ShapeRenames, AllRenamed}
use Rattle.driver_safety.proofs.assignments.StructNames.{old_has, old_names, new_names, agree_names}

some_same : {A : Type 0} (a b : A) → ◌≡◌ {A = Option A} (Some a) (Some b) → a ≡ b
some_same a b h = cc

-- ---- sides whose names have the same values
module _ (t : StructShape) (g h : ℕ → ℤ) (same : (j : ℕ) → IsSibling t j → g j ≡ h j) where
  terms_same : (ts : List (ℤ × ℕ)) (sum : ℤ) → All (λ x. IsSibling t x.1) ts → edge_from g ts sum ≡ edge_from h ts sum
  terms_same [] sum all = refl
  terms_same (x ∷ ts) sum all =
      ap (λ (z : ℤ). edge_from g ts (sum +ℤ (x.0 *ℤ z))) (same x.1 (All-head (λ x. IsSibling t x.1) x ts all))
      ∙ terms_same ts (sum +ℤ (x.0 *ℤ h x.1)) (All-tail (λ x. IsSibling t x.1) x ts all)

  base_same : (v : ℤ) (b : Option ℕ) → IsBaseOf t b → edge_base g v b ≡ edge_base h v b
  base_same v None n = refl
  base_same v (Some k) n = same k n

  pub names_same : (v : ℤ) (e : Edge) → NamesSiblings t e → edge_value g v e ≡ edge_value h v e
  unfolding edge_value
  names_same v e n = ap (λ (z : ℤ). edge_from g e.terms (z +ℤ e.bytes)) (base_same v e.base n.base)
      ∙ terms_same e.terms (edge_base h v e.base +ℤ e.bytes) n.terms

-- whether a member is an arm
abbrev pub is_arm_at : StructShape → ℕ → Bool
is_arm_at t i = unwrap_or (option_map (λ (y : Member). is_some y.arm) (slice_get t.members i)) false

-- the values of members with a new one: an arm, which no annotation names, is left out
abbrev pub renamed : StructShape → (ℕ → ℤ) → (ℕ → ℤ) → ℕ → ℤ
renamed t before now i = if is_arm_at t i then before i else now i

pub plain_at : (t : StructShape) (before now : ℕ → ℤ) (i : ℕ) (y : Member) → slice_get t.members i ≡ Some y → y.arm ≡ None
    → renamed t before now i ≡ now i
plain_at t before now i y is free = ap (λ (b : Bool). if b then before i else now i)
    (ap (λ (o : Option Member). unwrap_or (option_map (λ (y : Member). is_some y.arm) o) false) is ∙ ap (λ (o : Option (ℕ × ℤ)). is_some o)
    free)

module _ (f : CheckedFn) (ctx : Context) (blocks : List Block) (st : State) (types : HasTypes ctx.table) (place : CheckedExpr) (a s : ℕ)
    (t : StructShape)
    (is : IsStructPlace st ctx.table place a s t) (named : (k : ℕ) (y : Member) → slice_get t.members k ≡ Some y → IsNumber y.shape
    → IsNamed st a t k)
    (facts : (i : ℕ) (y : Member) → slice_get t.members i ≡ Some y → IsMemberOf ctx.table s t i y) (k : ℕ) (now : ℕ → ℤ) (new : Sum)
    (once : (m : Member) (x : Scalar) → slice_get t.members k ≡ Some m → m.shape ≡ shape.Int x → AreOnce new.parts) (has : IsSibling t k
    → HasValue st new (now k))
    (stays : (i : ℕ) (y : Member) → slice_get t.members i ≡ Some y → y.arm ≡ None → i ≢ k → now i ≡ member_value st.memory.bytes a t i)
  where
    abbrev pub before : ℕ → ℤ
    before = member_value st.memory.bytes a t

    abbrev pub after : ℕ → ℤ
    after = renamed t before now

    abbrev sibling_named : (j : ℕ) → IsSibling t j → IsNamed st a t j
    sibling_named j n = named j n.member n.found n.number

    sibling_after : (j : ℕ) → IsSibling t j → after j ≡ now j
    sibling_after j n = plain_at t before now j n.member n.found n.no_arm

    sibling_stays : (j : ℕ) → IsSibling t j → j ≢ k → after j ≡ before j
    sibling_stays j n other = sibling_after j n ∙ stays j n.member n.found n.no_arm other

    new_has : IsSibling t k → HasValue st new (after k)
    new_has n = subst (HasValue st new) (sym (sibling_after k n)) (has n)

    own_stays : (i : ℕ) (y : Member) → slice_get t.members i ≡ Some y → i ≢ k → after i ≡ before i
    own_stays i y found n = by y.arm refl
      where
        by : (o : Option (ℕ × ℤ)) → y.arm ≡ o → after i ≡ before i
        by None e = plain_at t before now i y found e ∙ stays i y found e n
        by (Some x) e = ap (λ (b : Bool). if b then before i else now i)
            (ap (λ (o : Option Member). unwrap_or (option_map (λ (y : Member). is_some y.arm) o) false) found
            ∙ ap (λ (o : Option (ℕ × ℤ)). is_some o) e)

    abbrev old : Naming
    old = of_struct place s

    abbrev changes : Naming
    changes = changed (names.OfStruct place s) k new

    shape_renamed : (i : ℕ) (y : Member) → slice_get t.members i ≡ Some y → (x : Shape) → y.shape ≡ x → ShapeRenames f ctx blocks st types
        old changes k before after i (Some x)
    shape_renamed i y found (shape.Int s) e = tt
    shape_renamed i y found (shape.Struct n) e = tt
    shape_renamed i y found shape.Address e = tt
    shape_renamed i y found (shape.Pointer elem bounds.Hidden) e = tt
    shape_renamed i y found (shape.Pointer elem bounds.Nullterm) e = tt
    shape_renamed i y found (shape.Pointer elem (bounds.Within lo hi)) e =
        let n = subst (ShapeNamesSiblings t) e (facts i y found).names in
        let low = agree_names st ctx place a s t is sibling_named k after new once new_has sibling_stays lo n.0 in
        let high = agree_names st ctx place a s t is sibling_named k after new once new_has sibling_stays hi n.1 in (
          record {
            low_same = low;
            high_same = high;
            low = old_names st ctx place a s t is sibling_named lo n.0;
            high = old_names st ctx place a s t is sibling_named hi n.1;
            lower = new_names st ctx place a s t is sibling_named k after new once new_has sibling_stays lo n.0;
            higher = new_names st ctx place a s t is sibling_named k after new once new_has sibling_stays hi n.1;
          },
          old_has st ctx place a s t is sibling_named i (named i y found (subst IsNumber (sym e) tt)),
          own_stays i y found,
        )

    abbrev AreBehind : ℕ → List Member → Type 0
    AreBehind i ms = (j : ℕ) (y : Member) → slice_get ms j ≡ Some y → slice_get t.members (i + j) ≡ Some y

    each_renamed : (i : ℕ) (ms : List Member) → AreBehind i ms → AllRenamed f ctx blocks st types old changes k before after i
        (map shape_of ms)
    each_renamed i [] at = tt
    each_renamed i (y ∷ ms) at =
        let here : i + 0 ≡ i = omega arith in (
          shape_renamed i y (subst (λ (n : ℕ). slice_get t.members n ≡ Some y) here (at 0 y refl)) y.shape refl,
          each_renamed (i + 1) ms (λ j z h. let there : i + suc j ≡ i + 1 + j = omega arith in subst
              (λ (n : ℕ). slice_get t.members n ≡ Some
              z) there (at (suc j) z h)),
        )

    plus_none : (j : ℕ) → 0 + j ≡ j
    plus_none j = omega arith

    pub all_renamed : AllRenamed f ctx blocks st types old changes k before after 0 (map shape_of t.members)
    all_renamed = each_renamed 0 t.members (λ j y h. subst (λ (n : ℕ). slice_get t.members n ≡ Some y) (sym (plus_none j)) h)

    -- ---- what the siblings keep, by number
    abbrev FitsAt : (ℕ → ℤ) → ℕ → Shape → Type 0
    FitsAt sibling i x = ShapeFits f ctx blocks st types old changes k sibling i (Some x)

    others_at : (i : ℕ) (ms : List Member) → OthersKeep f ctx blocks st types old changes k before after i (map shape_of ms)
        → (j : ℕ) (y : Member) → slice_get ms j ≡ Some y → i + j ≢ k
        → FitsAt before (i + j) y.shape → FitsAt after (i + j) y.shape
    others_at i [] all j y h n = absurd cc
    others_at i (x ∷ ms) all zero y h n =
        let here : i ≡ i + 0 = omega arith in
        subst (λ (q : ℕ). FitsAt before q y.shape → FitsAt after q y.shape) here
        (subst (λ (w : Member). FitsAt before i w.shape → FitsAt after i w.shape) (some_same x y h) (all.0 (λ e. n (sym here ∙ e))))
    others_at i (x ∷ ms) all (suc j) y h n =
        let next : i + 1 + j ≡ i + suc j = omega arith in
        subst (λ (q : ℕ). FitsAt before q y.shape → FitsAt after q y.shape) next (others_at (i + 1) ms all.1 j y h (λ e. n (sym next ∙ e)))

    abbrev pub OthersHold : Type 0
    OthersHold = OthersKeep f ctx blocks st types old changes k before after 0 (map shape_of t.members)

    from_first : OthersHold → (i : ℕ) (y : Member) → slice_get t.members i ≡ Some y → i ≢ k → FitsAt before i y.shape
        → FitsAt after i y.shape
    from_first others i y h n = subst (λ (q : ℕ). FitsAt before q y.shape → FitsAt after q y.shape) (plus_none i)
        (others_at 0 t.members others i y h (λ e. n (sym (plus_none i) ∙ e)))

    -- a sibling that is alone and no arm fits with the new values of all members
    module _ (elems_bytes : List ℕ) (now_is : now ≡ member_value elems_bytes a t) where
      value_of_member : (bytes : List ℕ) (i : ℕ) (y : Member) → slice_get t.members i ≡ Some y
          → member_value bytes a t i ≡ place_value bytes
          (a + y.offset) y.shape
      value_of_member bytes i y h = ap (λ (o : Option Member). unwrap_or (option_map (λ m. place_value bytes (a + m.offset) m.shape) o)
          (pos 0)) h

      abbrev Holds : Member → Shape → Type 0
      Holds y x = HoldsFitting blocks ctx.table.elems ctx.table.structs (member_value elems_bytes a t) elems_bytes (a + y.offset) x

      abbrev Held : Member → Shape → Type 0
      Held y x = HoldsFitting blocks ctx.table.elems ctx.table.structs before st.memory.bytes (a + y.offset) x

      now_at : (i : ℕ) → now i ≡ member_value elems_bytes a t i
      now_at i = ap (λ (g : ℕ → ℤ). g i) now_is

      value_same : (i : ℕ) (y : Member) → slice_get t.members i ≡ Some y → y.arm ≡ None → i ≢ k → place_value elems_bytes (a + y.offset)
          y.shape ≡ place_value st.memory.bytes (a + y.offset) y.shape
      value_same i y h free n = sym (value_of_member elems_bytes i y h) ∙ sym (now_at i) ∙ stays i y h free n
          ∙ value_of_member st.memory.bytes i y h

      shape_holds : OthersHold → (i : ℕ) (y : Member) → slice_get t.members i ≡ Some y → i ≢ k → y.arm ≡ None → (x : Shape) → y.shape ≡ x
          → Held y x → Holds y x
      shape_holds others i y h n free (shape.Int s) e held = tt
      shape_holds others i y h n free (shape.Struct s) e held = tt
      shape_holds others i y h n free shape.Address e held = tt
      shape_holds others i y h n free (shape.Pointer elem bounds.Hidden) e held = tt
      shape_holds others i y h n free (shape.Pointer elem bounds.Nullterm) e held =
          let same = subst (λ (x : Shape). place_value elems_bytes (a + y.offset) x ≡ place_value st.memory.bytes (a + y.offset) x) e
          (value_same i y h free n) in
          subst (λ (v : ℤ). Fits blocks ctx.table.elems ctx.table.structs elem true (pos 0) (pos 0) v) (sym same) held
      shape_holds others i y h n free (shape.Pointer elem (bounds.Within lo hi)) e held =
          let x : Shape = shape.Pointer elem (bounds.Within lo hi) in
          let names = subst (ShapeNamesSiblings t) e (facts i y h).names in
          let was : before i ≡ place_value st.memory.bytes (a + y.offset) x = value_of_member st.memory.bytes i y h
          ∙ ap (place_value st.memory.bytes (a + y.offset)) e in
          let is_now : after i ≡ place_value elems_bytes (a + y.offset) x = plain_at t before now i y h free ∙ now_at i
          ∙ value_of_member elems_bytes i y h ∙ ap (place_value elems_bytes (a + y.offset)) e in
          let v : ℤ = place_value elems_bytes (a + y.offset) x in
          let fits_before : FitsAt before i x = subst (λ (z : ℤ). Fits blocks ctx.table.elems ctx.table.structs elem false
          (edge_value before z lo) (edge_value before z hi) z) (sym was) held in
          let fits_after : FitsAt after i x = subst (λ (z : Shape). FitsAt before i z → FitsAt after i z) e (from_first others i y h n)
          fits_before in
          let there = subst (λ (z : ℤ). Fits blocks ctx.table.elems ctx.table.structs elem false (edge_value after z lo)
          (edge_value after z hi) z) is_now fits_after in
          let agree : (j : ℕ) → IsSibling t j → after j ≡ member_value elems_bytes a t j = λ j m. sibling_after j m ∙ now_at j in
          subst (λ (z : ℤ). Fits blocks ctx.table.elems ctx.table.structs elem false z (edge_value (member_value elems_bytes a t) v hi) v)
          (names_same t after (member_value elems_bytes a t) agree v lo names.0)
          (subst (λ (z : ℤ). Fits blocks ctx.table.elems ctx.table.structs elem false (edge_value after v lo) z v)
          (names_same t after (member_value elems_bytes a t) agree v hi names.1) there)

      pub others_hold : OthersHold → (i : ℕ) (y : Member) → slice_get t.members i ≡ Some y → i ≢ k → y.arm ≡ None → Held y y.shape
          → Holds y y.shape
      others_hold others i y h n free held = shape_holds others i y h n free y.shape refl held
