-- A slot with a new value: where its own pointers and those of its siblings fit then, the frame is good. What the checks of kind Change ask
-- for is what the siblings need.
use Rattle.std.proofs.Common.{◌≡◌, ◌≢◌, ℕ, zero, suc, ◌+◌, ◌<◌, ◌==◌, IsTrue, Bool, true, false, List, [], ◌∷◌, All, length}
use Rattle.std.proofs.Common.{ℤ, pos, Option, Some, None, slice_get, if◌then◌else◌, refl, sym, ap, ◌∙◌, subst, true≢false, arith}
use Rattle.std.specs.Option.{option_flatten}
use Rattle.std.proofs.lemmas.Bool.Decides.{Decides-eqb}
use Rattle.std.proofs.lemmas.List.Elements.{All-head, All-tail}
use Rattle.sd_base.specs.Blocks.{Block}
use Rattle.c_tree.specs.Slots.{hidden_slot}
use Rattle.checked_tree.specs.declared.shapes.Bounds.TheVariants as bounds
use Rattle.checked_tree.specs.declared.shapes.Edge.{Edge}
use Rattle.checked_tree.specs.declared.shapes.Scalar.{Scalar}
use Rattle.checked_tree.specs.declared.shapes.Shape.{Shape}
use Rattle.checked_tree.specs.declared.shapes.Shape.TheVariants as shape
use Rattle.checked_tree.specs.declared.sums.Sum.{Sum}
use Rattle.checked_tree.specs.declared.units.CheckedFn.{CheckedFn}
use Rattle.checked_tree.specs.Conditions.{State}
use Rattle.checked_tree.specs.Numbers.{is_of, is_value, is_word}
use Rattle.deputy_types.specs.Fitting.{Fits}
use Rattle.deputy_rules.specs.declared.naming.Names.TheVariants as names
use Rattle.deputy_rules.specs.declared.naming.Naming.{Naming}
use Rattle.deputy_rules.specs.Changes.{changed}
use Rattle.deputy_rules.specs.Context.{Context, slot_shape}
use Rattle.deputy_rules.specs.NameValues.{AreOnce, TermsHave, BaseHas, HaveNames, IsNumber, local_at}
use Rattle.deputy_rules.specs.SumValues.{HasValue}
use Rattle.deputy_rules.specs.Values.{name_sum, named_sum, slot_sum, of_slots}
use Rattle.driver_safety.specs.Goodness.{IsGood, IsMemory, SlotHolds, FitsHidden}
use Rattle.driver_safety.specs.TypeFacts.{HasTypes, HasSlots, IsNamedSlot, IsIntegerSlot, IsBaseSlot, NamesSlots}
use Rattle.driver_safety.proofs.assignments.SiblingRules.{TermsAgree, BaseAgrees, ShapeFits, OthersKeep, ShapeRenames, AllRenamed}
use Rattle.driver_safety.proofs.expressions.ReadRules.{slot_has}

some_same : {A : Type 0} (a b : A) → ◌≡◌ {A = Option A} (Some a) (Some b) → a ≡ b
some_same a b h = cc

eqb_not : (m n : ℕ) → (m == n) ≡ false → n ≢ m
eqb_not m n h e = true≢false (sym ((Decides-eqb m n).1 (sym e)) ∙ h)

-- a slot that is no hidden bound
abbrev pub IsPlainSlot : Context → ℕ → Type 0
IsPlainSlot ctx k = (x : Shape) × (slot_shape ctx k ≡ Some x) × (x ≢ shape.Address)

number_plain : (x : Shape) → IsNumber x → x ≢ shape.Address
number_plain x n e = subst IsNumber e n

module _ (f : CheckedFn) (ctx : Context) (blocks : List Block) (st : State) (good : IsGood ctx blocks st) (types : HasTypes ctx.table)
    (slots : HasSlots ctx) where
  -- ---- the names as they are
  pub name_has : (k : ℕ) → HasValue st (name_sum ctx of_slots k) (local_at st k)
  unfolding name_sum named_sum
  name_has k = slot_has f ctx blocks st good types k

  name_once : (k : ℕ) → AreOnce (name_sum ctx of_slots k).parts
  unfolding name_sum named_sum
  name_once k = (refl, tt)

  terms_have : (ts : List (ℤ × ℕ)) → TermsHave st ctx of_slots (local_at st) ts
  terms_have [] = tt
  terms_have (t ∷ ts) = (name_has t.1, name_once t.1, terms_have ts)

  base_has : (b : Option ℕ) → BaseHas st ctx of_slots (local_at st) b
  base_has None = tt
  base_has (Some k) = name_has k

  pub slots_have : (e : Edge) → HaveNames st ctx of_slots (local_at st) e
  slots_have e = record { base = base_has e.base; terms = terms_have e.terms }

  -- ---- a state in which the slot has a new value: what is expected of it
  pub record IsNext (slot : ℕ) (x : Shape) (z : ℤ) (next : State) : Type 0 where
    pub memory : next.memory ≡ st.memory
    pub same : local_at next slot ≡ z
    pub stays : (k : ℕ) → IsPlainSlot ctx k → k ≢ slot → local_at next k ≡ local_at st k
    pub hidden_stays : (k h : ℕ) → k ≢ slot → hidden_slot ctx.locals k ≡ Some h → (local_at next h ≡ local_at st h)
        × (local_at next (h + 1) ≡ local_at st (h + 1))
    pub words : (k : ℕ) → slot_shape ctx k ≡ Some shape.Address → IsTrue (is_word (local_at next k))
    pub values : (k : ℕ) → IsTrue (is_value (local_at next k))
    pub long : (k : ℕ) (y : Shape) → slot_shape ctx k ≡ Some y → k < length next.locals
    pub own : SlotHolds ctx blocks next slot x

  module _ (slot : ℕ) (next : State) (z : ℤ) (new : Sum) (once : (s : Scalar) → slot_shape ctx slot ≡ Some (shape.Int s)
      → AreOnce new.parts) (has : HasValue st new z) (same : local_at next slot ≡ z)
      (stays : (k : ℕ) → IsPlainSlot ctx k → k ≢ slot → local_at next k ≡ local_at st k) where
    abbrev changes : Naming
    changes = changed names.OfSlots slot new

    plain : (k : ℕ) → IsNamedSlot ctx k → IsPlainSlot ctx k
    plain k is = (is.0, is.1, number_plain is.0 is.2)

    new_or : (k : ℕ) → IsNamedSlot ctx k → (b : Bool) → (slot == k) ≡ b → HasValue st (if b then new else slot_sum k) (local_at next k)
    new_or k is true e = subst (λ (v : ℤ). HasValue st new v) (sym (ap (local_at next) (sym ((Decides-eqb slot k).0 e)) ∙ same)) has
    new_or k is false e = subst (λ (v : ℤ). HasValue st (slot_sum k) v) (sym (stays k (plain k is) (eqb_not slot k e)))
        (slot_has f ctx blocks st good types k)

    new_has : (k : ℕ) → IsNamedSlot ctx k → HasValue st (name_sum ctx changes k) (local_at next k)
    unfolding name_sum named_sum
    new_has k is = new_or k is (slot == k) refl

    once_or : (k : ℕ) → IsIntegerSlot ctx k → (b : Bool) → (slot == k) ≡ b → AreOnce (if b then new else slot_sum k).parts
    once_or k is true e = once is.0 (ap (slot_shape ctx) ((Decides-eqb slot k).0 e) ∙ is.1)
    once_or k is false e = (refl, tt)

    new_once : (k : ℕ) → IsIntegerSlot ctx k → AreOnce (name_sum ctx changes k).parts
    unfolding name_sum named_sum
    new_once k is = once_or k is (slot == k) refl

    new_terms : (ts : List (ℤ × ℕ)) → All (λ x. IsNamedSlot ctx x.1) ts → All (λ x. IsIntegerSlot ctx x.1) ts → TermsHave st ctx changes
        (local_at next) ts
    new_terms [] all whole = tt
    new_terms (t ∷ ts) all whole = (
      new_has t.1 (All-head (λ x. IsNamedSlot ctx x.1) t ts all),
      new_once t.1 (All-head (λ x. IsIntegerSlot ctx x.1) t ts whole),
      new_terms ts (All-tail (λ x. IsNamedSlot ctx x.1) t ts all) (All-tail (λ x. IsIntegerSlot ctx x.1) t ts whole),
    )

    new_base : (b : Option ℕ) → IsBaseSlot ctx b → BaseHas st ctx changes (local_at next) b
    new_base None is = tt
    new_base (Some k) is = new_has k is

    new_names : (e : Edge) → NamesSlots ctx e → HaveNames st ctx changes (local_at next) e
    new_names e is = record { base = new_base e.base is.base; terms = new_terms e.terms is.terms is.integers }

    terms_agree : (ts : List (ℤ × ℕ)) → All (λ x. IsNamedSlot ctx x.1) ts → TermsAgree slot (local_at st) (local_at next) ts
    terms_agree [] all = tt
    terms_agree (t ∷ ts) all = (
      stays t.1 (plain t.1 (All-head (λ x. IsNamedSlot ctx x.1) t ts all)),
      terms_agree ts
          (All-tail (λ x. IsNamedSlot ctx x.1) t ts all),
    )

    base_agrees : (b : Option ℕ) → IsBaseSlot ctx b → BaseAgrees slot (local_at st) (local_at next) b
    base_agrees None is = tt
    base_agrees (Some k) is = stays k (plain k is)

    flat_shape : (i : ℕ) (x : Shape) → slice_get ctx.slots i ≡ Some (Some x) → slot_shape ctx i ≡ Some x
    flat_shape i x h = ap option_flatten h

    shape_renamed : (i : ℕ) (x : Option Shape) → slice_get ctx.slots i ≡ Some x → ShapeRenames f ctx blocks st types of_slots changes slot
        (local_at st) (local_at next) i x
    shape_renamed i None h = tt
    shape_renamed i (Some (shape.Int t)) h = tt
    shape_renamed i (Some (shape.Struct n)) h = tt
    shape_renamed i (Some shape.Address) h = tt
    shape_renamed i (Some (shape.Pointer elem bounds.Hidden)) h = tt
    shape_renamed i (Some (shape.Pointer elem bounds.Nullterm)) h = tt
    shape_renamed i (Some (shape.Pointer elem (bounds.Within lo hi))) h =
        let is = flat_shape i (shape.Pointer elem (bounds.Within lo hi)) h in
        let n = slots.names i elem lo hi is in (
          record {
            low_same = (base_agrees lo.base n.0.base, terms_agree lo.terms n.0.terms);
            high_same = (base_agrees hi.base n.1.base, terms_agree hi.terms n.1.terms);
            low = slots_have lo;
            high = slots_have hi;
            lower = new_names lo n.0;
            higher = new_names hi n.1;
          },
          name_has i,
          stays i (shape.Pointer elem (bounds.Within lo hi), is, λ e. absurd cc),
        )

    abbrev AreBehind : ℕ → List (Option Shape) → Type 0
    AreBehind i ss = (k : ℕ) (x : Option Shape) → slice_get ss k ≡ Some x → slice_get ctx.slots (i + k) ≡ Some x

    each_renamed : (i : ℕ) (ss : List (Option Shape)) → AreBehind i ss → AllRenamed f ctx blocks st types of_slots changes slot
        (local_at st) (local_at next) i ss
    each_renamed i [] at = tt
    each_renamed i (x ∷ ss) at =
        let here : i + 0 ≡ i = omega arith in (
          shape_renamed i x (subst (λ (m : ℕ). slice_get ctx.slots m ≡ Some x) here (at 0 x refl)),
          each_renamed (i + 1) ss (λ k y h. let there : i + suc k ≡ i + 1 + k = omega arith in subst (λ (m : ℕ). slice_get ctx.slots m ≡
              Some y) there (at (suc k) y h)),
        )

    plus_none : (k : ℕ) → 0 + k ≡ k
    plus_none k = omega arith

    pub all_renamed : AllRenamed f ctx blocks st types of_slots changes slot (local_at st) (local_at next) 0 ctx.slots
    all_renamed = each_renamed 0 ctx.slots (λ k x h. subst (λ (m : ℕ). slice_get ctx.slots m ≡ Some x) (sym (plus_none k)) h)

    -- ---- what the siblings keep, by number
    abbrev FitsAt : (ℕ → ℤ) → ℕ → Option Shape → Type 0
    FitsAt sibling k x = ShapeFits f ctx blocks st types of_slots changes slot sibling k x

    others_at : (i : ℕ) (ss : List (Option Shape)) → OthersKeep f ctx blocks st types of_slots changes slot (local_at st) (local_at next) i
        ss
        → (k : ℕ) (x : Option Shape) → slice_get ss k ≡ Some x → i + k ≢ slot → FitsAt (local_at st) (i + k) x → FitsAt (local_at next)
        (i + k) x
    others_at i [] all k x h n = absurd cc
    others_at i (y ∷ ss) all zero x h n =
        let here : i ≡ i + 0 = omega arith in
        subst (λ (m : ℕ). FitsAt (local_at st) m x → FitsAt (local_at next) m x) here
        (subst (λ (w : Option Shape). FitsAt (local_at st) i w → FitsAt (local_at next) i w) (some_same y x h)
        (all.0 (λ e. n (sym here ∙ e))))
    others_at i (y ∷ ss) all (suc k) x h n =
        let next' : i + 1 + k ≡ i + suc k = omega arith in
        subst (λ (m : ℕ). FitsAt (local_at st) m x → FitsAt (local_at next) m x) next' (others_at (i + 1) ss all.1 k x h
        (λ e. n (sym next' ∙ e)))

    abbrev pub OthersHold : Type 0
    OthersHold = OthersKeep f ctx blocks st types of_slots changes slot (local_at st) (local_at next) 0 ctx.slots

    shape_at : (k : ℕ) (x : Shape) (o : Option (Option Shape)) → option_flatten o ≡ Some x → o ≡ Some (Some x)
    shape_at k x None h = absurd cc
    shape_at k x (Some y) h = ap (λ (o : Option Shape). Some o) h

    from_first : OthersHold → (k : ℕ) (x : Option Shape) → slice_get ctx.slots k ≡ Some x → k ≢ slot → FitsAt (local_at st) k x
        → FitsAt (local_at next) k x
    from_first others k x h n =
        subst (λ (m : ℕ). FitsAt (local_at st) m x → FitsAt (local_at next) m x) (plus_none k) (others_at 0 ctx.slots others k x h
        (λ e. n (sym (plus_none k) ∙ e)))

    value_stays : (P : ℤ → Type 0) (k : ℕ) → IsPlainSlot ctx k → k ≢ slot → P (local_at st k) → P (local_at next k)
    value_stays P k is n p = subst P (sym (stays k is n)) p

    hidden_fits : ((k h : ℕ) → k ≢ slot → hidden_slot ctx.locals k ≡ Some h → (local_at next h ≡ local_at st h)
        × (local_at next (h + 1) ≡ local_at st (h + 1)))
        → (k elem : ℕ) → IsPlainSlot ctx k → k ≢ slot → (o : Option ℕ) → hidden_slot ctx.locals k ≡ o → FitsHidden ctx blocks st k elem o
        → FitsHidden ctx blocks next k elem o
    hidden_fits stay k elem is n None e fits = fits
    hidden_fits stay k elem is n (Some h) e fits =
        let both = stay k h n e in
        subst (λ (v : ℤ). Fits blocks ctx.table.elems ctx.table.structs elem false v (local_at next (h + 1)) (local_at next k)) (sym both.0)
        (subst (λ (v : ℤ). Fits blocks ctx.table.elems ctx.table.structs elem false (local_at st h) v (local_at next k)) (sym both.1)
        (value_stays (λ v. Fits blocks ctx.table.elems ctx.table.structs elem false (local_at st h) (local_at st (h + 1)) v) k is n fits))

    module _ (x : Shape) (x_is : slot_shape ctx slot ≡ Some x) (is : IsNext slot x z next) where
      other_holds : OthersHold → (k : ℕ) (y : Shape) → slot_shape ctx k ≡ Some y → k ≢ slot → SlotHolds ctx blocks next k y
      other_holds others k (shape.Int t) h n = value_stays (λ v. IsTrue (is_of t v)) k (shape.Int t, h, λ e. absurd cc) n
          (good.frame.holds k (shape.Int t) h)
      other_holds others k (shape.Pointer elem (bounds.Within lo hi)) h n =
          let p : IsPlainSlot ctx k = (shape.Pointer elem (bounds.Within lo hi), h, λ e. absurd cc) in
          let now = good.frame.holds k (shape.Pointer elem (bounds.Within lo hi)) h in (
            value_stays (λ v. IsTrue (is_word v)) k p n now.0,
            from_first others k (Some (shape.Pointer elem (bounds.Within lo hi))) (shape_at k (shape.Pointer elem (bounds.Within lo hi))
                (slice_get ctx.slots k) h) n now.1,
          )
      other_holds others k (shape.Pointer elem bounds.Hidden) h n =
          let p : IsPlainSlot ctx k = (shape.Pointer elem bounds.Hidden, h, λ e. absurd cc) in
          let now = good.frame.holds k (shape.Pointer elem bounds.Hidden) h in
          (value_stays (λ v. IsTrue (is_word v)) k p n now.0, hidden_fits is.hidden_stays k elem p n (hidden_slot ctx.locals k) refl now.1)
      other_holds others k (shape.Pointer elem bounds.Nullterm) h n =
          let p : IsPlainSlot ctx k = (shape.Pointer elem bounds.Nullterm, h, λ e. absurd cc) in
          let now = good.frame.holds k (shape.Pointer elem bounds.Nullterm) h in (
            value_stays (λ v. IsTrue (is_word v)) k p n now.0,
            value_stays (λ v. Fits blocks ctx.table.elems ctx.table.structs elem true
                (pos 0) (pos 0) v) k p n now.1,
          )
      other_holds others k (shape.Struct t) h n = good.frame.holds k (shape.Struct t) h
      other_holds others k shape.Address h n = is.words k h

      holds_next : OthersHold → (k : ℕ) (y : Shape) → slot_shape ctx k ≡ Some y → SlotHolds ctx blocks next k y
      holds_next others k y h = by (slot == k) refl
        where
          by : (b : Bool) → (slot == k) ≡ b → SlotHolds ctx blocks next k y
          by true e =
              let here : slot ≡ k = (Decides-eqb slot k).0 e in
              let y_is : x ≡ y = some_same x y (sym x_is ∙ ap (slot_shape ctx) here ∙ h) in
              subst (λ (n : ℕ). SlotHolds ctx blocks next n y) here (subst (λ (w : Shape). SlotHolds ctx blocks next slot w) y_is is.own)
          by false e = other_holds others k y h (eqb_not slot k e)

      -- the frame is good, where each sibling whose type names the slot fits with its new value
      pub frame_next : OthersHold → IsGood ctx blocks next
      frame_next others = record {
        frame = record { values = is.values; long = is.long; holds = holds_next others };
        memory = subst (IsMemory ctx.table blocks) (sym is.memory) good.memory;
      }
