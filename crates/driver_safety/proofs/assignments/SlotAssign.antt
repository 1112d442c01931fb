-- An assignment to a local is not wild, and leaves a good frame: what is assigned fits the local's type, and each pointer whose annotation
-- names the local fits with the
-- new value.
use Rattle.std.proofs.Common.{◌≡◌, ◌≢◌, ℕ, ◌+◌, ◌<◌, ◌==◌, IsTrue, Bool, true, false, List, [], ◌∷◌}
use Rattle.std.proofs.Common.{◌++◌, All, ℤ, pos, negsuc, ◌+ℤ◌, ◌*ℤ◌, Option, Some, None, Ok, Err}
use Rattle.std.proofs.Common.{if◌then◌else◌, refl, sym, ap, ◌∙◌, subst, true≢false}
use Rattle.std.proofs.lemmas.Bool.Decides.{Decides-eqb}
use Rattle.std.proofs.lemmas.List.{get_or-set_same, get_or-set_other, length-set}
use Rattle.std.proofs.lemmas.List.Elements.{All-head, All-tail}
use Rattle.sd_base.specs.Blocks.{Block}
use Rattle.sd_base.specs.declared.actors.Fat.{Fat}
use Rattle.checked_tree.specs.declared.shapes.Bounds.{Bounds}
use Rattle.checked_tree.specs.declared.shapes.Bounds.TheVariants as bounds
use Rattle.checked_tree.specs.declared.shapes.Edge.{Edge}
use Rattle.checked_tree.specs.declared.shapes.Scalar.{Scalar}
use Rattle.checked_tree.specs.declared.shapes.Scalar.TheVariants.{Void, U8, I8, U16, I16, I32, U32, Pointer}
use Rattle.checked_tree.specs.declared.shapes.Shape.{Shape}
use Rattle.checked_tree.specs.declared.shapes.Shape.TheVariants as shape
use Rattle.checked_tree.specs.declared.statements.CheckedStmt.{CheckedStmt, out-CheckedStmt}
use Rattle.checked_tree.specs.declared.statements.CheckedStmt.TheVariants as statement
use Rattle.checked_tree.specs.declared.stops.Stop.TheVariants.{Wild}
use Rattle.checked_tree.specs.declared.sums.Sum.{Sum}
use Rattle.checked_tree.specs.declared.units.CheckedFn.{CheckedFn}
use Rattle.checked_tree.specs.Act.{act, goes_on, with_local, On}
use Rattle.checked_tree.specs.Conditions.{State}
use Rattle.checked_tree.specs.Edges.{edge_value, edge_from, edge_base}
use Rattle.checked_tree.specs.Eval.{eval, tests}
use Rattle.checked_tree.specs.Numbers.{converted, is_of, is_value, is_word, word_of}
use Rattle.checked_tree.specs.Operands.{null, taken}
use Rattle.checked_tree.specs.Outcome.{Outcome, Got, ◌>>=◌, Safe}
use Rattle.checked_tree.proofs.NumberRanges.{of_value, converted_of, word_value}
use Rattle.checked_tree.proofs.Outcomes.{safe_bind}
use Rattle.deputy_types.specs.declared.element.Element.{Element}
use Rattle.deputy_types.specs.Fitting.{Fits, null as nowhere, in_text, in_bounds}
use Rattle.deputy_types.specs.Table.{element_at}
use Rattle.deputy_rules.specs.declared.derived.Value.TheVariants as value
use Rattle.deputy_rules.specs.declared.derived.Whole.{Whole}
use Rattle.deputy_rules.specs.declared.handed.Handed.{Handed}
use Rattle.deputy_rules.specs.declared.naming.Names.TheVariants as names
use Rattle.deputy_rules.specs.Assignment.{assign_integer, assign_annotated}
use Rattle.deputy_rules.specs.Changes.{changed, slot_changes}
use Rattle.deputy_rules.specs.Coercion.{converted_side, coerce_to}
use Rattle.deputy_rules.specs.Context.{Context, slot_shape}
use Rattle.deputy_rules.specs.NameValues.{AreOnce, local_at}
use Rattle.deputy_rules.specs.Sums.{sum_of}
use Rattle.deputy_rules.specs.SumValues.{got_or_zero, HasValue}
use Rattle.deputy_rules.specs.Values.{of_slots}
use Rattle.driver_safety.specs.Derivations.{IsValue}
use Rattle.driver_safety.specs.Goodness.{IsGood, SlotHolds, SlotFits}
use Rattle.driver_safety.specs.TypeFacts.{HasTypes, HasSlots, IsInteger, IsIntegerSlot, NamesSlots}
use Rattle.driver_safety.proofs.assignments.Conversions.{converted_has, converted_once}
use Rattle.driver_safety.proofs.assignments.HandedRules.{IsHanded, coerce_to_sound}
use Rattle.driver_safety.proofs.assignments.Handing.{Hands}
use Rattle.driver_safety.proofs.assignments.SiblingRules.{OthersKeep, siblings_kept}
use Rattle.driver_safety.proofs.assignments.SlotChanges.{IsPlainSlot, IsNext, slots_have, all_renamed, frame_next}
use Rattle.driver_safety.proofs.checks.Evaluations.{safe_same, safe_weaker, Pass, pass_none, pass_then}
use Rattle.driver_safety.proofs.checks.Sounding.{Sound, then_sound, pure_sound, weaker}
use Rattle.driver_safety.proofs.expressions.PlaceRules.{safe_step}
use Rattle.driver_safety.proofs.expressions.ReadRules.{no_void}

some_same : {A : Type 0} (a b : A) → ◌≡◌ {A = Option A} (Some a) (Some b) → a ≡ b
some_same a b h = cc

pub taken_is : (s : Scalar) (z : ℤ) → IsInteger s → taken s z ≡ Ok (converted s z)
unfolding taken
taken_is Void z i = absurd i
taken_is (Pointer size) z i = absurd i
taken_is U8 z i = refl
taken_is I8 z i = refl
taken_is U16 z i = refl
taken_is I16 z i = refl
taken_is I32 z i = refl
taken_is U32 z i = refl

-- a word is taken as a pointer as it is
pub word_taken : (v : ℤ) → IsTrue (is_word v) → taken (Pointer 0) v ≡ Ok v
unfolding taken
word_taken (pos n) h = ap (λ (b : Bool). (if b then Ok n else Err Wild) >>= λ a. Ok (pos a)) h
word_taken (negsuc n) h = absurd cc

word_is : (v : ℤ) → IsTrue (is_word v) → (n : ℕ) × (v ≡ pos n) × (word_of v ≡ Ok n)
word_is (pos n) h = (n, refl, ap (λ (b : Bool). if b then Ok n else Err Wild) h)
word_is (negsuc n) h = absurd cc

eqb_not : (m n : ℕ) → (m == n) ≡ false → n ≢ m
eqb_not m n h e = true≢false (sym ((Decides-eqb m n).1 (sym e)) ∙ h)

-- the pointer that was got, and null where none was
abbrev fat_or_null : Outcome Fat → Fat
fat_or_null (Ok p) = p
fat_or_null (Err e) = null

module _ (f : CheckedFn) (ctx : Context) (blocks : List Block) (st : State) (good : IsGood ctx blocks st) (types : HasTypes ctx.table)
    (slots : HasSlots ctx) where
  -- what a simple statement leaves
  abbrev pub Leaves : CheckedStmt → Type 0
  Leaves x = Safe (act [] f st (out-CheckedStmt x)) (λ a. IsGood ctx blocks a.state × (a.turn ≡ On))

  not_same : (k slot : ℕ) (x y : Shape) → slot_shape ctx k ≡ Some y → slot_shape ctx slot ≡ Some x → (y ≡ x → ⊥) → k ≢ slot
  not_same k slot x y h is n e = n (some_same y x (sym h ∙ ap (slot_shape ctx) e ∙ is))

  -- ---- one slot
  module _ (slot : ℕ) (x : Shape) (is : slot_shape ctx slot ≡ Some x) (plain : x ≢ shape.Address) (z : ℤ) (value : IsTrue (is_value z))
    where
      abbrev next : State
      next = with_local st slot z

      pub same_slot : local_at next slot ≡ z
      same_slot = get_or-set_same st.locals slot z (pos 0) (good.frame.long slot x is)

      stays : (k : ℕ) → k ≢ slot → local_at next k ≡ local_at st k
      stays k n = get_or-set_other st.locals slot k z (pos 0) n

      address_not : (k : ℕ) → slot_shape ctx k ≡ Some shape.Address → k ≢ slot
      address_not k h = not_same k slot x shape.Address h is (λ e. plain (sym e))

      values_next : (k : ℕ) → IsTrue (is_value (local_at next k))
      values_next k = by (slot == k) refl
        where
          by : (b : Bool) → (slot == k) ≡ b → IsTrue (is_value (local_at next k))
          by true e = subst (λ (n : ℕ). IsTrue (is_value (local_at next n))) ((Decides-eqb slot k).0 e)
              (subst (λ (v : ℤ). IsTrue (is_value v)) (sym same_slot) value)
          by false e = subst (λ (v : ℤ). IsTrue (is_value v)) (sym (stays k (eqb_not slot k e))) (good.frame.values k)

      pub simple_next : SlotHolds ctx blocks next slot x → IsNext f ctx blocks st good types slots slot x z next
      simple_next own = record {
        memory = refl;
        same = same_slot;
        stays = λ k p n. stays k n;
        hidden_stays = λ k h n e. let both = slots.hidden k h e in (
          stays h (address_not h both.0),
          stays (h + 1)
              (address_not (h + 1) both.1),
        );
        words = λ k h. subst (λ (v : ℤ). IsTrue (is_word v)) (sym (stays k (address_not k h))) (good.frame.holds k shape.Address h);
        values = values_next;
        long = λ k y h. subst (λ (n : ℕ). k < n) (sym (length-set st.locals slot z)) (good.frame.long k y h);
        own = own;
      }

      -- a value of an annotation that does not name the slot
      base_same : (v : ℤ) (b : Option ℕ) → b ≢ Some slot → edge_base (local_at next) v b ≡ edge_base (local_at st) v b
      base_same v None n = refl
      base_same v (Some k) n = stays k (λ e. n (ap (λ (k : ℕ). Some k) e))

      terms_same : (ts : List (ℤ × ℕ)) (sum : ℤ) → ((s : Scalar) → x ≢ shape.Int s) → All (λ x. IsIntegerSlot ctx x.1) ts
          → edge_from (local_at next) ts sum ≡ edge_from (local_at st) ts sum
      terms_same [] sum n all = refl
      terms_same (t ∷ ts) sum n all =
          let i = All-head (λ x. IsIntegerSlot ctx x.1) t ts all in
          let other : t.1 ≢ slot = not_same t.1 slot x (shape.Int i.0) i.1 is (λ e. n i.0 (sym e)) in
          ap (λ (v : ℤ). edge_from (local_at next) ts (sum +ℤ (t.0 *ℤ v))) (stays t.1 other)
          ∙ terms_same ts (sum +ℤ (t.0 *ℤ local_at st t.1)) n (All-tail (λ x. IsIntegerSlot ctx x.1) t ts all)

      pub edge_same : (v : ℤ) (e : Edge) → ((s : Scalar) → x ≢ shape.Int s) → NamesSlots ctx e → e.base ≢ Some slot
          → edge_value (local_at next) v e ≡ edge_value (local_at st) v e
      unfolding edge_value
      edge_same v e n names b = ap (λ (y : ℤ). edge_from (local_at next) e.terms (y +ℤ e.bytes)) (base_same v e.base b)
          ∙ terms_same e.terms (edge_base (local_at st) v e.base +ℤ e.bytes) n names.integers

  -- ---- `l = e` of an integer
  module _ (slot : ℕ) (s : Scalar) (is : slot_shape ctx slot ≡ Some (shape.Int s)) where
    abbrev integer : IsInteger s
    integer = slots.shapes slot (shape.Int s) is

    abbrev sum_for : Whole → Sum
    sum_for w = sum_of (converted_side s w)

    abbrev number_for : Whole → ℤ
    number_for w = converted s (got_or_zero (eval [] f st w.form))

    int_not : (w : Whole) → IsTrue (is_of s (number_for w)) → IsNext f ctx blocks st good types slots slot (shape.Int s) (number_for w)
        (with_local st slot (number_for w))
    int_not w range = simple_next slot (shape.Int s) is (λ e. absurd cc) (number_for w) (of_value s (number_for w) range)
        (subst (λ (v : ℤ). IsTrue (is_of s v)) (sym (same_slot slot (shape.Int s) is (λ e. absurd cc) (number_for w)
        (of_value s (number_for w) range))) range)

    pub assign_integer_sound : (w : Whole) → Sound f st ctx.first (assign_integer ctx slot s w) (λ x. IsValue f ctx blocks st (value.Int w)
        → Leaves x)
    unfolding assign_integer slot_changes act
    assign_integer_sound w =
        let next : State = with_local st slot (number_for w) in
        let range : IsTrue (is_of s (number_for w)) = converted_of s (got_or_zero (eval [] f st w.form)) (no_void s integer) in
        let there = int_not w range in
        then_sound f st ctx.first _ _ _ _
        (siblings_kept f ctx blocks st types of_slots (changed names.OfSlots slot (sum_for w)) slot (Unit {0}) (local_at st)
        (local_at next) 0 ctx.slots [])
        (λ ids. pure_sound f st ctx.first (statement.Assign ctx.line slot s w.form ids) _ (λ kept valued.
        safe_same _ _ _ (ap (act [] f st) (statement.outs-Assign ctx.line slot s w.form ids))
        (safe_step (eval [] f st w.form) _ _ _ valued.1 (λ v seen here.
        let same : converted s v ≡ number_for w = ap (λ (g : Got). converted s (got_or_zero g)) (sym seen) in
        let has : HasValue st (sum_for w) (number_for w) = subst (λ (x : ℤ). HasValue st (sum_for w) x) same (converted_has f st s w v
        (no_void s integer) seen here) in
        let once : (t : Scalar) → slot_shape ctx slot ≡ Some (shape.Int t) → AreOnce (sum_for w).parts = λ t h. converted_once f st s w in
        safe_bind (tests [] f st ids) _ _ _
        (kept (all_renamed f ctx blocks st good types slots slot next (number_for w) (sum_for w) once has there.same there.stays)
        (pass_none f st (Unit {0}) tt))
        (λ u others. safe_same _ _ _ (ap (λ (g : Got). g >>= λ x. goes_on (with_local st slot x)) (taken_is s v integer
        ∙ ap (λ (x : ℤ). Ok x) same)) (
          frame_next f ctx blocks st good types slots slot next (number_for w) (sum_for w) once has there.same there.stays (shape.Int s) is
              there others.1,
          refl,
        ))))))

  -- ---- of a pointer to a local with an annotation
  module _ (slot elem : ℕ) (b : Bounds) (is : slot_shape ctx slot ≡ Some (shape.Pointer elem b)) (h : Handed) where
    abbrev pointer_value : ℤ
    pointer_value = got_or_zero (eval [] f st h.form)

    abbrev pointer_next : State
    pointer_next = with_local st slot pointer_value

    pointer_once : (t : Scalar) → slot_shape ctx slot ≡ Some (shape.Int t) → AreOnce h.at.parts
    pointer_once t e = absurd (no_int t (some_same (shape.Int t) (shape.Pointer elem b) (sym e ∙ is)))
      where
        no_int : (t : Scalar) → shape.Int t ≡ shape.Pointer elem b → ⊥
        no_int t e = absurd cc

    no_address : shape.Pointer elem b ≢ shape.Address
    no_address e = absurd cc

    got_word : (v : ℤ) → eval [] f st h.form ≡ Ok v → v ≡ pointer_value
    got_word v e = ap got_or_zero (sym e)

    -- the local fits with the pointer in it; the checks of the coercion are `ids`
    abbrev Fitted : List ℕ → Bool → Type 0
    Fitted ids nullterm = (v : ℤ) → eval [] f st h.form ≡ Ok v → IsHanded f ctx blocks st types h elem nullterm v
        → Pass f st ids (SlotFits ctx blocks pointer_next slot elem b)

    assigned : (ids more : List ℕ) (nullterm : Bool) → Fitted ids nullterm → Hands f ctx blocks st good types slots h elem nullterm
        → ((P : Type 0) → (has : HasValue st h.at pointer_value) → (same : local_at pointer_next slot ≡ pointer_value)
        → (stays : (k : ℕ) → IsPlainSlot ctx k → k ≢ slot → local_at pointer_next k ≡ local_at st k)
        → Pass f st more (Unit {0} × OthersKeep f ctx blocks st types of_slots (changed names.OfSlots slot h.at) slot (local_at st)
        (local_at pointer_next) 0 ctx.slots))
        → Leaves (statement.Assign ctx.line slot (Pointer 0) h.form (ids ++ more))
    unfolding act
    assigned ids more nullterm own d kept =
        safe_same _ _ _ (ap (act [] f st) (statement.outs-Assign ctx.line slot (Pointer 0) h.form (ids ++ more)))
        (safe_step (eval [] f st h.form) _ _ _ d (λ v seen here.
        let same : v ≡ pointer_value = got_word v seen in
        let word : IsTrue (is_word pointer_value) = subst (λ (z : ℤ). IsTrue (is_word z)) same here.word in
        let has : HasValue st h.at pointer_value = subst (HasValue st h.at) same here.at in
        let s = same_slot slot (shape.Pointer elem b) is no_address pointer_value (word_value pointer_value word) in
        let stay : (k : ℕ) → IsPlainSlot ctx k → k ≢ slot → local_at pointer_next k ≡ local_at st k = λ k p n. stays slot
        (shape.Pointer elem b) is no_address pointer_value (word_value pointer_value word) k n in
        safe_bind (tests [] f st (ids ++ more)) _ _ _
        (pass_then f st ids more (SlotFits ctx blocks pointer_next slot elem b) _ (own v seen here) (λ fits. kept (Unit {0}) has s stay))
        (λ u both.
        let there = simple_next slot (shape.Pointer elem b) is no_address pointer_value (word_value pointer_value word)
        (subst (λ (z : ℤ). IsTrue (is_word z)) (sym s) word, both.0) in
        safe_same _ _ _ (ap (λ (g : Got). g >>= λ x. goes_on (with_local st slot x)) (word_taken v here.word ∙ ap (λ (x : ℤ). Ok x) same)) (
          frame_next f ctx blocks st good types slots slot pointer_next pointer_value h.at pointer_once has s stay (shape.Pointer elem b) is
              there both.1.1,
          refl,
        ))))

    pub annotated_sound : (key : Element) (nullterm : Bool) (K : Type 0) → Sound f st ctx.first (coerce_to ctx of_slots key b h) (λ ids. K
        → Fitted ids nullterm)
        → Sound f st ctx.first (assign_annotated ctx slot key b h) (λ x. K → Hands f ctx blocks st good types slots h elem nullterm
        → Leaves x)
    unfolding assign_annotated slot_changes
    annotated_sound key nullterm K own =
        then_sound f st ctx.first _ _ _ _ own (λ ids. then_sound f st ctx.first _ _ _ _
        (siblings_kept f ctx blocks st types of_slots (changed names.OfSlots slot h.at) slot (Unit {0}) (local_at st)
        (local_at pointer_next) 0 ctx.slots [])
        (λ more. pure_sound f st ctx.first (statement.Assign ctx.line slot (Pointer 0) h.form (ids ++ more)) _ (λ kept fitted k d.
        assigned ids more nullterm (fitted k) d (λ P has s stay.
        kept (all_renamed f ctx blocks st good types slots slot pointer_next pointer_value h.at pointer_once has s stay)
        (pass_none f st (Unit {0}) tt)))))

  text_bounds : (elem : ℕ) (lo hi v : ℤ) → Fits blocks ctx.table.elems ctx.table.structs elem true lo hi v → Fits blocks ctx.table.elems
      ctx.table.structs elem true (pos 0) (pos 0) v
  text_bounds elem lo hi v (nowhere e) = nowhere e
  text_bounds elem lo hi v (in_text n t) = in_text n t
  text_bounds elem lo hi v (in_bounds n t) = absurd cc

  -- of a pointer to text
  pub assign_text_sound : (slot elem : ℕ) (key : Element) (h : Handed) → slot_shape ctx slot ≡ Some (shape.Pointer elem bounds.Nullterm)
      → Sound f st ctx.first (assign_annotated ctx slot key bounds.Nullterm h) (λ x. Hands f ctx blocks st good types slots h elem true
      → Leaves x)
  unfolding coerce_to
  assign_text_sound slot elem key h is = weaker f st ctx.first _ _ _ (λ x q d. q tt d) (annotated_sound slot elem bounds.Nullterm is h key
      true (Unit {0}) (pure_sound f st ctx.first [] _ (λ k v seen here.
      let z : ℤ = got_or_zero (eval [] f st h.form) in
      let same : v ≡ z = ap got_or_zero (sym seen) in
      let word : IsTrue (is_word z) = subst (λ (y : ℤ). IsTrue (is_word y)) same here.word in
      let s = same_slot slot (shape.Pointer elem bounds.Nullterm) is (λ e. absurd cc) z (word_value z word) in
      pass_none f st _ (subst (λ (y : ℤ). Fits blocks ctx.table.elems ctx.table.structs elem true (pos 0) (pos 0) y) (same ∙ sym s)
      (text_bounds elem here.lo here.hi v here.fits)))))

  -- of a pointer with bounds, which does not name itself
  pub assign_bounded_sound : (slot elem : ℕ) (lo hi : Edge) (key : Element) (h : Handed) → slot_shape ctx slot ≡ Some
      (shape.Pointer elem (bounds.Within lo hi))
      → Sound f st ctx.first (assign_annotated ctx slot key (bounds.Within lo hi) h) (λ x. element_at ctx.table elem ≡ Some key
      → Hands f ctx blocks st good types slots h elem false → Leaves x)
  assign_bounded_sound slot elem lo hi key h is =
      annotated_sound slot elem (bounds.Within lo hi) is h key false (element_at ctx.table elem ≡ Some key) (weaker f st ctx.first _ _ _
      (λ ids q known v seen here.
      let z : ℤ = got_or_zero (eval [] f st h.form) in
      let x : Shape = shape.Pointer elem (bounds.Within lo hi) in
      let same : v ≡ z = ap got_or_zero (sym seen) in
      let word : IsTrue (is_word z) = subst (λ (y : ℤ). IsTrue (is_word y)) same here.word in
      let s = same_slot slot x is (λ e. absurd cc) z (word_value z word) in
      let n = slots.names slot elem lo hi is in
      let own = slots.own slot elem lo hi is in
      let low = edge_same slot x is (λ e. absurd cc) z (word_value z word) v lo (λ t e. absurd cc) n.0 own.0 in
      let high = edge_same slot x is (λ e. absurd cc) z (word_value z word) v hi (λ t e. absurd cc) n.1 own.1 in
      safe_weaker (tests [] f st ids) _ _ (q known (local_at st) v here (slots_have f ctx blocks st good types slots lo)
      (slots_have f ctx blocks st good types slots hi)) (λ u e fits.
      subst (λ (y : ℤ). Fits blocks ctx.table.elems ctx.table.structs elem false (edge_value (local_at (with_local st slot z)) y lo)
      (edge_value (local_at (with_local st slot z)) y hi) y) (same ∙ sym s)
      (subst (λ (l : ℤ). Fits blocks ctx.table.elems ctx.table.structs elem false l (edge_value (local_at (with_local st slot z)) v hi) v)
      (sym low)
      (subst (λ (u : ℤ). Fits blocks ctx.table.elems ctx.table.structs elem false (edge_value (local_at st) v lo) u v) (sym high) fits))))
      (coerce_to_sound f ctx blocks st types of_slots key elem lo hi h))
