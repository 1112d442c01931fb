-- An assignment to a pointer local without annotation, which takes its bounds with it in two hidden slots; and so each assignment to a
-- local.
use Rattle.std.proofs.Common.{◌≡◌, ◌≢◌, ◌⊎◌, inl, inr, ℕ, ◌+◌, ◌<◌, ◌^◌, ◌==◌, IsTrue, Bool, true, false, List, []}
use Rattle.std.proofs.Common.{length, ℤ, pos, negsuc, Option, Some, Ok, Err, slice_set, if◌then◌else◌}
use Rattle.std.proofs.Common.{refl, sym, ap, ◌∙◌, subst, true≢false, arith}
use Rattle.std.specs.Ordering.{int_eq}
use Rattle.std.proofs.lemmas.Bool.{lt-ltb}
use Rattle.std.proofs.lemmas.Bool.Decides.{Decides-eqb, Decides-int_eq}
use Rattle.std.proofs.lemmas.List.{get_or-set_same, get_or-set_other, length-set}
use Rattle.sd_base.specs.Blocks.{Block}
use Rattle.c_tree.specs.Slots.{hidden_slot}
use Rattle.sd_base.specs.declared.actors.Fat.{Fat}
use Rattle.checked_tree.specs.declared.shapes.Bounds.TheVariants as bounds
use Rattle.checked_tree.specs.declared.shapes.Edge.{Edge}
use Rattle.checked_tree.specs.declared.shapes.Scalar.{Scalar}
use Rattle.checked_tree.specs.declared.shapes.Shape.{Shape}
use Rattle.checked_tree.specs.declared.shapes.Shape.TheVariants as shape
use Rattle.checked_tree.specs.declared.statements.CheckedStmt.TheVariants as statement
use Rattle.checked_tree.specs.declared.statements.PointerOperand.{PointerOperand}
use Rattle.checked_tree.specs.declared.stops.Stop.TheVariants.{Wild}
use Rattle.checked_tree.specs.declared.units.CheckedFn.{CheckedFn}
use Rattle.checked_tree.specs.Act.{act, goes_on, with_pointer, On}
use Rattle.checked_tree.specs.Conditions.{State}
use Rattle.checked_tree.specs.Eval.{eval, tests}
use Rattle.checked_tree.specs.Numbers.{is_value, is_word, word_of}
use Rattle.checked_tree.specs.Operands.{null, bounded, with_bounds, operand, sum_value}
use Rattle.checked_tree.specs.Outcome.{Outcome, Got, ◌>>=◌, Safe}
use Rattle.checked_tree.proofs.NumberRanges.{word_value}
use Rattle.checked_tree.proofs.Outcomes.{safe_bind}
use Rattle.deputy_types.specs.declared.element.Element.{Element}
use Rattle.deputy_types.specs.Fitting.{Fits, null as nowhere, in_text, in_bounds}
use Rattle.deputy_types.specs.Table.{element_at}
use Rattle.deputy_rules.specs.declared.derived.Derived.{Derived}
use Rattle.deputy_rules.specs.declared.handed.Handed.{Handed}
use Rattle.deputy_rules.specs.declared.naming.Names.TheVariants as names
use Rattle.deputy_rules.specs.Assignment.{assign_automatic, assign_annotated, assign_pointer, assign_local}
use Rattle.deputy_rules.specs.Changes.{changed, slot_changes}
use Rattle.deputy_rules.specs.Coercion.{handed}
use Rattle.deputy_rules.specs.Context.{Context, slot_shape}
use Rattle.deputy_rules.specs.NameValues.{AreOnce, local_at}
use Rattle.deputy_rules.specs.SumValues.{HasValue}
use Rattle.deputy_rules.specs.Values.{integer_of, of_slots}
use Rattle.driver_safety.specs.Derivations.{IsDerived}
use Rattle.driver_safety.specs.Goodness.{IsGood, IsBlock, FitsHidden}
use Rattle.driver_safety.specs.LightHandling.{IsLightHanded, HandsLightly}
use Rattle.driver_safety.specs.TypeFacts.{HasTypes, HasSlots}
use Rattle.driver_safety.proofs.assignments.HandedRules.{IsHanded}
use Rattle.driver_safety.proofs.assignments.Handing.{Hands, handed_sound}
use Rattle.driver_safety.proofs.assignments.LightBounds.{sum_is}
use Rattle.driver_safety.proofs.assignments.SiblingRules.{siblings_kept}
use Rattle.driver_safety.proofs.assignments.SlotAssign.{Leaves, assign_integer_sound, assign_text_sound, assign_bounded_sound}
use Rattle.driver_safety.proofs.assignments.SlotChanges.{IsPlainSlot, IsNext, all_renamed, frame_next}
use Rattle.driver_safety.proofs.checks.Evaluations.{safe_same, pass_none}
use Rattle.driver_safety.proofs.checks.Sounding.{Sound, then_sound, pure_sound, lift_sound, none_sound, weaker}
use Rattle.driver_safety.proofs.expressions.OperatorRules.{integer_sound}
use Rattle.driver_safety.proofs.expressions.PlaceRules.{safe_step}

some_same : {A : Type 0} (a b : A) → ◌≡◌ {A = Option A} (Some a) (Some b) → a ≡ b
some_same a b h = cc

eqb_not : (m n : ℕ) → (m == n) ≡ false → n ≢ m
eqb_not m n h e = true≢false (sym ((Decides-eqb m n).1 (sym e)) ∙ h)

-- the pointer that was got, and null where none was
abbrev fat_or_null : Outcome Fat → Fat
fat_or_null (Ok p) = p
fat_or_null (Err e) = null

word_lt : (n : ℕ) → IsTrue (is_word (pos n)) → n < 2 ^ 32
word_lt n h = grind arith

word_of_is : (z : ℤ) (n : ℕ) → z ≡ pos n → n < 2 ^ 32 → word_of z ≡ Ok n
word_of_is z n e l = ap word_of e ∙ ap (λ (b : Bool). if b then Ok n else Err Wild) (lt-ltb n (2 ^ 32) l)

pub bounded_is : (v lo hi : ℤ) (a l h : ℕ) → v ≡ pos a → lo ≡ pos l → hi ≡ pos h → a < 2 ^ 32 → l < 2 ^ 32 → h < 2 ^ 32
    → bounded v lo hi ≡ Ok
    (record { value = a; lo = l; hi = h })
unfolding bounded
bounded_is v lo hi a l h p q r x y z =
    ap (λ (o : Outcome ℕ). o >>= λ value. word_of lo >>= λ low. word_of hi >>= λ high. Ok (record { value = value; lo = low; hi = high }))
    (word_of_is v a p x)
    ∙ ap (λ (o : Outcome ℕ). o >>= λ low. word_of hi >>= λ high. Ok (record { value = a; lo = low; hi = high })) (word_of_is lo l q y)
    ∙ ap (λ (o : Outcome ℕ). o >>= λ high. Ok (record { value = a; lo = l; hi = high })) (word_of_is hi h r z)

natural : (v : ℤ) → IsTrue (is_word v) → (n : ℕ) × (v ≡ pos n)
natural (pos n) h = (n, refl)
natural (negsuc n) h = absurd cc

module _ (f : CheckedFn) (ctx : Context) (blocks : List Block) (st : State) (good : IsGood ctx blocks st) (types : HasTypes ctx.table)
    (slots : HasSlots ctx) where
  -- a pointer that is handed over with its bounds, each an address
  pub record IsFat (h : Handed) (elem : ℕ) (v : ℤ) (p : Fat) : Type 0 where
    pub is : with_bounds st h.low h.high v ≡ Ok p
    pub value : v ≡ pos p.value
    pub word : p.value < 2 ^ 32
    pub low : p.lo < 2 ^ 32
    pub high : p.hi < 2 ^ 32
    pub fits : Fits blocks ctx.table.elems ctx.table.structs elem false (pos p.lo) (pos p.hi) (pos p.value)

  pub fat_is : (h : Handed) (elem : ℕ) (v : ℤ) → IsLightHanded h → IsHanded f ctx blocks st types h elem false v → (p : Fat)
      × IsFat h elem v p
  fat_is h elem v light here = by here.fits (int_eq v (pos 0)) refl
    where
      none : v ≡ pos 0 → (p : Fat) × IsFat h elem v p
      none e = (
        null,
        record {
          is = ap (λ (b : Bool). if b then Ok null else (sum_value st h.low >>= λ lo. sum_value st h.high >>= λ hi. bounded v lo hi))
              ((Decides-int_eq v (pos 0)).1 e);
          value = e;
          word = omega arith;
          low = omega arith;
          high = omega arith;
          fits = nowhere refl;
        },
      )

      by : Fits blocks ctx.table.elems ctx.table.structs elem false here.lo here.hi v → (b : Bool) → int_eq v (pos 0) ≡ b → (p : Fat)
          × IsFat h elem v p
      by x true e = none ((Decides-int_eq v (pos 0)).0 e)
      by (nowhere z) false e = none z
      by (in_text n t) false e = absurd cc
      by (in_bounds n b) false e =
          let block : IsBlock ctx.table blocks st.memory b.block = good.memory.each b.block b.granted in
          let to = b.to_in in
          let end = block.to in
          let above = b.above in
          let below = b.below in
          let a : b.at < 2 ^ 32 = omega (arith, below, to, end) in
          let l : b.from < 2 ^ 32 = omega (arith, above, below, to, end) in
          let u : b.to < 2 ^ 32 = omega (arith, to, end) in (
            record { value = b.at; lo = b.from; hi = b.to },
            record {
              is = ap (λ (c : Bool). if c then Ok null else (sum_value st h.low >>= λ lo. sum_value st h.high >>= λ hi. bounded v lo hi)) e
                  ∙ ap (λ (g : Got). g >>= λ lo. sum_value st h.high >>= λ hi. bounded v lo hi) (sum_is st h.low here.lo light.low here.low)
                  ∙ ap (λ (g : Got). g >>= λ hi. bounded v here.lo hi) (sum_is st h.high here.hi light.high here.high)
                  ∙ bounded_is v here.lo here.hi b.at b.from b.to b.at_is b.from_is b.to_is a l u;
              value = b.at_is;
              word = a;
              low = l;
              high = u;
              fits = subst (λ (y : ℤ). Fits blocks ctx.table.elems ctx.table.structs elem false y (pos b.to) (pos b.at)) b.from_is
                  (subst (λ (y : ℤ). Fits blocks ctx.table.elems ctx.table.structs elem false here.lo y (pos b.at)) b.to_is
                  (subst (λ (y : ℤ). Fits blocks ctx.table.elems ctx.table.structs elem false here.lo here.hi y) b.at_is (in_bounds n b)));
            },
          )

  module _ (slot elem hidden : ℕ) (is : slot_shape ctx slot ≡ Some (shape.Pointer elem bounds.Hidden)) (hides : hidden_slot ctx.locals slot
      ≡ Some hidden) (p : Fat) where
    abbrev next : State
    next = with_pointer st slot hidden p

    abbrev first : List ℤ
    first = slice_set st.locals slot (pos p.value)

    abbrev second : List ℤ
    second = slice_set first hidden (pos p.lo)

    hidden_shapes : (slot_shape ctx hidden ≡ Some shape.Address) × (slot_shape ctx (hidden + 1) ≡ Some shape.Address)
    hidden_shapes = slots.hidden slot hidden hides

    no_address : shape.Pointer elem bounds.Hidden ≢ shape.Address
    no_address e = absurd cc

    -- no pointer is a hidden bound
    address_not : (k : ℕ) → slot_shape ctx k ≡ Some shape.Address → k ≢ slot
    address_not k h e = no_address (some_same (shape.Pointer elem bounds.Hidden) shape.Address (sym is ∙ ap (slot_shape ctx) (sym e) ∙ h))

    plain_not : (k g : ℕ) → IsPlainSlot ctx k → slot_shape ctx g ≡ Some shape.Address → k ≢ g
    plain_not k g p h e = p.2 (some_same p.0 shape.Address (sym p.1 ∙ ap (slot_shape ctx) e ∙ h))

    back_not : slot ≢ hidden
    back_not e = address_not hidden hidden_shapes.0 (sym e)

    far_not : slot ≢ hidden + 1
    far_not e = address_not (hidden + 1) hidden_shapes.1 (sym e)

    succ_not : (k : ℕ) → k ≢ k + 1
    succ_not k e = absurd (omega (arith, e))

    in_first : (k : ℕ) (x : Shape) → slot_shape ctx k ≡ Some x → k < length first
    in_first k x h = subst (λ (n : ℕ). k < n) (sym (length-set st.locals slot (pos p.value))) (good.frame.long k x h)

    in_second : (k : ℕ) (x : Shape) → slot_shape ctx k ≡ Some x → k < length second
    in_second k x h = subst (λ (n : ℕ). k < n) (sym (length-set first hidden (pos p.lo))) (in_first k x h)

    value_at : local_at next slot ≡ pos p.value
    value_at = get_or-set_other second (hidden + 1) slot (pos p.hi) (pos 0) far_not ∙ get_or-set_other first hidden slot (pos p.lo) (pos 0)
        back_not
        ∙ get_or-set_same st.locals slot (pos p.value) (pos 0) (good.frame.long slot (shape.Pointer elem bounds.Hidden) is)

    low_at : local_at next hidden ≡ pos p.lo
    low_at = get_or-set_other second (hidden + 1) hidden (pos p.hi) (pos 0) (succ_not hidden) ∙ get_or-set_same first hidden (pos p.lo)
        (pos 0) (in_first hidden shape.Address hidden_shapes.0)

    high_at : local_at next (hidden + 1) ≡ pos p.hi
    high_at = get_or-set_same second (hidden + 1) (pos p.hi) (pos 0) (in_second (hidden + 1) shape.Address hidden_shapes.1)

    others : (k : ℕ) → k ≢ slot → k ≢ hidden → k ≢ hidden + 1 → local_at next k ≡ local_at st k
    others k a b c = get_or-set_other second (hidden + 1) k (pos p.hi) (pos 0) c ∙ get_or-set_other first hidden k (pos p.lo) (pos 0) b
        ∙ get_or-set_other st.locals slot k (pos p.value) (pos 0) a

    pub stays : (k : ℕ) → IsPlainSlot ctx k → k ≢ slot → local_at next k ≡ local_at st k
    stays k plain n = others k n (plain_not k hidden plain hidden_shapes.0) (plain_not k (hidden + 1) plain hidden_shapes.1)

    apart_not : (g : ℕ) → (g + 1 < hidden) ⊎ (hidden + 1 < g) → (g ≢ hidden) × (g ≢ hidden + 1) × (g + 1 ≢ hidden) × (g + 1 ≢ hidden + 1)
    apart_not g (inl l) = (
      λ e. absurd (omega (arith, l, e)),
      λ e. absurd (omega (arith, l, e)),
      λ e. absurd (omega (arith, l, e)),
      λ e.
          absurd (omega (arith, l, e)),
    )
    apart_not g (inr l) = (
      λ e. absurd (omega (arith, l, e)),
      λ e. absurd (omega (arith, l, e)),
      λ e. absurd (omega (arith, l, e)),
      λ e.
          absurd (omega (arith, l, e)),
    )

    hidden_stays : (k g : ℕ) → k ≢ slot → hidden_slot ctx.locals k ≡ Some g → (local_at next g ≡ local_at st g)
        × (local_at next (g + 1) ≡ local_at st (g + 1))
    hidden_stays k g n e =
        let both = slots.hidden k g e in
        let a = apart_not g (slots.apart k g slot hidden e hides n) in
        (others g (address_not g both.0) a.0 a.1, others (g + 1) (address_not (g + 1) both.1) a.2 a.3)

    -- each number of the pointer is a word
    module _ (word : p.value < 2 ^ 32) (low : p.lo < 2 ^ 32) (high : p.hi < 2 ^ 32) where
      at_word : (z : ℤ) (n : ℕ) → z ≡ pos n → n < 2 ^ 32 → IsTrue (is_word z)
      at_word z n e l = subst (λ (y : ℤ). IsTrue (is_word y)) (sym e) (lt-ltb n (2 ^ 32) l)

      either : (P : ℤ → Type 0) (k : ℕ) → P (local_at next slot) → P (local_at next hidden) → P (local_at next (hidden + 1))
          → (k ≢ slot → k ≢ hidden → k ≢ hidden + 1 → P (local_at next k)) → P (local_at next k)
      either P k a b c d = by (slot == k) (hidden == k) (hidden + 1 == k) refl refl refl
        where
          by : (x y z : Bool) → (slot == k) ≡ x → (hidden == k) ≡ y → (hidden + 1 == k) ≡ z → P (local_at next k)
          by true y z p q r = subst (λ (n : ℕ). P (local_at next n)) ((Decides-eqb slot k).0 p) a
          by false true z p q r = subst (λ (n : ℕ). P (local_at next n)) ((Decides-eqb hidden k).0 q) b
          by false false true p q r = subst (λ (n : ℕ). P (local_at next n)) ((Decides-eqb (hidden + 1) k).0 r) c
          by false false false p q r = d (eqb_not slot k p) (eqb_not hidden k q) (eqb_not (hidden + 1) k r)

      value_word : IsTrue (is_word (local_at next slot))
      value_word = at_word (local_at next slot) p.value value_at word

      low_word : IsTrue (is_word (local_at next hidden))
      low_word = at_word (local_at next hidden) p.lo low_at low

      high_word : IsTrue (is_word (local_at next (hidden + 1)))
      high_word = at_word (local_at next (hidden + 1)) p.hi high_at high

      pub pointer_next : Fits blocks ctx.table.elems ctx.table.structs elem false (pos p.lo) (pos p.hi) (pos p.value)
          → IsNext f ctx blocks st good types slots slot (shape.Pointer elem bounds.Hidden) (pos p.value) next
      pointer_next fits = record {
        memory = refl;
        same = value_at;
        stays = stays;
        hidden_stays = hidden_stays;
        words = λ k h. either (λ v. IsTrue (is_word v)) k value_word low_word high_word (λ a b c. subst (λ (v : ℤ). IsTrue (is_word v))
            (sym (others k a b c)) (good.frame.holds k shape.Address h));
        values = λ k. either (λ v. IsTrue (is_value v)) k (word_value (local_at next slot) value_word) (word_value (local_at next hidden)
            low_word) (word_value (local_at next (hidden + 1)) high_word)
            (λ a b c. subst (λ (v : ℤ). IsTrue (is_value v)) (sym (others k a b c)) (good.frame.values k));
        long = λ k y h. subst (λ (n : ℕ). k < n) (sym (length-set second (hidden + 1) (pos p.hi))) (in_second k y h);
        own = (
          value_word,
          subst (FitsHidden ctx blocks next slot elem) (sym hides)
              (subst (λ (y : ℤ). Fits blocks ctx.table.elems ctx.table.structs elem false y (local_at next (hidden + 1))
              (local_at next slot)) (sym low_at)
              (subst (λ (y : ℤ). Fits blocks ctx.table.elems ctx.table.structs elem false (pos p.lo) y (local_at next slot)) (sym high_at)
              (subst (λ (y : ℤ). Fits blocks ctx.table.elems ctx.table.structs elem false (pos p.lo) (pos p.hi) y) (sym value_at) fits))),
        );
      }

  -- ---- the assignment
  module _ (slot elem : ℕ) (is : slot_shape ctx slot ≡ Some (shape.Pointer elem bounds.Hidden)) (h : Handed) where
    abbrev taken : PointerOperand
    taken = record { value = h.form; low = h.low; high = h.high }

    abbrev fat : Fat
    fat = fat_or_null (operand [] f st taken)

    pointer_once : (t : Scalar) → slot_shape ctx slot ≡ Some (shape.Int t) → AreOnce h.at.parts
    pointer_once t e = absurd (no_int t (some_same (shape.Int t) (shape.Pointer elem bounds.Hidden) (sym e ∙ is)))
      where
        no_int : (t : Scalar) → shape.Int t ≡ shape.Pointer elem bounds.Hidden → ⊥
        no_int t e = absurd cc

    -- what the operand comes to
    operand_safe : IsLightHanded h → Hands f ctx blocks st good types slots h elem false
        → Safe (operand [] f st taken) (λ p. (v : ℤ) × IsHanded f ctx blocks st types h elem false v × IsFat h elem v p)
    unfolding operand
    operand_safe light d = safe_bind (eval [] f st h.form) _ _ _ d (λ v here. let r = fat_is h elem v light here in safe_same _ _ _ r.1.is
        (v, here, r.1))

    pub assign_automatic_sound : Sound f st ctx.first (assign_automatic ctx slot h)
        (λ x. IsLightHanded h → Hands f ctx blocks st good types slots h elem false → Leaves f ctx blocks st good types slots x)
    unfolding assign_automatic slot_changes act
    assign_automatic_sound =
        then_sound f st ctx.first _ _ (λ hidden. hidden_slot ctx.locals slot ≡ Some hidden) _ (lift_sound f st ctx.first
        (hidden_slot ctx.locals slot) _ (λ hidden e. e)) (λ hidden.
        then_sound f st ctx.first _ _ _ _
        (siblings_kept f ctx blocks st types of_slots (changed names.OfSlots slot h.at) slot (Unit {0}) (local_at st)
        (local_at (with_pointer st slot hidden fat)) 0 ctx.slots [])
        (λ ids. pure_sound f st ctx.first (statement.AssignAutomatic ctx.line slot hidden taken ids) _ (λ kept hides light d.
        safe_same _ _ _ (ap (act [] f st) (statement.outs-AssignAutomatic ctx.line slot hidden taken ids))
        (safe_step (operand [] f st taken) _ _ _ (operand_safe light d) (λ p seen here.
        let same : p ≡ fat = ap fat_or_null (sym seen) in
        let known : IsFat h elem here.0 fat = subst (IsFat h elem here.0) same here.2 in
        let next : State = with_pointer st slot hidden fat in
        let has : HasValue st h.at (pos fat.value) = subst (HasValue st h.at) known.value here.1.at in
        let there = pointer_next slot elem hidden is hides fat known.word known.low known.high known.fits in
        safe_bind (tests [] f st ids) _ _ _
        (kept (all_renamed f ctx blocks st good types slots slot next (pos fat.value) h.at pointer_once has there.same there.stays)
        (pass_none f st (Unit {0}) tt))
        (λ u others'. safe_same (goes_on (with_pointer st slot hidden fat)) (goes_on (with_pointer st slot hidden p))
        (λ a. IsGood ctx blocks a.state × (a.turn ≡ On)) (ap (λ (q : Fat). goes_on (with_pointer st slot hidden q)) same) (
          frame_next f ctx blocks st good types slots slot next (pos fat.value) h.at pointer_once has there.same there.stays
              (shape.Pointer elem bounds.Hidden) is there others'.1,
          refl,
        )))))))

  -- ---- each assignment to a local
  pub assign_local_sound : (slot : ℕ) (x : Derived) (y : Shape) → slot_shape ctx slot ≡ Some y
      → Sound f st ctx.first (assign_local ctx slot x y) (λ c. HandsLightly ctx x → IsDerived f ctx blocks st x → Leaves f ctx blocks st
      good types slots c)
  unfolding assign_local assign_pointer
  assign_local_sound slot x (shape.Int s) is =
      then_sound f st ctx.first _ _ (λ w. integer_of ctx x ≡ Some w) _ (lift_sound f st ctx.first (integer_of ctx x) _ (λ w e. e)) (λ w.
      weaker f st ctx.first _ _ _ (λ c q e light d. q (integer_sound f ctx blocks st good types slots x w e d)) (assign_integer_sound f ctx
      blocks st good types slots slot s is w))
  assign_local_sound slot x (shape.Pointer elem bounds.Hidden) is =
      then_sound f st ctx.first _ _ (λ key. element_at ctx.table elem ≡ Some key) _ (lift_sound f st ctx.first (element_at ctx.table elem)
      _ (λ key e. e)) (λ key.
      then_sound f st ctx.first _ _ (λ h. handed ctx key false x ≡ Some h) _ (lift_sound f st ctx.first (handed ctx key false x) _
      (λ h e. e)) (λ h.
      weaker f st ctx.first _ _ _ (λ c q e k light d. q (light key false h e) (handed_sound f ctx blocks st good types slots key elem false
      x h k e d)) (assign_automatic_sound slot elem is h)))
  assign_local_sound slot x (shape.Pointer elem bounds.Nullterm) is =
      then_sound f st ctx.first _ _ (λ key. element_at ctx.table elem ≡ Some key) _ (lift_sound f st ctx.first (element_at ctx.table elem)
      _ (λ key e. e)) (λ key.
      then_sound f st ctx.first _ _ (λ h. handed ctx key true x ≡ Some h) _ (lift_sound f st ctx.first (handed ctx key true x) _
      (λ h e. e)) (λ h.
      weaker f st ctx.first _ _ _ (λ c q e k light d. q (handed_sound f ctx blocks st good types slots key elem true x h k e d))
      (assign_text_sound f ctx blocks st good types slots slot elem key h is)))
  assign_local_sound slot x (shape.Pointer elem (bounds.Within lo hi)) is =
      then_sound f st ctx.first _ _ (λ key. element_at ctx.table elem ≡ Some key) _ (lift_sound f st ctx.first (element_at ctx.table elem)
      _ (λ key e. e)) (λ key.
      then_sound f st ctx.first _ _ (λ h. handed ctx key false x ≡ Some h) _ (lift_sound f st ctx.first (handed ctx key false x) _
      (λ h e. e)) (λ h.
      weaker f st ctx.first _ _ _ (λ c q e k light d. q k (handed_sound f ctx blocks st good types slots key elem false x h k e d))
      (bounded slot elem lo hi key h is)))
    where
      bounded : (slot elem : ℕ) (lo hi : Edge) (key : Element) (h : Handed) → slot_shape ctx slot ≡ Some
          (shape.Pointer elem (bounds.Within lo hi))
          → Sound f st ctx.first (assign_annotated ctx slot key (bounds.Within lo hi) h) (λ x. element_at ctx.table elem ≡ Some key
          → Hands f ctx blocks st good types slots h elem false → Leaves f ctx blocks st good types slots x)
      bounded slot elem lo hi key h is = assign_bounded_sound f ctx blocks st good types slots slot elem lo hi key h is
  assign_local_sound slot x (shape.Struct k) is = none_sound f st ctx.first _
  assign_local_sound slot x shape.Address is = none_sound f st ctx.first _
