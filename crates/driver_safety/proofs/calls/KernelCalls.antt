-- A call of the kernel in a good state fails a check, or asks; the state stays.
use Rattle.std.proofs.Common.{◌≡◌, ◌⊎◌, inl, inr, IsTrue, ℕ, ◌^◌, ◌<◌, Bool, true, false, ◌&&◌, List, [], ◌∷◌, ◌++◌, ℤ}
use Rattle.std.proofs.Common.{pos, negsuc, nat_lt, Option, Some, None, Ok, Err, slice_get, if◌then◌else◌, refl, sym, ap, ◌∙◌, subst}
use Rattle.std.proofs.Common.{option_map, unwrap_or, true≢false, arith}
use Rattle.std.specs.Ordering.{int_eq}
use Rattle.std.proofs.lemmas.Int.{ints}
use Rattle.std.proofs.lemmas.Bool.Decides.{Decides-int_eq}
use Rattle.sd_base.specs.Blocks.{Block}
use Rattle.sd_base.specs.declared.actors.Fat.{Fat}
use Rattle.c_tree.specs.declared.expressions.Expr.{Expr}
use Rattle.c_tree.specs.declared.types.TypeName.{TypeName}
use Rattle.checked_tree.specs.declared.kernel.KernelCall.{KernelCall}
use Rattle.checked_tree.specs.declared.kernel.KernelName.{KernelName}
use Rattle.checked_tree.specs.declared.kernel.KernelName.TheVariants as kernel
use Rattle.checked_tree.specs.declared.kernel_table.ParameterKind.{ParameterKind}
use Rattle.checked_tree.specs.declared.kernel_table.ParameterKind.TheVariants.{Number, Text, Handler, Element as NewElement}
use Rattle.checked_tree.specs.declared.kernel_table.ParameterKind.TheVariants.{Block as FreedBlock}
use Rattle.checked_tree.specs.declared.stops.Stop.TheVariants.{Wild}
use Rattle.checked_tree.specs.declared.shapes.Scalar.TheVariants.{I32, U32}
use Rattle.checked_tree.specs.declared.shapes.Shape.{Shape}
use Rattle.checked_tree.specs.declared.statements.Argument.{Argument}
use Rattle.checked_tree.specs.declared.statements.CheckedStmt.{CheckedStmt, out-CheckedStmt}
use Rattle.checked_tree.specs.declared.statements.CheckedStmt.TheVariants as statement
use Rattle.checked_tree.specs.declared.statements.PointerOperand.{PointerOperand}
use Rattle.checked_tree.specs.declared.statements.Target.{Target}
use Rattle.checked_tree.specs.declared.sums.Sum.{Sum}
use Rattle.checked_tree.specs.declared.units.CheckedFn.{CheckedFn}
use Rattle.checked_tree.specs.Act.{act, Asks, kernel_call}
use Rattle.checked_tree.specs.Conditions.{State}
use Rattle.checked_tree.specs.Eval.{eval}
use Rattle.checked_tree.specs.KernelTable.{kernel_row}
use Rattle.checked_tree.specs.Numbers.{is_word, word_of}
use Rattle.checked_tree.specs.Operands.{null, bounded, with_bounds, operand, sum_value, taken, argument, arguments, optional_operand}
use Rattle.checked_tree.specs.Outcome.{Got, ◌>>=◌, Safe}
use Rattle.checked_tree.specs.Step.{target_of}
use Rattle.checked_tree.proofs.Outcomes.{safe_bind}
use Rattle.deputy_types.specs.Fitting.{IsInText, shape_size}
use Rattle.deputy_types.specs.Options.{and_then}
use Rattle.deputy_types.specs.Table.{elem, element_at}
use Rattle.deputy_types.proofs.Inversions.{some_then, some_map}
use Rattle.deputy_rules.specs.declared.asked.Asked.{Asked}
use Rattle.deputy_rules.specs.declared.derived.Derived.{Derived}
use Rattle.deputy_rules.specs.declared.derived.Pointed.{Pointed}
use Rattle.deputy_rules.specs.declared.derived.Value.{Value}
use Rattle.deputy_rules.specs.declared.derived.Value.TheVariants as value
use Rattle.deputy_rules.specs.declared.derived.Whole.{Whole}
use Rattle.deputy_rules.specs.declared.handed.Handed.{Handed}
use Rattle.deputy_rules.specs.declared.kernel_arguments.KernelArguments.{KernelArguments}
use Rattle.deputy_rules.specs.declared.signature.Signature.{Signature}
use Rattle.deputy_rules.specs.Calls.{call_target, kernel_result, kernel_argument, kernel_arguments, no_arguments, handler, text_key}
use Rattle.deputy_rules.specs.Calls.{operand as pointer_operand, call_kernel, kalloc_target, counted, elem_bytes, kalloc, freed_value}
use Rattle.deputy_rules.specs.Calls.{kfree, plain_name, function_number, handler_number, is_handler}
use Rattle.deputy_rules.specs.Coercion.{null as null_handed, handed_over, handed_value, handed}
use Rattle.deputy_rules.specs.Context.{Context}
use Rattle.deputy_rules.specs.Deriving.{Deriving, bind, lift}
use Rattle.deputy_rules.specs.Expressions.{derive}
use Rattle.deputy_rules.specs.Operators.{same_truth}
use Rattle.deputy_rules.specs.Places.{is_unsigned}
use Rattle.deputy_rules.specs.Pointers.{is_written}
use Rattle.deputy_rules.specs.Values.{integer_of, size_of, value_of}
use Rattle.deputy_types.specs.Types.{same_element}
use Rattle.driver_safety.specs.Asking.{IsTextAddress, PrintsText, IsHandlerAt, TakesHandler, IsElementOf, AsksElements, IsLawfulCall}
use Rattle.driver_safety.specs.Derivations.{IsPointer, IsValue, IsDerived, IsWhole}
use Rattle.driver_safety.specs.Goodness.{IsGood, IsBlock}
use Rattle.driver_safety.specs.KernelLaw.{IsAnswerTarget, IsLight, AreLight}
use Rattle.driver_safety.specs.LightHandling.{IsLightHanded}
use Rattle.driver_safety.specs.Reaching.{Reaches, nowhere, into_text, between}
use Rattle.driver_safety.specs.TypeFacts.{HasTypes, HasSlots, key_shape}
use Rattle.driver_safety.specs.WrittenNumbers.{has_words}
use Rattle.driver_safety.proofs.assignments.AutomaticAssign.{bounded_is}
use Rattle.driver_safety.proofs.assignments.LightBounds.{sum_is}
use Rattle.driver_safety.proofs.calls.Answering.{named_target_is, new_target_is}
use Rattle.driver_safety.proofs.calls.Receiving.{some_same, if_some}
use Rattle.driver_safety.proofs.checks.Evaluations.{safe_same, safe_weaker, eval-Null}
use Rattle.driver_safety.proofs.checks.GivenOutcomes.{then_ok, ok_same, given}
use Rattle.driver_safety.specs.Passing.{AreTested}
use Rattle.driver_safety.proofs.checks.Sounding.{tested_front, Sound, then_sound, pure_sound, none_sound, lift_sound, weaker}
use Rattle.driver_safety.proofs.expressions.Expressions.{derive_sound}
use Rattle.driver_safety.proofs.expressions.OperatorRules.{integer_sound}
use Rattle.driver_safety.proofs.expressions.PlaceRules.{safe_step}
use Rattle.driver_safety.proofs.expressions.ReadRules.{value_sound}

abbrev Fine : {A : Type 0} → A → Type 0
Fine a = Unit {0}

taken_number : (b : Bool) (v : ℤ) → Safe (taken (if b then U32 else I32) v) Fine
unfolding taken
taken_number true v = tt
taken_number false v = tt

word_small : (n : ℕ) → IsTrue (is_word (pos n)) → n < 2 ^ 32
word_small n h = grind (arith, ints)

module _ (f : CheckedFn) (ctx : Context) (blocks : List Block) (st : State) (good : IsGood ctx blocks st) (types : HasTypes ctx.table)
    (slots : HasSlots ctx) where
  -- ---- numbers
  abbrev AreSafe : List Argument → Type 0
  AreSafe [] = Unit {0}
  AreSafe (a ∷ rest) = Safe (argument [] f st a) Fine × AreSafe rest

  arguments_safe : (xs : List Argument) → AreSafe xs → Safe (arguments [] f st xs) Fine
  unfolding arguments
  arguments_safe [] h = tt
  arguments_safe (a ∷ rest) h =
      safe_bind (argument [] f st a) _ Fine Fine h.0 (λ v u. safe_bind (arguments [] f st rest) _ Fine Fine (arguments_safe rest h.1)
      (λ vs w. tt))

  safe_push : (xs : List Argument) (a : Argument) → AreSafe xs → Safe (argument [] f st a) Fine → AreSafe (xs ++ a ∷ [])
  safe_push [] a h s = (s, tt)
  safe_push (x ∷ xs) a h s = (h.0, safe_push xs a h.1 s)

  number_safe : (b : Bool) (w : Whole) → IsValue f ctx blocks st (value.Int w) → Safe (argument [] f st (record {
    scalar = if b then U32
        else I32;
    value = w.form;
  })) Fine
  unfolding argument
  number_safe b w is = safe_bind (eval [] f st w.form) _ (IsWhole st w) Fine is.1 (λ v u. taken_number b v)

  -- ---- pointers
  abbrev IsOperand : Option PointerOperand → Type 0
  IsOperand o = Safe (optional_operand [] f st o) Fine

  null_bounds : (low high : Sum) (v : ℤ) → v ≡ pos 0 → Safe (with_bounds st low high v) Fine
  null_bounds low high v e =
      safe_same (Ok null) (with_bounds st low high v) Fine
      (ap (λ (b : Bool). if b then Ok null else (sum_value st low >>= λ lo. sum_value st high >>= λ hi.
      bounded v lo hi)) ((Decides-int_eq v (pos 0)).1 e)) tt

  some_bounds : (low high : Sum) (v lo hi : ℤ) (a l h : ℕ) → sum_value st low ≡ Ok lo → sum_value st high ≡ Ok hi → v ≡ pos a → lo ≡ pos l
      → hi ≡ pos h
      → a < 2 ^ 32 → l < 2 ^ 32 → h < 2 ^ 32 → Safe (with_bounds st low high v) Fine
  some_bounds low high v lo hi a l h p q is low_is high_is x y z = by (int_eq v (pos 0)) refl
    where
      by : (b : Bool) → int_eq v (pos 0) ≡ b → Safe (if b then Ok null else (sum_value st low >>= λ lo. sum_value st high >>= λ hi.
          bounded v lo hi)) Fine
      by true e = tt
      by false e =
          safe_same (Ok (record { value = a; lo = l; hi = h })) (sum_value st low >>= λ lo. sum_value st high >>= λ hi.
          bounded v lo hi) Fine
          (ap (λ (g : Got). g >>= λ lo. sum_value st high >>= λ hi. bounded v lo hi) p
          ∙ (ap (λ (g : Got). g >>= λ hi. bounded v lo hi) q ∙ bounded_is v lo hi a l h is low_is high_is x y z)) tt

  pointer_bounds : (p : Pointed) (v : ℤ) → IsLightHanded (handed_over p) → IsPointer ctx blocks st p v
      → Safe (with_bounds st p.low p.high v) Fine
  pointer_bounds p v light is = by is.fits
    where
      at_text : (n : ℕ) → v ≡ pos n → (is.lo ≡ v) × (is.hi ≡ v) → Safe (with_bounds st p.low p.high v) Fine
      at_text n e ends =
          let small = word_small n (subst (λ (y : ℤ). IsTrue (is_word y)) e is.word) in
          some_bounds p.low p.high v is.lo is.hi n n n (sum_is st p.low is.lo light.low is.low)
          (sum_is st p.high is.hi light.high is.high) e (ends.0 ∙ e) (ends.1 ∙ e) small small small

      by : Reaches blocks ctx.table.elems ctx.table.structs (key_shape ctx.table p.elem) p.nullterm is.lo is.hi v
          → Safe (with_bounds st p.low p.high v) Fine
      by (nowhere e) = null_bounds p.low p.high v e
      by (into_text n t) = at_text t.at t.is (is.ends n)
      by (between n b) =
          let block : IsBlock ctx.table blocks st.memory b.block = good.memory.each b.block b.granted in
          let to = b.to_in in
          let end = block.to in
          let above = b.above in
          let below = b.below in
          let a : b.at < 2 ^ 32 = omega (arith, below, to, end) in
          let l : b.from < 2 ^ 32 = omega (arith, above, below, to, end) in
          let u : b.to < 2 ^ 32 = omega (arith, to, end) in
          some_bounds p.low p.high v is.lo is.hi b.at b.from b.to (sum_is st p.low is.lo light.low is.low)
          (sum_is st p.high is.hi light.high is.high) b.at_is b.from_is b.to_is a l u

  null_operand : IsOperand (Some (pointer_operand null_handed))
  unfolding optional_operand operand
  null_operand =
      safe_same (with_bounds st null_handed.low null_handed.high (pos 0))
      (eval [] f st null_handed.form >>= with_bounds st null_handed.low null_handed.high) Fine
      (ap (λ (g : Got). g >>= with_bounds st null_handed.low null_handed.high) (eval-Null f st))
      (null_bounds null_handed.low null_handed.high (pos 0) refl)

  over_operand : (p : Pointed) → IsLightHanded (handed_over p) → IsValue f ctx blocks st (value.Pointer p)
      → IsOperand (Some (pointer_operand (handed_over p)))
  unfolding optional_operand operand
  over_operand p light is = safe_bind (eval [] f st p.form) _ (IsPointer ctx blocks st p) Fine is (λ v k. pointer_bounds p v light k)

  -- text that is handed over
  text_value : (v : Value) (h : Handed) → handed_value text_key true v ≡ Some h → IsLightHanded h → IsValue f ctx blocks st v
      → IsOperand (Some (pointer_operand h))
  unfolding handed_value
  text_value value.Null h e light is = subst (λ (x : Handed). IsOperand (Some (pointer_operand x))) (some_same null_handed h e) null_operand
  text_value (value.Int w) h e light is =
      let r = if_some (is_written 0 w.written) (Some null_handed) h e in
      subst (λ (x : Handed). IsOperand (Some (pointer_operand x))) (some_same null_handed h r.1) null_operand
  text_value (value.Pointer p) h e light is =
      let r = if_some (same_element p.elem text_key && same_truth p.nullterm true) (Some (handed_over p)) h e in
      let same = some_same (handed_over p) h r.1 in
      subst (λ (x : Handed). IsOperand (Some (pointer_operand x))) same (over_operand p (subst IsLightHanded (sym same) light) is)

  -- the value of what is handed over as text
  abbrev IsText : ℤ → Type 0
  IsText v = (v ≡ pos 0) ⊎ IsInText blocks v

  null_text : Safe (eval [] f st null_handed.form) IsText
  null_text = safe_same (Ok (pos 0)) (eval [] f st null_handed.form) IsText (eval-Null f st) (inl refl)

  text_is : (v : Value) (h : Handed) → handed_value text_key true v ≡ Some h → IsValue f ctx blocks st v
      → Safe (eval [] f st h.form) IsText
  unfolding handed_value
  text_is value.Null h e is = subst (λ (x : Handed). Safe (eval [] f st x.form) IsText) (some_same null_handed h e) null_text
  text_is (value.Int w) h e is =
      let r = if_some (is_written 0 w.written) (Some null_handed) h e in
      subst (λ (x : Handed). Safe (eval [] f st x.form) IsText) (some_same null_handed h r.1) null_text
  text_is (value.Pointer p) h e is =
      let r = if_some (same_element p.elem text_key && same_truth p.nullterm true) (Some (handed_over p)) h e in
      subst (λ (x : Handed). Safe (eval [] f st x.form) IsText) (some_same (handed_over p) h r.1)
      (safe_weaker (eval [] f st p.form) (IsPointer ctx blocks st p) IsText is (λ v g k. by k.lo k.hi v (ended p.nullterm r.0) k.fits))
    where
      ended : (b : Bool) → (same_element p.elem text_key && same_truth b true) ≡ true → b ≡ true
      ended true q = refl
      ended false q = absurd (true≢false (sym q ∙ and-false (same_element p.elem text_key)))
        where
          and-false : (x : Bool) → (x && false) ≡ false
          and-false true = refl
          and-false false = refl

      by : (lo hi v : ℤ) → p.nullterm ≡ true
          → Reaches blocks ctx.table.elems ctx.table.structs (key_shape ctx.table p.elem) p.nullterm lo hi v → IsText v
      by lo hi v text (nowhere e) = inl e
      by lo hi v text (into_text n t) = inr t
      by lo hi v text (between n b) = absurd (true≢false (sym text ∙ n))

  -- a pointer with bounds has the value that was evaluated
  word_is : (v : ℤ) (n : ℕ) → word_of v ≡ Ok n → v ≡ pos n
  word_is (pos k) n e = by (nat_lt k (2 ^ 32)) e
    where
      by : (b : Bool) → (if b then Ok k else Err Wild) ≡ Ok n → pos k ≡ pos n
      by true e = ap pos (ok_same k n e)
      by false e = absurd cc
  word_is (negsuc k) n e = absurd cc

  bounded_value : (v lo hi : ℤ) (p : Fat) → bounded v lo hi ≡ Ok p → v ≡ pos p.value
  unfolding bounded
  bounded_value v lo hi p e =
      let a = then_ok (word_of v)
      (λ value. word_of lo >>= λ low. word_of hi >>= λ high. Ok (record { value = value; lo = low; hi = high })) p e in
      let b = then_ok (word_of lo) (λ low. word_of hi >>= λ high. Ok (record { value = a.0; lo = low; hi = high })) p a.2 in
      let c = then_ok (word_of hi) (λ high. Ok (record { value = a.0; lo = b.0; hi = high })) p b.2 in
      word_is v a.0 a.1 ∙ ap (λ (x : Fat). pos x.value) (ok_same (record { value = a.0; lo = b.0; hi = c.0 }) p c.2)

  bounds_value : (low high : Sum) (v : ℤ) (p : Fat) → with_bounds st low high v ≡ Ok p → v ≡ pos p.value
  bounds_value low high v p e = by (int_eq v (pos 0)) refl e
    where
      by : (b : Bool) → int_eq v (pos 0) ≡ b
          → (if b then Ok null else (sum_value st low >>= λ lo. sum_value st high >>= λ hi. bounded v lo hi)) ≡ Ok p → v ≡ pos p.value
      by true z e = (Decides-int_eq v (pos 0)).0 z ∙ ap (λ (x : Fat). pos x.value) (ok_same null p e)
      by false z e =
          let a = then_ok (sum_value st low) (λ lo. sum_value st high >>= λ hi. bounded v lo hi) p e in
          let b = then_ok (sum_value st high) (λ hi. bounded v a.0 hi) p a.2 in
          bounded_value v a.0 b.0 p b.2

  -- what is handed over as text is null, or the address of a byte of one
  abbrev GivesText : Option PointerOperand → Type 0
  GivesText o = (p : Fat) → optional_operand [] f st o ≡ Ok p → IsTextAddress blocks p.value

  text_address : (d : Derived) (h : Handed) → handed ctx text_key true d ≡ Some h → IsDerived f ctx blocks st d
      → GivesText (Some (pointer_operand h))
  unfolding optional_operand operand
  text_address d h e is p o =
      let v = some_then (value_of ctx d) (λ v. handed_value text_key true v) h e in
      let r = then_ok (eval [] f st h.form) (with_bounds st h.low h.high) p o in
      let text = given (eval [] f st h.form) IsText r.0
      (text_is v.0 h v.2 (value_sound f ctx blocks st good types slots d v.0 v.1 is)) r.1 in
      by (subst IsText (bounds_value h.low h.high r.0 p r.2) text)
    where
      by : IsText (pos p.value) → IsTextAddress blocks p.value
      by (inl e) = inl (pos_same p.value 0 e)
        where
          pos_same : (a b : ℕ) → pos a ≡ pos b → a ≡ b
          pos_same a b e = cc
      by (inr t) = inr t

  text_safe : (d : Derived) (h : Handed) → handed ctx text_key true d ≡ Some h → IsLightHanded h → IsDerived f ctx blocks st d
      → IsOperand (Some (pointer_operand h))
  text_safe d h e light is =
      let v = some_then (value_of ctx d) (λ v. handed_value text_key true v) h e in
      text_value v.0 h v.2 light (value_sound f ctx blocks st good types slots d v.0 v.1 is)

  -- what is given back
  freed_one : (v : Value) (h : Handed) → freed_value v ≡ Some h → IsLightHanded h → IsValue f ctx blocks st v
      → IsOperand (Some (pointer_operand h))
  unfolding freed_value
  freed_one value.Null h e light is = subst (λ (x : Handed). IsOperand (Some (pointer_operand x))) (some_same null_handed h e) null_operand
  freed_one (value.Int w) h e light is =
      let r = if_some (is_written 0 w.written) (Some null_handed) h e in
      subst (λ (x : Handed). IsOperand (Some (pointer_operand x))) (some_same null_handed h r.1) null_operand
  freed_one (value.Pointer p) h e light is =
      let r = unless_is p.nullterm (handed_over p) h e in
      subst (λ (x : Handed). IsOperand (Some (pointer_operand x))) r (over_operand p (subst IsLightHanded (sym r) light) is)
    where
      unless_is : (b : Bool) (x h : Handed) → (if b then None else Some x) ≡ Some h → x ≡ h
      unless_is true x h e = absurd cc
      unless_is false x h e = some_same x h e

  freed_safe : (d : Derived) (h : Handed) → and_then (value_of ctx d) freed_value ≡ Some h → IsLightHanded h → IsDerived f ctx blocks st d
      → IsOperand (Some (pointer_operand h))
  freed_safe d h e light is =
      let v = some_then (value_of ctx d) freed_value h e in
      freed_one v.0 h v.2 light (value_sound f ctx blocks st good types slots d v.0 v.1 is)

  no_operand : IsOperand None
  unfolding optional_operand
  no_operand = tt

  -- ---- the statement
  -- a statement that asks the kernel, whose target takes the answer
  pub record IsAsking (functions : List Signature) (elem : ℕ) (c : CheckedStmt) : Type 0 where
    pub asks : Safe (act [] f st (out-CheckedStmt c))
        (λ a. (a.state ≡ st) × (call : KernelCall) × (a.turn ≡ Asks call) × (call.elem ≡ elem)
        × IsLawfulCall ctx.table blocks functions call)
    pub target : IsAnswerTarget ctx elem (target_of (out-CheckedStmt c))

  abbrev PrintsOperand : KernelName → Option PointerOperand → Type 0
  PrintsOperand name o = (p : Fat) → optional_operand [] f st o ≡ Ok p → PrintsText blocks name p.value

  asking : (functions : List Signature) (t : Option Target) (name : KernelName) (numbers : List Argument) (pointer : Option PointerOperand)
      (function elem size : ℕ)
      → IsAnswerTarget ctx elem t → AreSafe numbers → IsOperand pointer → PrintsOperand name pointer
      → TakesHandler (kernel_row name).parameters functions function → AsksElements ctx.table name elem size
      → IsAsking functions elem (statement.Kernel ctx.line t name numbers pointer function elem size)
  unfolding act
  asking functions t name numbers pointer function elem size target safe fine text handler elements = record {
    asks = safe_same _ _ _ (ap (act [] f st) (statement.outs-Kernel ctx.line t name numbers pointer function elem size))
        (safe_bind (arguments [] f st numbers) _ Fine _ (arguments_safe numbers safe) (λ vs u.
        safe_step (optional_operand [] f st pointer) _ Fine _ fine (λ p e w.
        (refl, kernel_call name function elem size vs p, refl, refl, record { text = text p e; handler = handler; elements = elements }))));
    target = subst (IsAnswerTarget ctx elem)
        (sym (ap target_of (statement.outs-Kernel ctx.line t name numbers pointer function elem size))) target;
  }

  -- ---- arguments
  pub record AreReady (g : KernelArguments) : Type 0 where
    pub numbers : AreSafe g.numbers
    pub pointer : IsOperand g.pointer

  -- a derivation that begins with no checks
  abbrev pub From : {A : Type 0} → Deriving A → (A → Type 0) → Type 0
  From {A = A} p R = (a : A) (t : List Asked) → p [] ≡ Some (a, t) → AreTested f st ctx.first t → R a

  pub from_sound : {A : Type 0} (p : Deriving A) (R : A → Type 0) → Sound f st ctx.first p R → From p R
  from_sound p R s a t e tested = (s.run [] a t e).1 tested

  -- one whose first step is an expression
  pub from_derive : {B : Type 0} (e : Expr) (g : Derived → Deriving B) (R : B → Type 0) → IsTrue (has_words e)
      → ((d : Derived) (asked : List Asked) → derive ctx e [] ≡ Some (d, asked)
      → Sound f st ctx.first (g d) (λ b. IsDerived f ctx blocks st d → R b)) → From (bind (derive ctx e) g) R
  unfolding bind
  from_derive e g R w each b t h tested =
      let r = some_then (derive ctx e []) (λ x. g x.0 x.1) (b, t) h in
      let two = (each r.0.0 r.0.1 r.1).run r.0.1 b t r.2 in
      let one = (derive_sound f ctx blocks st good types slots e w).run [] r.0.0 r.0.1 r.1 in
      two.1 tested (one.1 (tested_front f st ctx.first r.0.1 t two.0 tested))

  pub from_known : {A B : Type 0} (o : Option A) (g : A → Deriving B) (R : B → Type 0) → ((a : A) → o ≡ Some a → From (g a) R)
      → From (bind (lift o) g) R
  unfolding bind
  from_known {A} o g R each b t h tested =
      let r = some_then (and_then o (λ a. Some (a, []))) (λ x. g x.0 x.1) (b, t) h in
      let q = some_then o (λ a. Some (a, [])) r.0 r.1 in
      each q.0 q.1 b t (ap (λ (x : A × List Asked). g x.0 x.1) (pair_is q.0 r.0 q.2) ∙ r.2) tested
    where
      pair_is : (a : A) (x : A × List Asked) → ◌≡◌ {A = Option (A × List Asked)} (Some (a, [])) (Some x) → (a, []) ≡ x
      pair_is a x e = cc

  -- ---- arguments by their kinds, none of which is text
  abbrev NoText : List ParameterKind → Type 0
  NoText [] = Unit {0}
  NoText (Text ∷ ks) = ⊥
  NoText (k ∷ ks) = NoText ks

  -- kinds of which none is the type of new elements
  abbrev NotNew : List ParameterKind → Type 0
  NotNew [] = Unit {0}
  NotNew (Number ∷ ks) = NotNew ks
  NotNew (Text ∷ ks) = NotNew ks
  NotNew (Handler ∷ ks) = NotNew ks
  NotNew (NewElement ∷ ks) = ⊥
  NotNew (FreedBlock ∷ ks) = NotNew ks

  -- arguments of these kinds behind those that were there
  pub record Behind (functions : List Signature) (ks : List ParameterKind) (g h : KernelArguments) : Type 0 where
    pub ready : AreReady g → AreReady h
    pub handler : TakesHandler ks functions h.handler
    pub kept : IsHandlerAt functions g.handler → IsHandlerAt functions h.handler
    pub plain : NotNew ks

  handler_at : (functions : List Signature) (k : ℕ) (o : Option Signature) (n : ℕ) → slice_get functions k ≡ o → handler_number k o ≡ Some n
      → IsHandlerAt functions n
  handler_at functions k None n at e = absurd cc
  handler_at functions k (Some s) n at e =
      let r = if_some (is_handler s) (Some k) n e in
      subst (IsHandlerAt functions) (some_same k n r.1) (record { signature = s; found = at; handles = r.0 })

  handler_is : (functions : List Signature) (e : Expr) (n : ℕ) → handler functions e ≡ Some n → IsHandlerAt functions n
  unfolding handler
  handler_is functions e n h =
      let a = some_then (plain_name e)
      (λ name. and_then (function_number functions name) (λ k. handler_number k (slice_get functions k))) n h in
      let b = some_then (function_number functions a.0) (λ k. handler_number k (slice_get functions k)) n a.2 in
      handler_at functions b.0 (slice_get functions b.0) n refl b.2

  one_sound : (functions : List Signature) (k : ParameterKind) (e : Expr) (g : KernelArguments) → NoText (k ∷ []) → IsTrue (has_words e)
      → Sound f st ctx.first (kernel_argument ctx functions k e g) (λ h. Behind functions (k ∷ []) g h)
  unfolding kernel_argument
  one_sound functions Number e g n w =
      then_sound f st ctx.first _ _ (IsDerived f ctx blocks st) _ (derive_sound f ctx blocks st good types slots e w) (λ x.
      then_sound f st ctx.first _ _ (λ w. integer_of ctx x ≡ Some w) _ (lift_sound f st ctx.first (integer_of ctx x) _ (λ w e. e)) (λ w.
      pure_sound f st ctx.first _ _ (λ is d.
      record {
        ready = λ ready. record {
          numbers = safe_push g.numbers (record {
            scalar = I32;
            value = w.form;
          }) ready.numbers (number_safe false w (integer_sound f ctx blocks st good types slots x w is d));
          pointer = ready.pointer;
        };
        handler = tt;
        kept = λ k. k;
        plain = tt;
      })))
  one_sound functions Text e g n w = absurd n
  one_sound functions Handler e g n w =
      then_sound f st ctx.first _ _ (IsHandlerAt functions) _
      (lift_sound f st ctx.first (handler functions e) _ (λ k h. handler_is functions e k h)) (λ k.
      pure_sound f st ctx.first _ _ (λ is. record {
        ready = λ ready. record { numbers = ready.numbers; pointer = ready.pointer };
        handler = is;
        kept = λ was. is;
        plain = tt;
      }))
  one_sound functions NewElement e g n w = none_sound f st ctx.first _
  one_sound functions FreedBlock e g n w = none_sound f st ctx.first _

  first_kind : (k : ParameterKind) (ks : List ParameterKind) → NoText (k ∷ ks) → NoText (k ∷ []) × NoText ks
  first_kind Number ks n = (tt, n)
  first_kind Text ks n = absurd n
  first_kind Handler ks n = (tt, n)
  first_kind NewElement ks n = (tt, n)
  first_kind FreedBlock ks n = (tt, n)

  one_more : (functions : List Signature) (k : ParameterKind) (ks : List ParameterKind) (g h out : KernelArguments)
      → Behind functions (k ∷ []) g h → Behind functions ks h out → Behind functions (k ∷ ks) g out
  one_more functions k ks g h out one rest = record {
    ready = λ r. rest.ready (one.ready r);
    handler = by k one.handler;
    kept = λ was. rest.kept (one.kept was);
    plain = both k one.plain;
  }
    where
      both : (k : ParameterKind) → NotNew (k ∷ []) → NotNew (k ∷ ks)
      both Number x = rest.plain
      both Text x = rest.plain
      both Handler x = rest.plain
      both NewElement x = absurd x
      both FreedBlock x = rest.plain

      by : (k : ParameterKind) → TakesHandler (k ∷ []) functions h.handler → TakesHandler (k ∷ ks) functions out.handler
      by Number x = rest.handler
      by Text x = rest.handler
      by Handler x = rest.kept x
      by NewElement x = rest.handler
      by FreedBlock x = rest.handler

  each_sound : (functions : List Signature) (ks : List ParameterKind) (es : List Expr) (g : KernelArguments) → NoText ks → AreLight ctx es
      → Sound f st ctx.first (kernel_arguments ctx functions ks es g) (λ h. Behind functions ks g h)
  each_sound functions [] [] g n w = pure_sound f st ctx.first g _ (record { ready = λ r. r; handler = tt; kept = λ k. k; plain = tt })
  each_sound functions [] (e ∷ es) g n w = none_sound f st ctx.first _
  each_sound functions (k ∷ ks) [] g n w = none_sound f st ctx.first _
  each_sound functions (k ∷ ks) (e ∷ es) g n w =
      let both = first_kind k ks n in
      then_sound f st ctx.first _ _ (λ h. Behind functions (k ∷ []) g h) _ (one_sound functions k e g both.0 w.0.words) (λ h.
      weaker f st ctx.first _ _ _ (λ out q one. one_more functions k ks g h out one q) (each_sound functions ks es h both.1 w.1))

  -- ---- text
  pub record IsPrinted (g : KernelArguments) : Type 0 where
    pub ready : AreReady g
    pub text : GivesText g.pointer

  text_ready : (functions : List Signature) (e : Expr) → IsLight ctx e → From (kernel_argument ctx functions Text e no_arguments) IsPrinted
  unfolding kernel_argument
  text_ready functions e light =
      from_derive e _ _ light.words (λ d asked derived.
      then_sound f st ctx.first _ _ (λ h. handed ctx text_key true d ≡ Some h) _ (lift_sound f st ctx.first (handed ctx text_key true d) _
      (λ h e. e)) (λ h.
      pure_sound f st ctx.first _ _ (λ is known.
      record {
        ready = record { numbers = tt; pointer = text_safe d h is (light.hands d asked derived text_key true h is) known };
        text = text_address d h is known;
      })))

  pub from_then : {A B : Type 0} (p : Deriving A) (k : A → Deriving B) (Q : A → Type 0) (R : B → Type 0) → From p Q
      → ((a : A) → Sound f st ctx.first (k a) (λ b. Q a → R b)) → From (bind p k) R
  unfolding bind
  from_then p k Q R from each b t h tested =
      let r = some_then (p []) (λ x. k x.0 x.1) (b, t) h in
      let two = (each r.0.0).run r.0.1 b t r.2 in
      two.1 tested (from r.0.0 r.0.1 r.1 (tested_front f st ctx.first r.0.1 t two.0 tested))

  -- ---- the arguments of a call by name
  texts_ready : (functions : List Signature) (es : List Expr) → AreLight ctx es
      → From (kernel_arguments ctx functions (Text ∷ []) es no_arguments) IsPrinted
  texts_ready functions [] w = from_sound _ _ (none_sound f st ctx.first _)
  texts_ready functions (e ∷ es) w =
      from_then (kernel_argument ctx functions Text e no_arguments) (kernel_arguments ctx functions [] es) IsPrinted IsPrinted
      (text_ready functions e w.0) (λ h. no_more h es)
    where
      no_more : (h : KernelArguments) (es : List Expr) → Sound f st ctx.first (kernel_arguments ctx functions [] es h) (λ b. IsPrinted h
          → IsPrinted b)
      no_more h [] = pure_sound f st ctx.first h _ (λ is. is)
      no_more h (e ∷ es) = none_sound f st ctx.first _

  nothing_ready : AreReady no_arguments
  nothing_ready = record { numbers = tt; pointer = no_operand }

  -- a call that takes no text, or `prints`
  abbrev IsKind : KernelName → List ParameterKind → Type 0
  IsKind name ks =
      (NoText ks × ((a : ℕ) → PrintsText blocks name a) × (NotNew ks → AsksElements ctx.table name 0 0))
      ⊎ ((ks ≡ Text ∷ []) × ((a : ℕ) → IsTextAddress blocks a → PrintsText blocks name a) × AsksElements ctx.table name 0 0)

  kinds : (name : KernelName) → IsKind name (kernel_row name).parameters
  unfolding kernel_row
  kinds kernel.Prints = inr (refl, λ a h. h, tt)
  kinds kernel.Printd = inl (tt, λ a. tt, λ x. tt)
  kinds kernel.Kalloc = inl (tt, λ a. tt, λ x. absurd x)
  kinds kernel.Kfree = inl (tt, λ a. tt, λ x. tt)
  kinds kernel.RequestLine = inl (tt, λ a. tt, λ x. tt)
  kinds kernel.FreeLine = inl (tt, λ a. tt, λ x. tt)
  kinds kernel.RequestPorts = inl (tt, λ a. tt, λ x. tt)
  kinds kernel.ReleasePorts = inl (tt, λ a. tt, λ x. tt)
  kinds kernel.PortIn = inl (tt, λ a. tt, λ x. tt)
  kinds kernel.PortOut = inl (tt, λ a. tt, λ x. tt)
  kinds kernel.AddDevice = inl (tt, λ a. tt, λ x. tt)
  kinds kernel.DelDevice = inl (tt, λ a. tt, λ x. tt)
  kinds kernel.SetParam = inl (tt, λ a. tt, λ x. tt)
  kinds kernel.ClearParam = inl (tt, λ a. tt, λ x. tt)
  kinds kernel.GetParam = inl (tt, λ a. tt, λ x. tt)
  kinds kernel.SetTimer = inl (tt, λ a. tt, λ x. tt)
  kinds kernel.DelTimer = inl (tt, λ a. tt, λ x. tt)
  kinds kernel.Now = inl (tt, λ a. tt, λ x. tt)
  kinds kernel.Lock = inl (tt, λ a. tt, λ x. tt)
  kinds kernel.Unlock = inl (tt, λ a. tt, λ x. tt)
  kinds kernel.Mask = inl (tt, λ a. tt, λ x. tt)
  kinds kernel.Unmask = inl (tt, λ a. tt, λ x. tt)
  kinds kernel.Hold = inl (tt, λ a. tt, λ x. tt)
  kinds kernel.DropHold = inl (tt, λ a. tt, λ x. tt)
  kinds kernel.QueueWork = inl (tt, λ a. tt, λ x. tt)

  -- the arguments of a call with this name
  pub record AreLawful (functions : List Signature) (name : KernelName) (g : KernelArguments) : Type 0 where
    pub ready : AreReady g
    pub text : PrintsOperand name g.pointer
    pub handler : TakesHandler (kernel_row name).parameters functions g.handler
    pub elements : AsksElements ctx.table name 0 0

  arguments_lawful : (functions : List Signature) (name : KernelName) (ks : List ParameterKind) (es : List Expr)
      → ks ≡ (kernel_row name).parameters → IsKind name ks → AreLight ctx es
      → From (kernel_arguments ctx functions ks es no_arguments) (AreLawful functions name)
  arguments_lawful functions name ks es own (inl n) w =
      from_sound (kernel_arguments ctx functions ks es no_arguments) (AreLawful functions name) (weaker f st ctx.first _ _ _
      (λ h q. record {
        ready = q.ready nothing_ready;
        text = λ p e. n.1 p.value;
        handler = subst (λ (l : List ParameterKind). TakesHandler l functions h.handler) own q.handler;
        elements = n.2 q.plain;
      }) (each_sound functions ks es no_arguments n.0 w))
  arguments_lawful functions name ks es own (inr k) w = λ h t e tested.
      let q = subst (λ (l : List ParameterKind). From (kernel_arguments ctx functions l es no_arguments) IsPrinted) (sym k.0)
      (texts_ready functions es w) h t e tested in
      record {
        ready = q.ready;
        text = λ p o. k.1 p.value (q.text p o);
        handler = subst (λ (l : List ParameterKind). TakesHandler l functions h.handler) (sym k.0 ∙ own) tt;
        elements = k.2;
      }

  -- a call by name asks, and so do `kalloc` and `kfree`
  pub call_kernel_asks : (functions : List Signature) (name : KernelName) (x : Option (List ℕ)) (es : List Expr) → AreLight ctx es
      → From (call_kernel ctx functions name x es) (IsAsking functions 0)
  unfolding call_kernel
  call_kernel_asks functions name x es w =
      from_known (call_target ctx (kernel_result (kernel_row name).result) x) _ (IsAsking functions 0) (λ t is.
      from_then (kernel_arguments ctx functions (kernel_row name).parameters es no_arguments) _ (AreLawful functions name)
      (IsAsking functions 0) (arguments_lawful functions name (kernel_row name).parameters es refl (kinds name) w)
      (λ a. pure_sound f st ctx.first _ _ (λ lawful.
      asking functions t name a.numbers a.pointer a.handler 0 0 (named_target_is ctx (kernel_row name).result x t is) lawful.ready.numbers
      lawful.ready.pointer lawful.text lawful.handler lawful.elements)))

  pub kfree_asks : (functions : List Signature) (e : Expr) → IsLight ctx e → From (kfree ctx e) (IsAsking functions 0)
  unfolding kfree kernel_row
  kfree_asks functions e light =
      from_derive e _ (IsAsking functions 0) light.words (λ d asked derived.
      then_sound f st ctx.first _ _
      (λ h. and_then (value_of ctx d) freed_value ≡ Some h) _ (lift_sound f st ctx.first (and_then (value_of ctx d) freed_value) _
      (λ h e. e)) (λ h.
      pure_sound f st ctx.first _ _ (λ is known.
      asking functions None kernel.Kfree [] (Some (pointer_operand h)) 0 0 0 tt tt
      (freed_safe d h is (light.frees d asked derived h is) known) (λ p o. tt) tt tt)))

  counted_safe : (e : Expr) → IsTrue (has_words e) → Sound f st ctx.first (counted ctx e) (λ a. Safe (argument [] f st a) Fine)
  unfolding counted
  counted_safe e w =
      then_sound f st ctx.first _ _ (IsDerived f ctx blocks st) _ (derive_sound f ctx blocks st good types slots e w) (λ x.
      then_sound f st ctx.first _ _ (λ w. integer_of ctx x ≡ Some w) _ (lift_sound f st ctx.first (integer_of ctx x) _ (λ w e. e)) (λ w.
      pure_sound f st ctx.first _ _
      (λ is d. number_safe (is_unsigned w.scalar) w (integer_sound f ctx blocks st good types slots x w is d))))

  -- new elements are of a type of the text, with its size
  element_of : (n size : ℕ) → elem_bytes ctx n ≡ Some size → IsElementOf ctx.table n size
  element_of n size h =
      let key = some_map (element_at ctx.table n) (size_of ctx) size h in
      let is = (types.elements n key.0 key.1).0 in
      record {
        shape = key_shape ctx.table key.0;
        shape_is = is;
        size_is = sym key.2 ∙ (sym (types.bytes key.0) ∙ sym
            (ap (λ (o : Option Shape). unwrap_or (option_map (shape_size ctx.table.structs) o) 0) is));
      }

  pub kalloc_asks : (functions : List Signature) (x : List ℕ) (t : TypeName) (e : Expr) → IsTrue (has_words e)
      → From (kalloc ctx x t e) (λ c. (n : ℕ) × IsAsking functions n c)
  unfolding kalloc kernel_row
  kalloc_asks functions x t e w =
      from_known (elem ctx.table t) _ _ (λ n found.
      from_known (kalloc_target ctx x n) _ _ (λ target is.
      from_sound _ _ (then_sound f st ctx.first _ _ _ _ (counted_safe e w) (λ a.
      then_sound f st ctx.first _ _ (λ s. elem_bytes ctx n ≡ Some s) _ (lift_sound f st ctx.first (elem_bytes ctx n) _ (λ s h. h)) (λ size.
      pure_sound f st ctx.first _ _ (λ known safe. (
        n,
        asking functions (Some target) kernel.Kalloc (a ∷ []) None 0 n size (new_target_is ctx x n target is) (safe, tt) no_operand
            (λ p o. tt) tt (element_of n size known),
      )))))))
