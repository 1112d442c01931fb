-- What is handed over has a value as its taker's type wants it, and fits that type behind the checks.
use Rattle.std.proofs.Common.{◌≡◌, ℕ, IsTrue, true, List, [], ℤ, pos, Option, Some, None, option_map, Ok, refl}
use Rattle.std.proofs.Common.{subst}
use Rattle.sd_base.specs.Blocks.{Block}
use Rattle.checked_tree.specs.declared.shapes.Bounds.{Bounds}
use Rattle.checked_tree.specs.declared.shapes.Bounds.TheVariants as bounds
use Rattle.checked_tree.specs.declared.shapes.Scalar.{Scalar}
use Rattle.checked_tree.specs.declared.shapes.Scalar.TheVariants.{Pointer}
use Rattle.checked_tree.specs.declared.shapes.Shape.{Shape}
use Rattle.checked_tree.specs.declared.shapes.Shape.TheVariants as shape
use Rattle.checked_tree.specs.declared.units.CheckedFn.{CheckedFn}
use Rattle.checked_tree.specs.Conditions.{State}
use Rattle.checked_tree.specs.Eval.{eval, tests}
use Rattle.checked_tree.specs.Numbers.{converted, is_of}
use Rattle.checked_tree.specs.Operands.{argument, taken}
use Rattle.checked_tree.specs.Outcome.{Safe}
use Rattle.checked_tree.proofs.NumberRanges.{converted_of}
use Rattle.checked_tree.proofs.Outcomes.{safe_bind}
use Rattle.deputy_types.specs.Fitting.{Fits, null, in_text, in_bounds}
use Rattle.deputy_types.specs.Table.{element_at}
use Rattle.deputy_types.proofs.Inversions.{some_then}
use Rattle.deputy_rules.specs.declared.derived.Derived.{Derived}
use Rattle.deputy_rules.specs.declared.derived.Value.TheVariants as value
use Rattle.deputy_rules.specs.declared.derived.Whole.{Whole}
use Rattle.deputy_rules.specs.declared.handed.Handed.{Handed}
use Rattle.deputy_rules.specs.declared.handed.Passed.{Passed}
use Rattle.deputy_rules.specs.declared.handed.Passed.TheVariants as passed
use Rattle.deputy_rules.specs.declared.naming.Naming.{Naming}
use Rattle.deputy_rules.specs.Calls.{pass, passed_argument, coerce_value}
use Rattle.deputy_rules.specs.Coercion.{converted_side, handed, coerce_to}
use Rattle.deputy_rules.specs.Context.{Context}
use Rattle.deputy_rules.specs.NameValues.{AreOnce, HaveNames}
use Rattle.deputy_rules.specs.Sums.{sum_of}
use Rattle.deputy_rules.specs.SumValues.{HasValue}
use Rattle.deputy_rules.specs.Values.{integer_of, is_nullterm}
use Rattle.driver_safety.specs.Derivations.{IsValue, IsDerived}
use Rattle.driver_safety.specs.Goodness.{IsGood}
use Rattle.driver_safety.specs.Handing.{Takes}
use Rattle.driver_safety.specs.TypeFacts.{HasTypes, HasSlots, IsInteger, IsDeclared}
use Rattle.driver_safety.proofs.assignments.Conversions.{converted_has, converted_once}
use Rattle.driver_safety.proofs.assignments.HandedRules.{IsHanded, coerce_shape_sound}
use Rattle.driver_safety.proofs.assignments.Handing.{Hands, handed_sound}
use Rattle.driver_safety.proofs.assignments.SlotAssign.{taken_is, word_taken}
use Rattle.driver_safety.proofs.checks.Evaluations.{safe_same, safe_weaker, Pass, pass_none}
use Rattle.driver_safety.proofs.checks.Sounding.{Sound, then_sound, pure_sound, lift_sound, weaker}
use Rattle.driver_safety.proofs.expressions.OperatorRules.{integer_sound}
use Rattle.driver_safety.proofs.expressions.PlaceRules.{safe_step}
use Rattle.driver_safety.proofs.expressions.ReadRules.{no_void}

some_same : {A : Type 0} (a b : A) → ◌≡◌ {A = Option A} (Some a) (Some b) → a ≡ b
some_same a b h = cc

mapped : {A B : Type 0} (o : Option A) (g : A → B) (b : B) → option_map g o ≡ Some b → (a : A) × (o ≡ Some a) × (g a ≡ b)
mapped (Some a) g b h = (a, refl, some_same (g a) b h)
mapped None g b h = absurd cc

module _ (f : CheckedFn) (ctx : Context) (blocks : List Block) (st : State) (good : IsGood ctx blocks st) (types : HasTypes ctx.table)
    (slots : HasSlots ctx) where
  -- a value that is handed to this shape
  abbrev pub IsGivenValue : Shape → Passed → ℤ → Type 0
  IsGivenValue (shape.Int t) (passed.Int k e side) v = IsTrue (is_of t v) × HasValue st (sum_of side) v × AreOnce (sum_of side).parts
  IsGivenValue (shape.Int t) (passed.Pointer h) v = ⊥
  IsGivenValue (shape.Pointer elem b) (passed.Int k e side) v = ⊥
  IsGivenValue (shape.Pointer elem b) (passed.Pointer h) v = IsHanded f ctx blocks st types h elem (is_nullterm b) v
  IsGivenValue (shape.Struct k) a v = ⊥
  IsGivenValue shape.Address a v = ⊥

  abbrev pub Given : Shape → Passed → Type 0
  Given s a = Safe (argument [] f st (passed_argument a)) (IsGivenValue s a)

  int_given : (t : Scalar) → IsInteger t → (w : Whole) → IsValue f ctx blocks st (value.Int w)
      → Given (shape.Int t) (passed.Int t w.form (converted_side t w))
  unfolding argument
  int_given t i w d = safe_step (eval [] f st w.form) (taken t) _ _ d.1 (λ v seen is.
      safe_same (Ok (converted t v)) (taken t v) (IsGivenValue (shape.Int t) (passed.Int t w.form (converted_side t w))) (taken_is t v i)
      (converted_of t v (no_void t i), converted_has f st t w v (no_void t i) seen is, converted_once f st t w))

  pointer_given : (elem : ℕ) (b : Bounds) (h : Handed) → Hands f ctx blocks st good types slots h elem (is_nullterm b)
      → Given (shape.Pointer elem b) (passed.Pointer h)
  unfolding argument
  pointer_given elem b h d = safe_bind (eval [] f st h.form) (taken (Pointer 0)) _ _ d (λ v here.
      safe_same (Ok v) (taken (Pointer 0) v) (IsHanded f ctx blocks st types h elem (is_nullterm b)) (word_taken v here.word) here)

  pub pass_sound : (s : Shape) (x : Derived) (a : Passed) → pass ctx s x ≡ Some a → IsDeclared ctx.table s → IsDerived f ctx blocks st x
      → Given s a
  unfolding pass
  pass_sound (shape.Int t) x a e i d =
      let r = mapped (integer_of ctx x) (λ w. passed.Int t w.form (converted_side t w)) a e in
      subst (λ (a : Passed). Given (shape.Int t) a) r.2 (int_given t i r.0 (integer_sound f ctx blocks st good types slots x r.0 r.1 d))
  pass_sound (shape.Pointer elem b) x a e i d =
      let r = some_then (element_at ctx.table elem) (λ key. option_map passed.Pointer (handed ctx key (is_nullterm b) x)) a e in
      let q = mapped (handed ctx r.0 (is_nullterm b) x) passed.Pointer a r.2 in
      subst (λ (a : Passed). Given (shape.Pointer elem b) a) q.2 (pointer_given elem b q.0 (handed_sound f ctx blocks st good types slots
      r.0 elem (is_nullterm b) x q.0 r.1 q.1 d))
  pass_sound (shape.Struct k) x a e i d = absurd cc
  pass_sound shape.Address x a e i d = absurd i

  -- ---- the coercion
  -- the names of this shape have these values
  abbrev pub AreNamedBy : Naming → (ℕ → ℤ) → Shape → Type 0
  AreNamedBy n names (shape.Int s) = Unit {0}
  AreNamedBy n names (shape.Pointer elem bounds.Hidden) = Unit {0}
  AreNamedBy n names (shape.Pointer elem bounds.Nullterm) = Unit {0}
  AreNamedBy n names (shape.Pointer elem (bounds.Within lo hi)) = HaveNames st ctx n names lo × HaveNames st ctx n names hi
  AreNamedBy n names (shape.Struct s) = Unit {0}
  AreNamedBy n names shape.Address = Unit {0}

  text_bounds : (elem : ℕ) (lo hi v : ℤ) → Fits blocks ctx.table.elems ctx.table.structs elem true lo hi v → Fits blocks ctx.table.elems
      ctx.table.structs elem true (pos 0) (pos 0) v
  text_bounds elem lo hi v (null e) = null e
  text_bounds elem lo hi v (in_text n t) = in_text n t
  text_bounds elem lo hi v (in_bounds n t) = absurd cc

  abbrev pub TakenBehind : Naming → Shape → Passed → List ℕ → Type 0
  TakenBehind n s a ids = (names : ℕ → ℤ) (v : ℤ) → IsDeclared ctx.table s → IsGivenValue s a v → AreNamedBy n names s
      → Pass f st ids (Takes ctx.table blocks names s v)

  to_pointer : (n : Naming) (elem : ℕ) (b : Bounds) (h : Handed)
      → Sound f st ctx.first (coerce_value ctx n (shape.Pointer elem b) (passed.Pointer h))
      (TakenBehind n (shape.Pointer elem b) (passed.Pointer h))
  unfolding coerce_value coerce_to
  to_pointer n elem bounds.Hidden h =
      then_sound f st ctx.first _ _ (λ key. Unit {0}) _ (lift_sound f st ctx.first (element_at ctx.table elem) _ (λ key e. tt)) (λ key.
      pure_sound f st ctx.first [] _ (λ u names v i given named. absurd i))
  to_pointer n elem bounds.Nullterm h =
      then_sound f st ctx.first _ _ (λ key. Unit {0}) _ (lift_sound f st ctx.first (element_at ctx.table elem) _ (λ key e. tt)) (λ key.
      pure_sound f st ctx.first [] _ (λ u names v i given named.
      pass_none f st _ (given.word, text_bounds elem given.lo given.hi v given.fits)))
  to_pointer n elem (bounds.Within lo hi) h =
      weaker f st ctx.first _ _ _ (λ ids q names v i given named.
      safe_weaker (tests [] f st ids) _ _ (q names v given named.0 named.1) (λ u e fits. (given.word, fits)))
      (coerce_shape_sound f ctx blocks st types n elem lo hi h)

  pub coerce_value_sound : (n : Naming) (s : Shape) (a : Passed) → Sound f st ctx.first (coerce_value ctx n s a) (TakenBehind n s a)
  unfolding coerce_value
  coerce_value_sound n (shape.Int t) (passed.Int k e side) = pure_sound f st ctx.first [] _
      (λ names v i given named. pass_none f st _ given.0)
  coerce_value_sound n (shape.Int t) (passed.Pointer h) = pure_sound f st ctx.first [] _ (λ names v i given named. absurd given)
  coerce_value_sound n (shape.Pointer elem b) (passed.Int k e side) = pure_sound f st ctx.first [] _ (λ names v i given named. absurd given)
  coerce_value_sound n (shape.Pointer elem b) (passed.Pointer h) = to_pointer n elem b h
  coerce_value_sound n (shape.Struct m) (passed.Int k e side) = pure_sound f st ctx.first [] _ (λ names v i given named. absurd given)
  coerce_value_sound n (shape.Struct m) (passed.Pointer h) = pure_sound f st ctx.first [] _ (λ names v i given named. absurd given)
  coerce_value_sound n shape.Address (passed.Int k e side) = pure_sound f st ctx.first [] _ (λ names v i given named. absurd given)
  coerce_value_sound n shape.Address (passed.Pointer h) = pure_sound f st ctx.first [] _ (λ names v i given named. absurd given)
