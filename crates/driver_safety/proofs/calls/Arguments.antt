-- The arguments of a call: each has a value as its parameter wants it, the names of parameters stand for those values, and each fits its
-- parameter behind the checks.
use Rattle.std.proofs.Common.{◌≡◌, ℕ, zero, suc, IsTrue, List, [], ◌∷◌, ◌++◌, All, map, ℤ, pos, Option, Some, None, slice_get}
use Rattle.std.proofs.Common.{slice_index_or, unwrap_or, refl, sym, ap, ◌∙◌, subst, append_assoc, append-nil}
use Rattle.std.proofs.lemmas.List.Elements.{All-head, All-tail}
use Rattle.sd_base.specs.Blocks.{Block}
use Rattle.c_tree.specs.declared.expressions.Expr.{Expr}
use Rattle.checked_tree.specs.declared.shapes.Bounds.TheVariants as bounds
use Rattle.checked_tree.specs.declared.shapes.Edge.{Edge}
use Rattle.checked_tree.specs.declared.shapes.Scalar.{Scalar}
use Rattle.checked_tree.specs.declared.shapes.Shape.{Shape}
use Rattle.checked_tree.specs.declared.shapes.Shape.TheVariants as shape
use Rattle.checked_tree.specs.declared.sums.Sum.{Sum}
use Rattle.checked_tree.specs.declared.units.CheckedFn.{CheckedFn}
use Rattle.checked_tree.specs.Conditions.{State}
use Rattle.checked_tree.specs.Operands.{argument, arguments}
use Rattle.checked_tree.specs.Outcome.{Safe}
use Rattle.checked_tree.proofs.Outcomes.{safe_bind}
use Rattle.deputy_types.specs.Options.{and_then}
use Rattle.deputy_rules.specs.declared.derived.Derived.{Derived}
use Rattle.deputy_rules.specs.declared.handed.Passed.{Passed}
use Rattle.deputy_rules.specs.declared.handed.Passed.TheVariants as passed
use Rattle.deputy_rules.specs.declared.naming.Naming.{Naming}
use Rattle.deputy_rules.specs.Calls.{pass, pass_one, pass_each, passed_argument, passed_sum, coerce_passed, coerce_each, of_arguments}
use Rattle.deputy_rules.specs.Context.{Context}
use Rattle.deputy_rules.specs.NameValues.{AreOnce, BaseHas, TermsHave, HaveNames}
use Rattle.deputy_rules.specs.SumValues.{HasValue, parts_at}
use Rattle.deputy_rules.specs.Values.{nothing, name_sum, named_sum}
use Rattle.driver_safety.specs.Derivations.{IsDerived}
use Rattle.driver_safety.specs.Goodness.{IsGood}
use Rattle.driver_safety.specs.Handing.{TakesOne, TakeEach, IsIntegerParameter, CountsParameters, HaveWords}
use Rattle.driver_safety.specs.TypeFacts.{HasTypes, HasSlots, IsDeclared}
use Rattle.driver_safety.specs.WrittenNumbers.{has_words}
use Rattle.driver_safety.proofs.calls.Given.{IsGivenValue, Given, AreNamedBy, pass_sound, coerce_value_sound}
use Rattle.driver_safety.proofs.checks.Evaluations.{Pass, pass_none, pass_then}
use Rattle.driver_safety.proofs.checks.Sounding.{Sound, then_sound, pure_sound, lift_sound, none_sound, weaker}
use Rattle.driver_safety.proofs.expressions.Expressions.{derive_sound}

some_same : {A : Type 0} (a b : A) → ◌≡◌ {A = Option A} (Some a) (Some b) → a ≡ b
some_same a b h = cc

module _ (f : CheckedFn) (ctx : Context) (blocks : List Block) (st : State) (good : IsGood ctx blocks st) (types : HasTypes ctx.table)
    (slots : HasSlots ctx) where
  -- ---- the parameters in order
  abbrev DeclaredOne : Option Shape → Type 0
  DeclaredOne None = Unit {0}
  DeclaredOne (Some s) = IsDeclared ctx.table s

  abbrev pub DeclaredEach : List (Option Shape) → Type 0
  DeclaredEach [] = Unit {0}
  DeclaredEach (s ∷ ss) = DeclaredOne s × DeclaredEach ss

  pub declared_each : (ss : List (Option Shape)) → ((k : ℕ) (s : Shape) → slice_get ss k ≡ Some (Some s) → IsDeclared ctx.table s)
      → DeclaredEach ss
  declared_each [] h = tt
  declared_each (None ∷ ss) h = (tt, declared_each ss (λ k s e. h (suc k) s e))
  declared_each (Some s ∷ ss) h = (h 0 s refl, declared_each ss (λ k s e. h (suc k) s e))

  -- ---- what is derived of the arguments
  abbrev GivenOne : Option Shape → Passed → Type 0
  GivenOne None a = ⊥
  GivenOne (Some s) a = Given f ctx blocks st good types slots s a

  abbrev pub GivenEach : List (Option Shape) → List Passed → Type 0
  GivenEach [] [] = Unit {0}
  GivenEach [] (a ∷ xs) = ⊥
  GivenEach (s ∷ ss) [] = ⊥
  GivenEach (s ∷ ss) (a ∷ xs) = GivenOne s a × GivenEach ss xs

  given_one : (s : Option Shape) (x : Derived) (a : Passed) → and_then s (λ y. pass ctx y x) ≡ Some a → DeclaredOne s
      → IsDerived f ctx blocks st x → GivenOne s a
  given_one None x a e i d = absurd cc
  given_one (Some s) x a e i d = pass_sound f ctx blocks st good types slots s x a e i d

  pass_one_sound : (s : Option Shape) (e : Expr) → IsTrue (has_words e) → DeclaredOne s
      → Sound f st ctx.first (pass_one ctx s e) (GivenOne s)
  unfolding pass_one
  pass_one_sound s e w i =
      then_sound f st ctx.first _ _ (IsDerived f ctx blocks st) _ (derive_sound f ctx blocks st good types slots e w) (λ x.
      lift_sound f st ctx.first (and_then s (λ y. pass ctx y x)) _ (λ a e d. given_one s x a e i d))

  abbrev Behind : List (Option Shape) → List Passed → List Passed → Type 0
  Behind ss before args = (new : List Passed) × (args ≡ before ++ new) × GivenEach ss new

  pub pass_each_sound : (ss : List (Option Shape)) (es : List Expr) (before : List Passed) → HaveWords es → DeclaredEach ss
      → Sound f st ctx.first (pass_each ctx ss es before) (Behind ss before)
  pass_each_sound [] [] before w i = pure_sound f st ctx.first before _ ([], sym (append-nil before), tt)
  pass_each_sound [] (e ∷ es) before w i = none_sound f st ctx.first _
  pass_each_sound (s ∷ ss) [] before w i = none_sound f st ctx.first _
  pass_each_sound (s ∷ ss) (e ∷ es) before w i =
      then_sound f st ctx.first _ _ (GivenOne s) _ (pass_one_sound s e (All-head (λ e. IsTrue (has_words e)) e es w) i.0) (λ a.
      weaker f st ctx.first _ _ _ (λ args there given. (a ∷ there.0, there.1 ∙ append_assoc before (a ∷ []) there.0, (given, there.2)))
      (pass_each_sound ss es (before ++ a ∷ []) (All-tail (λ e. IsTrue (has_words e)) e es w) i.1))

  -- ---- their values
  abbrev ValueOne : Option Shape → Passed → ℤ → Type 0
  ValueOne None a v = ⊥
  ValueOne (Some s) a v = IsGivenValue f ctx blocks st good types slots s a v

  abbrev pub ValueEach : List (Option Shape) → List Passed → List ℤ → Type 0
  ValueEach [] [] [] = Unit {0}
  ValueEach [] [] (v ∷ vs) = ⊥
  ValueEach [] (a ∷ xs) vs = ⊥
  ValueEach (s ∷ ss) [] vs = ⊥
  ValueEach (s ∷ ss) (a ∷ xs) [] = ⊥
  ValueEach (s ∷ ss) (a ∷ xs) (v ∷ vs) = ValueOne s a v × ValueEach ss xs vs

  value_one : (s : Option Shape) (a : Passed) → GivenOne s a → Safe (argument [] f st (passed_argument a)) (ValueOne s a)
  value_one None a g = absurd g
  value_one (Some s) a g = g

  pub arguments_sound : (ss : List (Option Shape)) (xs : List Passed) → GivenEach ss xs
      → Safe (arguments [] f st (map passed_argument xs)) (ValueEach ss xs)
  unfolding arguments
  arguments_sound [] [] g = tt
  arguments_sound [] (a ∷ xs) g = absurd g
  arguments_sound (s ∷ ss) [] g = absurd g
  arguments_sound (s ∷ ss) (a ∷ xs) g =
      safe_bind (argument [] f st (passed_argument a)) _ (ValueOne s a) _ (value_one s a g.0) (λ v one.
      safe_bind (arguments [] f st (map passed_argument xs)) _ (ValueEach ss xs) _ (arguments_sound ss xs g.1) (λ vs rest. (one, rest)))

  -- ---- the names of parameters
  abbrev sum_at : List Passed → ℕ → Sum
  sum_at xs k = unwrap_or (slice_get (map passed_sum xs) k) nothing

  has_value : (s : Option Shape) (a : Passed) (v : ℤ) → ValueOne s a v → HasValue st (passed_sum a) v
  has_value None a v g = absurd g
  has_value (Some (shape.Int t)) (passed.Int k e side) v g = g.1
  has_value (Some (shape.Int t)) (passed.Pointer h) v g = absurd g
  has_value (Some (shape.Pointer elem b)) (passed.Int k e side) v g = absurd g
  has_value (Some (shape.Pointer elem b)) (passed.Pointer h) v g = g.at
  has_value (Some (shape.Struct m)) a v g = absurd g
  has_value (Some shape.Address) a v g = absurd g

  argument_has : (ss : List (Option Shape)) (xs : List Passed) (vs : List ℤ) → ValueEach ss xs vs → (k : ℕ)
      → HasValue st (sum_at xs k) (slice_index_or vs k (pos 0))
  unfolding parts_at
  argument_has [] [] [] g k = record { read = tt; is = refl }
  argument_has [] [] (v ∷ vs) g k = absurd g
  argument_has [] (a ∷ xs) vs g k = absurd g
  argument_has (s ∷ ss) [] vs g k = absurd g
  argument_has (s ∷ ss) (a ∷ xs) [] g k = absurd g
  argument_has (s ∷ ss) (a ∷ xs) (v ∷ vs) g zero = has_value s a v g.0
  argument_has (s ∷ ss) (a ∷ xs) (v ∷ vs) g (suc k) = argument_has ss xs vs g.1 k

  once_int : (t : Scalar) (a : Passed) (v : ℤ) → IsGivenValue f ctx blocks st good types slots (shape.Int t) a v
      → AreOnce (passed_sum a).parts
  once_int t (passed.Int k e side) v g = g.2
  once_int t (passed.Pointer h) v g = absurd g

  argument_once : (ss : List (Option Shape)) (xs : List Passed) (vs : List ℤ) → ValueEach ss xs vs → (k : ℕ) (t : Scalar)
      → slice_get ss k ≡ Some (Some (shape.Int t)) → AreOnce (sum_at xs k).parts
  argument_once [] xs vs g k t e = absurd cc
  argument_once (s ∷ ss) [] vs g k t e = absurd g
  argument_once (s ∷ ss) (a ∷ xs) [] g k t e = absurd g
  argument_once (s ∷ ss) (a ∷ xs) (v ∷ vs) g zero t e = once_int t a v (subst
      (λ (o : Option Shape). ValueOne o a v) (some_same s (Some (shape.Int t)) e) g.0)
  argument_once (s ∷ ss) (a ∷ xs) (v ∷ vs) g (suc k) t e = argument_once ss xs vs g.1 k t e

  module _ (ss : List (Option Shape)) (xs : List Passed) (vs : List ℤ) (values : ValueEach ss xs vs) where
    abbrev pub value_at : ℕ → ℤ
    value_at k = slice_index_or vs k (pos 0)

    name_has : (k : ℕ) → HasValue st (name_sum ctx (of_arguments xs) k) (value_at k)
    unfolding name_sum named_sum
    name_has k = argument_has ss xs vs values k

    name_once : (k : ℕ) → IsIntegerParameter ss k → AreOnce (name_sum ctx (of_arguments xs) k).parts
    unfolding name_sum named_sum
    name_once k i = argument_once ss xs vs values k i.0 i.1

    base_has : (b : Option ℕ) → BaseHas st ctx (of_arguments xs) value_at b
    base_has None = tt
    base_has (Some k) = name_has k

    terms_have : (ts : List (ℤ × ℕ)) → All (λ x. IsIntegerParameter ss x.1) ts → TermsHave st ctx (of_arguments xs) value_at ts
    terms_have [] all = tt
    terms_have (t ∷ ts) all = (
      name_has t.1,
      name_once t.1 (All-head (λ x. IsIntegerParameter ss x.1) t ts all),
      terms_have ts (All-tail
          (λ x. IsIntegerParameter ss x.1) t ts all),
    )

    pub names_have : (e : Edge) → CountsParameters ss e → HaveNames st ctx (of_arguments xs) value_at e
    names_have e counts = record { base = base_has e.base; terms = terms_have e.terms counts }

  -- ---- the coercions
  abbrev NamedOne : Naming → (ℕ → ℤ) → Option Shape → Type 0
  NamedOne n names None = Unit {0}
  NamedOne n names (Some s) = AreNamedBy f ctx blocks st good types slots n names s

  abbrev pub NamedEach : Naming → (ℕ → ℤ) → List (Option Shape) → Type 0
  NamedEach n names [] = Unit {0}
  NamedEach n names (s ∷ ss) = NamedOne n names s × NamedEach n names ss

  named_shape : (n : Naming) (names : ℕ → ℤ) (s : Shape)
      → ((elem : ℕ) (lo hi : Edge) → s ≡ shape.Pointer elem (bounds.Within lo hi)
      → HaveNames st ctx n names lo × HaveNames st ctx n names hi)
      → AreNamedBy f ctx blocks st good types slots n names s
  named_shape n names (shape.Int t) h = tt
  named_shape n names (shape.Pointer elem bounds.Hidden) h = tt
  named_shape n names (shape.Pointer elem bounds.Nullterm) h = tt
  named_shape n names (shape.Pointer elem (bounds.Within lo hi)) h = h elem lo hi refl
  named_shape n names (shape.Struct m) h = tt
  named_shape n names shape.Address h = tt

  pub named_each : (n : Naming) (names : ℕ → ℤ) (ss : List (Option Shape))
      → ((k elem : ℕ) (lo hi : Edge) → slice_get ss k ≡ Some (Some (shape.Pointer elem (bounds.Within lo hi)))
      → HaveNames st ctx n names lo × HaveNames st ctx n names hi)
      → NamedEach n names ss
  named_each n names [] h = tt
  named_each n names (None ∷ ss) h = (tt, named_each n names ss (λ k elem lo hi e. h (suc k) elem lo hi e))
  named_each n names (Some s ∷ ss) h = (
    named_shape n names s (λ elem lo hi e. h 0 elem lo hi (ap (λ (s : Shape). Some (Some s)) e)),
    named_each n names ss (λ k elem lo hi e. h (suc k) elem lo hi e),
  )

  abbrev TakenOne : Naming → Option Shape → Passed → List ℕ → Type 0
  TakenOne n s a ids = (names : ℕ → ℤ) (v : ℤ) → DeclaredOne s → ValueOne s a v → NamedOne n names s
      → Pass f st ids (TakesOne ctx.table blocks names s v)

  coerce_passed_sound : (n : Naming) (s : Option Shape) (a : Passed) → Sound f st ctx.first (coerce_passed ctx n s a) (TakenOne n s a)
  coerce_passed_sound n None a = pure_sound f st ctx.first [] _ (λ names v i g named. absurd g)
  coerce_passed_sound n (Some s) a = coerce_value_sound f ctx blocks st good types slots n s a

  abbrev pub TakenEach : Naming → List (Option Shape) → List Passed → List ℕ → Type 0
  TakenEach n ss xs ids = (names : ℕ → ℤ) (vs : List ℤ) → DeclaredEach ss → ValueEach ss xs vs → NamedEach n names ss
      → Pass f st ids (TakeEach ctx.table blocks names ss vs)

  taken_none : (n : Naming) (xs : List Passed) → TakenEach n [] xs []
  taken_none n [] names [] i g named = pass_none f st _ tt
  taken_none n [] names (v ∷ vs) i g named = absurd g
  taken_none n (a ∷ xs) names vs i g named = absurd g

  taken_more : (n : Naming) (s : Option Shape) (ss : List (Option Shape)) (a : Passed) (xs : List Passed) (ids more : List ℕ)
      → TakenOne n s a ids → TakenEach n ss xs more → TakenEach n (s ∷ ss) (a ∷ xs) (ids ++ more)
  taken_more n s ss a xs ids more one rest names [] i g named = absurd g
  taken_more n s ss a xs ids more one rest names (v ∷ vs) i g named =
      pass_then f st ids more _ _ (one names v i.0 g.0 named.0) (λ t. rest names vs i.1 g.1 named.1)

  pub coerce_each_sound : (n : Naming) (ss : List (Option Shape)) (xs : List Passed) (before : List ℕ)
      → Sound f st ctx.first (coerce_each ctx n ss xs before) (λ ids. (new : List ℕ) × (ids ≡ before ++ new) × TakenEach n ss xs new)
  coerce_each_sound n [] xs before = pure_sound f st ctx.first before _ ([], sym (append-nil before), taken_none n xs)
  coerce_each_sound n (s ∷ ss) [] before = pure_sound f st ctx.first before _ ([], sym (append-nil before), λ names vs i g named. absurd g)
  coerce_each_sound n (s ∷ ss) (a ∷ xs) before =
      then_sound f st ctx.first _ _ (TakenOne n s a) _ (coerce_passed_sound n s a) (λ found.
      weaker f st ctx.first _ _ _ (λ ids there one.
      (found ++ there.0, there.1 ∙ append_assoc before found there.0, taken_more n s ss a xs found there.0 one there.2))
      (coerce_each_sound n ss xs (before ++ found)))
