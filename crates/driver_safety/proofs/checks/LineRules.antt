-- Statements in turn: what is derived at a line and then numbered holds in every state, once the function is whole.
use Rattle.std.proofs.Common.{◌≡◌, ℕ, zero, suc, List, [], ◌∷◌, ◌++◌, length, slice_get, Option, Some, None, Result, Ok, Err, refl, ap}
use Rattle.std.proofs.Common.{◌∙◌, subst}
use Rattle.checked_tree.specs.declared.units.CheckedFn.{CheckedFn}
use Rattle.checked_tree.specs.Conditions.{State}
use Rattle.deputy_rules.specs.declared.asked.Asked.{Asked}
use Rattle.deputy_rules.specs.Checking.{Fault, Checking, with_outcome, afterwards, done, in_turn}
use Rattle.deputy_rules.specs.Context.{Context}
use Rattle.deputy_rules.specs.Deriving.{Deriving}
use Rattle.deputy_rules.specs.Numbering.{Numbered, numbered}
use Rattle.deputy_rules.specs.Statements.{with_numbers, numbered_at, statement_context, at_line}
use Rattle.driver_safety.specs.Passing.{AreTested, IsFront}
use Rattle.driver_safety.proofs.checks.Sounding.{front_same, front_front}
use Rattle.driver_safety.proofs.checks.TestedChecks.{numbered_tested}

pair_same : {A B : Type 0} (a c : A) (b d : B) → ◌≡◌ {A = Result (A × B) Fault} (Ok (a, b)) (Ok (c, d)) → (a ≡ c) × (b ≡ d)
pair_same {A} {B} a c b d h = let e = whole (a, b) (c, d) h in (ap (λ (x : A × B). x.0) e, ap (λ (x : A × B). x.1) e)
  where
    whole : (x y : A × B) → ◌≡◌ {A = Result (A × B) Fault} (Ok x) (Ok y) → x ≡ y
    whole x y h = cc

module _ (f : CheckedFn) where
  -- what stands in the function
  pub record Stands (n : Numbered) : Type 0 where
    pub atoms : IsFront n.atoms f.atoms
    pub checks : IsFront n.checks f.checks

  pub record Grows (n out : Numbered) : Type 0 where
    pub atoms : IsFront n.atoms out.atoms
    pub checks : IsFront n.checks out.checks

  stands_before : (n out : Numbered) → Grows n out → Stands out → Stands n
  stands_before n out g s = record {
    atoms = front_front n.atoms out.atoms f.atoms g.atoms s.atoms;
    checks = front_front n.checks
        out.checks f.checks g.checks s.checks;
  }

  grows_twice : (n m out : Numbered) → Grows n m → Grows m out → Grows n out
  grows_twice n m out g k = record {
    atoms = front_front n.atoms m.atoms out.atoms g.atoms k.atoms;
    checks = front_front n.checks m.checks
        out.checks g.checks k.checks;
  }

  -- what is derived with its lines: the checks of the function only grow, and where they all stand in it, the fact
  pub record SoundAt {A : Type 0} (p : Checking Numbered A) (Q : A → Type 0) : Type 0 where
    pub run : (n : Numbered) (a : A) (out : Numbered) → p n ≡ Ok (a, out) → Grows n out × (Stands out → Q a)

  pub done_at : {A : Type 0} (a : A) (Q : A → Type 0) → Q a → SoundAt (done a) Q
  done_at {A} a Q q = record {
    run = λ n b out h.
        let e = pair_same a b n out h in (
          record {
            atoms = front_same n.atoms out.atoms (ap (λ (x : Numbered). x.atoms) e.1);
            checks = front_same n.checks out.checks
                (ap (λ (x : Numbered). x.checks) e.1);
          },
          λ s. subst Q e.0 q,
        );
  }

  pub afterwards_at : {A B : Type 0} (p : Checking Numbered A) (g : A → Checking Numbered B) (Q : A → Type 0) (R : B → Type 0)
      → SoundAt p Q → ((a : A) → SoundAt (g a) (λ b. Q a → R b)) → SoundAt (afterwards p g) R
  unfolding afterwards
  afterwards_at {A} {B} p g Q R e k = record { run = λ n b out h. by n b out (p n) refl h }
    where
      by : (n : Numbered) (b : B) (out : Numbered) (r : Result (A × Numbered) Fault) → p n ≡ r → with_outcome r g ≡ Ok (b, out)
          → Grows n out × (Stands out → R b)
      by n b out (Err fault) q h = absurd cc
      by n b out (Ok x) q h =
          let one = e.run n x.0 x.1 q in
          let two = (k x.0).run x.1 b out h in
          (grows_twice n x.1 out one.0 two.0, λ s. two.1 s (one.1 (stands_before x.1 out two.0 s)))

  pub weaker_at : {A : Type 0} (p : Checking Numbered A) (Q R : A → Type 0) → ((a : A) → Q a → R a) → SoundAt p Q → SoundAt p R
  weaker_at p Q R w e = record { run = λ n a out h. let l = e.run n a out h in (l.0, λ s. w a (l.1 s)) }

  -- a list in turn
  abbrev pub Each : {A : Type 0} → (A → Type 0) → List A → Type 0
  Each {A = A} Q all = (i : ℕ) (a : A) → slice_get all i ≡ Some a → Q a

  last_same : {A : Type 0} (a b : A) → ◌≡◌ {A = Option A} (Some a) (Some b) → a ≡ b
  last_same a b h = cc

  one_more : {A : Type 0} (Q : A → Type 0) (values : List A) (a : A) → Each Q values → Q a → Each Q (values ++ a ∷ [])
  one_more Q [] a h q zero b e = subst Q (last_same a b e) q
  one_more Q [] a h q (suc i) b e = absurd cc
  one_more Q (v ∷ values) a h q zero b e = h zero b e
  one_more Q (v ∷ values) a h q (suc i) b e = one_more Q values a (λ i b e. h (suc i) b e) q i b e

  pub turn_at : {A : Type 0} (Q : A → Type 0) (ps : List (Checking Numbered A)) (values : List A) → ((i : ℕ) (p : Checking Numbered A)
      → slice_get ps i ≡ Some p → SoundAt p Q)
      → SoundAt (in_turn ps values) (λ all. Each Q values → Each Q all)
  turn_at Q [] values each = done_at values _ (λ h. h)
  turn_at Q (p ∷ ps) values each =
      afterwards_at _ _ Q _ (each zero p refl) (λ a. weaker_at _ _ _ (λ all h q before. h (one_more Q values a before q))
      (turn_at Q ps (values ++ a ∷ []) (λ i p e. each (suc i) p e)))

  -- one derivation, at a line: the fact holds in every good state
  pub line_at : {A W : Type 0} (ctx : Context) (line : ℕ) (p : Context → Deriving A) (P : W → State → Type 0) (Q : W → State → A → Type 0)
      → ((w : W) (st : State) (n : Numbered) → P w st → (a : A) (t : List Asked) → p (statement_context ctx line n) [] ≡ Some (a, t)
      → AreTested f st (length n.checks) t → Q w st a)
      → SoundAt (at_line ctx line p) (λ a. (w : W) (st : State) → P w st → Q w st a)
  line_at {A} {W} ctx line p P Q each = record { run = λ n a out h. by n a out (p (statement_context ctx line n) []) refl h }
    where
      last : (n : Numbered) (a x : A) (t : List Asked) (out : Numbered) (o : Option Numbered) → p (statement_context ctx line n) [] ≡ Some
          (x, t) → numbered t n ≡ o → with_numbers line x o ≡ Ok (a, out)
          → Grows n out × (Stands out → (w : W) (st : State) → P w st → Q w st a)
      last n a x t out None q r h = absurd cc
      last n a x t out (Some m) q r h =
          let e = pair_same x a m out h in
          let r' : numbered t n ≡ Some out = r ∙ ap (λ (y : Numbered). Some y) e.1 in
          let grown = (numbered_tested f (record { locals = []; memory = record { bytes = []; granted = [] } }) t n out r') in (
            record { atoms = grown.atoms; checks = grown.checks },
            λ s w st good.
                let tested = (numbered_tested f st t n out r').tested s.atoms s.checks in
                subst (Q w st) e.0 (each w st n good x t q tested),
          )

      by : (n : Numbered) (a : A) (out : Numbered) (o : Option (A × List Asked)) → p (statement_context ctx line n) [] ≡ o
          → numbered_at line n o ≡ Ok (a, out) → Grows n out × (Stands out → (w : W) (st : State) → P w st → Q w st a)
      by n a out None q h = absurd cc
      by n a out (Some r) q h = last n a r.0 r.1 out (numbered r.1 n) q refl h
