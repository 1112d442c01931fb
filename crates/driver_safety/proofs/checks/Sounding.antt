-- What a rule ensures where it derives something, in one state: the checks only grow, and where all of them stand in the function, the
-- fact.
use Rattle.std.proofs.Common.{◌≡◌, ℕ, suc, zero, ◌+◌, Bool, true, false, List, [], ◌∷◌, ◌++◌, length, Option, Some, slice_get}
use Rattle.std.proofs.Common.{if◌then◌else◌, refl, sym, ap, ◌∙◌, subst}
use Rattle.sd_base.specs.declared.kinds.CheckKind.{CheckKind}
use Rattle.checked_tree.specs.declared.units.CheckedFn.{CheckedFn}
use Rattle.checked_tree.specs.Conditions.{State}
use Rattle.deputy_rules.specs.declared.asked.Asked.{Asked}
use Rattle.deputy_rules.specs.declared.asked.AskedCond.{AskedCond}
use Rattle.deputy_rules.specs.Context.{Context}
use Rattle.deputy_rules.specs.Deriving.{Deriving, bind, pure, none, lift, ask}
use Rattle.deputy_types.specs.Options.{and_then}
use Rattle.deputy_types.proofs.Inversions.{some_then}
use Rattle.driver_safety.specs.Passing.{IsFront, IsTested, AreTested}

append_nil : {A : Type 0} (s : List A) → s ≡ s ++ []
append_nil [] = refl
append_nil (x ∷ xs) = ap (λ l. x ∷ l) (append_nil xs)

append_twice : {A : Type 0} (s a b : List A) → (s ++ a) ++ b ≡ s ++ (a ++ b)
append_twice [] a b = refl
append_twice (x ∷ xs) a b = ap (λ l. x ∷ l) (append_twice xs a b)

pub front_same : {A : Type 0} (s t : List A) → s ≡ t → IsFront s t
front_same s t e = subst (λ l. IsFront s l) e ([], append_nil s)

pub front_front : {A : Type 0} (s m t : List A) → IsFront s m → IsFront m t → IsFront s t
front_front s m t p q = (p.0 ++ q.0, q.1 ∙ ap (λ l. l ++ q.0) p.1 ∙ append_twice s p.0 q.0)

pub get_front : {A : Type 0} (s more : List A) (k : ℕ) (x : A) → slice_get s k ≡ Some x → slice_get (s ++ more) k ≡ Some x
get_front [] more k x h = absurd cc
get_front (y ∷ ys) more zero x h = h
get_front (y ∷ ys) more (suc k) x h = get_front ys more k x h

pub get_last : {A : Type 0} (s : List A) (x : A) → slice_get (s ++ x ∷ []) (length s) ≡ Some x
get_last [] x = refl
get_last (y ∷ ys) x = get_last ys x

pub tested_front : (f : CheckedFn) (st : State) (first : ℕ) (s t : List Asked) → IsFront s t → AreTested f st first t
    → AreTested f st first s
tested_front f st first s t front all = record {
  each = λ k q h. all.each k q (subst (λ l. slice_get l k ≡ Some q) (sym front.1) (get_front s front.0 k q h));
}

some_same : {A : Type 0} (a b : A) → ◌≡◌ {A = Option A} (Some a) (Some b) → a ≡ b
some_same a b h = cc

pair_first : {A B : Type 0} (a c : A) (b d : B) → ◌≡◌ {A = Option (A × B)} (Some (a, b)) (Some (c, d)) → a ≡ c
pair_first {A} {B} a c b d h = ap (λ (x : A × B). x.0) (some_same (a, b) (c, d) h)

pair_second : {A B : Type 0} (a c : A) (b d : B) → ◌≡◌ {A = Option (A × B)} (Some (a, b)) (Some (c, d)) → b ≡ d
pair_second {A} {B} a c b d h = ap (λ (x : A × B). x.1) (some_same (a, b) (c, d) h)

module _ (f : CheckedFn) (st : State) (first : ℕ) where
  pub record Sound {A : Type 0} (p : Deriving A) (Q : A → Type 0) : Type 0 where
    pub run : (s : List Asked) (a : A) (t : List Asked) → p s ≡ Some (a, t) → IsFront s t × (AreTested f st first t → Q a)

  pub then_sound : {A B : Type 0} (p : Deriving A) (g : A → Deriving B) (Q : A → Type 0) (R : B → Type 0)
      → Sound p Q → ((a : A) → Sound (g a) (λ b. Q a → R b)) → Sound (bind p g) R
  unfolding bind
  then_sound p g Q R e k = record {
    run = λ s b t h.
        let r = some_then (p s) (λ x. g x.0 x.1) (b, t) h in
        let one = e.run s r.0.0 r.0.1 r.1 in
        let two = (k r.0.0).run r.0.1 b t r.2 in
        (front_front s r.0.1 t one.0 two.0, λ all. two.1 all (one.1 (tested_front f st first r.0.1 t two.0 all)));
  }

  -- two facts of one derivation
  pub both_sound : {A : Type 0} (p : Deriving A) (Q R : A → Type 0) → Sound p Q → Sound p R → Sound p (λ a. Q a × R a)
  both_sound p Q R a b = record {
    run = λ s x t h.
        let l = a.run s x t h in
        let r = b.run s x t h in
        (l.0, λ k. (l.1 k, r.1 k));
  }

  pub pure_sound : {A : Type 0} (a : A) (Q : A → Type 0) → Q a → Sound (pure a) Q
  pure_sound a Q q = record { run = λ s b t h. (front_same s t (pair_second a b s t h), λ all. subst Q (pair_first a b s t h) q) }

  pub none_sound : {A : Type 0} (Q : A → Type 0) → Sound (none {A = A}) Q
  none_sound Q = record { run = λ s b t h. absurd cc }

  pub lift_sound : {A : Type 0} (o : Option A) (Q : A → Type 0) → ((a : A) → o ≡ Some a → Q a) → Sound (lift o) Q
  lift_sound o Q q = record {
    run = λ s b t h.
        let r = some_then o (λ a. Some (a, s)) (b, t) h in
        (front_same s t (pair_second r.0 b s t r.2), λ all. subst Q (pair_first r.0 b s t r.2) (q r.0 r.1));
  }

  -- what is looked up, and then a rule that goes by what was found
  pub known_sound : {A B : Type 0} (o : Option A) (g : A → Deriving B) (R : B → Type 0) → ((a : A) → o ≡ Some a → Sound (g a) R)
      → Sound (bind (lift o) g) R
  unfolding bind
  known_sound {A} o g R k = record {
    run = λ s b t h.
        let r = some_then (and_then o (λ a. Some (a, s))) (λ x. g x.0 x.1) (b, t) h in
        let q = some_then o (λ a. Some (a, s)) r.0 r.1 in
        (k q.0 q.1).run s b t (ap (λ (x : A × List Asked). g x.0 x.1) (some_same (q.0, s) r.0 q.2) ∙ r.2);
  }

  pub if_sound : {A : Type 0} (b : Bool) (p q : Deriving A) (Q : A → Type 0) → (b ≡ true → Sound p Q) → (b ≡ false → Sound q Q)
      → Sound (if b then p else q) Q
  if_sound true p q Q e g = e refl
  if_sound false p q Q e g = g refl

  pub weaker : {A : Type 0} (p : Deriving A) (Q R : A → Type 0) → ((a : A) → Q a → R a) → Sound p Q → Sound p R
  weaker p Q R w e = record { run = λ s b t h. let l = e.run s b t h in (l.0, λ all. w b (l.1 all)) }

pub ask_sound : (f : CheckedFn) (st : State) (ctx : Context) (kind : CheckKind) (cond : AskedCond) → Sound f st ctx.first
    (ask ctx kind cond) (λ id. IsTested f st id cond)
ask_sound f st ctx kind cond = record {
  run = λ s b t h.
      let new : Asked = record { line = ctx.line; kind = kind; cond = cond } in
      let same = pair_second (ctx.first + (length s + 1)) b (s ++ new ∷ []) t h in
      let number = pair_first (ctx.first + (length s + 1)) b (s ++ new ∷ []) t h in (
        (new ∷ [], sym same),
        λ all. subst (λ id. IsTested f st id cond) number
            (all.each (length s) new (subst (λ l. slice_get l (length s) ≡ Some new) same (get_last s new))),
      );
}
