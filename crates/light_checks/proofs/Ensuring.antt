-- What a rule ensures where it derives something: the fact, and that the checks behind those so far are light.
use Rattle.std.proofs.Common.{◌≡◌, ◌+◌, Bool, true, false, List, [], ◌∷◌, ◌++◌, length, Option, Some, if◌then◌else◌, All, refl, ap, subst}
use Rattle.std.proofs.lemmas.List.Elements.{All-push}
use Rattle.sd_base.specs.declared.kinds.CheckKind.{CheckKind}
use Rattle.deputy_rules.specs.declared.asked.Asked.{Asked}
use Rattle.deputy_rules.specs.declared.asked.AskedCond.{AskedCond}
use Rattle.deputy_rules.specs.Context.{Context}
use Rattle.deputy_rules.specs.Deriving.{Deriving, bind, pure, none, lift, ask}
use Rattle.deputy_types.proofs.Inversions.{some_then}
use Rattle.light_checks.specs.Lightness.{IsLightCond, IsLightCheck}

pub record Ensures {A : Type 0} (p : Deriving A) (Q : A → Type 0) : Type 0 where
  pub run : (s : List Asked) (a : A) (t : List Asked) → All IsLightCheck s → p s ≡ Some (a, t) → Q a × All IsLightCheck t

-- nothing more than that
abbrev pub Any : {A : Type 0} → A → Type 0
Any a = Unit {0}

pub some_same : {A : Type 0} (a b : A) → ◌≡◌ {A = Option A} (Some a) (Some b) → a ≡ b
some_same a b h = cc

-- what holds of what is there
pub given : {A : Type 0} (P : A → Type 0) (a b : A) → ◌≡◌ {A = Option A} (Some a) (Some b) → P a → P b
given P a b h p = subst P (some_same a b h) p

first_same : {A B : Type 0} (a c : A) (b d : B) → ◌≡◌ {A = Option (A × B)} (Some (a, b)) (Some (c, d)) → a ≡ c
first_same {A} {B} a c b d h = ap (λ (x : A × B). x.0) (some_same (a, b) (c, d) h)

second_same : {A B : Type 0} (a c : A) (b d : B) → ◌≡◌ {A = Option (A × B)} (Some (a, b)) (Some (c, d)) → b ≡ d
second_same {A} {B} a c b d h = ap (λ (x : A × B). x.1) (some_same (a, b) (c, d) h)

-- one after another
pub then_ensures : {A B : Type 0} (p : Deriving A) (f : A → Deriving B) (Q : A → Type 0) (R : B → Type 0) → Ensures p Q → ((a : A) → Q a → Ensures (f a) R) → Ensures (bind p f) R
unfolding bind
then_ensures p f Q R e g = record {
  run = λ s b t all h.
      let r = some_then (p s) (λ x. f x.0 x.1) (b, t) h in
      let l = e.run s r.0.0 r.0.1 all r.1 in
      (g r.0.0 l.0).run r.0.1 b t l.1 r.2;
}

pub pure_ensures : {A : Type 0} (a : A) (Q : A → Type 0) → Q a → Ensures (pure a) Q
pure_ensures a Q q = record { run = λ s b t all h. (subst Q (first_same a b s t h) q, subst (All IsLightCheck) (second_same a b s t h) all) }

pub none_ensures : {A : Type 0} (Q : A → Type 0) → Ensures (none {A = A}) Q
none_ensures Q = record { run = λ s b t all h. absurd cc }

pub lift_ensures : {A : Type 0} (o : Option A) (Q : A → Type 0) → ((a : A) → o ≡ Some a → Q a) → Ensures (lift o) Q
lift_ensures o Q q = record {
  run = λ s b t all h.
      let r = some_then o (λ a. Some (a, s)) (b, t) h in
      (subst Q (first_same r.0 b s t r.2) (q r.0 r.1), subst (All IsLightCheck) (second_same r.0 b s t r.2) all);
}

pub ask_ensures : (ctx : Context) (kind : CheckKind) (cond : AskedCond) → IsLightCond cond → Ensures (ask ctx kind cond) Any
ask_ensures ctx kind cond light = record {
  run = λ s b t all h.
      let new : Asked = record { line = ctx.line; kind = kind; cond = cond } in
      (tt, subst (All IsLightCheck) (second_same (ctx.first + (length s + 1)) b (s ++ new ∷ []) t h) (All-push IsLightCheck s new all light));
}

pub if_ensures : {A : Type 0} (b : Bool) (p q : Deriving A) (Q : A → Type 0) → (b ≡ true → Ensures p Q) → (b ≡ false → Ensures q Q) → Ensures (if b then p else q) Q
if_ensures true p q Q e f = e refl
if_ensures false p q Q e f = f refl

pub weaker : {A : Type 0} (p : Deriving A) (Q R : A → Type 0) → ((a : A) → Q a → R a) → Ensures p Q → Ensures p R
weaker p Q R w e = record { run = λ s b t all h. let l = e.run s b t all h in (w b l.0, l.1) }
