-- What holds of whatever a rule derives, wherever it stands: a record with one combinator for each step of a derivation.
use Rattle.std.proofs.Common.{◌≡◌, List, Option, Some, ap, subst}
use Rattle.deputy_rules.specs.declared.asked.Asked.{Asked}
use Rattle.deputy_rules.specs.Deriving.{Deriving, bind, pure, none, lift}
use Rattle.deputy_types.proofs.Inversions.{some_then}

pub record Always {A : Type 0} (p : Deriving A) (Q : A → Type 0) : Type 0 where
  pub run : (s : List Asked) (a : A) (t : List Asked) → p s ≡ Some (a, t) → Q a

some_same : {A : Type 0} (a b : A) → ◌≡◌ {A = Option A} (Some a) (Some b) → a ≡ b
some_same a b h = cc

first_same : {A B : Type 0} (a c : A) (b d : B) → ◌≡◌ {A = Option (A × B)} (Some (a, b)) (Some (c, d)) → a ≡ c
first_same {A} {B} a c b d h = ap (λ (x : A × B). x.0) (some_same (a, b) (c, d) h)

-- one after another
pub then_always : {A B : Type 0} (p : Deriving A) (f : A → Deriving B) (Q : A → Type 0) (R : B → Type 0) → Always p Q
    → ((a : A) → Q a → Always (f a) R) → Always (bind p f) R
unfolding bind
then_always p f Q R e g = record {
  run = λ s b t h. let r = some_then (p s) (λ x. f x.0 x.1) (b, t) h in (g r.0.0 (e.run s r.0.0 r.0.1 r.1)).run r.0.1 b t r.2;
}

-- behind a step of which nothing is asked
pub behind : {A B : Type 0} (p : Deriving A) (f : A → Deriving B) (R : B → Type 0) → ((a : A) → Always (f a) R) → Always (bind p f) R
unfolding bind
behind p f R g = record {
  run = λ s b t h. let r = some_then (p s) (λ x. f x.0 x.1) (b, t) h in (g r.0.0).run r.0.1 b t r.2;
}

pub pure_always : {A : Type 0} (a : A) (Q : A → Type 0) → Q a → Always (pure a) Q
pure_always a Q q = record { run = λ s b t h. subst Q (first_same a b s t h) q }

pub none_always : {A : Type 0} (Q : A → Type 0) → Always (none {A = A}) Q
none_always Q = record { run = λ s b t h. absurd cc }

pub lift_always : {A : Type 0} (o : Option A) (Q : A → Type 0) → ((a : A) → o ≡ Some a → Q a) → Always (lift o) Q
lift_always o Q q = record
    { run = λ s b t h. let r = some_then o (λ a. Some (a, s)) (b, t) h in subst Q (first_same r.0 b s t r.2) (q r.0 r.1) }

pub anything : {A : Type 0} (p : Deriving A) → Always p (λ a. Unit {0})
anything p = record { run = λ s a t h. tt }
