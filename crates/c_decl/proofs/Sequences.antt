-- The longest of phrases that are made of others, from the longest of their parts.
use Rattle.std.proofs.Common.{◌≡◌, ℕ, ◌<◌, List, length, Option, None, Some, IfSome, refl, ap, sym, ◌∙◌, subst, inl, inr}
use Rattle.c_tree.specs.declared.words.Token.{Token}
use Rattle.c_tree.specs.declared.words.Word.{Word}
use Rattle.c_tree.specs.declared.words.Word.TheVariants as word
use Rattle.c_tree.specs.Reading.{Begins, Best, Within, Covered, Never}
use Rattle.c_expr.specs.Looking.{Lacks}
use Rattle.c_expr.proofs.Chains.{best_none}
use Rattle.c_decl.specs.Sequences.{Then, then, Before, before, Ended, ended, Given, given}

-- ---- a phrase behind another
no_first : {X Z : Type 0} (A : List Token → List Token → X → Type 0) (B : X → List Token → List Token → Z → Type 0) (goes : List Token → Type 0) (w : List Token)
    → Best (A w) goes None → (v : List Token) (z : Z) → Then A B w v z → ⊥
no_first A B goes w best v z (then {u = u} {x = x} a b) = best.covers u x a

pub then_none : {X Z : Type 0} {A : List Token → List Token → X → Type 0} {B : X → List Token → List Token → Z → Type 0} {goes more : List Token → Type 0} {w : List Token}
    → Best (A w) goes None → Best (Then A B w) more None
then_none {A = A} {B = B} {goes = goes} {more = more} {w = w} best = best_none (Then A B w) more (no_first A B goes w best)

then_covers : {X Z : Type 0} (A : List Token → List Token → X → Type 0) (B : X → List Token → List Token → Z → Type 0) (goes more : List Token → Type 0) (w u : List Token) (x : X)
    (o : Option (Z × List Token)) → ((y : X) (q v : List Token) (z : Z) → goes q → B y q v z → ⊥) → Best (A w) goes (Some (x, u)) → Best (B x u) more o
    → (v : List Token) (z : Z) → Then A B w v z → Covered more v z o
then_covers A B goes more w u x o apart first rest v z (then {u = q} {x = y} a b) = by (first.covers q y a)
  where
    by : Within goes q y (x, u) → Covered more v z o
    by (inl e) = rest.covers v z (subst (λ p. B p u v z) (sym e.0) (subst (λ p. B y p v z) (sym e.1) b))
    by (inr p) = absurd (apart y q v z p.1 b)

then_sound : {X Z : Type 0} (A : List Token → List Token → X → Type 0) (B : X → List Token → List Token → Z → Type 0) (w u : List Token) (x : X) (o : Option (Z × List Token))
    → A w u x → IfSome o (λ a. B x u a.1 a.0) → IfSome o (λ a. Then A B w a.1 a.0)
then_sound A B w u x None a s = tt
then_sound A B w u x (Some b) a s = then a s

-- the first phrase does not go on where the second begins
pub then_is : {X Z : Type 0} {A : List Token → List Token → X → Type 0} {B : X → List Token → List Token → Z → Type 0} {goes more : List Token → Type 0} {w u : List Token} {x : X}
    {o : Option (Z × List Token)} → ((y : X) (q v : List Token) (z : Z) → goes q → B y q v z → ⊥) → Best (A w) goes (Some (x, u)) → Best (B x u) more o
    → Best (Then A B w) more o
then_is {A = A} {B = B} {goes = goes} {more = more} {w = w} {u = u} {x = x} {o = o} apart first rest =
    record { sound = then_sound A B w u x o first.sound rest.sound; covers = then_covers A B goes more w u x o apart first rest }

never_apart : {X Z : Type 0} (B : X → List Token → List Token → Z → Type 0) (y : X) (q v : List Token) (z : Z) → Never q → B y q v z → ⊥
never_apart B y q v z n b = n

-- the first phrase has one end
pub then_once : {X Z : Type 0} {A : List Token → List Token → X → Type 0} {B : X → List Token → List Token → Z → Type 0} {more : List Token → Type 0} {w u : List Token} {x : X}
    {o : Option (Z × List Token)} → Best (A w) Never (Some (x, u)) → Best (B x u) more o → Best (Then A B w) more o
then_once {B = B} first rest = then_is (never_apart B) first rest

-- ---- a phrase behind a word
no_word : {Z : Type 0} (R : List Token → List Token → Z → Type 0) (k : Word) (w : List Token) → Lacks w k → (v : List Token) (z : Z) → Before k R w v z → ⊥
no_word R k w lacks v z (before b d) = lacks _ b

pub before_lacks : {Z : Type 0} {R : List Token → List Token → Z → Type 0} {k : Word} {more : List Token → Type 0} {w : List Token} → Lacks w k → Best (Before k R w) more None
before_lacks {R = R} {k = k} {more = more} {w = w} lacks = best_none (Before k R w) more (no_word R k w lacks)

before_covers : {Z : Type 0} (R : List Token → List Token → Z → Type 0) (k : Word) (more : List Token → Type 0) (w u : List Token) (o : Option (Z × List Token))
    → Begins w k u → Best (R u) more o → (v : List Token) (z : Z) → Before k R w v z → Covered more v z o
before_covers R k more w u o b best v z (before {u = q} c d) = let same : q ≡ u = cc in best.covers v z (subst (λ p. R p v z) same d)

before_sound : {Z : Type 0} (R : List Token → List Token → Z → Type 0) (k : Word) (w u : List Token) (o : Option (Z × List Token)) → Begins w k u
    → IfSome o (λ a. R u a.1 a.0) → IfSome o (λ a. Before k R w a.1 a.0)
before_sound R k w u None b s = tt
before_sound R k w u (Some a) b s = before b s

pub before_is : {Z : Type 0} {R : List Token → List Token → Z → Type 0} {k : Word} {more : List Token → Type 0} {w u : List Token} {o : Option (Z × List Token)}
    → Begins w k u → Best (R u) more o → Best (Before k R w) more o
before_is {R = R} {k = k} {more = more} {w = w} {u = u} {o = o} b best = record { sound = before_sound R k w u o b best.sound; covers = before_covers R k more w u o b best }

-- ---- a word that ends a phrase
no_end : {Z : Type 0} (k : Word) (x : Z) (w : List Token) → Lacks w k → (v : List Token) (z : Z) → Ended k x w v z → ⊥
no_end k x w lacks v z (ended b e) = lacks _ b

pub ended_lacks : {Z : Type 0} {k : Word} {x : Z} {more : List Token → Type 0} {w : List Token} → Lacks w k → Best (Ended k x w) more None
ended_lacks {k = k} {x = x} {more = more} {w = w} lacks = best_none (Ended k x w) more (no_end k x w lacks)

ended_covers : {Z : Type 0} (k : Word) (x : Z) (more : List Token → Type 0) (w u : List Token) → Begins w k u → (v : List Token) (z : Z) → Ended k x w v z → Within more v z (x, u)
ended_covers k x more w u b v z (ended c e) = let same : u ≡ v = cc in inl (e, same)

pub ended_is : {Z : Type 0} {k : Word} {x : Z} {more : List Token → Type 0} {w u : List Token} → Begins w k u → Best (Ended k x w) more (Some (x, u))
ended_is {k = k} {x = x} {more = more} {w = w} {u = u} b = record { sound = ended b refl; covers = ended_covers k x more w u b }

-- ---- no word
given_covers : {Z : Type 0} (x : Z) (more : List Token → Type 0) (w v : List Token) (z : Z) → Given x w v z → Within more v z (x, w)
given_covers x more w v z (given e m) = inl (m, e)

pub given_is : {Z : Type 0} {x : Z} {more : List Token → Type 0} {w : List Token} → Best (Given x w) more (Some (x, w))
given_is {x = x} {more = more} {w = w} = record { sound = given refl refl; covers = given_covers x more w }

-- a phrase with another meaning made of its own
mapped_covers : {X Z : Type 0} (A : List Token → List Token → X → Type 0) (f : X → Z) (goes : List Token → Type 0) (w u : List Token) (x : X) → Best (A w) goes (Some (x, u))
    → (v : List Token) (z : Z) → Then A (λ y. Given (f y)) w v z → Within goes v z (f x, u)
mapped_covers A f goes w u x best v z (then {u = q} {x = y} a (given e m)) = by (best.covers q y a)
  where
    by : Within goes q y (x, u) → Within goes v z (f x, u)
    by (inl s) = inl (ap f s.0 ∙ m, s.1 ∙ e)
    by (inr p) = inr (subst (λ r. length u < length r) e p.0, subst goes e p.1)

pub mapped : {X Z : Type 0} {A : List Token → List Token → X → Type 0} {goes : List Token → Type 0} {w u : List Token} {x : X} (f : X → Z) → Best (A w) goes (Some (x, u))
    → Best (Then A (λ y. Given (f y)) w) goes (Some (f x, u))
mapped {A = A} {goes = goes} {w = w} {u = u} {x = x} f best = record { sound = then best.sound (given refl refl); covers = mapped_covers A f goes w u x best }

-- ---- the same phrases under two names
same_sound : {Z : Type 0} (R S : List Token → Z → Type 0) → ((v : List Token) (z : Z) → R v z → S v z) → (o : Option (Z × List Token)) → IfSome o (λ a. R a.1 a.0) → IfSome o (λ a. S a.1 a.0)
same_sound R S to None s = tt
same_sound R S to (Some a) s = to a.1 a.0 s

pub best_same : {Z : Type 0} {R S : List Token → Z → Type 0} {more : List Token → Type 0} {o : Option (Z × List Token)} → ((v : List Token) (z : Z) → R v z → S v z)
    → ((v : List Token) (z : Z) → S v z → R v z) → Best R more o → Best S more o
best_same {R = R} {S = S} {o = o} to from best = record { sound = same_sound R S to o best.sound; covers = λ v z d. best.covers v z (from v z d) }

-- ---- an answer by a computation
computed_covers : {Z : Type 0} (R : List Token → Z → Type 0) (more : List Token → Type 0) (o : Option (Z × List Token)) → ((v : List Token) (z : Z) → R v z → o ≡ Some (z, v))
    → (v : List Token) (z : Z) → R v z → Covered more v z o
computed_covers R more o complete v z d = subst (Covered more v z) (sym (complete v z d)) (inl (refl, refl))

pub computed : {Z : Type 0} {R : List Token → Z → Type 0} {more : List Token → Type 0} {o : Option (Z × List Token)} → IfSome o (λ a. R a.1 a.0)
    → ((v : List Token) (z : Z) → R v z → o ≡ Some (z, v)) → Best R more o
computed {R = R} {more = more} {o = o} sound complete = record { sound = sound; covers = computed_covers R more o complete }

-- ---- where a phrase goes on, and where what stands behind it begins
pub word_apart : {X Z : Type 0} (R : X → List Token → List Token → Z → Type 0) {goes : List Token → Type 0} {k : Word} → ((q u : List Token) → Begins q k u → goes q → ⊥)
    → (y : X) (q v : List Token) (z : Z) → goes q → Before k (R y) q v z → ⊥
word_apart R apart y q v z g (before {u = u} b d) = apart q u b g

pub end_apart : {X Z : Type 0} (f : X → Z) {goes : List Token → Type 0} {k : Word} → ((q u : List Token) → Begins q k u → goes q → ⊥)
    → (y : X) (q v : List Token) (z : Z) → goes q → Ended k (f y) q v z → ⊥
end_apart f apart y q v z g (ended b e) = apart q _ b g

-- ---- a name
abbrev NameAt : List Token → List Token → List ℕ → Type 0
NameAt w v n = Begins w (word.Name n) v

pub name_none : (w : List Token) → ((n : List ℕ) → Lacks w (word.Name n)) → Best {X = List ℕ} (NameAt w) Never None
name_none w lacks = best_none {X = List ℕ} (NameAt w) Never (λ v n b. lacks n v b)

name_covers : (w u : List Token) (n : List ℕ) → Begins w (word.Name n) u → (v : List Token) (m : List ℕ) → NameAt w v m → Within {X = List ℕ} Never v m (n, u)
name_covers w u n b v m c = let name : n ≡ m = cc in let same : u ≡ v = cc in inl (name, same)

pub name_is : (w u : List Token) (n : List ℕ) → Begins w (word.Name n) u → Best {X = List ℕ} (NameAt w) Never (Some (n, u))
name_is w u n b = record { sound = b; covers = name_covers w u n b }
