-- Derivations with lines: each statement and declaration in turn, up to the first that no rule derives. What is passed on is the function's
-- checks so far, with the atoms of their conditions.
use Rattle.std.specs.Prelude.{ℕ, List, [], ◌∷◌, ◌++◌, Result, Ok, Err}
use Rattle.c_tree.specs.declared.limits.LimitKind.{LimitKind}

-- why a text is not derived: no rule derives what stands at a line, or a limit is passed there
pub data Fault : Type 0 where
  NoRule : ℕ → Fault
  Limit : ℕ → LimitKind → Fault

-- a value behind a state of this type, and the state that is left; or a fault
abbrev pub Checking : Type 0 → Type 0 → Type 0
Checking S A = S → Result (A × S) Fault

-- with the value, if there is one
abbrev pub with_outcome : {S A B : Type 0} → Result (A × S) Fault → (A → Checking S B) → Result (B × S) Fault
with_outcome (Ok r) f = f r.0 r.1
with_outcome (Err e) f = Err e

-- first the one, then with its value the other
unfoldable pub afterwards : {S A B : Type 0} → Checking S A → (A → Checking S B) → Checking S B
afterwards p f = λ s. with_outcome (p s) f

infixl 10 ◌>>>◌
abbrev pub ◌>>>◌ : {S A B : Type 0} → Checking S A → (A → Checking S B) → Checking S B
p >>> f = afterwards p f

-- a value, and nothing else
abbrev pub done : {S A : Type 0} → A → Checking S A
done a = λ s. Ok (a, s)

-- each in turn, behind the values that are there
abbrev pub in_turn : {S A : Type 0} → List (Checking S A) → List A → Checking S (List A)
in_turn [] values = done values
in_turn (p ∷ ps) values = p >>> λ a. in_turn ps (values ++ a ∷ [])
