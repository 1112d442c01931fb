-- Deriving: a rule asks for checks one after another and gives something, or there is no rule. The state is the list of the checks asked
-- for so far in the statement.
use Rattle.std.specs.Prelude.{◌≡◌, ◌≢◌, ℕ, ◌+◌, List, [], ◌∷◌, ◌++◌, length, Option, Some, None, Result, Ok, Err}
use Rattle.sd_base.specs.declared.kinds.CheckKind.{CheckKind}
use Rattle.deputy_rules.specs.declared.asked.Asked.{Asked}
use Rattle.deputy_rules.specs.declared.asked.AskedCond.{AskedCond}
use Rattle.deputy_rules.specs.declared.derived.DerivingRefusal.{DerivingRefusal}
use Rattle.deputy_rules.specs.declared.derived.DerivingRefusal.TheVariants.{Memory}
use Rattle.deputy_rules.specs.Context.{Context}
use Rattle.deputy_types.specs.Options.{and_then}

-- from the checks asked for so far: what is derived, and the checks asked for then; or none
abbrev pub Deriving : Type 0 → Type 0
Deriving A = List Asked → Option (A × List Asked)

-- one after another
unfoldable pub bind : {A B : Type 0} → Deriving A → (A → Deriving B) → Deriving B
bind p f = λ s. and_then (p s) (λ r. f r.0 r.1)

infixl 10 ◌>>=◌
abbrev pub ◌>>=◌ : {A B : Type 0} → Deriving A → (A → Deriving B) → Deriving B
p >>= f = bind p f

-- what asks for nothing
abbrev pub pure : {A : Type 0} → A → Deriving A
pure a = λ s. Some (a, s)

-- no rule
abbrev pub none : {A : Type 0} → Deriving A
none = λ s. None

-- what asks for nothing, if it is there
abbrev pub lift : {A : Type 0} → Option A → Deriving A
lift o = λ s. and_then o (λ a. Some (a, s))

-- the next check, of this kind and condition; gives its number, counted on from the checks that the function has before the statement
abbrev pub ask : Context → CheckKind → AskedCond → Deriving ℕ
ask ctx kind cond = λ s. Some (ctx.first + (length s + 1), s ++ (record { line = ctx.line; kind = kind; cond = cond }) ∷ [])

-- what a function that derives ensures: the outcome, unless memory is wanting
abbrev pub Derives : {A : Type 0} → Option (A × List Asked) → Result A DerivingRefusal → List Asked → Type 0
Derives outcome (Ok a) new = outcome ≡ Some (a, new)
Derives outcome (Err e) new = e ≢ Memory → outcome ≡ None

-- the same of a function that asks for nothing
abbrev pub Yields : {A : Type 0} → Option A → Result A DerivingRefusal → Type 0
Yields outcome (Ok a) = outcome ≡ Some a
Yields outcome (Err e) = e ≢ Memory → outcome ≡ None
