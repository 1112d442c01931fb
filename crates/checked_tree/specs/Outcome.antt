-- What an evaluation gives: a value, or the reason why there is none.
use Rattle.std.specs.Prelude.{Result, Ok, Err, ℤ}
use Rattle.checked_tree.specs.declared.stops.Stop.{Stop}
use Rattle.checked_tree.specs.declared.stops.Stop.TheVariants.{Failed, Wild}

-- an outcome of this type, or a stop
abbrev pub Outcome : Type 0 → Type 0
Outcome A = Result A Stop

-- a number, or a stop
abbrev pub Got : Type 0
Got = Outcome ℤ

-- first the one, then with its value the other; a stop ends both
infixl 10 ◌>>=◌
abbrev pub ◌>>=◌ : {A B : Type 0} → Outcome A → (A → Outcome B) → Outcome B
Ok a >>= f = f a
Err e >>= f = Err e

-- an outcome that is not wild, and whose value, if there is one, has a property
abbrev pub Safe : {A : Type 0} → Outcome A → (A → Type 0) → Type 0
Safe (Ok a) after = after a
Safe (Err (Failed line kind)) after = Unit {0}
Safe (Err Wild) after = ⊥
