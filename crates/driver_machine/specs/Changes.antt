-- What a call that may stop leaves of what it changes: the new value where there is one; else the stop, with the value as it was.
use Rattle.std.specs.Prelude.{◌≡◌, ℤ, List, Result, Ok, Err}
use Rattle.checked_tree.specs.declared.stops.Stop.{Stop}
use Rattle.checked_tree.specs.Outcome.{Outcome}

-- a changed value
abbrev pub Leaves : {A : Type 0} → Outcome A → A → Result (Unit {0}) Stop → A → Type 0
Leaves outcome old (Ok x) new = outcome ≡ Ok new
Leaves outcome old (Err e) new = (outcome ≡ Err e) × (new ≡ old)

-- numbers that are collected; where the call stops, some of them
abbrev pub Collects : Outcome (List ℤ) → Result (Unit {0}) Stop → List ℤ → Type 0
Collects outcome (Ok x) items = outcome ≡ Ok items
Collects outcome (Err e) items = outcome ≡ Err e
