-- Texts that are accepted one after another, and the first that is refused.
use Rattle.std.proofs.Common.{◌≡◌, ℕ, suc, ◌+◌, ◌-◌, List, [], ◌∷◌, length, map, refl, ap, subst}
use Rattle.safe_code.specs.Drivers.{Driver}
use Rattle.sd_engine.specs.declared.front.FrontRefusal.{FrontRefusal}
use Rattle.sd_engine.specs.declared.front.FrontRefusal.TheVariants as front
use Rattle.sd_engine.specs.declared.front.RefusedText.{RefusedText}
use Rattle.sd_engine.specs.Running.{AreDrivers, IsRefusal}
use Rattle.sd_engine.specs.Serve.{AreAccepted, AreAcceptedAs, FirstRefused}
use Rattle.world.specs.Standing.{units_of}

-- the texts of drivers are accepted, as their units
pub accepted-as : (k : ℕ) (texts : List (List ℕ)) (drivers : List Driver) → AreDrivers k texts drivers
    → AreAcceptedAs texts (units_of drivers)
accepted-as k [] [] h = tt
accepted-as k [] (d ∷ drivers) h = absurd h
accepted-as k (t ∷ texts) [] h = absurd h
accepted-as k (t ∷ texts) (d ∷ drivers) h = (h.0.0, accepted-as (k + 1) texts drivers h.1)

pub accepted-all : (k : ℕ) (texts : List (List ℕ)) (drivers : List Driver) → AreDrivers k texts drivers → AreAccepted texts
accepted-all k [] [] h = tt
accepted-all k [] (d ∷ drivers) h = absurd h
accepted-all k (t ∷ texts) [] h = absurd h
accepted-all k (t ∷ texts) (d ∷ drivers) h = ((d.unit, h.0.0), accepted-all (k + 1) texts drivers h.1)

-- a refusal that names a text
pub refusal-told : (k : ℕ) (texts : List (List ℕ)) (r : FrontRefusal) (text : RefusedText) → r ≡ front.Text text → IsRefusal k texts r
    → FirstRefused k texts text.driver text.line text.cause
refusal-told k texts r text is h =
    let there : IsRefusal k texts (front.Text text) = subst (λ (x : FrontRefusal). IsRefusal k texts x) is h in
    there

-- there are as many drivers as texts
pub as-many : {X : Type 0} (f : X → List ℕ) (k : ℕ) (xs : List X) (drivers : List Driver) → AreDrivers k (map f xs) drivers
    → length drivers ≡ length xs
as-many f k [] [] h = refl
as-many f k [] (d ∷ drivers) h = absurd h
as-many f k (x ∷ xs) [] h = absurd h
as-many f k (x ∷ xs) (d ∷ drivers) h = ap (λ n. suc n) (as-many f (k + 1) xs drivers h.1)
