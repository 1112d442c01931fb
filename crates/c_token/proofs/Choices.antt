-- What tests that came out one way tell.
use Rattle.std.proofs.Common.{◌≡◌, Bool, true, false, cond, ◌&&◌, ◌||◌, eqb, [], ◌∷◌, Option, Some, None, ◌⊎◌, inl, inr, refl, eqb-true, ap₂}
use Rattle.c_tree.specs.Bytes.{Text}
use Rattle.c_tree.specs.Names.{same_text}

-- an option is none or some
pub option_cases : {A : Type 0} (o : Option A) → (o ≡ None) ⊎ ((x : A) × (o ≡ Some x))
option_cases None = inl refl
option_cases (Some x) = inr (x, refl)

-- a choice is one of the two
pub chosen : {A : Type 0} (b : Bool) (x y z : A) → cond b x y ≡ z → ((b ≡ true) × (x ≡ z)) ⊎ ((b ≡ false) × (y ≡ z))
chosen true x y z h = inl (refl, h)
chosen false x y z h = inr (refl, h)

-- both sides of `&&` hold where it does
pub both : (a b : Bool) → (a && b) ≡ true → (a ≡ true) × (b ≡ true)
both true b h = (refl, h)
both false b h = cc

-- neither side of `||` holds where it does not
pub neither : (a b : Bool) → (a || b) ≡ false → (a ≡ false) × (b ≡ false)
neither true b h = cc
neither false b h = (refl, h)

-- texts that are the same are equal
pub same_text-true : (t u : Text) → same_text t u ≡ true → t ≡ u
same_text-true [] [] h = refl
same_text-true [] (d ∷ u) h = cc
same_text-true (c ∷ t) [] h = cc
same_text-true (c ∷ t) (d ∷ u) h =
    let p = both (eqb c d) (same_text t u) h in
    ap₂ (λ x y. x ∷ y) (eqb-true c d p.0) (same_text-true t u p.1)

-- both sides hold, so `&&` does
pub and_true : (a b : Bool) → a ≡ true → b ≡ true → (a && b) ≡ true
and_true true b h g = g
and_true false b h g = cc

-- choices whose tests are known
pub not_taken : {A : Type 0} (b : Bool) (x y : A) → b ≡ false → cond b x y ≡ y
not_taken true x y h = cc
not_taken false x y h = refl

pub taken : {A : Type 0} (b : Bool) (x y : A) → b ≡ true → cond b x y ≡ x
taken true x y h = refl
taken false x y h = cc
