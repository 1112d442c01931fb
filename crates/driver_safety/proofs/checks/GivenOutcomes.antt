-- An outcome that is given: what its parts gave, and what is known of it.
use Rattle.std.proofs.Common.{◌≡◌, Ok, Err, refl, subst}
use Rattle.checked_tree.specs.Outcome.{Outcome, ◌>>=◌, Safe}

-- where the whole gave something, so did the first part
pub then_ok : {A B : Type 0} (r : Outcome A) (g : A → Outcome B) (b : B) → (r >>= g) ≡ Ok b → (a : A) × (r ≡ Ok a) × (g a ≡ Ok b)
then_ok (Ok a) g b h = (a, refl, h)
then_ok (Err stop) g b h = absurd cc

pub ok_same : {A : Type 0} (a b : A) → ◌≡◌ {A = Outcome A} (Ok a) (Ok b) → a ≡ b
ok_same a b h = cc

-- what a safe outcome gives
pub given : {A : Type 0} (r : Outcome A) (R : A → Type 0) (a : A) → Safe r R → r ≡ Ok a → R a
given {A} r R a safe e = subst (λ (x : Outcome A). Safe x R) e safe
