-- Outcomes one after another: what is safe stays safe, and what agrees goes on agreeing.
use Rattle.std.proofs.Common.{◌≡◌, Ok, Err, refl, sym, subst}
use Rattle.checked_tree.specs.declared.stops.Stop.TheVariants.{Failed, Wild}
use Rattle.checked_tree.specs.Outcome.{Outcome, ◌>>=◌, Safe}

pub safe_bind : {A B : Type 0} (r : Outcome A) (g : A → Outcome B) (mid : A → Type 0) (after : B → Type 0)
    → Safe r mid → ((a : A) → mid a → Safe (g a) after) → Safe (r >>= g) after
safe_bind (Ok a) g mid after h k = k a h
safe_bind (Err (Failed line kind)) g mid after h k = tt
safe_bind (Err Wild) g mid after h k = h

-- where the first gives a value, the second gives it too
pub record Agree {A : Type 0} (r t : Outcome A) : Type 0 where
  pub agrees : (a : A) → r ≡ Ok a → t ≡ Ok a

pub agree_same : {A : Type 0} (r : Outcome A) → Agree r r
agree_same r = record { agrees = λ a h. h }

pub agree_bind : {A B : Type 0} (r t : Outcome A) (g k : A → Outcome B) → Agree r t → ((a : A) → Agree (g a) (k a)) → Agree (r >>= g) (t >>= k)
agree_bind {A} {B} (Ok a) t g k h m = record { agrees = λ b e. by t (h.agrees a refl) b e }
  where
    by : (t : Outcome A) → t ≡ Ok a → (b : B) → g a ≡ Ok b → (t >>= k) ≡ Ok b
    by t p b e = subst (λ (u : Outcome A). (u >>= k) ≡ Ok b) (sym p) ((m a).agrees b e)
agree_bind (Err stop) t g k h m = record { agrees = λ b e. cc }
