-- A tag that changes: its union is clear, or it keeps its value.
use Rattle.std.proofs.Common.{◌≡◌, ℕ, zero, suc, ◌<◌, ◌==◌, cond, IsTrue, Bool, true, false, ◌&&◌, List, []}
use Rattle.std.proofs.Common.{◌∷◌, take, drop, get_or, Option, Some, None, find, slice_get, refl, sym}
use Rattle.std.proofs.Common.{ap, ◌∙◌, subst, arith}
use Rattle.std.specs.List.{list_all}
use Rattle.std.proofs.lemmas.Bool.Decides.{Decides-eqb}
use Rattle.std.proofs.lemmas.List.{get_or-drop}
use Rattle.byte_memory.specs.Bytes.{bytes_at}
use Rattle.checked_tree.specs.declared.shapes.Scalar.{Scalar}
use Rattle.checked_tree.specs.declared.shapes.UnionShape.{UnionShape}
use Rattle.checked_tree.specs.declared.sums.Part.{Part}
use Rattle.checked_tree.specs.declared.units.CheckedFn.{CheckedFn}
use Rattle.checked_tree.specs.Conditions.{State}
use Rattle.deputy_types.specs.Fitting.{AreZero}
use Rattle.deputy_rules.specs.declared.derived.Place.{Place}
use Rattle.deputy_rules.specs.Changes.{tag_change, tagged, unions_of, optional_kept}
use Rattle.deputy_rules.specs.Context.{Context}
use Rattle.driver_safety.proofs.assignments.KeptRules.{KeepsTag, tag_sound}
use Rattle.driver_safety.proofs.checks.Evaluations.{Pass, pass_none}
use Rattle.driver_safety.proofs.checks.Sounding.{Sound, pure_sound, weaker}

some_same : {A : Type 0} (a b : A) → ◌≡◌ {A = Option A} (Some a) (Some b) → a ≡ b
some_same a b h = cc

-- ---- bytes that are all 0
both_first : (a b : Bool) → IsTrue (a && b) → IsTrue a
both_first true b h = refl
both_first false b h = absurd cc

both_second : (a b : Bool) → IsTrue (a && b) → IsTrue b
both_second true b h = h
both_second false b h = absurd cc

zero_each : (n : ℕ) (xs : List ℕ) → IsTrue (list_all (λ b. b == 0) (take n xs)) → (i : ℕ) → i < n → get_or xs i 0 ≡ 0
zero_each zero xs h i l = absurd (omega (arith, l))
zero_each (suc n) [] h i l = refl
zero_each (suc n) (x ∷ xs) h zero l = (Decides-eqb x 0).0 (both_first (x == 0) (list_all (λ b. b == 0) (take n xs)) h)
zero_each (suc n) (x ∷ xs) h (suc i) l = zero_each n xs (both_second (x == 0) (list_all (λ b. b == 0) (take n xs)) h) i (omega (arith, l))

pub clear_zero : (bytes : List ℕ) (a n : ℕ) → IsTrue (list_all (λ b. b == 0) (bytes_at bytes a n)) → AreZero bytes a n
unfolding bytes_at
clear_zero bytes a n h i l = sym (get_or-drop a bytes i 0) ∙ zero_each n (drop a bytes) h i l

-- ---- the union of a tag is found
pub found_first : (p : UnionShape → Bool) (xs : List UnionShape) (a : ℕ) (y : UnionShape) → slice_get xs a ≡ Some y → p y ≡ true
    → (b : ℕ) × (x : UnionShape) × (find p xs ≡ Some x) × (slice_get xs b ≡ Some x) × (p x ≡ true)
found_first p [] a y h g = absurd cc
found_first p (x ∷ xs) zero y h g =
    let holds : p x ≡ true = ap p (some_same x y h) ∙ g in
    (0, x, ap (λ (b : Bool). cond b (Some x) (find p xs)) holds, refl, holds)
found_first p (x ∷ xs) (suc a) y h g = by (found_first p xs a y h g) (p x) refl
  where
    by : (b : ℕ) × (z : UnionShape) × (find p xs ≡ Some z) × (slice_get xs b ≡ Some z) × (p z ≡ true) → (b : Bool) → p x ≡ b
        → (c : ℕ) × (z : UnionShape) × (find p (x ∷ xs) ≡ Some z) × (slice_get (x ∷ xs) c ≡ Some z) × (p z ≡ true)
    by r true e = (0, x, ap (λ (b : Bool). cond b (Some x) (find p xs)) e, refl, e)
    by r false e = (suc r.0, r.1, ap (λ (b : Bool). cond b (Some x) (find p xs)) e ∙ r.2, r.3, r.4)

-- whatever member it is
module _ (f : CheckedFn) (ctx : Context) (st : State) where
  pub any_tag_sound : (p : Place) (s m offset : ℕ) (scalar : Scalar) (new : Part)
      → Sound f st ctx.first (tag_change ctx p s m offset scalar new) (λ ids. (tagged (unions_of ctx.table s) m ≡ None
      → Pass f st ids (Unit {0}))
      × ((u : UnionShape) → tagged (unions_of ctx.table s) m ≡ Some u → KeepsTag f ctx st p offset scalar new u ids))
  unfolding tag_change
  any_tag_sound p s m offset scalar new = by (tagged (unions_of ctx.table s) m) refl
    where
      not_both : (u : UnionShape) → ◌≡◌ {A = Option UnionShape} None (Some u) → ⊥
      not_both u h = absurd cc

      by : (o : Option UnionShape) → tagged (unions_of ctx.table s) m ≡ o
          → Sound f st ctx.first (optional_kept ctx p offset scalar new o) (λ ids. (o ≡ None → Pass f st ids (Unit {0}))
          × ((u : UnionShape) → o ≡ Some u → KeepsTag f ctx st p offset scalar new u ids))
      by None e = pure_sound f st ctx.first [] _ (λ h. pass_none f st (Unit {0}) tt, λ u h. absurd (not_both u h))
      by (Some u) e = weaker f st ctx.first _ _ _ (λ ids q. (
        λ h. absurd (not_both u (sym h)),
        λ x h. subst (λ (x : UnionShape). KeepsTag f
            ctx st p offset scalar new x ids) (some_same u x h) q,
      ))
          (optional u e)
        where
          optional : (u : UnionShape) → tagged (unions_of ctx.table s) m ≡ Some u → Sound f st ctx.first (optional_kept ctx p offset scalar
              new (Some u)) (KeepsTag f ctx st p offset scalar new u)
          optional u e = subst (λ (o : Option UnionShape). Sound f st ctx.first (optional_kept ctx p offset scalar new o)
              (KeepsTag f ctx st p offset scalar new u)) e (tag_sound f ctx st p s m offset scalar new u e)

-- what is found is there
pub find_there : (p : UnionShape → Bool) (xs : List UnionShape) (y : UnionShape) → find p xs ≡ Some y → (b : ℕ) × (slice_get xs b ≡ Some y)
find_there p [] y h = absurd cc
find_there p (x ∷ xs) y h = by (λ e. find_there p xs y e) (p x) refl
  where
    by : (find p xs ≡ Some y → (b : ℕ) × (slice_get xs b ≡ Some y)) → (b : Bool) → p x ≡ b → (c : ℕ) × (slice_get (x ∷ xs) c ≡ Some y)
    by rest true e = (0, sym (ap (λ (b : Bool). cond b (Some x) (find p xs)) e) ∙ h)
    by rest false e = let r = rest (sym (ap (λ (b : Bool). cond b (Some x) (find p xs)) e) ∙ h) in (suc r.0, r.1)
