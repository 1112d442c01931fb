-- How a driver stands, by its number: the kernel, which is 0, is none.
-- Here: of_owner-zero, of_owner-some, of_owner-past, with_owner-zero, with_owner-within
use Rattle.std.proofs.Common.{◌≡◌, ℕ, zero, suc, ◌-◌, ◌≤◌, List, [], ◌∷◌, set, get_or, slice_get, Some, None, refl, sym, subst, arith}
use Rattle.world_core.specs.WorldState.{of_owner, with_owner}

get-some : {A : Type 0} (xs : List A) (k : ℕ) (none x : A) → slice_get xs k ≡ Some x → get_or xs k none ≡ x
get-some [] k none x e = absurd cc
get-some (y ∷ xs) zero none x e = cc
get-some (y ∷ xs) (suc k) none x e = get-some xs k none x e

get-none : {A : Type 0} (xs : List A) (k : ℕ) (none : A) → slice_get xs k ≡ None → get_or xs k none ≡ none
get-none [] k none e = refl
get-none (y ∷ xs) zero none e = absurd cc
get-none (y ∷ xs) (suc k) none e = get-none xs k none e

pub of_owner-zero : {A : Type 0} (none : A) (xs : List A) (owner : ℕ) → owner ≡ 0 → of_owner none xs owner ≡ none
of_owner-zero none xs owner e = subst (λ o. of_owner none xs o ≡ none) (sym e) refl

at-place : (owner : ℕ) → 1 ≤ owner → suc (owner - 1) ≡ owner
at-place owner from = omega arith

pub of_owner-some : {A : Type 0} (none x : A) (xs : List A) (owner : ℕ) → 1 ≤ owner → slice_get xs (owner - 1) ≡ Some x → of_owner none xs owner ≡ x
of_owner-some none x xs owner from e = subst (λ o. of_owner none xs o ≡ x) (at-place owner from) (get-some xs (owner - 1) none x e)

pub of_owner-past : {A : Type 0} (none : A) (xs : List A) (owner : ℕ) → 1 ≤ owner → slice_get xs (owner - 1) ≡ None → of_owner none xs owner ≡ none
of_owner-past none xs owner from e = subst (λ o. of_owner none xs o ≡ none) (at-place owner from) (get-none xs (owner - 1) none e)

pub with_owner-zero : {A : Type 0} (x : A) (xs : List A) (owner : ℕ) → owner ≡ 0 → xs ≡ with_owner xs owner x
with_owner-zero x xs owner e = subst (λ o. xs ≡ with_owner xs o x) (sym e) refl

pub with_owner-within : {A : Type 0} (x : A) (xs : List A) (owner : ℕ) → 1 ≤ owner → set xs (owner - 1) x ≡ with_owner xs owner x
with_owner-within x xs owner from = subst (λ o. set xs (owner - 1) x ≡ with_owner xs o x) (at-place owner from) refl
