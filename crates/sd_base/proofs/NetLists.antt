-- What a net list is after one more entry, and where an owner is left out.
use Rattle.std.proofs.Common.{◌≡◌, ◌≢◌, ℕ, Bool, true, not, eqb, List, [], ◌∷◌, map, refl, ap, ◌∙◌, arith}
use Rattle.std.proofs.lemmas.Bool.Decides.{nat_tests}
use Rattle.std.specs.List.{filter}
use Rattle.sd_base.specs.declared.history.Update.{Update}
use Rattle.sd_base.specs.History.{Entry, History, is_owner, role_of, entry, after_entry, live_of, net_of, Without}
use Rattle.sd_base.proofs.Live.{live_of-Without, filter-after_role, filter-after_role_other}

-- a filter, and then one that keeps no more
filter-filter : {X : Type 0} (q p : X → Bool) → ((x : X) → p x ≡ true → q x ≡ true) → (xs : List X) → filter p (filter q xs) ≡ filter p xs
filter-filter q p within [] = refl
filter-filter q p within (x ∷ xs) = grind (arith, within x, filter-filter q p within xs)

-- a filter, and then one that keeps what it dropped
filter-filter_none : {X : Type 0} (p : X → Bool) (xs : List X) → filter p (filter (λ x. not (p x)) xs) ≡ []
filter-filter_none p [] = refl
filter-filter_none p (x ∷ xs) = grind (arith, filter-filter_none p xs)

apart_kept : (owner other : ℕ) (e : Entry) → other ≢ owner → is_owner other e ≡ true → not (is_owner owner e) ≡ true
apart_kept owner other e apart h = grind (arith, nat_tests)

-- to leave one owner out takes nothing from another's net list
pub net_of-Without : (h : History) (owner other : ℕ) → other ≢ owner → net_of (Without h owner) other ≡ net_of h other
net_of-Without h owner other apart =
    ap (λ live. map (λ (e : Entry). e.update) (filter (is_owner other) live)) (live_of-Without h owner)
    ∙ ap (map (λ (e : Entry). e.update)) (filter-filter (λ e. not (is_owner owner e)) (is_owner other) (λ e k. apart_kept owner other e apart k) (live_of h))

-- an owner that is left out has an empty net list
pub net_of-Without_same : (h : History) (owner : ℕ) → net_of (Without h owner) owner ≡ []
net_of-Without_same h owner =
    ap (λ live. map (λ (e : Entry). e.update) (filter (is_owner owner) live)) (live_of-Without h owner)
    ∙ ap (map (λ (e : Entry). e.update)) (filter-filter_none (is_owner owner) (live_of h))

-- the owner's own live entries after one more of its own: what its role does to them alone
pub own-after_entry : (e : Entry) (live : List Entry) → filter (is_owner e.owner) (after_entry e live) ≡ after_entry e (filter (is_owner e.owner) live)
own-after_entry e live = filter-after_role (λ n. eqb n e.owner) (role_of e.update) e live (grind (arith, nat_tests))

-- another owner's entry changes no net list but its own
pub net_of-other : (h : History) (owner other : ℕ) (u : Update) → other ≢ owner → net_of (entry other u ∷ h) owner ≡ net_of h owner
net_of-other h owner other u apart =
    ap (map (λ (e : Entry). e.update)) (filter-after_role_other (λ n. eqb n owner) (role_of u) (entry other u) (live_of h) (grind (arith, nat_tests)))
