-- What is live after an entry, as the rows of a table see it, and as a filter by owners sees it.
use Rattle.std.proofs.Common.{◌≡◌, ℕ, Bool, true, false, cond, not, eqb, List, [], ◌∷◌, Option, None, refl, ap, sym, ◌∙◌, arith}
use Rattle.std.proofs.lemmas.Bool.Decides.{nat_tests}
use Rattle.std.specs.List.{filter, filter_map}
use Rattle.sd_base.specs.Selection.{without_first}
use Rattle.sd_base.specs.History.{Entry, History, Resource, OfNothing, Key, Role, Begins, Replaces, Ends, EndsOldest, Passes, same_resource, key_of, role_of, key_by_role, live_key, is_of, after_role, after_entry, live_of, Without}
use Rattle.sd_base.proofs.Removal.{filter-without_first, filter-without_first_other, filter-without_last, filter-without_last_other}
use Rattle.sd_base.proofs.Rows.{filter_map-without_first_other, filter_map-without_last_other}

pub is_of-owner : (o : ℕ) (k : Key) (e : Entry) → is_of o k e ≡ true → e.owner ≡ o
is_of-owner o k e h = grind (arith, nat_tests)

pub is_of-resource : (o : ℕ) (k : Key) (e : Entry) → is_of o k e ≡ true → same_resource (live_key e.update).resource k.resource ≡ true
is_of-resource o k e h = grind arith

-- a kind that is not a third is not the third where it is the second
pub apart-same : (a b c : Resource) → same_resource a b ≡ true → same_resource b c ≡ false → same_resource a c ≡ false
apart-same a b c h k = grind (arith, nat_tests)

-- an entry of another kind is live, if at all, as one of another kind
pub live_key-apart : (r : Role) (k : Key) (resource : Resource) → same_resource OfNothing resource ≡ false → same_resource k.resource resource ≡ false →
    same_resource (key_by_role r k).resource resource ≡ false
live_key-apart Begins k resource some h = h
live_key-apart Replaces k resource some h = h
live_key-apart Ends k resource some h = some
live_key-apart EndsOldest k resource some h = some
live_key-apart Passes k resource some h = some

rows-after_role_other : {Y : Type 0} (row : Entry → Option Y) (resource : Resource) →
    ((x : Entry) → same_resource (live_key x.update).resource resource ≡ false → row x ≡ None) →
    (r : Role) (e : Entry) (live : List Entry) → row e ≡ None → same_resource (key_of e.update).resource resource ≡ false →
    filter_map row (after_role r e live) ≡ filter_map row live
rows-after_role_other row resource none r e live here apart =
    let gone : (x : Entry) → is_of e.owner (key_of e.update) x ≡ true → row x ≡ None =
    λ x k. none x (apart-same (live_key x.update).resource (key_of e.update).resource resource (is_of-resource e.owner (key_of e.update) x k) apart) in
    elim r as (λ r. filter_map row (after_role r e live) ≡ filter_map row live) [
      | Begins ↦ grind arith
      | Replaces ↦ grind (arith, filter_map-without_first_other row (is_of e.owner (key_of e.update)) gone live)
      | Ends ↦ filter_map-without_first_other row _ gone live
      | EndsOldest ↦ filter_map-without_last_other row _ gone live
      | Passes ↦ refl
    ]

-- an entry of another kind leaves the rows of a kind as they are
pub rows-after_entry_other : {Y : Type 0} (row : Entry → Option Y) (resource : Resource) → same_resource OfNothing resource ≡ false →
    ((x : Entry) → same_resource (live_key x.update).resource resource ≡ false → row x ≡ None) →
    (e : Entry) (live : List Entry) → same_resource (key_of e.update).resource resource ≡ false →
    filter_map row (after_entry e live) ≡ filter_map row live
rows-after_entry_other row resource some none e live apart =
    rows-after_role_other row resource none (role_of e.update) e live (none e (live_key-apart (role_of e.update) (key_of e.update) resource some apart)) apart

-- to take away an entry of another kind leaves the rows of a kind as they are
pub rows-without_other : {Y : Type 0} (row : Entry → Option Y) (resource : Resource) →
    ((x : Entry) → same_resource (live_key x.update).resource resource ≡ false → row x ≡ None) →
    (owner : ℕ) (key : Key) (live : List Entry) → same_resource key.resource resource ≡ false →
    filter_map row (without_first (is_of owner key) live) ≡ filter_map row live
rows-without_other row resource none owner key live apart =
    filter_map-without_first_other row (is_of owner key)
    (λ x k. none x (apart-same (live_key x.update).resource key.resource resource (is_of-resource owner key x k) apart)) live

pub filter-after_role : (q : ℕ → Bool) (r : Role) (e : Entry) (live : List Entry) → q e.owner ≡ true →
    filter (λ x. q x.owner) (after_role r e live) ≡ after_role r e (filter (λ x. q x.owner) live)
filter-after_role q Begins e live h = grind arith
filter-after_role q Replaces e live h =
    let t : (x : Entry) → is_of e.owner (key_of e.update) x ≡ true → q x.owner ≡ true = λ x k. ap q (is_of-owner _ _ x k) ∙ h in
    grind (arith, filter-without_first (λ x. q x.owner) (is_of e.owner (key_of e.update)) t live)
filter-after_role q Ends e live h = filter-without_first (λ x. q x.owner) _ (λ x k. ap q (is_of-owner _ _ x k) ∙ h) live
filter-after_role q EndsOldest e live h = filter-without_last (λ x. q x.owner) _ (λ x k. ap q (is_of-owner _ _ x k) ∙ h) live
filter-after_role q Passes e live h = refl

pub filter-after_role_other : (q : ℕ → Bool) (r : Role) (e : Entry) (live : List Entry) → q e.owner ≡ false →
    filter (λ x. q x.owner) (after_role r e live) ≡ filter (λ x. q x.owner) live
filter-after_role_other q Begins e live h = grind arith
filter-after_role_other q Replaces e live h =
    let t : (x : Entry) → is_of e.owner (key_of e.update) x ≡ true → q x.owner ≡ false = λ x k. ap q (is_of-owner _ _ x k) ∙ h in
    grind (arith, filter-without_first_other (λ x. q x.owner) (is_of e.owner (key_of e.update)) t live)
filter-after_role_other q Ends e live h = filter-without_first_other (λ x. q x.owner) _ (λ x k. ap q (is_of-owner _ _ x k) ∙ h) live
filter-after_role_other q EndsOldest e live h = filter-without_last_other (λ x. q x.owner) _ (λ x k. ap q (is_of-owner _ _ x k) ∙ h) live
filter-after_role_other q Passes e live h = refl

-- what is live of some owners' entries alone is what of all live entries is theirs
pub live_of-filter : (q : ℕ → Bool) (h : History) → live_of (filter (λ e. q e.owner) h) ≡ filter (λ e. q e.owner) (live_of h)
live_of-filter q [] = refl
live_of-filter q (e ∷ h) =
    elim (q e.owner) as (λ b. q e.owner ≡ b → live_of (cond b (e ∷ filter (λ x. q x.owner) h) (filter (λ x. q x.owner) h)) ≡ filter (λ x. q x.owner) (live_of (e ∷ h))) [
      | true ↦ λ is. ap (after_role (role_of e.update) e) (live_of-filter q h) ∙ sym (filter-after_role q (role_of e.update) e (live_of h) is)
      | false ↦ λ is. live_of-filter q h ∙ sym (filter-after_role_other q (role_of e.update) e (live_of h) is)
    ] refl

-- what is live without an owner's entries is what of all live entries is the others'
pub live_of-Without : (h : History) (o : ℕ) → live_of (Without h o) ≡ Without (live_of h) o
live_of-Without h o = live_of-filter (λ n. not (eqb n o)) h
