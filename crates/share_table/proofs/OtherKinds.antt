-- Tests that pass entries of one kind alone: entries of other kinds, as they come and go, change nothing of what the tests see.
use Rattle.std.proofs.Common.{◌≡◌, ℕ, ◌+◌, ◌≤◌, Bool, true, false, cond, List, [], ◌∷◌, Option, Some, None, refl, ap, sym, ◌∙◌, arith}
use Rattle.std.specs.Prelude.{count_by}
use Rattle.std.specs.List.{list_any, find, filter_map}
use Rattle.sd_base.specs.Selection.{without_first}
use Rattle.sd_base.specs.History.{Entry, Resource, OfNothing, Key, same_resource, key_of, live_key, is_of, after_entry}
use Rattle.sd_base.proofs.Counting.{count_by-cons}
use Rattle.sd_base.proofs.Live.{rows-after_entry_other, rows-without_other}

-- the entry, if it is of this kind
abbrev of_kind : Resource → Entry → Option Entry
of_kind resource e = cond (same_resource (live_key e.update).resource resource) (Some e) None

-- a test that passes entries of this kind alone
abbrev pub Within : Resource → (Entry → Bool) → Type 0
Within resource p = (e : Entry) → p e ≡ true → same_resource (live_key e.update).resource resource ≡ true

none : (resource : Resource) (e : Entry) → same_resource (live_key e.update).resource resource ≡ false → of_kind resource e ≡ None
none resource e h = ap (λ b. cond b (Some e) None) h

list_any-kind : (resource : Resource) (p : Entry → Bool) → Within resource p → (live : List Entry) → list_any p (filter_map (of_kind resource) live) ≡ list_any p live
list_any-kind resource p within [] = refl
list_any-kind resource p within (e ∷ live) =
    elim (same_resource (live_key e.update).resource resource) as (λ b. same_resource (live_key e.update).resource resource ≡ b → list_any p (filter_map (of_kind resource) (e ∷ live)) ≡ list_any p (e ∷ live)) [
      | true ↦ λ is. grind (arith, list_any-kind resource p within live)
      | false ↦ λ is. grind (arith, within e, list_any-kind resource p within live)
    ] refl

find-kind : (resource : Resource) (p : Entry → Bool) → Within resource p → (live : List Entry) → find p (filter_map (of_kind resource) live) ≡ find p live
find-kind resource p within [] = refl
find-kind resource p within (e ∷ live) =
    elim (same_resource (live_key e.update).resource resource) as (λ b. same_resource (live_key e.update).resource resource ≡ b → find p (filter_map (of_kind resource) (e ∷ live)) ≡ find p (e ∷ live)) [
      | true ↦ λ is. grind (arith, find-kind resource p within live)
      | false ↦ λ is. grind (arith, within e, find-kind resource p within live)
    ] refl

count_by-kind : (resource : Resource) (p : Entry → Bool) → Within resource p → (live : List Entry) → count_by p (filter_map (of_kind resource) live) ≡ count_by p live
count_by-kind resource p within [] = refl
count_by-kind resource p within (e ∷ live) =
    elim (same_resource (live_key e.update).resource resource) as (λ b. same_resource (live_key e.update).resource resource ≡ b → count_by p (filter_map (of_kind resource) (e ∷ live)) ≡ count_by p (e ∷ live)) [
      | true ↦ λ is. grind (arith, count_by-cons p e live, count_by-cons p e (filter_map (of_kind resource) live), count_by-kind resource p within live)
      | false ↦ λ is. grind (arith, within e, count_by-cons p e live, count_by-kind resource p within live)
    ] refl

-- what another kind's update leaves of a kind
kept_after : (resource : Resource) → same_resource OfNothing resource ≡ false → (e : Entry) (live : List Entry) → same_resource (key_of e.update).resource resource ≡ false →
    filter_map (of_kind resource) (after_entry e live) ≡ filter_map (of_kind resource) live
kept_after resource some e live apart = rows-after_entry_other (of_kind resource) resource some (none resource) e live apart

kept_without : (resource : Resource) (owner : ℕ) (key : Key) (live : List Entry) → same_resource key.resource resource ≡ false →
    filter_map (of_kind resource) (without_first (is_of owner key) live) ≡ filter_map (of_kind resource) live
kept_without resource owner key live apart = rows-without_other (of_kind resource) resource (none resource) owner key live apart

pub list_any-after : (resource : Resource) (p : Entry → Bool) → same_resource OfNothing resource ≡ false → Within resource p → (e : Entry) (live : List Entry) →
    same_resource (key_of e.update).resource resource ≡ false → list_any p (after_entry e live) ≡ list_any p live
list_any-after resource p some within e live apart =
    sym (list_any-kind resource p within (after_entry e live)) ∙ ap (list_any p) (kept_after resource some e live apart) ∙ list_any-kind resource p within live

pub find-after : (resource : Resource) (p : Entry → Bool) → same_resource OfNothing resource ≡ false → Within resource p → (e : Entry) (live : List Entry) →
    same_resource (key_of e.update).resource resource ≡ false → find p (after_entry e live) ≡ find p live
find-after resource p some within e live apart =
    sym (find-kind resource p within (after_entry e live)) ∙ ap (find p) (kept_after resource some e live apart) ∙ find-kind resource p within live

pub count_by-after : (resource : Resource) (p : Entry → Bool) → same_resource OfNothing resource ≡ false → Within resource p → (e : Entry) (live : List Entry) →
    same_resource (key_of e.update).resource resource ≡ false → count_by p (after_entry e live) ≡ count_by p live
count_by-after resource p some within e live apart =
    sym (count_by-kind resource p within (after_entry e live)) ∙ ap (count_by p) (kept_after resource some e live apart) ∙ count_by-kind resource p within live

pub list_any-without : (resource : Resource) (p : Entry → Bool) → Within resource p → (owner : ℕ) (key : Key) (live : List Entry) →
    same_resource key.resource resource ≡ false → list_any p (without_first (is_of owner key) live) ≡ list_any p live
list_any-without resource p within owner key live apart =
    sym (list_any-kind resource p within (without_first (is_of owner key) live)) ∙ ap (list_any p) (kept_without resource owner key live apart) ∙ list_any-kind resource p within live

pub find-without : (resource : Resource) (p : Entry → Bool) → Within resource p → (owner : ℕ) (key : Key) (live : List Entry) →
    same_resource key.resource resource ≡ false → find p (without_first (is_of owner key) live) ≡ find p live
find-without resource p within owner key live apart =
    sym (find-kind resource p within (without_first (is_of owner key) live)) ∙ ap (find p) (kept_without resource owner key live apart) ∙ find-kind resource p within live

pub count_by-without : (resource : Resource) (p : Entry → Bool) → Within resource p → (owner : ℕ) (key : Key) (live : List Entry) →
    same_resource key.resource resource ≡ false → count_by p (without_first (is_of owner key) live) ≡ count_by p live
count_by-without resource p within owner key live apart =
    sym (count_by-kind resource p within (without_first (is_of owner key) live)) ∙ ap (count_by p) (kept_without resource owner key live apart) ∙ count_by-kind resource p within live

-- Within one kind: a test that passes nothing of what goes.

pub list_any-apart : {X : Type 0} (p q : X → Bool) → ((x : X) → p x ≡ true → q x ≡ false) → (xs : List X) → list_any q (without_first p xs) ≡ list_any q xs
list_any-apart p q apart [] = refl
list_any-apart p q apart (x ∷ xs) = grind (arith, apart x, list_any-apart p q apart xs)

pub find-apart : {X : Type 0} (p q : X → Bool) → ((x : X) → p x ≡ true → q x ≡ false) → (xs : List X) → find q (without_first p xs) ≡ find q xs
find-apart p q apart [] = refl
find-apart p q apart (x ∷ xs) = grind (arith, apart x, find-apart p q apart xs)

pub count_by-apart : {X : Type 0} (p q : X → Bool) → ((x : X) → p x ≡ true → q x ≡ false) → (xs : List X) → count_by q (without_first p xs) ≡ count_by q xs
count_by-apart p q apart [] = refl
count_by-apart p q apart (x ∷ xs) =
    grind (arith, apart x, count_by-cons q x xs, count_by-cons q x (without_first p xs), count_by-apart p q apart xs)

-- one fewer where one goes
pub count_by-fewer : {X : Type 0} (p : X → Bool) (xs : List X) → list_any p xs ≡ true → count_by p (without_first p xs) + 1 ≡ count_by p xs
count_by-fewer p [] h = cc
count_by-fewer p (x ∷ xs) h = grind (arith, count_by-cons p x xs, count_by-cons p x (without_first p xs), count_by-fewer p xs)

-- where none is counted by the wider test, none passes the narrower one
pub list_any-none : {X : Type 0} (p q : X → Bool) → ((x : X) → q x ≡ true → p x ≡ true) → (xs : List X) → count_by p xs ≡ 0 → list_any q xs ≡ false
list_any-none p q within [] h = refl
list_any-none p q within (x ∷ xs) h = grind (arith, within x, count_by-cons p x xs, list_any-none p q within xs)

pub find-none : {X : Type 0} (p : X → Bool) (xs : List X) → count_by p xs ≡ 0 → find p xs ≡ None
find-none p [] h = refl
find-none p (x ∷ xs) h = grind (arith, count_by-cons p x xs, find-none p xs)

pub list_any-found_none : {X : Type 0} (p q : X → Bool) → ((x : X) → q x ≡ true → p x ≡ true) → (xs : List X) → find p xs ≡ None → list_any q xs ≡ false
list_any-found_none p q within [] h = refl
list_any-found_none p q within (x ∷ xs) h = grind (arith, within x, list_any-found_none p q within xs)

-- where at most one passes the wider test, the first that does is the only one that may pass the narrower one
pub list_any-first : {X : Type 0} (p q : X → Bool) → ((x : X) → q x ≡ true → p x ≡ true) → (xs : List X) (x : X) → count_by p xs ≤ 1 → find p xs ≡ Some x → list_any q xs ≡ q x
list_any-first p q within [] x few h = cc
list_any-first p q within (y ∷ xs) x few h =
    elim (p y) as (λ b. p y ≡ b → list_any q (y ∷ xs) ≡ q x) [
      | true ↦ λ is. (
          let same : y ≡ x = grind arith in
          let more = count_by-cons p y xs in
          let none : count_by p xs ≡ 0 = grind arith in
          let rest = list_any-none p q within xs none in
          grind (arith, ap q same))
      | false ↦ λ is. (
          let more = count_by-cons p y xs in
          let few_left : count_by p xs ≤ 1 = grind arith in
          grind (arith, within y, list_any-first p q within xs x few_left))
    ] refl
