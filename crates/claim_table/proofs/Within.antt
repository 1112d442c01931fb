-- What a test of entries is of their rows, where none of the entries is astray.
use Rattle.std.proofs.Common.{◌≡◌, ◌≤◌, Bool, false, not, List, [], ◌∷◌, Option, Some, None, refl, ap, sym, ◌∙◌, subst, arith}
use Rattle.std.specs.List.{list_any, filter, filter_map, count_by}
use Rattle.sd_base.specs.Selection.{without_first, passes}
use Rattle.sd_base.proofs.Counting.{count_by-cons}
use Rattle.sd_base.proofs.Rows.{filter_map-without_first, count_by-filter_map}
use Rattle.claim_table.specs.declared.claim.Claim.{Claim}
use Rattle.claim_table.specs.Ordered.{in_order}
use Rattle.claim_table.proofs.InOrder.{in_order-filter}

pub any_rows : {X Y : Type 0} (row : X → Option Y) (p bad : X → Bool) (r : Y → Bool) → ((x : X) → bad x ≡ false → p x ≡ passes r (row x)) → (xs : List X) → list_any bad xs ≡ false →
    list_any r (filter_map row xs) ≡ list_any p xs
any_rows row p bad r same [] h = refl
any_rows row p bad r same (x ∷ xs) h =
    let here : bad x ≡ false = grind arith in
    let rest : list_any bad xs ≡ false = grind arith in
    elim (row x) as (λ o. row x ≡ o → list_any r (filter_map row (x ∷ xs)) ≡ list_any p (x ∷ xs)) [
      | None ↦ λ is. grind (arith, same x here, any_rows row p bad r same xs rest)
      | Some y ↦ λ is. grind (arith, same x here, any_rows row p bad r same xs rest)
    ] refl

pub count_rows : {X Y : Type 0} (row : X → Option Y) (p bad : X → Bool) (r : Y → Bool) → ((x : X) → bad x ≡ false → p x ≡ passes r (row x)) → (xs : List X) → list_any bad xs ≡ false →
    count_by r (filter_map row xs) ≡ count_by p xs
count_rows row p bad r same [] h = refl
count_rows row p bad r same (x ∷ xs) h =
    let here : bad x ≡ false = grind arith in
    let rest : list_any bad xs ≡ false = grind arith in
    elim (row x) as (λ o. row x ≡ o → count_by r (filter_map row (x ∷ xs)) ≡ count_by p (x ∷ xs)) [
      | None ↦ λ is. grind (arith, same x here, count_by-cons p x xs, count_rows row p bad r same xs rest)
      | Some y ↦ λ is. grind (arith, same x here, count_by-cons p x xs, count_by-cons r y (filter_map row xs), count_rows row p bad r same xs rest)
    ] refl

pub none_rows : {X Y : Type 0} (row : X → Option Y) (bad : X → Bool) → ((x : X) → bad x ≡ false → row x ≡ None) → (xs : List X) → list_any bad xs ≡ false → filter_map row xs ≡ []
none_rows row bad none [] h = refl
none_rows row bad none (x ∷ xs) h =
    let here : bad x ≡ false = grind arith in
    let rest : list_any bad xs ≡ false = grind arith in
    grind (arith, none x here, none_rows row bad none xs rest)

count_none : {X : Type 0} (p : X → Bool) (xs : List X) → count_by p xs ≤ 0 → filter (λ x. not (p x)) xs ≡ xs
count_none p [] h = refl
count_none p (x ∷ xs) h = grind (arith, count_by-cons p x xs, count_none p xs)

-- where at most one passes, the list without the first that passes is the list of those that do not
pub without_first-filter : {X : Type 0} (p : X → Bool) (xs : List X) → count_by p xs ≤ 1 → without_first p xs ≡ filter (λ x. not (p x)) xs
without_first-filter p [] h = refl
without_first-filter p (x ∷ xs) h = grind (arith, count_by-cons p x xs, count_none p xs, without_first-filter p xs)

-- a claim that at most one entry is, taken away from the entries and from the claims in order
pub gone : {X D : Type 0} (row : X → Option (Claim D)) (p : X → Bool) (r : Claim D → Bool) → ((x : X) → p x ≡ passes r (row x)) → (xs : List X) → count_by p xs ≤ 1 → (claims : List (Claim D)) →
    claims ≡ in_order (filter_map row xs) → filter (λ c. not (r c)) claims ≡ in_order (filter_map row (without_first p xs))
gone row p r same xs few claims is =
    let one : count_by r (filter_map row xs) ≤ 1 = subst (λ n. n ≤ 1) (sym (count_by-filter_map row p r same xs)) few in
    ap (filter (λ c. not (r c))) is ∙ sym (in_order-filter (λ c. not (r c)) (filter_map row xs))
    ∙ ap in_order (sym (filter_map-without_first row p r same xs ∙ without_first-filter r (filter_map row xs) one))
