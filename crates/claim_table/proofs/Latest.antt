-- Of each number the claim that was made last, read off claims in order: a claim is the last of its number where the next has another.
use Rattle.std.proofs.Common.{◌≡◌, ℕ, suc, ◌+◌, ◌≤◌, Bool, true, false, cond, List, [], ◌∷◌, ◌++◌, length, get_or, take, ◌-◌, drop, add-one, drop-cons, ◌<◌, refl, ap, sym, ◌∙◌, subst, append_assoc, append-nil, arith}
use Rattle.std.proofs.lemmas.Bool.Decides.{nat_tests}
use Rattle.std.proofs.lemmas.List.{length-append, take_rest}
use Rattle.std.specs.List.{list_any, filter}
use Rattle.sd_base.proofs.Removal.{list_any-wider}
use Rattle.claim_table.specs.declared.claim.Claim.{Claim}
use Rattle.claim_table.specs.Ordered.{has_number, begins_with, insert_claim, last_of_each, IsOrdered}
use Rattle.claim_table.proofs.InOrder.{is_below_number}

module _ {D : Type 0} where
  list_any-middle : (p : Claim D → Bool) (kept : List (Claim D)) (x : Claim D) (xs : List (Claim D)) → list_any p (kept ++ x ∷ xs) ≡ false → list_any p (kept ++ xs) ≡ false
  list_any-middle p [] x xs h = grind arith
  list_any-middle p (k ∷ kept) x xs h = grind (arith, list_any-middle p kept x xs)

  -- claims in order without one of them
  ordered-middle : (kept : List (Claim D)) (x : Claim D) (xs : List (Claim D)) → IsOrdered (kept ++ x ∷ xs) → IsOrdered (kept ++ xs)
  ordered-middle [] x xs o = o.1
  ordered-middle (k ∷ kept) x xs o = (list_any-middle (is_below_number k.number) kept x xs o.0, ordered-middle kept x xs o.1)

  ordered-behind : (kept xs : List (Claim D)) → IsOrdered (kept ++ xs) → IsOrdered xs
  ordered-behind [] xs o = o
  ordered-behind (k ∷ kept) xs o = ordered-behind kept xs o.1

  -- where the next claim has another number, no later one has this
  next_tells : (x : Claim D) (xs : List (Claim D)) → IsOrdered (x ∷ xs) → list_any (has_number x.number) xs ≡ begins_with x.number xs
  next_tells x [] o = refl
  next_tells x (y ∷ ys) o =
      let above : list_any (is_below_number x.number) (y ∷ ys) ≡ false = o.0 in
      let behind : list_any (is_below_number y.number) ys ≡ false = o.1.0 in
      elim (has_number x.number y) as (λ b. has_number x.number y ≡ b → list_any (has_number x.number) (y ∷ ys) ≡ b) [
        | true ↦ λ is. grind arith
        | false ↦ λ is.
            let more : x.number + 1 ≤ y.number = grind (arith, nat_tests) in
            let none : list_any (has_number x.number) ys ≡ false =
            list_any-wider (is_below_number y.number) (has_number x.number) (λ z k. grind (arith, nat_tests)) ys behind in
            grind arith
      ] refl

  -- what was kept, in front of the latest of the rest, is the latest of all; all are in order, and there is room for the rest
  pub record TakesLatest (all rest kept : List (Claim D)) : Type 0 where
    pub latest : kept ++ last_of_each rest ≡ last_of_each all
    pub rises : IsOrdered (kept ++ rest)
    pub room : length kept + length rest ≤ 256

  pub takes_none : (all : List (Claim D)) → IsOrdered all → length all ≤ 256 → TakesLatest all all []
  takes_none all o l = record { latest = refl; rises = o; room = omega arith }

  -- a claim that is the last of its number
  pub takes_more : (all kept : List (Claim D)) (x : Claim D) (xs : List (Claim D)) → TakesLatest all (x ∷ xs) kept → begins_with x.number xs ≡ false → TakesLatest all xs (kept ++ x ∷ [])
  takes_more all kept x xs t is =
      let last : list_any (has_number x.number) xs ≡ false = next_tells x xs (ordered-behind kept (x ∷ xs) t.rises) ∙ is in
      let here : last_of_each (x ∷ xs) ≡ x ∷ last_of_each xs = grind arith in
      record {
        latest = append_assoc kept (x ∷ []) (last_of_each xs) ∙ ap (λ ys. kept ++ ys) (sym here) ∙ t.latest;
        rises = subst IsOrdered (sym (append_assoc kept (x ∷ []) xs)) t.rises;
        room = (let old = t.room in omega (arith, length-append kept (x ∷ [])));
      }

  -- a claim that a later one of its number follows
  pub takes_past : (all kept : List (Claim D)) (x : Claim D) (xs : List (Claim D)) → TakesLatest all (x ∷ xs) kept → begins_with x.number xs ≡ true → TakesLatest all xs kept
  takes_past all kept x xs t is =
      let more : list_any (has_number x.number) xs ≡ true = next_tells x xs (ordered-behind kept (x ∷ xs) t.rises) ∙ is in
      let here : last_of_each (x ∷ xs) ≡ last_of_each xs = grind arith in
      record {
        latest = ap (λ ys. kept ++ ys) (sym here) ∙ t.latest;
        rises = ordered-middle kept x xs t.rises;
        room = (let old = t.room in omega arith);
      }

  pub takes_all : (all kept : List (Claim D)) → TakesLatest all [] kept → (kept ≡ last_of_each all) × IsOrdered kept
  takes_all all kept t = (sym (append-nil kept) ∙ t.latest, subst IsOrdered (append-nil kept) t.rises)

  here_and_after : (all : List (Claim D)) (i : ℕ) (x : Claim D) → i < length all → x ≡ get_or all i x → drop i all ≡ x ∷ drop (i + 1) all
  here_and_after all i x l is = rw (add-one, drop-cons all i x) (ap (λ y. y ∷ drop (suc i) all) (sym is))

  -- the claim at a place, by whether the slice behind it begins with its number
  pub takes_next : (all kept new : List (Claim D)) (i : ℕ) (x : Claim D) (same : Bool) → i < length all → x ≡ get_or all i x → TakesLatest all (drop i all) kept →
      same ≡ begins_with x.number (take (length all - (i + 1)) (drop (i + 1) all)) → new ≡ cond same kept (kept ++ x ∷ []) → TakesLatest all (drop (i + 1) all) new
  takes_next all kept new i x true l is t tells now =
      let rest : TakesLatest all (x ∷ drop (i + 1) all) kept = subst (λ ys. TakesLatest all ys kept) (here_and_after all i x l is) t in
      subst (TakesLatest all (drop (i + 1) all)) (sym now) (takes_past all kept x (drop (i + 1) all) rest (ap (begins_with x.number) (sym (take_rest all (i + 1))) ∙ sym tells))
  takes_next all kept new i x false l is t tells now =
      let rest : TakesLatest all (x ∷ drop (i + 1) all) kept = subst (λ ys. TakesLatest all ys kept) (here_and_after all i x l is) t in
      subst (TakesLatest all (drop (i + 1) all)) (sym now) (takes_more all kept x (drop (i + 1) all) rest (ap (begins_with x.number) (sym (take_rest all (i + 1))) ∙ sym tells))

  length-insert_claim : (x : Claim D) (ys : List (Claim D)) → length (insert_claim x ys) ≡ length ys + 1
  length-insert_claim x [] = refl
  length-insert_claim x (y ∷ ys) = grind (arith, length-insert_claim x ys)

  length-filter_le : (q : Claim D → Bool) (ys : List (Claim D)) → length (filter q ys) ≤ length ys
  length-filter_le q [] = omega arith
  length-filter_le q (y ∷ ys) = grind (arith, length-filter_le q ys)

  -- where there is room for one more, and where some are left out, there is room
  pub room-insert_claim : (x : Claim D) (ys new : List (Claim D)) → length ys < 256 → new ≡ insert_claim x ys → length new ≤ 256
  room-insert_claim x ys new room is = omega (arith, ap length is, length-insert_claim x ys)

  pub room-filter : (q : Claim D → Bool) (ys new : List (Claim D)) → length ys ≤ 256 → new ≡ filter q ys → length new ≤ 256
  room-filter q ys new room is = omega (arith, ap length is, length-filter_le q ys)
