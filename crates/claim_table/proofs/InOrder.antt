-- Claims put in order: what a test, a count, a filter and a removal see of them.
use Rattle.std.proofs.Common.{◌≡◌, ℕ, zero, suc, ◌++◌, reverse, length, ◌+◌, ◌<◌, ◌≤◌, Bool, true, false, cond, ◌||◌, ltb, leb, get_or, insert, List, [], ◌∷◌, Some, None, refl, ap, sym, ◌∙◌, subst, arith}
use Rattle.std.proofs.lemmas.Bool.Decides.{nat_tests}
use Rattle.std.specs.List.{list_any, filter, find, count_by}
use Rattle.std.specs.List.Sorted.{IsNonDecreasingBy}
use Rattle.sd_base.specs.Selection.{find_last}
use Rattle.sd_base.proofs.Counting.{count_by-cons, reverse-cons}
use Rattle.sd_base.proofs.Removal.{list_any-wider}
use Rattle.claim_table.specs.declared.claim.Claim.{Claim}
use Rattle.claim_table.specs.Ordered.{has_number, insert_claim, in_order, IsOrdered}

module _ {D : Type 0} where
  pub list_any-insert : (p : Claim D → Bool) (x : Claim D) (ys : List (Claim D)) → list_any p (insert_claim x ys) ≡ (p x || list_any p ys)
  list_any-insert p x [] = grind arith
  list_any-insert p x (y ∷ ys) = grind (arith, list_any-insert p x ys)

  pub list_any-in_order : (p : Claim D → Bool) (xs : List (Claim D)) → list_any p (in_order xs) ≡ list_any p xs
  list_any-in_order p [] = refl
  list_any-in_order p (x ∷ xs) = grind (arith, list_any-insert p x (in_order xs), list_any-in_order p xs)

  pub count_by-insert : (p : Claim D → Bool) (x : Claim D) (ys : List (Claim D)) → count_by p (insert_claim x ys) ≡ cond (p x) 1 0 + count_by p ys
  count_by-insert p x [] = count_by-cons p x []
  count_by-insert p x (y ∷ ys) =
      grind (arith, count_by-cons p x (y ∷ ys), count_by-cons p y ys, count_by-cons p y (insert_claim x ys), count_by-insert p x ys)

  pub count_by-in_order : (p : Claim D → Bool) (xs : List (Claim D)) → count_by p (in_order xs) ≡ count_by p xs
  count_by-in_order p [] = refl
  count_by-in_order p (x ∷ xs) = grind (arith, count_by-insert p x (in_order xs), count_by-cons p x xs, count_by-in_order p xs)

  -- what is behind a claim has its number or a greater one
  abbrev pub is_below_number : ℕ → Claim D → Bool
  is_below_number n y = ltb y.number n

  below_less : (m n : ℕ) → m ≤ n → (ys : List (Claim D)) → list_any (is_below_number n) ys ≡ false → list_any (is_below_number m) ys ≡ false
  below_less m n le ys h = list_any-wider (is_below_number n) (is_below_number m) (λ y k. grind (arith, nat_tests)) ys h

  pub IsOrdered-insert : (x : Claim D) (ys : List (Claim D)) → IsOrdered ys → IsOrdered (insert_claim x ys)
  IsOrdered-insert x [] o = (refl, tt)
  IsOrdered-insert x (y ∷ ys) o =
      elim (ltb x.number y.number) as (λ b. ltb x.number y.number ≡ b → IsOrdered (cond b (x ∷ y ∷ ys) (y ∷ insert_claim x ys))) [
        | true ↦ λ is.
            let le : x.number ≤ y.number = grind (arith, nat_tests) in
            let rest : list_any (is_below_number x.number) ys ≡ false = below_less x.number y.number le ys o.0 in
            (grind (arith, nat_tests), (o.0, o.1))
        | false ↦ λ is. (grind (arith, nat_tests, list_any-insert (is_below_number y.number) x ys), IsOrdered-insert x ys o.1)
      ] refl

  pub IsOrdered-in_order : (xs : List (Claim D)) → IsOrdered (in_order xs)
  IsOrdered-in_order [] = tt
  IsOrdered-in_order (x ∷ xs) = IsOrdered-insert x (in_order xs) (IsOrdered-in_order xs)

  list_any-filter_false : (q p : Claim D → Bool) (xs : List (Claim D)) → list_any p xs ≡ false → list_any p (filter q xs) ≡ false
  list_any-filter_false q p [] h = refl
  list_any-filter_false q p (x ∷ xs) h = grind (arith, list_any-filter_false q p xs)

  pub IsOrdered-filter : (q : Claim D → Bool) (ys : List (Claim D)) → IsOrdered ys → IsOrdered (filter q ys)
  IsOrdered-filter q [] o = tt
  IsOrdered-filter q (y ∷ ys) o =
      elim (q y) as (λ b. IsOrdered (cond b (y ∷ filter q ys) (filter q ys))) [
        | true ↦ (list_any-filter_false q (is_below_number y.number) ys o.0, IsOrdered-filter q ys o.1)
        | false ↦ IsOrdered-filter q ys o.1
      ]

  -- a claim goes before all claims where each has a greater number
  insert-front : (x : Claim D) (ys : List (Claim D)) → list_any (is_below_number (x.number + 1)) ys ≡ false → insert_claim x ys ≡ x ∷ ys
  insert-front x [] h = refl
  insert-front x (y ∷ ys) h = grind (arith, nat_tests)

  -- behind a claim with a greater number all numbers are greater
  greater : (x y : Claim D) (ys : List (Claim D)) → ltb x.number y.number ≡ true → list_any (is_below_number y.number) ys ≡ false → list_any (is_below_number (x.number + 1)) (y ∷ ys) ≡ false
  greater x y ys is o =
      let le : x.number + 1 ≤ y.number = grind (arith, nat_tests) in
      grind (arith, nat_tests, below_less (x.number + 1) y.number le ys o)

  keeps_first : (q : Claim D → Bool) (x : Claim D) (xs : List (Claim D)) → q x ≡ true → filter q (x ∷ xs) ≡ x ∷ filter q xs
  keeps_first q x xs h = grind arith

  filter-insert : (q : Claim D → Bool) (x : Claim D) (ys : List (Claim D)) → q x ≡ true → IsOrdered ys → filter q (insert_claim x ys) ≡ insert_claim x (filter q ys)
  filter-insert q x [] here o = grind arith
  filter-insert q x (y ∷ ys) here o =
      elim (ltb x.number y.number) as (λ b. ltb x.number y.number ≡ b → filter q (insert_claim x (y ∷ ys)) ≡ insert_claim x (filter q (y ∷ ys))) [
        | true ↦ λ is.
            let kept : list_any (is_below_number (x.number + 1)) (filter q (y ∷ ys)) ≡ false =
            list_any-filter_false q (is_below_number (x.number + 1)) (y ∷ ys) (greater x y ys is o.0) in
            let behind : insert_claim x (filter q (y ∷ ys)) ≡ x ∷ filter q (y ∷ ys) = insert-front x (filter q (y ∷ ys)) kept in
            let front : insert_claim x (y ∷ ys) ≡ x ∷ y ∷ ys = grind arith in
            let inside : filter q (x ∷ y ∷ ys) ≡ x ∷ filter q (y ∷ ys) = keeps_first q x (y ∷ ys) here in
            ap (filter q) front ∙ inside ∙ sym behind
        | false ↦ λ is. grind (arith, filter-insert q x ys here o.1)
      ] refl

  filter-insert_other : (q : Claim D → Bool) (x : Claim D) (ys : List (Claim D)) → q x ≡ false → filter q (insert_claim x ys) ≡ filter q ys
  filter-insert_other q x [] h = grind arith
  filter-insert_other q x (y ∷ ys) h = grind (arith, filter-insert_other q x ys h)

  -- claims left out before or after all are put in order
  pub in_order-filter : (q : Claim D → Bool) (xs : List (Claim D)) → in_order (filter q xs) ≡ filter q (in_order xs)
  in_order-filter q [] = refl
  in_order-filter q (x ∷ xs) =
      elim (q x) as (λ b. q x ≡ b → in_order (cond b (x ∷ filter q xs) (filter q xs)) ≡ filter q (insert_claim x (in_order xs))) [
        | true ↦ λ is. ap (insert_claim x) (in_order-filter q xs) ∙ sym (filter-insert q x (in_order xs) is (IsOrdered-in_order xs))
        | false ↦ λ is. in_order-filter q xs ∙ sym (filter-insert_other q x (in_order xs) is)
      ] refl

  none_left : (n : ℕ) (ys : List (Claim D)) → list_any (is_below_number (n + 1)) ys ≡ false → filter (has_number n) ys ≡ []
  none_left n [] h = refl
  none_left n (y ∷ ys) h = grind (arith, nat_tests, none_left n ys)

  numbered-insert : (n : ℕ) (x : Claim D) (ys : List (Claim D)) → x.number ≡ n → IsOrdered ys → filter (has_number n) (insert_claim x ys) ≡ filter (has_number n) ys ++ x ∷ []
  numbered-insert n x [] is o = grind (arith, nat_tests)
  numbered-insert n x (y ∷ ys) is o =
      elim (ltb x.number y.number) as (λ b. ltb x.number y.number ≡ b → filter (has_number n) (insert_claim x (y ∷ ys)) ≡ filter (has_number n) (y ∷ ys) ++ x ∷ []) [
        | true ↦ λ less.
            let all : list_any (is_below_number (n + 1)) (y ∷ ys) ≡ false = subst (λ m. list_any (is_below_number (m + 1)) (y ∷ ys) ≡ false) is (greater x y ys less o.0) in
            let none : filter (has_number n) (y ∷ ys) ≡ [] = none_left n (y ∷ ys) all in
            let front : insert_claim x (y ∷ ys) ≡ x ∷ y ∷ ys = grind arith in
            let here : has_number n x ≡ true = grind (arith, nat_tests) in
            ap (filter (has_number n)) front ∙ keeps_first (has_number n) x (y ∷ ys) here ∙ ap (λ zs. x ∷ zs) none ∙ sym (ap (λ zs. zs ++ x ∷ []) none)
        | false ↦ λ less. grind (arith, numbered-insert n x ys is o.1)
      ] refl

  -- those of one number stand in the order of their making
  pub numbered-in_order : (n : ℕ) (xs : List (Claim D)) → filter (has_number n) (in_order xs) ≡ reverse (filter (has_number n) xs)
  numbered-in_order n [] = refl
  numbered-in_order n (x ∷ xs) =
      elim (has_number n x) as (λ b. has_number n x ≡ b → filter (has_number n) (insert_claim x (in_order xs)) ≡ reverse (cond b (x ∷ filter (has_number n) xs) (filter (has_number n) xs))) [
        | true ↦ λ is.
            let at : x.number ≡ n = grind (arith, nat_tests) in
            numbered-insert n x (in_order xs) at (IsOrdered-in_order xs) ∙ ap (λ zs. zs ++ x ∷ []) (numbered-in_order n xs) ∙ sym (reverse-cons x (filter (has_number n) xs))
        | false ↦ λ is. filter-insert_other (has_number n) x (in_order xs) is ∙ numbered-in_order n xs
      ] refl

  find_last-none : (p : Claim D → Bool) (xs : List (Claim D)) → list_any p xs ≡ false → find_last p xs ≡ None
  find_last-none p [] h = refl
  find_last-none p (x ∷ xs) h = grind arith

  found_first : (p : Claim D → Bool) (x : Claim D) (xs : List (Claim D)) → (p x ≡ true → list_any p xs ≡ false) → find_last p (x ∷ xs) ≡ cond (p x) (Some x) (find_last p xs)
  found_first p x xs none =
      elim (p x) as (λ b. p x ≡ b → cond (list_any p xs) (find_last p xs) (cond b (Some x) None) ≡ cond b (Some x) (find_last p xs)) [
        | true ↦ λ is. grind (arith, none is)
        | false ↦ λ is. elim (list_any p xs) as (λ a. list_any p xs ≡ a → cond a (find_last p xs) None ≡ find_last p xs) [ true ↦ λ a. refl | false ↦ λ a. sym (find_last-none p xs a) ] refl
      ] refl

  find_last-insert : (n : ℕ) (x : Claim D) (ys : List (Claim D)) → IsOrdered ys → find_last (has_number n) (insert_claim x ys) ≡ cond (has_number n x) (Some x) (find_last (has_number n) ys)
  find_last-insert n x [] o = grind arith
  find_last-insert n x (y ∷ ys) o =
      elim (ltb x.number y.number) as (λ b. ltb x.number y.number ≡ b → find_last (has_number n) (insert_claim x (y ∷ ys)) ≡ cond (has_number n x) (Some x) (find_last (has_number n) (y ∷ ys))) [
        | true ↦ λ less.
            let all : list_any (is_below_number (x.number + 1)) (y ∷ ys) ≡ false = greater x y ys less o.0 in
            let none : has_number n x ≡ true → list_any (has_number n) (y ∷ ys) ≡ false =
            λ here. list_any-wider (is_below_number (x.number + 1)) (has_number n) (λ z k. grind (arith, nat_tests)) (y ∷ ys) all in
            let front : insert_claim x (y ∷ ys) ≡ x ∷ y ∷ ys = grind arith in
            ap (find_last (has_number n)) front ∙ found_first (has_number n) x (y ∷ ys) none
        | false ↦ λ less. grind (arith, list_any-insert (has_number n) x ys, find_last-insert n x ys o.1)
      ] refl

  -- the newest claim of a number is the last of it where the claims are in order
  pub find_last-in_order : (n : ℕ) (xs : List (Claim D)) → find_last (has_number n) (in_order xs) ≡ find (has_number n) xs
  find_last-in_order n [] = refl
  find_last-in_order n (x ∷ xs) = grind (arith, find_last-insert n x (in_order xs) (IsOrdered-in_order xs), find_last-in_order n xs)

  list_any_at_none : (p : Claim D → Bool) (xs : List (Claim D)) (i : ℕ) (d : Claim D) → i < length xs → list_any p xs ≡ false → p (get_or xs i d) ≡ false
  list_any_at_none p [] i d l h = absurd (omega arith)
  list_any_at_none p (x ∷ xs) zero d l h = grind arith
  list_any_at_none p (x ∷ xs) (suc i) d l h =
      let rest : list_any p xs ≡ false = grind arith in
      list_any_at_none p xs i d (omega arith) rest

  -- claims in order have numbers that do not fall
  pub IsOrdered-rises : (xs : List (Claim D)) → IsOrdered xs → IsNonDecreasingBy (λ c. c.number) xs
  IsOrdered-rises [] o i j d le l = absurd (omega arith)
  IsOrdered-rises (x ∷ xs) o zero zero d le l = omega arith
  IsOrdered-rises (x ∷ xs) o zero (suc j) d le l =
      let here : j < length xs = omega arith in
      let at : is_below_number x.number (get_or xs j d) ≡ false = list_any_at_none (is_below_number x.number) xs j d here o.0 in
      grind (arith, nat_tests)
  IsOrdered-rises (x ∷ xs) o (suc i) zero d le l = absurd (omega arith)
  IsOrdered-rises (x ∷ xs) o (suc i) (suc j) d le l = IsOrdered-rises xs o.1 i j d (omega arith) (omega arith)

  -- a claim put where all before have its number or a smaller one, and all behind a greater one
  pub insert_at_point : (x : Claim D) (ys : List (Claim D)) (i : ℕ) → i ≤ length ys →
      ((k : ℕ) (d : Claim D) → 0 ≤ k → k < i → leb (get_or ys k d).number x.number ≡ true) →
      ((k : ℕ) (d : Claim D) → i ≤ k → k < length ys → leb (get_or ys k d).number x.number ≡ false) →
      insert ys i x ≡ insert_claim x ys
  insert_at_point x [] i le before behind = grind arith
  insert_at_point x (y ∷ ys) zero le before behind =
      let first : leb y.number x.number ≡ false = behind 0 y (omega arith) (omega arith) in
      grind (arith, nat_tests)
  insert_at_point x (y ∷ ys) (suc i) le before behind =
      let first : leb y.number x.number ≡ true = before 0 y (omega arith) (omega arith) in
      grind (arith, nat_tests, insert_at_point x ys i (omega arith) (λ k d a b. before (suc k) d (omega arith) (omega arith)) (λ k d a b. behind (suc k) d (omega arith) (omega arith)))
