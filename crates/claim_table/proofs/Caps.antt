-- The caps of a table bound how many claims it has, and each call keeps them.
use Rattle.std.proofs.Common.{◌≡◌, ℕ, length, ◌+◌, ◌-◌, ◌*◌, ◌<◌, ◌≤◌, Bool, true, false, not, eqb, ltb, List, [], ◌∷◌, refl, subst, arith}
use Rattle.std.proofs.lemmas.Bool.Decides.{nat_tests}
use Rattle.std.specs.List.{list_any, filter, count_by}
use Rattle.sd_base.proofs.Counting.{count_by-cons, count_by-filter_le, count_below-all, count_below-le}
use Rattle.sd_base.proofs.Removal.{list_any-wider, list_any-filter_none}
use Rattle.claim_table.specs.declared.claim.Claim.{Claim}
use Rattle.claim_table.specs.Ordered.{is_owned, is_claim, is_not_claim, insert_claim, FewOfEach}
use Rattle.claim_table.specs.ClaimCalls.{is_taken}
use Rattle.claim_table.proofs.InOrder.{list_any-insert, count_by-insert}

-- a line that is not taken has room for one more holder
pub free_line : (share owner line : ℕ) (lines : List (Claim ℕ)) → is_taken share owner line lines ≡ false → count_by (λ c. eqb c.number line) lines < share
free_line share owner line lines h = grind (arith, nat_tests)

module _ {D : Type 0} where
  -- at most b of each of n numbers, so at most n * b claims
  pub few_length : (f : Claim D → ℕ) (n b : ℕ) (claims : List (Claim D)) → FewOfEach f n b claims → length claims ≤ n * b
  few_length f n b claims few =
      let all : list_any (λ c. ltb n (f c + 1)) claims ≡ false =
      list_any-wider (λ c. not (ltb (f c) n)) (λ c. ltb n (f c + 1)) (λ c h. grind (arith, nat_tests)) claims few.all_below in
      omega (arith, count_below-all f n claims all, count_below-le f b n claims (λ k h. few.each k))

  pub few_filter : (f : Claim D → ℕ) (n b : ℕ) (q : Claim D → Bool) (claims : List (Claim D)) → FewOfEach f n b claims → FewOfEach f n b (filter q claims)
  few_filter f n b q claims few = record {
    all_below = list_any-filter_none q (λ c. not (ltb (f c) n)) claims few.all_below;
    each = λ k. (let le : count_by (λ c. eqb (f c) k) claims ≤ b = few.each k in omega (arith, count_by-filter_le q (λ c. eqb (f c) k) claims));
  }

  one_more : (f : Claim D → ℕ) (b : ℕ) (x : Claim D) (claims : List (Claim D)) (k : ℕ) → count_by (λ c. eqb (f c) (f x)) claims < b → count_by (λ c. eqb (f c) k) claims ≤ b →
      count_by (λ c. eqb (f c) k) (insert_claim x claims) ≤ b
  one_more f b x claims k room le =
      elim (eqb (f x) k) as (λ t. eqb (f x) k ≡ t → count_by (λ c. eqb (f c) k) (insert_claim x claims) ≤ b) [
        | true ↦ λ is.
            let same : f x ≡ k = grind (arith, nat_tests) in
            let here : count_by (λ c. eqb (f c) k) claims < b = subst (λ m. count_by (λ c. eqb (f c) m) claims < b) same room in
            grind (arith, count_by-insert (λ c. eqb (f c) k) x claims)
        | false ↦ λ is. grind (arith, count_by-insert (λ c. eqb (f c) k) x claims)
      ] refl

  pub few_insert : (f : Claim D → ℕ) (n b : ℕ) (x : Claim D) (claims : List (Claim D)) → f x < n → count_by (λ c. eqb (f c) (f x)) claims < b → FewOfEach f n b claims →
      FewOfEach f n b (insert_claim x claims)
  few_insert f n b x claims below room few = record {
    all_below = grind (arith, nat_tests, list_any-insert (λ c. not (ltb (f c) n)) x claims, few.all_below);
    each = λ k. one_more f b x claims k room (few.each k);
  }

  length-insert : (x : Claim D) (claims : List (Claim D)) → length (insert_claim x claims) ≡ length claims + 1
  length-insert x [] = refl
  length-insert x (y ∷ ys) = grind (arith, length-insert x ys)

  -- there is room for a claim of a number that has not as many as it may
  pub few_room : (f : Claim D → ℕ) (n b : ℕ) (x : Claim D) (claims : List (Claim D)) → f x < n → count_by (λ c. eqb (f c) (f x)) claims < b → FewOfEach f n b claims → length claims < n * b
  few_room f n b x claims below room few = omega (arith, length-insert x claims, few_length f n b (insert_claim x claims) (few_insert f n b x claims below room few))

  own_room_more : (owner number b : ℕ) (c : Claim D) (claims : List (Claim D)) → is_claim owner number c ≡ false → is_owned owner c ≡ true →
      count_by (is_owned owner) (filter (is_not_claim owner number) claims) < b - 1 → count_by (is_owned owner) claims + 1 ≤ b →
      count_by (is_owned owner) (filter (is_not_claim owner number) (c ∷ claims)) < b
  own_room_more owner number b c claims is own h le = grind (arith, count_by-cons (is_owned owner) c (filter (is_not_claim owner number) claims))

  own_room_same : (owner number b : ℕ) (c : Claim D) (claims : List (Claim D)) → is_claim owner number c ≡ false → is_owned owner c ≡ false →
      count_by (is_owned owner) (filter (is_not_claim owner number) claims) < b → count_by (is_owned owner) (filter (is_not_claim owner number) (c ∷ claims)) < b
  own_room_same owner number b c claims is own h = grind (arith, count_by-cons (is_owned owner) c (filter (is_not_claim owner number) claims))

  -- without the owner's own claim of a number there is room for it
  pub own_room : (owner number b : ℕ) (claims : List (Claim D)) → list_any (is_claim owner number) claims ≡ true → count_by (is_owned owner) claims ≤ b →
      count_by (is_owned owner) (filter (is_not_claim owner number) claims) < b
  own_room owner number b [] h le = cc
  own_room owner number b (c ∷ claims) h le =
      elim (is_claim owner number c) as (λ t. is_claim owner number c ≡ t → count_by (is_owned owner) (filter (is_not_claim owner number) (c ∷ claims)) < b) [
        | true ↦ λ is. grind (arith, count_by-cons (is_owned owner) c claims, count_by-filter_le (is_not_claim owner number) (is_owned owner) claims)
        | false ↦ λ is.
            let rest : list_any (is_claim owner number) claims ≡ true = grind arith in
            elim (is_owned owner c) as (λ t. is_owned owner c ≡ t → count_by (is_owned owner) (filter (is_not_claim owner number) (c ∷ claims)) < b) [
              | true ↦ λ own.
                  let fewer : count_by (is_owned owner) claims + 1 ≤ b = grind (arith, count_by-cons (is_owned owner) c claims) in
                  own_room_more owner number b c claims is own (own_room owner number (b - 1) claims rest (omega arith)) fewer
              | false ↦ λ own.
                  let same : count_by (is_owned owner) claims ≤ b = grind (arith, count_by-cons (is_owned owner) c claims) in
                  own_room_same owner number b c claims is own (own_room owner number b claims rest same)
            ] refl
      ] refl
