-- Claims in the order of their numbers, those of one number in the order of their making.
use Rattle.std.specs.Prelude.{◌≡◌, ℕ, ◌≤◌, Bool, false, cond, not, ◌&&◌, eqb, ltb, List, [], ◌∷◌}
use Rattle.std.specs.List.{list_any, count_by}
use Rattle.claim_table.specs.declared.claim.Claim.{Claim}

module _ {D : Type 0} where
  abbrev pub has_number : ℕ → Claim D → Bool
  has_number number c = eqb c.number number

  abbrev pub is_owned : ℕ → Claim D → Bool
  is_owned owner c = eqb c.owner owner

  -- the claim of this owner on this number
  abbrev pub is_claim : ℕ → ℕ → Claim D → Bool
  is_claim owner number c = eqb c.owner owner && eqb c.number number

  abbrev pub is_not_claim : ℕ → ℕ → Claim D → Bool
  is_not_claim owner number c = not (eqb c.owner owner && eqb c.number number)

  -- a new claim goes behind all that have its number or a smaller one
  abbrev pub insert_claim : Claim D → List (Claim D) → List (Claim D)
  insert_claim x [] = x ∷ []
  insert_claim x (y ∷ ys) = cond (ltb x.number y.number) (x ∷ y ∷ ys) (y ∷ insert_claim x ys)

  -- claims of which the newest stands first, put in order
  abbrev pub in_order : List (Claim D) → List (Claim D)
  in_order [] = []
  in_order (x ∷ xs) = insert_claim x (in_order xs)

  -- of each number the claim that was made last
  abbrev pub last_of_each : List (Claim D) → List (Claim D)
  last_of_each [] = []
  last_of_each (x ∷ xs) = cond (list_any (has_number x.number) xs) (last_of_each xs) (x ∷ last_of_each xs)

  -- the first claim has this number
  abbrev pub begins_with : ℕ → List (Claim D) → Bool
  begins_with number [] = false
  begins_with number (c ∷ cs) = has_number number c

  -- no later claim has a smaller number
  abbrev pub IsOrdered : List (Claim D) → Type 0
  IsOrdered [] = Unit {0}
  IsOrdered (x ∷ xs) = (list_any (λ y. ltb y.number x.number) xs ≡ false) × IsOrdered xs

  -- each claim gives one of the numbers below n, and at most b of them give the same
  pub record FewOfEach (f : Claim D → ℕ) (n b : ℕ) (claims : List (Claim D)) : Type 0 where
    pub all_below : list_any (λ c. not (ltb (f c) n)) claims ≡ false
    pub each : (k : ℕ) → count_by (λ c. eqb (f c) k) claims ≤ b
