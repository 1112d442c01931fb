-- Worked examples: sums with their merged and normed forms, computed.
use Rattle.std.proofs.Common.{◌≡◌, [], ◌∷◌, pos, negsuc, refl}
use Rattle.dep_expr.specs.Linear.{substituted, value_of, numbers_at}
use Rattle.dep_expr.specs.Merged.{merged, merged_terms}
use Rattle.dep_expr.specs.Normed.{gcd, normed}

-- 3x - 2y + 4x + 7, with x the atom 1 and y the atom 0, merges to -2y + 7x + 7
pub merged_example : merged (record { terms = (pos 3, 1) ∷ (negsuc 1, 0) ∷ (pos 4, 1) ∷ []; constant = pos 7 })
    ≡ record { terms = (negsuc 1, 0) ∷ (pos 7, 1) ∷ []; constant = pos 7 }
unfolding merged_terms
merged_example = refl

-- 5x - 5x - 1 has no terms
pub cancelled_example : merged (record { terms = (pos 5, 2) ∷ (negsuc 4, 2) ∷ []; constant = negsuc 0 }) ≡ record { terms = []; constant = negsuc 0 }
unfolding merged_terms
cancelled_example = refl

-- 6x - 4y + 5 <= 0 becomes 3x - 2y + 3 <= 0
pub normed_example : normed (record { terms = (pos 6, 0) ∷ (negsuc 3, 1) ∷ []; constant = pos 5 })
    ≡ record { terms = (pos 3, 0) ∷ (negsuc 1, 1) ∷ []; constant = pos 3 }
unfolding merged_terms gcd
normed_example = refl

-- 4x - 7 <= 0 becomes x - 1 <= 0
pub normed_negative_example : normed (record { terms = (pos 4, 0) ∷ []; constant = negsuc 6 }) ≡ record { terms = (pos 1, 0) ∷ []; constant = negsuc 0 }
unfolding merged_terms gcd
normed_negative_example = refl

-- a number alone stays as it is
pub normed_number_example : normed (record { terms = []; constant = pos 6 }) ≡ record { terms = []; constant = pos 6 }
unfolding merged_terms gcd
normed_number_example = refl

-- x + 2y with 3z - 1 for y is x + 6z - 2
pub substituted_example : substituted (record { terms = (pos 1, 0) ∷ (pos 2, 1) ∷ []; constant = pos 0 }) 1 (record { terms = (pos 3, 2) ∷ []; constant = negsuc 0 })
    ≡ record { terms = (pos 1, 0) ∷ (pos 6, 2) ∷ []; constant = negsuc 1 }
substituted_example = refl

-- 2x - 3y + 1 at x = 5 and y = 4 is -1
pub value_example : value_of (record { terms = (pos 2, 0) ∷ (negsuc 2, 1) ∷ []; constant = pos 1 }) (numbers_at (pos 5 ∷ pos 4 ∷ [])) ≡ negsuc 0
unfolding value_of
value_example = refl
