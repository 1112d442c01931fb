-- The first four of some numbers by their places.
use Rattle.std.proofs.Common.{◌≡◌, ℤ, pos, List, [], ◌∷◌, slice_index_or, refl, sym, ap, ◌∙◌}
use Rattle.checked_tree.specs.Act.{four}

four_is : (xs : List ℤ) → four xs ≡ slice_index_or xs 0 (pos 0) ∷ slice_index_or xs 1 (pos 0) ∷ slice_index_or xs 2 (pos 0) ∷ slice_index_or xs 3 (pos 0) ∷ []
four_is [] = refl
four_is (a ∷ []) = refl
four_is (a ∷ b ∷ []) = refl
four_is (a ∷ b ∷ c ∷ []) = refl
four_is (a ∷ b ∷ c ∷ d ∷ xs) = refl

-- four numbers that were read by their places
pub four_read : (xs : List ℤ) (a b c d : ℤ) → a ≡ slice_index_or xs 0 (pos 0) → b ≡ slice_index_or xs 1 (pos 0) → c ≡ slice_index_or xs 2 (pos 0) → d ≡ slice_index_or xs 3 (pos 0)
    → a ∷ b ∷ c ∷ d ∷ [] ≡ four xs
four_read xs a b c d p q r s =
    ap (λ (z : ℤ). z ∷ b ∷ c ∷ d ∷ []) p ∙ (ap (λ (z : ℤ). slice_index_or xs 0 (pos 0) ∷ z ∷ c ∷ d ∷ []) q
    ∙ (ap (λ (z : ℤ). slice_index_or xs 0 (pos 0) ∷ slice_index_or xs 1 (pos 0) ∷ z ∷ d ∷ []) r
    ∙ (ap (λ (z : ℤ). slice_index_or xs 0 (pos 0) ∷ slice_index_or xs 1 (pos 0) ∷ slice_index_or xs 2 (pos 0) ∷ z ∷ []) s ∙ sym (four_is xs))))
