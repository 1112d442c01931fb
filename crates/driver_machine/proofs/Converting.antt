-- The arguments of a call from outside, one more converted.
use Rattle.std.proofs.Common.{◌≡◌, ℕ, zero, suc, ◌+◌, ◌<◌, List, [], ◌∷◌, ◌++◌, length, drop, ℤ, Some, None, get_or, slice_get, refl, sym, ap, ◌∙◌, append-nil}
use Rattle.std.proofs.lemmas.List.{at_drop_more}
use Rattle.std.proofs.lemmas.Option.{slice_get_within, get_or_from_slice_get}
use Rattle.checked_tree.specs.declared.shapes.Shape.{Shape}
use Rattle.checked_tree.specs.Numbers.{converted}
use Rattle.checked_tree.specs.Step.{parameter_type, converted_arguments}

no_slots : (vs : List ℤ) → converted_arguments vs [] ≡ []
no_slots [] = refl
no_slots (v ∷ vs) = refl

past_slots : (ss : List Shape) (i : ℕ) → slice_get ss i ≡ None → drop i ss ≡ []
past_slots [] zero h = refl
past_slots [] (suc i) h = refl
past_slots (s ∷ ss) zero h = absurd cc
past_slots (s ∷ ss) (suc i) h = past_slots ss i h

module _ (args : List ℤ) (slots : List Shape) (i : ℕ) (values : List ℤ) where
  -- where no slot is left
  pub converted_end : (whole : List ℤ) → values ++ converted_arguments (drop i args) (drop i slots) ≡ whole → slice_get slots i ≡ None → values ≡ whole
  converted_end whole same none =
      let left : converted_arguments (drop i args) (drop i slots) ≡ [] = ap (converted_arguments (drop i args)) (past_slots slots i none) ∙ no_slots (drop i args) in
      sym (append-nil values) ∙ (ap (λ l. values ++ l) (sym left) ∙ same)

  regroup : (xs ys : List ℤ) (x : ℤ) → (xs ++ x ∷ []) ++ ys ≡ xs ++ x ∷ ys
  regroup [] ys x = refl
  regroup (y ∷ xs) ys x = ap (λ l. y ∷ l) (regroup xs ys x)

  -- one more
  pub converted_next : (whole new : List ℤ) (s : Shape) (v x d : ℤ) → values ++ converted_arguments (drop i args) (drop i slots) ≡ whole
      → i < length args → v ≡ get_or args i d → slice_get slots i ≡ Some s → x ≡ converted (parameter_type s) v → new ≡ values ++ x ∷ []
      → new ++ converted_arguments (drop (i + 1) args) (drop (i + 1) slots) ≡ whole
  converted_next whole new s v x d same lt is at e n =
      let more : List ℤ = converted_arguments (drop (i + 1) args) (drop (i + 1) slots) in
      let first : converted_arguments (drop i args) (drop i slots) ≡ converted_arguments (get_or args i d ∷ drop (i + 1) args) (drop i slots) = at_drop_more (λ l. converted_arguments l (drop i slots)) args i d lt in
      let second : converted_arguments (get_or args i d ∷ drop (i + 1) args) (drop i slots) ≡ converted_arguments (get_or args i d ∷ drop (i + 1) args) (get_or slots i s ∷ drop (i + 1) slots) =
      at_drop_more (λ l. converted_arguments (get_or args i d ∷ drop (i + 1) args) l) slots i s (slice_get_within slots i s at) in
      let head : converted (parameter_type (get_or slots i s)) (get_or args i d) ≡ x =
      ap (λ t. converted (parameter_type t) (get_or args i d)) (get_or_from_slice_get slots i s s at) ∙ (ap (converted (parameter_type s)) (sym is) ∙ sym e) in
      ap (λ l. l ++ more) n ∙ (regroup values more x ∙ (ap (λ z. values ++ z ∷ more) (sym head) ∙ (ap (λ l. values ++ l) (sym (first ∙ second)) ∙ same)))
