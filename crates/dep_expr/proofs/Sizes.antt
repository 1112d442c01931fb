-- Bounds on products and sums of whole numbers.
use Rattle.std.proofs.Common.{◌≡◌, ℕ, ◌^◌, ◌<◌, ◌≤◌, List, length, map, ℤ, pos, negsuc, ◌+ℤ◌, ◌<ℤ◌, ◌-◌, [], ◌∷◌, ◌++◌, ◌*ℤ◌, neg_ℤ, ◌≤ℤ◌, unsigned_abs, All, slice_index_or, arith, sym, ap, subst, ◌∙◌, to_z, of_z}
use Rattle.std.specs.Int.{w128}
use Rattle.std.proofs.lemmas.Int.{ints, unsigned_abs-mul}
use Rattle.std.proofs.lemmas.Nat.{mul-le}
use Rattle.std.proofs.lemmas.List.{get_or-map, length-map}
use Rattle.std.proofs.lemmas.List.Elements.{All-tail}
use Rattle.dep_expr.specs.Linear.{LinearForm, IsSmall, IsSmallTerm, scaled_term, plus, part_of}
use Rattle.dep_expr.proofs.Values.{part_of-same}

-- a number between a bound and its negative
pub abs_low : (z : ℤ) (n : ℕ) → unsigned_abs z ≤ n → neg_ℤ (pos n) ≤ℤ z
abs_low (pos m) n h = omega (arith, ints)
abs_low (negsuc m) n h = omega (arith, ints)

pub abs_high : (z : ℤ) (n : ℕ) → unsigned_abs z ≤ n → z ≤ℤ pos n
abs_high (pos m) n h = omega (arith, ints)
abs_high (negsuc m) n h = omega (arith, ints)

-- a number below a bound and above its negative
pub abs_below : (d : ℤ) (n : ℕ) → neg_ℤ (pos n) <ℤ d → d <ℤ pos n → unsigned_abs d < n
abs_below (pos m) n h k = omega (arith, ints, h, k)
abs_below (negsuc m) n h k = omega (arith, ints, h, k)

-- the size of a coefficient times a number
pub product_abs : (a b : ℤ) → unsigned_abs a < 2 ^ 62 → unsigned_abs b < 2 ^ 33 → unsigned_abs (a *ℤ b) ≤ 2 ^ 95
product_abs a b h k = omega (arith, unsigned_abs-mul a b, mul-le (unsigned_abs a) (unsigned_abs b) (2 ^ 62) (2 ^ 33) (omega arith) (omega arith))

-- what holds of each of the images holds of the image of each
pub All-at_map : {X : Type 0} (P : X → Type 0) (f : X → X) (xs : List X) (i : ℕ) (d : X) → i < length xs → All P (map f xs) → P (f (slice_index_or xs i d))
All-at_map P f xs i d lt h = subst P (get_or-map f xs i d d lt) (h i d (subst (λ (n : ℕ). i < n) (sym (length-map xs f)) lt))

-- a product of two numbers that the code holds
pub product_low : (a b x y : ℤ) → x ≡ a → y ≡ b → unsigned_abs a < 2 ^ 62 → unsigned_abs b < 2 ^ 33 → neg_ℤ (pos (2 ^ 95)) ≤ℤ to_z w128 (of_z w128 (x *ℤ y))
product_low a b x y p q h k =
    let same : x *ℤ y ≡ a *ℤ b = ap (λ z. z *ℤ y) p ∙ ap (λ z. a *ℤ z) q in
    let low = abs_low (a *ℤ b) (2 ^ 95) (product_abs a b h k) in
    let high = abs_high (a *ℤ b) (2 ^ 95) (product_abs a b h k) in
    omega (arith, ints, same, low, high)

pub product_high : (a b x y : ℤ) → x ≡ a → y ≡ b → unsigned_abs a < 2 ^ 62 → unsigned_abs b < 2 ^ 33 → to_z w128 (of_z w128 (x *ℤ y)) ≤ℤ pos (2 ^ 95)
product_high a b x y p q h k =
    let same : x *ℤ y ≡ a *ℤ b = ap (λ z. z *ℤ y) p ∙ ap (λ z. a *ℤ z) q in
    let low = abs_low (a *ℤ b) (2 ^ 95) (product_abs a b h k) in
    let high = abs_high (a *ℤ b) (2 ^ 95) (product_abs a b h k) in
    omega (arith, ints, same, low, high)

pub small_product : (a b x y : ℤ) (n : ℕ) → x ≡ a → y ≡ b → unsigned_abs (a *ℤ b) < n → unsigned_abs (x *ℤ y) < n
small_product a b x y n p q h = subst (λ (z : ℤ). unsigned_abs z < n) (sym (ap (λ z. z *ℤ y) p ∙ ap (λ z. a *ℤ z) q)) h

All-right : {X : Type 0} (P : X → Type 0) (xs ys : List X) → All P (xs ++ ys) → All P ys
All-right P [] ys h = h
All-right P (x ∷ xs) ys h = All-right P xs ys (All-tail P x (xs ++ ys) h)

-- where a sum with a part is small, so are the part's terms, and so is the constant
pub small_part_terms : (sum by : LinearForm) (a : ℕ) (t : ℤ × ℕ) → IsSmall (plus sum (part_of a by t)) → t.1 ≡ a → All IsSmallTerm (map (scaled_term t.0) by.terms)
small_part_terms sum by a t h e =
    All-right IsSmallTerm sum.terms (map (scaled_term t.0) by.terms)
    (subst (λ (p : LinearForm). IsSmall (plus sum p)) (part_of-same a by t e) h).coefficients

pub small_part_constant : (sum by : LinearForm) (a : ℕ) (t : ℤ × ℕ) → IsSmall (plus sum (part_of a by t)) → t.1 ≡ a → unsigned_abs (sum.constant +ℤ (by.constant *ℤ t.0)) < 2 ^ 100
small_part_constant sum by a t h e = (subst (λ (p : LinearForm). IsSmall (plus sum p)) (part_of-same a by t e) h).constant

-- a sum that the code computes with a multiple
pub sum_with_multiple_is : (c o b x y z : ℤ) → x ≡ c → y ≡ o → z ≡ b → unsigned_abs c < 2 ^ 100 → unsigned_abs (c +ℤ (o *ℤ b)) < 2 ^ 100
    → (unsigned_abs (y *ℤ z) < 2 ^ 101) × (unsigned_abs (x +ℤ (y *ℤ z)) < 2 ^ 100) × (x +ℤ (y *ℤ z) ≡ c +ℤ (o *ℤ b))
sum_with_multiple_is c o b x y z p q r h k =
    let same : y *ℤ z ≡ o *ℤ b = ap (λ u. u *ℤ z) q ∙ ap (λ u. o *ℤ u) r in
    let whole : x +ℤ (y *ℤ z) ≡ c +ℤ (o *ℤ b) = ap (λ u. u +ℤ (y *ℤ z)) p ∙ ap (λ u. c +ℤ u) same in
    (subst (λ (u : ℤ). unsigned_abs u < 2 ^ 101) (sym same) (rest c (o *ℤ b) h k), subst (λ (u : ℤ). unsigned_abs u < 2 ^ 100) (sym whole) k, whole)
  where
    rest : (c d : ℤ) → unsigned_abs c < 2 ^ 100 → unsigned_abs (c +ℤ d) < 2 ^ 100 → unsigned_abs d < 2 ^ 101
    rest c d h k =
        abs_below d (2 ^ 101) (omega (arith, ints, abs_low c (2 ^ 100) (omega arith), abs_low (c +ℤ d) (2 ^ 100 - 1) (omega arith), abs_high c (2 ^ 100) (omega arith)))
        (omega (arith, ints, abs_high c (2 ^ 100) (omega arith), abs_low c (2 ^ 100) (omega arith), abs_high (c +ℤ d) (2 ^ 100 - 1) (omega arith)))
