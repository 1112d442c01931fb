-- The laws of products of whole numbers that std lacks.
use Rattle.std.proofs.Common.{◌≡◌, zero, suc, ℤ, pos, negsuc, ◌+ℤ◌, ◌*ℤ◌, neg_ℤ, arith, sym, ◌∙◌, ap}
use Rattle.std.proofs.Math.IntN.{suc_ℤ-*ℤ, pred_ℤ-*ℤ, zero-*ℤ, *ℤ_comm}
use Rattle.std.proofs.lemmas.Int.{ints}

-- a product with a sum
pub mul-add : (a b c : ℤ) → a *ℤ (b +ℤ c) ≡ (a *ℤ b) +ℤ (a *ℤ c)
mul-add (pos zero) b c = omega (arith, ints, zero-*ℤ (b +ℤ c), zero-*ℤ b, zero-*ℤ c)
mul-add (pos (suc n)) b c = omega (arith, ints, suc_ℤ-*ℤ (pos n) (b +ℤ c), suc_ℤ-*ℤ (pos n) b, suc_ℤ-*ℤ (pos n) c, mul-add (pos n) b c)
mul-add (negsuc zero) b c = omega (arith, ints, pred_ℤ-*ℤ (pos zero) (b +ℤ c), pred_ℤ-*ℤ (pos zero) b, pred_ℤ-*ℤ (pos zero) c, zero-*ℤ (b +ℤ c), zero-*ℤ b, zero-*ℤ c)
mul-add (negsuc (suc n)) b c = omega (arith, ints, pred_ℤ-*ℤ (negsuc n) (b +ℤ c), pred_ℤ-*ℤ (negsuc n) b, pred_ℤ-*ℤ (negsuc n) c, mul-add (negsuc n) b c)

-- a sum times a number
pub add-mul : (a b c : ℤ) → (a +ℤ b) *ℤ c ≡ (a *ℤ c) +ℤ (b *ℤ c)
add-mul a b c = omega (arith, ints, *ℤ_comm (a +ℤ b) c, *ℤ_comm a c, *ℤ_comm b c, mul-add c a b)

-- a negative times a number
pub neg-mul : (a b : ℤ) → neg_ℤ a *ℤ b ≡ neg_ℤ (a *ℤ b)
neg-mul a b = omega (arith, ints, add-mul (neg_ℤ a) a b, zero-*ℤ b, ap (λ (x : ℤ). x *ℤ b) (cancel a))
  where
    cancel : (a : ℤ) → neg_ℤ a +ℤ a ≡ pos 0
    cancel a = omega (arith, ints)

-- products of three numbers
pub mul_assoc : (a b c : ℤ) → (a *ℤ b) *ℤ c ≡ a *ℤ (b *ℤ c)
mul_assoc (pos zero) b c = ap (λ (x : ℤ). x *ℤ c) (zero-*ℤ b) ∙ (zero-*ℤ c ∙ sym (zero-*ℤ (b *ℤ c)))
mul_assoc (pos (suc n)) b c =
    ap (λ (x : ℤ). x *ℤ c) (suc_ℤ-*ℤ (pos n) b)
    ∙ omega (arith, ints, add-mul (pos n *ℤ b) b c, mul_assoc (pos n) b c, suc_ℤ-*ℤ (pos n) (b *ℤ c))
mul_assoc (negsuc zero) b c = minus b ∙ sym (minus_one (b *ℤ c))
  where
    minus_one : (x : ℤ) → negsuc zero *ℤ x ≡ neg_ℤ x
    minus_one x = omega (arith, ints, pred_ℤ-*ℤ (pos zero) x, zero-*ℤ x)

    minus : (x : ℤ) → (negsuc zero *ℤ x) *ℤ c ≡ neg_ℤ (x *ℤ c)
    minus x = ap (λ (y : ℤ). y *ℤ c) (minus_one x) ∙ neg-mul x c
mul_assoc (negsuc (suc n)) b c =
    ap (λ (x : ℤ). x *ℤ c) (pred_ℤ-*ℤ (negsuc n) b)
    ∙ (add-mul (negsuc n *ℤ b) (neg_ℤ b) c
    ∙ omega (arith, ints, neg-mul b c, mul_assoc (negsuc n) b c, pred_ℤ-*ℤ (negsuc n) (b *ℤ c)))

-- the factor in the middle goes last
pub mul_swap : (a b c : ℤ) → (a *ℤ b) *ℤ c ≡ (a *ℤ c) *ℤ b
mul_swap a b c = mul_assoc a b c ∙ (ap (λ (x : ℤ). a *ℤ x) (*ℤ_comm b c) ∙ sym (mul_assoc a c b))
