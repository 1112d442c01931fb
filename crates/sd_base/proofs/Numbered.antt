-- What `number_below` says of a number, also where a call shows the number cast to its bits and back.
use Rattle.std.proofs.Common.{◌≡◌, ℕ, ◌<◌, true, false, ltb, ℤ, pos, negsuc, Some, None, refl, ap, sym, arith}
use Rattle.std.proofs.lemmas.Bool.Decides.{nat_tests}
use Rattle.std.proofs.lemmas.Int.{to_z-of_z}
use mir.Syntax.{w32}
use mir.Val.{SFits, of_z, to_z}
use Rattle.sd_base.specs.Selection.{is_below}
use Rattle.sd_base.specs.Numbers.{number_of}

pub number_is : (bound : ℕ) (z : ℤ) (k : ℕ) → number_of bound z ≡ Some k → (z ≡ pos k) × (k < bound)
number_is bound (pos j) k h =
    let at : ltb j bound ≡ true = grind arith in
    let same : j ≡ k = grind arith in
    (ap pos same, grind (arith, nat_tests))
number_is bound (negsuc j) k h = cc

pub number_none : (bound : ℕ) (z : ℤ) → number_of bound z ≡ None → is_below bound z ≡ false
number_none bound (pos j) h = grind arith
number_none bound (negsuc j) h = refl

pub number_below_bound : (bound : ℕ) (z : ℤ) (k : ℕ) → number_of bound z ≡ Some k → is_below bound z ≡ true
number_below_bound bound (pos j) k h = grind arith
number_below_bound bound (negsuc j) k h = cc

-- the same at an argument, which a call shows cast to its bits and back
pub number_is_cast : (bound : ℕ) (z : ℤ) (k : ℕ) → SFits w32 z → Some k ≡ number_of bound (to_z w32 (of_z w32 z)) → (z ≡ pos k) × (k < bound)
number_is_cast bound z k fits h = number_is bound z k (sym (simp to_z-of_z at h))

pub number_none_cast : (bound : ℕ) (z : ℤ) → SFits w32 z → None ≡ number_of bound (to_z w32 (of_z w32 z)) → is_below bound z ≡ false
number_none_cast bound z fits h = number_none bound z (sym (simp to_z-of_z at h))

pub number_below_cast : (bound : ℕ) (z : ℤ) (k : ℕ) → SFits w32 z → Some k ≡ number_of bound (to_z w32 (of_z w32 z)) → is_below bound z ≡ true
number_below_cast bound z k fits h = number_below_bound bound z k (sym (simp to_z-of_z at h))
