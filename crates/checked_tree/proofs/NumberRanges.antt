-- Numbers in the ranges of their types.
use Rattle.std.proofs.Common.{◌≡◌, ◌≢◌, ℕ, ◌+◌, ◌^◌, ◌<◌, ◌≤◌, nat_lt, IsTrue, Bool, true, false, ℤ, pos, negsuc, ◌+ℤ◌, ◌-ℤ◌, ◌≤ℤ◌, neg_ℤ, if◌then◌else◌, refl, arith}
use Rattle.std.proofs.lemmas.Int.{ints}
use Rattle.std.proofs.lemmas.Bool.{lt-ltb}
use Rattle.checked_tree.specs.declared.shapes.Scalar.{Scalar}
use Rattle.checked_tree.specs.declared.shapes.Scalar.TheVariants.{Void, U8, I8, U16, I16, I32, U32, Pointer}
use Rattle.checked_tree.specs.Numbers.{low_bits, converted, is_between, is_word, is_value, is_of}

pub low_bound : (n : ℕ) (z : ℤ) → 0 < 2 ^ n → low_bits n z < 2 ^ n
low_bound n (pos m) h = grind arith
low_bound n (negsuc m) h = grind arith

pub between : (low high z : ℤ) → low ≤ℤ z → z ≤ℤ high → IsTrue (is_between low high z)
between low high z a b = grind (arith, ints)

pub word_value : (z : ℤ) → IsTrue (is_word z) → IsTrue (is_value z)
word_value (pos n) h = grind (arith, ints)
word_value (negsuc n) h = absurd cc

pub of_value : (s : Scalar) (z : ℤ) → IsTrue (is_of s z) → IsTrue (is_value z)
unfolding is_of
of_value Void z h = absurd cc
of_value U8 z h = grind (arith, ints)
of_value I8 z h = grind (arith, ints)
of_value U16 z h = grind (arith, ints)
of_value I16 z h = grind (arith, ints)
of_value I32 z h = grind (arith, ints)
of_value U32 z h = word_value z h
of_value (Pointer size) z h = word_value z h

-- a number of twice as many values, the upper half below 0
signed_between : (half m : ℕ) (low high : ℤ) → m < half + half → low ≡ neg_ℤ (pos half) → high +ℤ pos 1 ≡ pos half
    → IsTrue (is_between low high (if nat_lt m half then pos m else (pos m -ℤ pos (half + half))))
signed_between half m low high h l k = by (nat_lt m half) refl
  where
    by : (b : Bool) → nat_lt m half ≡ b → IsTrue (is_between low high (if b then pos m else (pos m -ℤ pos (half + half))))
    by true e = let below : m < half = grind arith in between low high (pos m) (omega (arith, ints, l)) (omega (arith, ints, k, below))
    by false e = let above : half ≤ m = grind arith in between low high (pos m -ℤ pos (half + half)) (omega (arith, ints, l, above)) (omega (arith, ints, k, h))

pub converted_of : (s : Scalar) (z : ℤ) → s ≢ Void → IsTrue (is_of s (converted s z))
unfolding is_of converted
converted_of Void z n = absurd (n refl)
converted_of U8 z n = between (pos 0) (pos 255) (pos (low_bits 8 z)) (omega (arith, ints)) (omega (arith, ints, low_bound 8 z (omega arith)))
converted_of U16 z n = between (pos 0) (pos 65535) (pos (low_bits 16 z)) (omega (arith, ints)) (omega (arith, ints, low_bound 16 z (omega arith)))
converted_of U32 z n = lt-ltb (low_bits 32 z) (2 ^ 32) (low_bound 32 z (omega arith))
converted_of (Pointer size) z n = lt-ltb (low_bits 32 z) (2 ^ 32) (low_bound 32 z (omega arith))
converted_of I8 z n = signed_between 128 (low_bits 8 z) (negsuc 127) (pos 127) (low_bound 8 z (omega arith)) refl refl
converted_of I16 z n = signed_between 32768 (low_bits 16 z) (negsuc 32767) (pos 32767) (low_bound 16 z (omega arith)) refl refl
converted_of I32 z n = signed_between 2147483648 (low_bits 32 z) (negsuc 2147483647) (pos 2147483647) (low_bound 32 z (omega arith)) refl refl
