-- A number that a type holds is not changed by a conversion to it, and wider types hold it too.
use Rattle.std.proofs.Common.{◌≡◌, ℕ, ◌+◌, ◌-◌, ◌%◌, ◌^◌, ◌<◌, ◌≤◌, nat_lt, IsTrue, Bool, true, false, ℤ, pos, negsuc, ◌-ℤ◌, if◌then◌else◌, refl, sym, ap, arith}
use Rattle.std.proofs.lemmas.Int.{ints}
use Rattle.std.proofs.lemmas.Bool.{lt-ltb}
use Rattle.checked_tree.specs.declared.shapes.Scalar.{Scalar}
use Rattle.checked_tree.specs.declared.shapes.Scalar.TheVariants.{Void, U8, I8, U16, I16, I32, U32, Pointer}
use Rattle.checked_tree.specs.Numbers.{low_bits, converted, is_between, is_word, is_of}
use Rattle.checked_tree.specs.Numbers.{has_all}

low_same : (n m : ℕ) → m < 2 ^ n → low_bits n (pos m) ≡ m
low_same n m h = grind arith

picked : (half l : ℕ) (z : ℤ) → (l < half → z ≡ pos l) → (half ≤ l → z ≡ pos l -ℤ pos (half + half)) → (if nat_lt l half then pos l else (pos l -ℤ pos (half + half))) ≡ z
picked half l z p q = by (nat_lt l half) refl
  where
    by : (b : Bool) → nat_lt l half ≡ b → (if b then pos l else (pos l -ℤ pos (half + half))) ≡ z
    by true e = let below : l < half = grind arith in sym (p below)
    by false e = let above : half ≤ l = grind arith in sym (q above)

pub small_pos : (high m : ℕ) (low : ℤ) → IsTrue (is_between low (pos high) (pos m)) → m ≤ high
small_pos high m low h = grind (arith, ints)

pub small_neg : (low m : ℕ) (high : ℤ) → IsTrue (is_between (negsuc low) high (negsuc m)) → m ≤ low
small_neg low m high h = grind (arith, ints)

pub none_below : (high m : ℕ) → IsTrue (is_between (pos 0) (pos high) (negsuc m)) → ⊥
none_below high m h = absurd cc

pub word_is : (m : ℕ) → IsTrue (is_word (pos m)) → m < 2 ^ 32
word_is m h = grind arith

signed_pos : (half m : ℕ) → m < half → (if nat_lt (m % (half + half)) half then pos (m % (half + half)) else (pos (m % (half + half)) -ℤ pos (half + half))) ≡ pos m
signed_pos half m l = let e : m % (half + half) ≡ m = grind arith in picked half (m % (half + half)) (pos m) (λ k. ap (λ (n : ℕ). pos n) (sym e)) (λ k. absurd (omega (arith, k, e, l)))

pub signed_neg : (half m : ℕ) → m < half → (if nat_lt (half + half - 1 - m % (half + half)) half then pos (half + half - 1 - m % (half + half)) else (pos (half + half - 1 - m % (half + half)) -ℤ pos (half + half))) ≡ negsuc m
signed_neg half m l =
    let e : m % (half + half) ≡ m = grind arith in
    picked half (half + half - 1 - m % (half + half)) (negsuc m) (λ k. absurd (omega (arith, k, e, l))) (λ k. omega (arith, ints, e, l))

-- a number that a type holds stays as it is
pub converted_same : (s : Scalar) (z : ℤ) → IsTrue (is_of s z) → converted s z ≡ z
unfolding is_of converted
converted_same Void z h = absurd cc
converted_same U8 (pos m) h = ap (λ (n : ℕ). pos n) (low_same 8 m (let l = small_pos 255 m (pos 0) h in omega (arith, l)))
converted_same U8 (negsuc m) h = absurd (none_below 255 m h)
converted_same U16 (pos m) h = ap (λ (n : ℕ). pos n) (low_same 16 m (let l = small_pos 65535 m (pos 0) h in omega (arith, l)))
converted_same U16 (negsuc m) h = absurd (none_below 65535 m h)
converted_same U32 (pos m) h = ap (λ (n : ℕ). pos n) (low_same 32 m (word_is m h))
converted_same U32 (negsuc m) h = absurd cc
converted_same (Pointer size) (pos m) h = ap (λ (n : ℕ). pos n) (low_same 32 m (word_is m h))
converted_same (Pointer size) (negsuc m) h = absurd cc
converted_same I8 (pos m) h = signed_pos 128 m (let l = small_pos 127 m (negsuc 127) h in omega (arith, l))
converted_same I8 (negsuc m) h = signed_neg 128 m (let l = small_neg 127 m (pos 127) h in omega (arith, l))
converted_same I16 (pos m) h = signed_pos 32768 m (let l = small_pos 32767 m (negsuc 32767) h in omega (arith, l))
converted_same I16 (negsuc m) h = signed_neg 32768 m (let l = small_neg 32767 m (pos 32767) h in omega (arith, l))
converted_same I32 (pos m) h = signed_pos 2147483648 m (let l = small_pos 2147483647 m (negsuc 2147483647) h in omega (arith, l))
converted_same I32 (negsuc m) h = signed_neg 2147483648 m (let l = small_neg 2147483647 m (pos 2147483647) h in omega (arith, l))

byte_word : (z : ℤ) → IsTrue (is_between (pos 0) (pos 255) z) → IsTrue (is_word z)
byte_word (pos m) k = lt-ltb m (2 ^ 32) (let l = small_pos 255 m (pos 0) k in omega (arith, l))
byte_word (negsuc m) k = absurd (none_below 255 m k)

short_word : (z : ℤ) → IsTrue (is_between (pos 0) (pos 65535) z) → IsTrue (is_word z)
short_word (pos m) k = lt-ltb m (2 ^ 32) (let l = small_pos 65535 m (pos 0) k in omega (arith, l))
short_word (negsuc m) k = absurd (none_below 65535 m k)

-- the first type has every value of the second
pub wider : (s t : Scalar) (z : ℤ) → has_all s t ≡ true → IsTrue (is_of t z) → IsTrue (is_of s z)
unfolding has_all is_of
wider U8 U8 z h k = k
wider I8 I8 z h k = k
wider U16 U8 z h k = grind (arith, ints)
wider U16 U16 z h k = k
wider I16 U8 z h k = grind (arith, ints)
wider I16 I8 z h k = grind (arith, ints)
wider I16 I16 z h k = k
wider I32 U8 z h k = grind (arith, ints)
wider I32 I8 z h k = grind (arith, ints)
wider I32 U16 z h k = grind (arith, ints)
wider I32 I16 z h k = grind (arith, ints)
wider I32 I32 z h k = k
wider U32 U8 z h k = byte_word z k
wider U32 U16 z h k = short_word z k
wider U32 U32 z h k = k
wider U32 (Pointer size) z h k = k
wider (Pointer size) U8 z h k = byte_word z k
wider (Pointer size) U16 z h k = short_word z k
wider (Pointer size) U32 z h k = k
wider (Pointer size) (Pointer other) z h k = k
wider _ _ z h k = absurd cc
