-- Numbers (C99, 6.4.4.1): decimal, octal and hexadecimal, with their suffixes and the values that they may have.
use Rattle.std.specs.Prelude.{◌≡◌, ℕ, ◌+◌, ◌-◌, ◌*◌, ◌^◌, ◌<◌, Bool, true, cond, ◌&&◌, ◌||◌, [], ◌∷◌, ◌++◌, length, nat_le, nat_lt, ◌==◌, Option, Some, None}
use Rattle.std.specs.List.{list_all}
use Rattle.c_tree.specs.declared.words.Suffix.{Suffix}
use Rattle.c_tree.specs.declared.words.Suffix.TheVariants as suffix
use Rattle.c_tree.specs.Bytes.{Text, is_digit, first_is}

-- `0` to `9`, `a` to `f` and `A` to `F`.
abbrev pub is_hexadecimal : ℕ → Bool
is_hexadecimal c = is_digit c || ((nat_le 97 c && nat_le c 102) || (nat_le 65 c && nat_le c 70))

-- The value of a hexadecimal digit.
abbrev pub digit_value : ℕ → ℕ
digit_value c = cond (nat_le c 57) (c - 48) (cond (nat_le c 70) (c - 55) (c - 87))

-- Whether a byte is a digit of this radix.
abbrev pub is_digit_of : ℕ → ℕ → Bool
is_digit_of radix c = is_hexadecimal c && nat_lt (digit_value c) radix

-- The value of digits that stand after digits of the value n.
abbrev pub value_after : ℕ → ℕ → Text → ℕ
value_after radix n [] = n
value_after radix n (c ∷ t) = value_after radix (n * radix + digit_value c) t

-- `u` or `U`.
abbrev pub is_u : ℕ → Bool
is_u c = c == 117 || c == 85

-- `l` or `L`.
abbrev pub is_l : ℕ → Bool
is_l c = c == 108 || c == 76

-- `x` or `X`.
abbrev pub is_x : ℕ → Bool
is_x c = c == 120 || c == 88

-- `0`, and `1` to `9`.
abbrev pub is_zero : ℕ → Bool
is_zero c = c == 48

abbrev pub is_nonzero : ℕ → Bool
is_nonzero c = nat_le 49 c && nat_le c 57

-- A suffix has at most one of `u U` and one of `l L`, in either order.
abbrev pub suffix_of : Text → Option Suffix
suffix_of [] = Some suffix.Plain
suffix_of (c ∷ []) = cond (is_u c) (Some suffix.Unsigned) (cond (is_l c) (Some suffix.Long) None)
suffix_of (c ∷ d ∷ []) = cond ((is_u c && is_l d) || (is_l c && is_u d)) (Some suffix.UnsignedLong) None
suffix_of (c ∷ d ∷ e ∷ t) = None

-- The text is digits of this radix, at least one, of the value n, and then the suffix x.
pub record HasDigits (radix : ℕ) (b : Text) (n : ℕ) (x : Suffix) : Type 0 where
  pub digits : Text
  pub tail : Text
  pub parts : b ≡ digits ++ tail
  pub some : 0 < length digits
  pub all : list_all (is_digit_of radix) digits ≡ true
  pub value : n ≡ value_after radix 0 digits
  pub suffix : suffix_of tail ≡ Some x

-- The least value that a decimal number with this suffix may not have: one without `u` is an `int`.
abbrev pub decimal_end : Suffix → ℕ
decimal_end suffix.Plain = 2 ^ 31
decimal_end suffix.Long = 2 ^ 31
decimal_end suffix.Unsigned = 2 ^ 32
decimal_end suffix.UnsignedLong = 2 ^ 32

-- The text is a number of the value n with the suffix x. `0` is octal, as in C99.
pub data IsNumber : Text → ℕ → Suffix → Type 0 where
  decimal : {b : Text} {n : ℕ} {x : Suffix} → first_is is_nonzero b ≡ true → HasDigits 10 b n x → n < decimal_end x → IsNumber b n x
  octal : {b : Text} {n : ℕ} {x : Suffix} → first_is is_zero b ≡ true → HasDigits 8 b n x → n < 2 ^ 32 → IsNumber b n x
  hexadecimal : {b : Text} {n : ℕ} {x : Suffix} (c : ℕ) (t : Text) → b ≡ 48 ∷ c ∷ t → is_x c ≡ true → HasDigits 16 t n x → n < 2 ^ 32 → IsNumber b n x
