-- The numbers of C99 with two's complement: types, conversions, and the operators on converted numbers.
use Rattle.std.specs.Prelude.{ℕ, ◌-◌, ◌/◌, ◌%◌, ◌^◌, nat_lt, Bool, true, false, not, ◌&&◌, ℤ, pos, negsuc, ◌+ℤ◌, ◌-ℤ◌, ◌*ℤ◌, neg_ℤ, int_lt, int_le, int_div, int_rem, unsigned_abs, Ok, Err, if◌then◌else◌, bit_and, bit_or, bit_xor}
use Rattle.std.specs.Ordering.{int_eq}
use Rattle.checked_tree.specs.declared.stops.Stop.TheVariants.{Wild}
use Rattle.checked_tree.specs.declared.shapes.Scalar.{Scalar}
use Rattle.checked_tree.specs.declared.shapes.Scalar.TheVariants.{Void, U8, I8, U16, I16, I32, U32, Pointer}
use Rattle.checked_tree.specs.declared.expressions.Arithmetic.{Arithmetic}
use Rattle.checked_tree.specs.declared.expressions.Arithmetic.TheVariants as arithmetic_op
use Rattle.checked_tree.specs.declared.expressions.Comparison.{Comparison}
use Rattle.checked_tree.specs.declared.expressions.Comparison.TheVariants as comparison_op
use Rattle.checked_tree.specs.declared.expressions.Unary.{Unary}
use Rattle.checked_tree.specs.declared.expressions.Unary.TheVariants as unary_op
use Rattle.checked_tree.specs.Outcome.{Outcome, Got, ◌>>=◌}

-- a number modulo 2^n
abbrev pub low_bits : ℕ → ℤ → ℕ
low_bits n (pos m) = m % 2 ^ n
low_bits n (negsuc m) = 2 ^ n - 1 - m % 2 ^ n

-- n bits as a signed number
abbrev pub signed : ℕ → ℕ → ℤ
signed n m = if nat_lt m (2 ^ (n - 1)) then pos m else pos m -ℤ pos (2 ^ n)

-- a number converted to a type: modulo 2^bits (C99 6.3.1.3, and two's complement). A pointer has 32 bits, so an address stays as it is; `void` has no value
unfoldable pub converted : Scalar → ℤ → ℤ
converted Void z = pos 0
converted U8 z = pos (low_bits 8 z)
converted I8 z = signed 8 (low_bits 8 z)
converted U16 z = pos (low_bits 16 z)
converted I16 z = signed 16 (low_bits 16 z)
converted I32 z = signed 32 (low_bits 32 z)
converted U32 z = pos (low_bits 32 z)
converted (Pointer size) z = pos (low_bits 32 z)

-- a number that an address or a word of 32 bits can be
abbrev pub is_word : ℤ → Bool
is_word (pos n) = nat_lt n (2 ^ 32)
is_word (negsuc n) = false

-- an address, which has 32 bits; a number that is none has no meaning as a place or a pointer
abbrev pub word_of : ℤ → Outcome ℕ
word_of (pos n) = if nat_lt n (2 ^ 32) then Ok n else Err Wild
word_of (negsuc n) = Err Wild

-- the same as a number
abbrev pub address : ℤ → Got
address z = word_of z >>= λ a. Ok (pos a)

-- the size from which on a sum has no meaning: the machine's numbers have 128 bits. No sum of a rule comes near it
abbrev pub sum_limit : ℕ
sum_limit = 2 ^ 126

-- a sum below that size
abbrev pub limited : ℤ → Got
limited z = if nat_lt (unsigned_abs z) sum_limit then Ok z else Err Wild

-- a number from a least one to a greatest one
abbrev pub is_between : ℤ → ℤ → ℤ → Bool
is_between low high z = int_le low z && int_le z high

-- a number of 32 bits, signed or unsigned: what a slot, an integer expression or an address can be
abbrev pub is_value : ℤ → Bool
is_value z = is_between (neg_ℤ (pos (2 ^ 31))) (pos (2 ^ 32 - 1)) z

-- a number that a type can hold
unfoldable pub is_of : Scalar → ℤ → Bool
is_of Void z = false
is_of U8 z = is_between (pos 0) (pos 255) z
is_of I8 z = is_between (neg_ℤ (pos 128)) (pos 127) z
is_of U16 z = is_between (pos 0) (pos 65535) z
is_of I16 z = is_between (neg_ℤ (pos 32768)) (pos 32767) z
is_of I32 z = is_between (neg_ℤ (pos (2 ^ 31))) (pos (2 ^ 31 - 1)) z
is_of U32 z = is_word z
is_of (Pointer size) z = is_word z

-- whether the first type has every value of the second. A pointer has the values of `unsigned`
unfoldable pub has_all : Scalar → Scalar → Bool
has_all U8 U8 = true
has_all I8 I8 = true
has_all U16 U8 = true
has_all U16 U16 = true
has_all I16 U8 = true
has_all I16 I8 = true
has_all I16 I16 = true
has_all I32 U8 = true
has_all I32 I8 = true
has_all I32 U16 = true
has_all I32 I16 = true
has_all I32 I32 = true
has_all U32 U8 = true
has_all U32 U16 = true
has_all U32 U32 = true
has_all U32 (Pointer size) = true
has_all (Pointer size) U8 = true
has_all (Pointer size) U16 = true
has_all (Pointer size) U32 = true
has_all (Pointer size) (Pointer other) = true
has_all _ _ = false

-- the bytes of a type
abbrev pub scalar_size : Scalar → ℕ
scalar_size Void = 0
scalar_size U8 = 1
scalar_size I8 = 1
scalar_size U16 = 2
scalar_size I16 = 2
scalar_size I32 = 4
scalar_size U32 = 4
scalar_size (Pointer size) = 4

-- 1 for what holds, 0 for what does not
abbrev pub truth : Bool → ℤ
truth true = pos 1
truth false = pos 0

-- a number that is not 0 holds
abbrev pub holds : ℤ → Bool
holds z = not (int_eq z (pos 0))

-- a quotient that is rounded down
abbrev pub floor_divided : ℤ → ℕ → ℤ
floor_divided (pos m) n = pos (m / n)
floor_divided (negsuc m) n = negsuc (m / n)

-- a shift to the right, which keeps the sign
abbrev pub shifted_right : ℤ → ℕ → ℤ
shifted_right z n = floor_divided z (2 ^ n)

-- a number from one other
unfoldable pub unary : Unary → Scalar → ℤ → ℤ
unary unary_op.Plus scalar x = converted scalar x
unary unary_op.Negative scalar x = converted scalar (neg_ℤ (converted scalar x))
unary unary_op.Complement scalar x = converted scalar (neg_ℤ (converted scalar x) -ℤ pos 1)
unary unary_op.Not scalar x = truth (int_eq x (pos 0))
unary unary_op.Cast scalar x = converted scalar x

-- a number from two that have the type; a division by 0 has no meaning. A shift takes its count modulo 32
abbrev pub computed : Arithmetic → Scalar → ℤ → ℤ → Got
computed arithmetic_op.Add scalar x y = Ok (converted scalar (x +ℤ y))
computed arithmetic_op.Subtract scalar x y = Ok (converted scalar (x -ℤ y))
computed arithmetic_op.Multiply scalar x y = Ok (converted scalar (x *ℤ y))
computed arithmetic_op.Divide scalar x y = if int_eq y (pos 0) then Err Wild else Ok (converted scalar (int_div x y))
computed arithmetic_op.Remainder scalar x y = if int_eq y (pos 0) then Err Wild else Ok (converted scalar (int_rem x y))
computed arithmetic_op.And scalar x y = Ok (converted scalar (pos (bit_and (low_bits 32 x) (low_bits 32 y))))
computed arithmetic_op.Or scalar x y = Ok (converted scalar (pos (bit_or (low_bits 32 x) (low_bits 32 y))))
computed arithmetic_op.Xor scalar x y = Ok (converted scalar (pos (bit_xor (low_bits 32 x) (low_bits 32 y))))
computed arithmetic_op.ShiftLeft scalar x y = Ok (converted scalar (x *ℤ pos (2 ^ (low_bits 5 y))))
computed arithmetic_op.ShiftRight scalar x y = Ok (converted scalar (shifted_right x (low_bits 5 y)))

-- a number from two, which are converted to the type first
unfoldable pub arithmetic : Arithmetic → Scalar → ℤ → ℤ → Got
arithmetic op scalar x y = computed op scalar (converted scalar x) (converted scalar y)

-- a comparison of two numbers
abbrev pub compared : Comparison → ℤ → ℤ → Bool
compared comparison_op.Less x y = int_lt x y
compared comparison_op.LessEqual x y = int_le x y
compared comparison_op.Greater x y = int_lt y x
compared comparison_op.GreaterEqual x y = int_le y x
compared comparison_op.Equal x y = int_eq x y
compared comparison_op.NotEqual x y = not (int_eq x y)

-- a comparison, 0 or 1, of two numbers, which are converted to the type first
unfoldable pub comparison : Comparison → Scalar → ℤ → ℤ → ℤ
comparison op scalar x y = truth (compared op (converted scalar x) (converted scalar y))
