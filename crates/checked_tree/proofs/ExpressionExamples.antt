-- Each form of an expression, computed.
use Rattle.std.specs.Prelude.{◌≡◌, ℕ, List, false, true, [], ◌∷◌, ℤ, pos, negsuc, Ok, Err}
use Rattle.sd_base.specs.declared.kinds.CheckKind.TheVariants as kind
use Rattle.sd_base.specs.declared.kinds.FailKind.TheVariants as fail
use Rattle.checked_tree.specs.declared.stops.Stop.TheVariants.{Failed, Wild}
use Rattle.checked_tree.specs.declared.shapes.Scalar.TheVariants.{U8, I8, U16, I32, U32, Pointer}
use Rattle.checked_tree.specs.declared.expressions.CheckedExpr.{CheckedExpr}
use Rattle.checked_tree.specs.declared.expressions.CheckedExpr.TheVariants as V
use Rattle.checked_tree.specs.declared.expressions.Unary.TheVariants as unary_op
use Rattle.checked_tree.specs.declared.expressions.Arithmetic.TheVariants as arithmetic_op
use Rattle.checked_tree.specs.declared.expressions.Comparison.TheVariants as comparison_op
use Rattle.checked_tree.specs.declared.expressions.Logic.TheVariants as logic_op
use Rattle.checked_tree.specs.declared.expressions.PointerSum.TheVariants.{PointerPlus, PlusPointer, PointerMinus}
use Rattle.checked_tree.specs.Outcome.{Got}
use Rattle.checked_tree.specs.Numbers.{converted, unary, arithmetic, comparison}
use Rattle.byte_memory.specs.Bytes.{little_endian, bytes_at}
use Rattle.checked_tree.specs.Memory.{reached, read, load}
use Rattle.checked_tree.specs.Conditions.{peek, form_value, condition}
use Rattle.checked_tree.specs.Eval.{tests, eval}
use Rattle.checked_tree.proofs.Equations.{at_forms}
use Rattle.checked_tree.proofs.Sample.{state, f, number}

-- the value of an expression where the integer is n and the pointer p; each check is tested
abbrev value : ℤ → ℤ → CheckedExpr → Got
value n p e = eval [] f (state n p) e

-- an access that no block contains
abbrev wild : CheckedExpr
wild = V.Load I32 (V.Block 64)

-- `*p`, with the checks of these numbers
abbrev through : List ℕ → CheckedExpr
through checks = V.Load I32 (V.Through (V.Local 1) checks)

-- constants, and the value of a local
constants : value (pos 5) (pos 16) (V.Number (pos 3) U32) ≡ Ok (pos 3)
unfolding eval tests condition form_value peek load reached read bytes_at little_endian converted unary arithmetic comparison
constants = simp at_forms

-- the null pointer
null_pointer : value (pos 5) (pos 16) V.Null ≡ Ok (pos 0)
unfolding eval tests condition form_value peek load reached read bytes_at little_endian converted unary arithmetic comparison
null_pointer = simp at_forms

-- the value of a local
a_local : value (pos 5) (pos 16) (V.Local 0) ≡ Ok (pos 5)
unfolding eval tests condition form_value peek load reached read bytes_at little_endian converted unary arithmetic comparison
a_local = simp at_forms

-- the place of a global, and a pointer to it
a_global : value (pos 5) (pos 16) (V.AddressOf (V.Block 16)) ≡ Ok (pos 16)
unfolding eval tests condition form_value peek load reached read bytes_at little_endian converted unary arithmetic comparison
a_global = simp at_forms

-- `*p` gives the integer there
a_load : value (pos 5) (pos 20) (through (1 ∷ (2 ∷ []))) ≡ Ok (negsuc 1)
unfolding eval tests condition form_value peek load reached read bytes_at little_endian converted unary arithmetic comparison
a_load = simp at_forms

-- `*p` of a null pointer fails
a_null_load : value (pos 5) (pos 0) (through (1 ∷ (2 ∷ []))) ≡ Err (Failed 7 (fail.Check kind.Null))
unfolding eval tests condition form_value peek load reached read bytes_at little_endian converted unary arithmetic comparison
a_null_load = simp at_forms

-- `*p` past the bound fails
a_load_past_the_end : value (pos 5) (pos 28) (through (1 ∷ (2 ∷ []))) ≡ Err (Failed 7 (fail.Check kind.Bound))
unfolding eval tests condition form_value peek load reached read bytes_at little_endian converted unary arithmetic comparison
a_load_past_the_end = simp at_forms

-- without its check it has no meaning
an_unchecked_load : value (pos 5) (pos 28) (through []) ≡ Err Wild
unfolding eval tests condition form_value peek load reached read bytes_at little_endian converted unary arithmetic comparison
an_unchecked_load = simp at_forms

-- nor has a load of which one byte is outside
a_load_that_straddles : value (pos 5) (pos 26) (through []) ≡ Err Wild
unfolding eval tests condition form_value peek load reached read bytes_at little_endian converted unary arithmetic comparison
a_load_that_straddles = simp at_forms

-- nor where the check is not tested
a_removed_check : eval (true ∷ (false ∷ [])) f (state (pos 5) (pos 28)) (through (1 ∷ (2 ∷ []))) ≡ Err Wild
unfolding eval tests condition form_value peek load reached read bytes_at little_endian converted unary arithmetic comparison
a_removed_check = simp at_forms

-- an address below 0 is outside
a_negative_address : value (negsuc 3) (pos 16) (V.Load U8 (V.Element (V.Null) (V.Local 0) 1 [])) ≡ Err Wild
unfolding eval tests condition form_value peek load reached read bytes_at little_endian converted unary arithmetic comparison
a_negative_address = simp at_forms

-- `p[2]`, with the checks of its parts
an_element : value (pos 2) (pos 16) (V.Load I32 (V.Element (V.Local 1) (V.Local 0) 4 (1 ∷ []))) ≡ Ok (pos 0)
unfolding eval tests condition form_value peek load reached read bytes_at little_endian converted unary arithmetic comparison
an_element = simp at_forms

-- a field 4 bytes past a struct's place
a_field : value (pos 0) (pos 16) (V.Load I32 (V.Field (V.Through (V.Local 1) []) 4 [])) ≡ Ok (negsuc 1)
unfolding eval tests condition form_value peek load reached read bytes_at little_endian converted unary arithmetic comparison
a_field = simp at_forms

-- one byte, unsigned and signed
a_byte : value (pos 0) (pos 20) (V.Load U8 (V.Through (V.Local 1) [])) ≡ Ok (pos 254)
unfolding eval tests condition form_value peek load reached read bytes_at little_endian converted unary arithmetic comparison
a_byte = simp at_forms

-- the same byte signed
a_signed_byte : value (pos 0) (pos 20) (V.Load I8 (V.Through (V.Local 1) [])) ≡ Ok (negsuc 1)
unfolding eval tests condition form_value peek load reached read bytes_at little_endian converted unary arithmetic comparison
a_signed_byte = simp at_forms

-- two bytes
a_short : value (pos 0) (pos 20) (V.Load U16 (V.Through (V.Local 1) [])) ≡ Ok (pos 65534)
unfolding eval tests condition form_value peek load reached read bytes_at little_endian converted unary arithmetic comparison
a_short = simp at_forms

-- `p + 2` of four bytes each
a_moved_pointer : value (pos 2) (pos 16) (V.Moved PointerPlus (V.Local 1) (V.Local 0) 4 []) ≡ Ok (pos 24)
unfolding eval tests condition form_value peek load reached read bytes_at little_endian converted unary arithmetic comparison
a_moved_pointer = simp at_forms

-- `2 + p`
a_pointer_moved_from_the_left : value (pos 2) (pos 16) (V.Moved PlusPointer (V.Local 1) (V.Local 0) 4 []) ≡ Ok (pos 24)
unfolding eval tests condition form_value peek load reached read bytes_at little_endian converted unary arithmetic comparison
a_pointer_moved_from_the_left = simp at_forms

-- `p - 2`
a_pointer_moved_back : value (pos 2) (pos 24) (V.Moved PointerMinus (V.Local 1) (V.Local 0) 4 []) ≡ Ok (pos 16)
unfolding eval tests condition form_value peek load reached read bytes_at little_endian converted unary arithmetic comparison
a_pointer_moved_back = simp at_forms

-- `p + 1` of a null pointer fails
a_checked_move : value (pos 1) (pos 0) (V.Moved PointerPlus (V.Local 1) (V.Local 0) 4 (1 ∷ [])) ≡ Err (Failed 7 (fail.Check kind.Null))
unfolding eval tests condition form_value peek load reached read bytes_at little_endian converted unary arithmetic comparison
a_checked_move = simp at_forms

-- parts are evaluated left to right: the first stop is the left one
left_part_first : value (pos 1) (pos 0) (V.Binary arithmetic_op.Add I32 (through (1 ∷ [])) wild []) ≡ Err (Failed 7 (fail.Check kind.Null))
unfolding eval tests condition form_value peek load reached read bytes_at little_endian converted unary arithmetic comparison
left_part_first = simp at_forms

-- and the other way round
right_part_second : value (pos 1) (pos 0) (V.Binary arithmetic_op.Add I32 wild (through (1 ∷ [])) []) ≡ Err Wild
unfolding eval tests condition form_value peek load reached read bytes_at little_endian converted unary arithmetic comparison
right_part_second = simp at_forms

-- sums wrap
sum_wraps : value (pos 0) (pos 0) (V.Binary arithmetic_op.Add I32 (number (pos 2147483647)) (number (pos 1)) []) ≡ Ok (negsuc 2147483647)
unfolding eval tests condition form_value peek load reached read bytes_at little_endian converted unary arithmetic comparison
sum_wraps = simp at_forms

-- unsigned sums are modulo 2^32
unsigned_sum_wraps : value (pos 0) (pos 0) (V.Binary arithmetic_op.Add U32 (number (pos 4294967295)) (number (pos 2)) []) ≡ Ok (pos 1)
unfolding eval tests condition form_value peek load reached read bytes_at little_endian converted unary arithmetic comparison
unsigned_sum_wraps = simp at_forms

-- an unsigned difference
difference : value (pos 0) (pos 0) (V.Binary arithmetic_op.Subtract U32 (number (pos 1)) (number (pos 2)) []) ≡ Ok (pos 4294967295)
unfolding eval tests condition form_value peek load reached read bytes_at little_endian converted unary arithmetic comparison
difference = simp at_forms

-- products wrap
product_wraps : value (pos 0) (pos 0) (V.Binary arithmetic_op.Multiply I32 (number (pos 65536)) (number (pos 65536)) []) ≡ Ok (pos 0)
unfolding eval tests condition form_value peek load reached read bytes_at little_endian converted unary arithmetic comparison
product_wraps = simp at_forms

-- division toward zero
quotient_toward_zero : value (pos 0) (pos 0) (V.Binary arithmetic_op.Divide I32 (number (negsuc 6)) (number (pos 2)) []) ≡ Ok (negsuc 2)
unfolding eval tests condition form_value peek load reached read bytes_at little_endian converted unary arithmetic comparison
quotient_toward_zero = simp at_forms

-- the least number by -1 is the least number
least_quotient : value (pos 0) (pos 0) (V.Binary arithmetic_op.Divide I32 (number (negsuc 2147483647)) (number (negsuc 0)) []) ≡ Ok (negsuc 2147483647)
unfolding eval tests condition form_value peek load reached read bytes_at little_endian converted unary arithmetic comparison
least_quotient = simp at_forms

-- the remainder has the sign of the left side
remainder_toward_zero : value (pos 0) (pos 0) (V.Binary arithmetic_op.Remainder I32 (number (negsuc 6)) (number (pos 2)) []) ≡ Ok (negsuc 0)
unfolding eval tests condition form_value peek load reached read bytes_at little_endian converted unary arithmetic comparison
remainder_toward_zero = simp at_forms

-- the remainder of the least number by -1 is 0
least_remainder : value (pos 0) (pos 0) (V.Binary arithmetic_op.Remainder I32 (number (negsuc 2147483647)) (number (negsuc 0)) []) ≡ Ok (pos 0)
unfolding eval tests condition form_value peek load reached read bytes_at little_endian converted unary arithmetic comparison
least_remainder = simp at_forms

-- bits of both
and_bits : value (pos 0) (pos 0) (V.Binary arithmetic_op.And I32 (number (negsuc 0)) (number (pos 12)) []) ≡ Ok (pos 12)
unfolding eval tests condition form_value peek load reached read bytes_at little_endian converted unary arithmetic comparison
and_bits = simp at_forms

-- bits of either
or_bits : value (pos 0) (pos 0) (V.Binary arithmetic_op.Or I32 (number (pos 5)) (number (pos 2)) []) ≡ Ok (pos 7)
unfolding eval tests condition form_value peek load reached read bytes_at little_endian converted unary arithmetic comparison
or_bits = simp at_forms

-- bits of one alone
xor_bits : value (pos 0) (pos 0) (V.Binary arithmetic_op.Xor I32 (number (pos 5)) (number (negsuc 0)) []) ≡ Ok (negsuc 5)
unfolding eval tests condition form_value peek load reached read bytes_at little_endian converted unary arithmetic comparison
xor_bits = simp at_forms

-- a shift count is taken modulo 32
shift_left_modulo : value (pos 0) (pos 0) (V.Binary arithmetic_op.ShiftLeft I32 (number (pos 1)) (number (pos 33)) []) ≡ Ok (pos 2)
unfolding eval tests condition form_value peek load reached read bytes_at little_endian converted unary arithmetic comparison
shift_left_modulo = simp at_forms

-- a shift to the right keeps the sign
shift_right_arithmetic : value (pos 0) (pos 0) (V.Binary arithmetic_op.ShiftRight I32 (number (negsuc 6)) (number (pos 1)) []) ≡ Ok (negsuc 3)
unfolding eval tests condition form_value peek load reached read bytes_at little_endian converted unary arithmetic comparison
shift_right_arithmetic = simp at_forms

-- an unsigned number is shifted without one
shift_right_unsigned : value (pos 0) (pos 0) (V.Binary arithmetic_op.ShiftRight U32 (number (pos 4294967295)) (number (pos 31)) []) ≡ Ok (pos 1)
unfolding eval tests condition form_value peek load reached read bytes_at little_endian converted unary arithmetic comparison
shift_right_unsigned = simp at_forms

-- a division by 0 fails its check
division_by_zero : value (pos 0) (pos 0) (V.Binary arithmetic_op.Divide I32 (number (pos 1)) (V.Local 0) (3 ∷ [])) ≡ Err (Failed 7 (fail.Check kind.Div))
unfolding eval tests condition form_value peek load reached read bytes_at little_endian converted unary arithmetic comparison
division_by_zero = simp at_forms

-- and has no meaning without it
unchecked_division_by_zero : value (pos 0) (pos 0) (V.Binary arithmetic_op.Divide I32 (number (pos 1)) (V.Local 0) []) ≡ Err Wild
unfolding eval tests condition form_value peek load reached read bytes_at little_endian converted unary arithmetic comparison
unchecked_division_by_zero = simp at_forms

-- `+e`
a_plus : value (pos 0) (pos 0) (V.Unary unary_op.Plus I32 (number (pos 4))) ≡ Ok (pos 4)
unfolding eval tests condition form_value peek load reached read bytes_at little_endian converted unary arithmetic comparison
a_plus = simp at_forms

-- `-e`
a_negative : value (pos 0) (pos 0) (V.Unary unary_op.Negative I32 (number (pos 4))) ≡ Ok (negsuc 3)
unfolding eval tests condition form_value peek load reached read bytes_at little_endian converted unary arithmetic comparison
a_negative = simp at_forms

-- `-e` of an unsigned number
an_unsigned_negative : value (pos 0) (pos 0) (V.Unary unary_op.Negative U32 (number (pos 1))) ≡ Ok (pos 4294967295)
unfolding eval tests condition form_value peek load reached read bytes_at little_endian converted unary arithmetic comparison
an_unsigned_negative = simp at_forms

-- `~e`
a_complement : value (pos 0) (pos 0) (V.Unary unary_op.Complement I32 (number (pos 4))) ≡ Ok (negsuc 4)
unfolding eval tests condition form_value peek load reached read bytes_at little_endian converted unary arithmetic comparison
a_complement = simp at_forms

-- `~e` of an unsigned number
an_unsigned_complement : value (pos 0) (pos 0) (V.Unary unary_op.Complement U32 (number (pos 4))) ≡ Ok (pos 4294967291)
unfolding eval tests condition form_value peek load reached read bytes_at little_endian converted unary arithmetic comparison
an_unsigned_complement = simp at_forms

-- `!e`
a_not : value (pos 0) (pos 0) (V.Unary unary_op.Not I32 (number (pos 4))) ≡ Ok (pos 0)
unfolding eval tests condition form_value peek load reached read bytes_at little_endian converted unary arithmetic comparison
a_not = simp at_forms

-- `!0`
a_not_of_zero : value (pos 0) (pos 0) (V.Unary unary_op.Not I32 (number (pos 0))) ≡ Ok (pos 1)
unfolding eval tests condition form_value peek load reached read bytes_at little_endian converted unary arithmetic comparison
a_not_of_zero = simp at_forms

-- a cast to a narrower type
a_cast : value (pos 0) (pos 0) (V.Unary unary_op.Cast I8 (number (pos 200))) ≡ Ok (negsuc 55)
unfolding eval tests condition form_value peek load reached read bytes_at little_endian converted unary arithmetic comparison
a_cast = simp at_forms

-- and to an unsigned one
an_unsigned_cast : value (pos 0) (pos 0) (V.Unary unary_op.Cast U16 (number (negsuc 0))) ≡ Ok (pos 65535)
unfolding eval tests condition form_value peek load reached read bytes_at little_endian converted unary arithmetic comparison
an_unsigned_cast = simp at_forms

-- `<` on `int`
less : value (pos 0) (pos 0) (V.Compare comparison_op.Less I32 (number (negsuc 0)) (number (pos 0))) ≡ Ok (pos 1)
unfolding eval tests condition form_value peek load reached read bytes_at little_endian converted unary arithmetic comparison
less = simp at_forms

-- `<` on `unsigned`: both sides are converted
unsigned_less : value (pos 0) (pos 0) (V.Compare comparison_op.Less U32 (number (negsuc 0)) (number (pos 0))) ≡ Ok (pos 0)
unfolding eval tests condition form_value peek load reached read bytes_at little_endian converted unary arithmetic comparison
unsigned_less = simp at_forms

-- `<=`
at_most : value (pos 0) (pos 0) (V.Compare comparison_op.LessEqual I32 (number (pos 3)) (number (pos 3))) ≡ Ok (pos 1)
unfolding eval tests condition form_value peek load reached read bytes_at little_endian converted unary arithmetic comparison
at_most = simp at_forms

-- `>`
greater : value (pos 0) (pos 0) (V.Compare comparison_op.Greater I32 (number (pos 3)) (number (pos 3))) ≡ Ok (pos 0)
unfolding eval tests condition form_value peek load reached read bytes_at little_endian converted unary arithmetic comparison
greater = simp at_forms

-- `>=`
at_least : value (pos 0) (pos 0) (V.Compare comparison_op.GreaterEqual I32 (number (pos 3)) (number (pos 3))) ≡ Ok (pos 1)
unfolding eval tests condition form_value peek load reached read bytes_at little_endian converted unary arithmetic comparison
at_least = simp at_forms

-- `==`
equal : value (pos 0) (pos 0) (V.Compare comparison_op.Equal I32 (number (pos 3)) (number (pos 4))) ≡ Ok (pos 0)
unfolding eval tests condition form_value peek load reached read bytes_at little_endian converted unary arithmetic comparison
equal = simp at_forms

-- `!=`
different : value (pos 0) (pos 0) (V.Compare comparison_op.NotEqual I32 (number (pos 3)) (number (pos 4))) ≡ Ok (pos 1)
unfolding eval tests condition form_value peek load reached read bytes_at little_endian converted unary arithmetic comparison
different = simp at_forms

-- two pointers compare by address
pointers_compare : value (pos 0) (pos 16) (V.Compare comparison_op.Equal (Pointer 0) (V.Local 1) V.Null) ≡ Ok (pos 0)
unfolding eval tests condition form_value peek load reached read bytes_at little_endian converted unary arithmetic comparison
pointers_compare = simp at_forms

-- `&&` leaves its right side out where the left is 0
and_stops_early : value (pos 0) (pos 0) (V.Logical logic_op.And (V.Local 0) wild) ≡ Ok (pos 0)
unfolding eval tests condition form_value peek load reached read bytes_at little_endian converted unary arithmetic comparison
and_stops_early = simp at_forms

-- and needs it where not
and_goes_on : value (pos 1) (pos 0) (V.Logical logic_op.And (V.Local 0) wild) ≡ Err Wild
unfolding eval tests condition form_value peek load reached read bytes_at little_endian converted unary arithmetic comparison
and_goes_on = simp at_forms

-- `||` leaves its right side out where the left is not 0
or_stops_early : value (pos 3) (pos 0) (V.Logical logic_op.Or (V.Local 0) wild) ≡ Ok (pos 1)
unfolding eval tests condition form_value peek load reached read bytes_at little_endian converted unary arithmetic comparison
or_stops_early = simp at_forms

-- and gives 0 or 1
or_goes_on : value (pos 0) (pos 0) (V.Logical logic_op.Or (V.Local 0) (number (pos 9))) ≡ Ok (pos 1)
unfolding eval tests condition form_value peek load reached read bytes_at little_endian converted unary arithmetic comparison
or_goes_on = simp at_forms
