-- Operators: what each makes of integers and pointers, with its checks.
use Rattle.std.specs.Prelude.{ℕ, Bool, true, false, ◌&&◌, if◌then◌else◌, List, [], ◌∷◌, ℤ, pos, neg_ℤ, Option, Some, None, option_map}
use Rattle.std.specs.Prelude.{nat_lt}
use Rattle.sd_base.specs.declared.kinds.CheckKind.TheVariants as kind
use Rattle.c_tree.specs.declared.expressions.Binary.{Binary}
use Rattle.c_tree.specs.declared.expressions.Binary.TheVariants as binary_op
use Rattle.c_tree.specs.declared.expressions.Unary.{Unary}
use Rattle.c_tree.specs.declared.expressions.Unary.TheVariants as unary_op
use Rattle.c_tree.specs.declared.types.Base.{Base}
use Rattle.c_tree.specs.declared.types.Number.{Number}
use Rattle.c_tree.specs.declared.types.Star.{Star}
use Rattle.c_tree.specs.declared.types.TypeName.{TypeName}
use Rattle.c_tree.specs.declared.words.Suffix.{Suffix}
use Rattle.c_tree.specs.declared.words.Suffix.TheVariants as suffix
use Rattle.checked_tree.specs.declared.expressions.Arithmetic.{Arithmetic}
use Rattle.checked_tree.specs.declared.expressions.Arithmetic.TheVariants as arithmetic_op
use Rattle.checked_tree.specs.declared.expressions.CheckedExpr.{CheckedExpr}
use Rattle.checked_tree.specs.declared.expressions.CheckedExpr.TheVariants as form
use Rattle.checked_tree.specs.declared.expressions.Comparison.{Comparison}
use Rattle.checked_tree.specs.declared.expressions.Comparison.TheVariants as comparison_op
use Rattle.checked_tree.specs.declared.expressions.Logic.{Logic}
use Rattle.checked_tree.specs.declared.expressions.Logic.TheVariants as logic_op
use Rattle.checked_tree.specs.declared.expressions.PointerSum.{PointerSum}
use Rattle.checked_tree.specs.declared.expressions.PointerSum.TheVariants as pointer_sum
use Rattle.checked_tree.specs.declared.expressions.Unary as checked
use Rattle.checked_tree.specs.declared.expressions.Unary.TheVariants as checked_unary
use Rattle.checked_tree.specs.declared.shapes.Scalar.{Scalar}
use Rattle.checked_tree.specs.declared.shapes.Scalar.TheVariants as scalar
use Rattle.checked_tree.specs.Numbers.{converted}
use Rattle.deputy_rules.specs.declared.asked.AskedCond.TheVariants as cond
use Rattle.deputy_rules.specs.declared.derived.Derived.{Derived}
use Rattle.deputy_rules.specs.declared.derived.Derived.TheVariants as derived
use Rattle.deputy_rules.specs.declared.derived.Pointed.{Pointed}
use Rattle.deputy_rules.specs.declared.derived.Value.{Value}
use Rattle.deputy_rules.specs.declared.derived.Value.TheVariants as value
use Rattle.deputy_rules.specs.declared.derived.Whole.{Whole}
use Rattle.deputy_rules.specs.declared.derived.Written.{Written}
use Rattle.deputy_rules.specs.declared.derived.Written.TheVariants as written
use Rattle.deputy_types.specs.declared.element.Element.{Element}
use Rattle.deputy_types.specs.declared.element.Element.TheVariants as key
use Rattle.deputy_rules.specs.declared.families.Family.{Family}
use Rattle.deputy_rules.specs.declared.families.Family.TheVariants as family
use Rattle.deputy_rules.specs.Context.{Context}
use Rattle.deputy_rules.specs.Deriving.{Deriving, ◌>>=◌, pure, none, lift, ask}
use Rattle.deputy_types.specs.Options.{and_then}
use Rattle.deputy_rules.specs.Places.{is_unsigned, followed}
use Rattle.deputy_rules.specs.Pointers.{moved, text_sum, is_written, address_of}
use Rattle.deputy_rules.specs.Sums.{side}
use Rattle.deputy_types.specs.Types.{base_key, same_element}
use Rattle.deputy_rules.specs.Values.{address, value_of, pointer_of, integer_of}

-- an integer expression of this form and type
abbrev pub whole_of : CheckedExpr → Scalar → Written → Derived
whole_of e s w = derived.Value (value.Int (record { form = e; scalar = s; written = w }))

-- a constant of this type, written so
abbrev pub constant_of_type : ℤ → Scalar → Written → Derived
constant_of_type z s w = whole_of (form.Number z s) s w

-- any other integer expression
abbrev pub computed : CheckedExpr → Scalar → Derived
computed e s = whole_of e s written.Other

-- the type of a number: `unsigned` where it has `u` or is above 2,147,483,647
abbrev pub narrow_scalar : ℕ → Scalar
narrow_scalar value = if nat_lt 2147483647 value then scalar.U32 else scalar.I32

abbrev pub suffix_scalar : Suffix → ℕ → Scalar
suffix_scalar suffix.Plain value = narrow_scalar value
suffix_scalar suffix.Long value = narrow_scalar value
suffix_scalar suffix.Unsigned value = scalar.U32
suffix_scalar suffix.UnsignedLong value = scalar.U32

abbrev pub is_plain : Suffix → Bool
is_plain suffix.Plain = true
is_plain suffix.Long = false
is_plain suffix.Unsigned = false
is_plain suffix.UnsignedLong = false

-- a number
unfoldable pub number : Number → Derived
number n = constant_of_type (pos n.value) (suffix_scalar n.suffix n.value) (written.Number n.value (is_plain n.suffix))

-- a character: an `int`
unfoldable pub character : ℕ → Derived
character c = constant_of_type (pos c) scalar.I32 (written.Constant (pos c))

-- `sizeof(T)`: an `unsigned`
unfoldable pub size_constant : ℕ → Derived
size_constant n = constant_of_type (pos n) scalar.U32 (written.Constant (pos n))

-- promotion: `unsigned` stays, and a narrower type becomes `int`
abbrev pub promoted : Scalar → Scalar
promoted s = if is_unsigned s then scalar.U32 else scalar.I32

-- the type to which two sides are converted: `unsigned` where one of them is
abbrev pub common : Scalar → Scalar → Scalar
common s t = if is_unsigned s then scalar.U32 else promoted t

-- an operator on one integer, in its promoted type
abbrev pub on_one : checked.Unary → Whole → Derived
on_one op w = computed (form.Unary op (promoted w.scalar) w.form) (promoted w.scalar)

-- `-e`: the negative of a number is a constant
abbrev pub negative_number : Scalar → ℕ → Derived
negative_number s value = constant_of_type (converted s (neg_ℤ (pos value))) s (written.Constant (converted s (neg_ℤ (pos value))))

abbrev pub negative_by : Whole → Written → Derived
negative_by w (written.Number value plain) = negative_number w.scalar value
negative_by w (written.Constant z) = on_one checked_unary.Negative w
negative_by w written.Other = on_one checked_unary.Negative w

unfoldable pub negative : Whole → Derived
negative w = negative_by w w.written

-- `!e`, e an integer or a pointer with this form
abbrev pub negation : CheckedExpr → Derived
negation e = computed (form.Unary checked_unary.Not scalar.I32 e) scalar.I32

abbrev pub not_by : Value → Option Derived
not_by (value.Int w) = Some (negation w.form)
not_by (value.Pointer p) = Some (negation p.form)
not_by value.Null = None

abbrev pub minus : Context → Derived → Option Derived
minus ctx x = option_map negative (integer_of ctx x)

abbrev pub on_integer : Context → checked.Unary → Derived → Option Derived
on_integer ctx op x = option_map (on_one op) (integer_of ctx x)

abbrev pub not_of : Context → Derived → Option Derived
not_of ctx x = and_then (value_of ctx x) not_by

abbrev pub dereferenced : Context → Derived → Deriving Derived
dereferenced ctx x = lift (pointer_of ctx x) >>= λ p. followed ctx p

-- the operators before an operand
unfoldable pub unary : Context → Unary → Derived → Deriving Derived
unary ctx unary_op.Minus x = lift (minus ctx x)
unary ctx unary_op.Complement x = lift (on_integer ctx checked_unary.Complement x)
unary ctx unary_op.Not x = lift (not_of ctx x)
unary ctx unary_op.Plus x = lift (on_integer ctx checked_unary.Plus x)
unary ctx unary_op.Dereference x = dereferenced ctx x
unary ctx unary_op.Address x = lift (address_of ctx x)

-- the integer type that a type name names
abbrev pub integer_key : Option Element → Option Scalar
integer_key (Some (key.Int s)) = Some s
integer_key _ = None

unfoldable pub base_scalar : Base → Option Scalar
base_scalar b = integer_key (base_key [] b)

abbrev pub starless : List Star → Option Scalar → Option Scalar
starless [] s = s
starless (star ∷ stars) s = None

unfoldable pub integer_type : TypeName → Option Scalar
integer_type t = starless t.stars (base_scalar t.base)

-- `(T)e`, T and e integers: the converted value
abbrev pub cast_to : Scalar → Whole → Derived
cast_to s w = computed (form.Unary checked_unary.Cast s w.form) (promoted s)

abbrev pub cast_by : Context → Scalar → Derived → Option Derived
cast_by ctx s x = option_map (cast_to s) (integer_of ctx x)

unfoldable pub cast : Context → TypeName → Derived → Option Derived
cast ctx t x = and_then (integer_type t) (λ s. cast_by ctx s x)

-- the binary operators by the rules that they have
unfoldable pub family_of : Binary → Family
family_of binary_op.LogicalOr = family.Logic logic_op.Or
family_of binary_op.LogicalAnd = family.Logic logic_op.And
family_of binary_op.BitOr = family.Plain arithmetic_op.Or
family_of binary_op.BitXor = family.Plain arithmetic_op.Xor
family_of binary_op.BitAnd = family.Plain arithmetic_op.And
family_of binary_op.Equal = family.Equality comparison_op.Equal
family_of binary_op.NotEqual = family.Equality comparison_op.NotEqual
family_of binary_op.Less = family.Order comparison_op.Less
family_of binary_op.Greater = family.Order comparison_op.Greater
family_of binary_op.LessEqual = family.Order comparison_op.LessEqual
family_of binary_op.GreaterEqual = family.Order comparison_op.GreaterEqual
family_of binary_op.ShiftLeft = family.Shift arithmetic_op.ShiftLeft
family_of binary_op.ShiftRight = family.Shift arithmetic_op.ShiftRight
family_of binary_op.Add = family.Add
family_of binary_op.Subtract = family.Subtract
family_of binary_op.Multiply = family.Plain arithmetic_op.Multiply
family_of binary_op.Divide = family.Divide arithmetic_op.Divide
family_of binary_op.Remainder = family.Divide arithmetic_op.Remainder

-- `- + * & | ^` on integers: both sides converted to their common type
abbrev pub on_two : Arithmetic → Whole → Whole → List ℕ → Derived
on_two op a b checks = computed (form.Binary op (common a.scalar b.scalar) a.form b.form checks) (common a.scalar b.scalar)

-- `<< >>`: a shift has the type of its left side
abbrev pub shifted : Arithmetic → Whole → Whole → Derived
shifted op a b = computed (form.Binary op (promoted a.scalar) a.form b.form []) (promoted a.scalar)

-- `/ %`; Div: the divisor is not 0
unfoldable pub divided : Context → Arithmetic → Whole → Whole → Deriving Derived
divided ctx op a b = ask ctx kind.Div (cond.NonZero (side b)) >>= λ c. pure (on_two op a b (c ∷ []))

-- a comparison, after conversion to this type: an `int`
abbrev pub compared : Comparison → Scalar → CheckedExpr → CheckedExpr → Derived
compared op s a b = computed (form.Compare op s a b) scalar.I32

-- `&&` and `||`, on integers and pointers with these forms: an `int`
abbrev pub joined : Logic → CheckedExpr → CheckedExpr → Derived
joined op a b = computed (form.Logical op a b) scalar.I32

abbrev pub integers_compared : Comparison → Whole → Whole → Derived
integers_compared op a b = compared op (common a.scalar b.scalar) a.form b.form

abbrev pub addresses_compared : Comparison → CheckedExpr → CheckedExpr → Derived
addresses_compared op a b = compared op address a b

-- two integers
unfoldable pub on_integers : Context → Family → Whole → Whole → Deriving Derived
on_integers ctx family.Add a b = pure (on_two arithmetic_op.Add a b [])
on_integers ctx family.Subtract a b = pure (on_two arithmetic_op.Subtract a b [])
on_integers ctx (family.Plain op) a b = pure (on_two op a b [])
on_integers ctx (family.Shift op) a b = pure (shifted op a b)
on_integers ctx (family.Divide op) a b = divided ctx op a b
on_integers ctx (family.Order op) a b = pure (integers_compared op a b)
on_integers ctx (family.Equality op) a b = pure (integers_compared op a b)
on_integers ctx (family.Logic op) a b = pure (joined op a.form b.form)

-- a pointer and an integer
abbrev pub pointer_plus : Context → Pointed → Whole → Deriving Derived
pointer_plus ctx p i = if p.nullterm then text_sum ctx p i else moved ctx pointer_sum.PointerPlus p i

-- `i + e` and `e - i`, e not nullterm
abbrev pub moved_unless_text : Context → PointerSum → Pointed → Whole → Deriving Derived
moved_unless_text ctx how p i = if p.nullterm then none else moved ctx how p i

-- a comparison with the null constant, the number 0
abbrev pub compared_with_zero : Comparison → Pointed → Whole → Option Derived
compared_with_zero op p i = if is_written 0 i.written then Some (addresses_compared op p.form form.Null) else None

abbrev pub zero_compared : Comparison → Whole → Pointed → Option Derived
zero_compared op i p = if is_written 0 i.written then Some (addresses_compared op form.Null p.form) else None

unfoldable pub on_pointer_and_integer : Context → Family → Pointed → Whole → Deriving Derived
on_pointer_and_integer ctx family.Add p i = pointer_plus ctx p i
on_pointer_and_integer ctx family.Subtract p i = moved_unless_text ctx pointer_sum.PointerMinus p i
on_pointer_and_integer ctx (family.Equality op) p i = lift (compared_with_zero op p i)
on_pointer_and_integer ctx (family.Logic op) p i = pure (joined op p.form i.form)
on_pointer_and_integer ctx _ p i = none

-- an integer and a pointer
unfoldable pub on_integer_and_pointer : Context → Family → Whole → Pointed → Deriving Derived
on_integer_and_pointer ctx family.Add i p = moved_unless_text ctx pointer_sum.PlusPointer p i
on_integer_and_pointer ctx (family.Equality op) i p = lift (zero_compared op i p)
on_integer_and_pointer ctx (family.Logic op) i p = pure (joined op i.form p.form)
on_integer_and_pointer ctx _ i p = none

-- two pointers with equal elements, both nullterm or neither
abbrev pub same_truth : Bool → Bool → Bool
same_truth true b = b
same_truth false true = false
same_truth false false = true

abbrev pub alike : Pointed → Pointed → Bool
alike p q = same_element p.elem q.elem && same_truth p.nullterm q.nullterm

abbrev pub pointers_compared : Comparison → Pointed → Pointed → Option Derived
pointers_compared op p q = if alike p q then Some (addresses_compared op p.form q.form) else None

unfoldable pub on_pointers : Family → Pointed → Pointed → Option Derived
on_pointers (family.Order op) p q = pointers_compared op p q
on_pointers (family.Equality op) p q = pointers_compared op p q
on_pointers (family.Logic op) p q = Some (joined op p.form q.form)
on_pointers _ p q = None

-- a pointer and the null constant `(void *)0`, in either order
unfoldable pub pointer_and_null : Family → Pointed → Option Derived
pointer_and_null (family.Equality op) p = Some (addresses_compared op p.form form.Null)
pointer_and_null _ p = None

unfoldable pub null_and_pointer : Family → Pointed → Option Derived
null_and_pointer (family.Equality op) p = Some (addresses_compared op form.Null p.form)
null_and_pointer _ p = None

abbrev pub on_null : Family → Value → Option Derived
on_null f (value.Int i) = None
on_null f (value.Pointer p) = null_and_pointer f p
on_null f value.Null = None

-- two values
abbrev pub on_values : Context → Family → Value → Value → Deriving Derived
on_values ctx f (value.Int a) (value.Int b) = on_integers ctx f a b
on_values ctx f (value.Int i) (value.Pointer p) = on_integer_and_pointer ctx f i p
on_values ctx f (value.Int i) value.Null = none
on_values ctx f (value.Pointer p) (value.Int i) = on_pointer_and_integer ctx f p i
on_values ctx f (value.Pointer p) (value.Pointer q) = lift (on_pointers f p q)
on_values ctx f (value.Pointer p) value.Null = lift (pointer_and_null f p)
on_values ctx f value.Null v = lift (on_null f v)

-- the operators between two operands
unfoldable pub binary : Context → Binary → Derived → Derived → Deriving Derived
binary ctx op x y = lift (value_of ctx x) >>= λ a. lift (value_of ctx y) >>= λ b. on_values ctx (family_of op) a b
