-- The rules of operators and constants: what each derives weighs at most one word more, and its checks are light.
use Rattle.std.proofs.Common.{◌≡◌, ℕ, ◌+◌, ◌≤◌, ◌^◌, Bool, true, false, nat_lt, List, [], ◌∷◌, Some, None, ℤ, pos, negsuc, ◌-ℤ◌, neg_ℤ, unsigned_abs, if◌then◌else◌, refl, subst, arith}
use Rattle.std.proofs.lemmas.Int.{ints}
use Rattle.sd_base.specs.declared.kinds.CheckKind.TheVariants as kind
use Rattle.c_tree.specs.declared.expressions.Binary.{Binary}
use Rattle.c_tree.specs.declared.expressions.Unary.{Unary}
use Rattle.c_tree.specs.declared.expressions.Unary.TheVariants as unary_op
use Rattle.c_tree.specs.declared.types.Number.{Number}
use Rattle.c_tree.specs.declared.types.Star.{Star}
use Rattle.c_tree.specs.declared.types.TypeName.{TypeName}
use Rattle.checked_tree.specs.declared.expressions.Arithmetic.{Arithmetic}
use Rattle.checked_tree.specs.declared.expressions.CheckedExpr.{CheckedExpr}
use Rattle.checked_tree.specs.declared.expressions.CheckedExpr.TheVariants as form
use Rattle.checked_tree.specs.declared.expressions.PointerSum.{PointerSum}
use Rattle.checked_tree.specs.declared.expressions.PointerSum.TheVariants as pointer_sum
use Rattle.checked_tree.specs.declared.expressions.Unary as checked
use Rattle.checked_tree.specs.declared.expressions.Unary.TheVariants as checked_unary
use Rattle.checked_tree.specs.declared.shapes.Scalar.{Scalar}
use Rattle.checked_tree.specs.declared.shapes.Scalar.TheVariants as scalar
use Rattle.checked_tree.specs.Numbers.{low_bits, converted}
use Rattle.deputy_rules.specs.declared.asked.AskedCond.TheVariants as cond
use Rattle.deputy_rules.specs.declared.derived.Derived.{Derived}
use Rattle.deputy_rules.specs.declared.derived.Pointed.{Pointed}
use Rattle.deputy_rules.specs.declared.derived.Value.{Value}
use Rattle.deputy_rules.specs.declared.derived.Value.TheVariants as value
use Rattle.deputy_rules.specs.declared.derived.Whole.{Whole}
use Rattle.deputy_rules.specs.declared.derived.Written.{Written}
use Rattle.deputy_rules.specs.declared.derived.Written.TheVariants as written
use Rattle.deputy_types.specs.declared.element.Element.{Element}
use Rattle.deputy_rules.specs.declared.families.Family.{Family}
use Rattle.deputy_rules.specs.declared.families.Family.TheVariants as family
use Rattle.deputy_rules.specs.Context.{Context}
use Rattle.deputy_rules.specs.Expressions.{size_of_type, arrow, subscript}
use Rattle.deputy_types.specs.Extents.{key_extent, stars_extent}
use Rattle.deputy_rules.specs.Operators.{constant_of_type, computed, number, character, size_constant, on_one, negative_by, negative, negation, not_by, minus, on_integer, not_of, dereferenced, unary, integer_type, cast_to, cast_by, cast, family_of, divided, addresses_compared, joined, on_integers, pointer_plus, moved_unless_text, compared_with_zero, zero_compared, on_pointer_and_integer, on_integer_and_pointer, alike, on_pointers, pointer_and_null, null_and_pointer, on_null, on_values, binary}
use Rattle.deputy_rules.specs.Pointers.{is_written, address_of}
use Rattle.deputy_rules.specs.Sums.{constant_of, side}
use Rattle.deputy_types.specs.Table.{size}
use Rattle.deputy_types.specs.Types.{base_key, are_constant, is_char}
use Rattle.deputy_rules.specs.Values.{value_of, pointer_of, integer_of}
use Rattle.deputy_types.proofs.Inversions.{some_then, some_map, if_some}
use Rattle.light_checks.specs.Weights.{IsWhole, IsPointed, IsValue, IsDerived}
use Rattle.light_checks.specs.Within.{IsContext}
use Rattle.light_checks.proofs.Ensuring.{Ensures, Any, given, then_ensures, pure_ensures, none_ensures, lift_ensures, ask_ensures, if_ensures}
use Rattle.light_checks.proofs.Weighing.{side_small, small_light}
use Rattle.light_checks.proofs.Reading.{value_is, integer_is, pointer_is}
use Rattle.light_checks.proofs.PlaceRules.{followed_is, dotted_is, moved_is, text_sum_is, indexed_by_is, address_is}

-- ---- a number that is converted
low_8 : (z : ℤ) → low_bits 8 z ≤ 2 ^ 8
low_8 (pos m) = grind arith
low_8 (negsuc m) = omega arith

low_16 : (z : ℤ) → low_bits 16 z ≤ 2 ^ 16
low_16 (pos m) = grind arith
low_16 (negsuc m) = omega arith

low_32 : (z : ℤ) → low_bits 32 z ≤ 2 ^ 32
low_32 (pos m) = grind arith
low_32 (negsuc m) = omega arith

apart : (m b : ℕ) → m ≤ b → unsigned_abs (pos m -ℤ pos b) ≤ b
apart m b h = grind (arith, ints)

one_of : (t : Bool) (m b : ℕ) → m ≤ b → unsigned_abs (if t then pos m else pos m -ℤ pos b) ≤ b
one_of true m b h = h
one_of false m b h = apart m b h

pub converted_small : (s : Scalar) (z : ℤ) → unsigned_abs z ≤ 2 ^ 32 → unsigned_abs (converted s z) ≤ 2 ^ 32
unfolding converted
converted_small scalar.Void z h = omega arith
converted_small scalar.U8 z h = omega (arith, low_8 z)
converted_small scalar.I8 z h = omega (arith, one_of (nat_lt (low_bits 8 z) (2 ^ 7)) (low_bits 8 z) (2 ^ 8) (low_8 z))
converted_small scalar.U16 z h = omega (arith, low_16 z)
converted_small scalar.I16 z h = omega (arith, one_of (nat_lt (low_bits 16 z) (2 ^ 15)) (low_bits 16 z) (2 ^ 16) (low_16 z))
converted_small scalar.I32 z h = one_of (nat_lt (low_bits 32 z) (2 ^ 31)) (low_bits 32 z) (2 ^ 32) (low_32 z)
converted_small scalar.U32 z h = low_32 z
converted_small (scalar.Pointer n) z h = low_32 z

-- ---- constants and what is computed
computed_is : (e : CheckedExpr) (s : Scalar) (n : ℕ) → IsDerived n (computed e s)
computed_is e s n = record { small = λ z h. absurd cc }

constant_is : (c : ℤ) (s : Scalar) (w : Written) (n : ℕ) → ((z : ℤ) → constant_of w ≡ Some z → unsigned_abs z ≤ 2 ^ 32) → IsDerived n (constant_of_type c s w)
constant_is c s w n h = record { small = h }

pub number_is : (x : Number) (n : ℕ) → x.value ≤ 2 ^ 32 → IsDerived n (number x)
unfolding number
number_is x n h = record { small = λ z e. given (λ y. unsigned_abs y ≤ 2 ^ 32) (pos x.value) z e h }

pub character_is : (c n : ℕ) → c ≤ 2 ^ 32 → IsDerived n (character c)
unfolding character
character_is c n h = record { small = λ z e. given (λ y. unsigned_abs y ≤ 2 ^ 32) (pos c) z e h }

size_is : (m n : ℕ) → m ≤ 65536 → IsDerived n (size_constant m)
unfolding size_constant
size_is m n h = record { small = λ z e. given (λ y. unsigned_abs y ≤ 2 ^ 32) (pos m) z e (omega arith) }

negative_is : (w : Whole) (n : ℕ) → IsWhole w → IsDerived n (negative w)
unfolding negative
negative_is w n is = by w.written is.small
  where
    by : (x : Written) → ((z : ℤ) → constant_of x ≡ Some z → unsigned_abs z ≤ 2 ^ 32) → IsDerived n (negative_by w x)
    by (written.Number v plain) h =
        let c = converted w.scalar (neg_ℤ (pos v)) in
        let less : unsigned_abs (neg_ℤ (pos v)) ≤ 2 ^ 32 = grind (arith, ints, h (pos v) refl) in
        record { small = λ z e. given (λ y. unsigned_abs y ≤ 2 ^ 32) c z e (converted_small w.scalar (neg_ℤ (pos v)) less) }
    by (written.Constant z) h = computed_is _ _ n
    by written.Other h = computed_is _ _ n

-- the bytes of a type
module _ (ctx : Context) (is : IsContext ctx) where
  stars_small : (key : Element) (stars : List Star) → (stars_extent (key_extent ctx.table.extents key) stars).bytes ≤ 65536
  stars_small key [] = is.table.sizes key
  stars_small key (s ∷ ss) = omega arith

  size_small : (t : TypeName) (m : ℕ) → size ctx.table t ≡ Some m → m ≤ 65536
  unfolding size
  size_small t m found =
      let r = some_then (base_key ctx.table.types.structs t.base) (λ key. if are_constant (is_char key) t.stars then Some (stars_extent (key_extent ctx.table.extents key) t.stars).bytes else None) m found in
      given (λ x. x ≤ 65536) (stars_extent (key_extent ctx.table.extents r.0) t.stars).bytes m (if_some (are_constant (is_char r.0) t.stars) (Some (stars_extent (key_extent ctx.table.extents r.0) t.stars).bytes) m r.2) (stars_small r.0 t.stars)

  pub size_of_type_is : (t : TypeName) (n : ℕ) (d : Derived) → size_of_type ctx t ≡ Some d → IsDerived n d
  unfolding size_of_type
  size_of_type_is t n d found = let r = some_map (size ctx.table t) size_constant d found in subst (IsDerived n) r.2 (size_is r.0 n (size_small t r.0 r.1))

module _ (ctx : Context) (is : IsContext ctx) (n : ℕ) (few : n + 3 ≤ 2 ^ 30) where
  -- ---- one operand
  minus_is : (x d : Derived) → IsDerived n x → minus ctx x ≡ Some d → IsDerived n d
  minus_is x d k found = let r = some_map (integer_of ctx x) negative d found in subst (IsDerived n) r.2 (negative_is r.0 n (integer_is ctx is n x r.0 k r.1))

  on_integer_is : (op : checked.Unary) (x d : Derived) → on_integer ctx op x ≡ Some d → IsDerived n d
  on_integer_is op x d found = let r = some_map (integer_of ctx x) (on_one op) d found in subst (IsDerived n) r.2 (computed_is _ _ n)

  not_is : (x d : Derived) → not_of ctx x ≡ Some d → IsDerived n d
  not_is x d found = let r = some_then (value_of ctx x) not_by d found in by r.0 r.2
    where
      by : (v : Value) → not_by v ≡ Some d → IsDerived n d
      by (value.Int w) found = given (IsDerived n) (negation w.form) d found (computed_is _ _ n)
      by (value.Pointer p) found = given (IsDerived n) (negation p.form) d found (computed_is _ _ n)
      by value.Null found = absurd cc

  dereferenced_is : (x : Derived) → IsDerived n x → Ensures (dereferenced ctx x) (IsDerived n)
  dereferenced_is x k =
      then_ensures _ _ (IsPointed n) (IsDerived n) (lift_ensures (pointer_of ctx x) (IsPointed n) (λ p found. pointer_is ctx is n x p k found))
      (λ p l. followed_is ctx is n (omega arith) p l)

  pub unary_is : (op : Unary) (x : Derived) → IsDerived n x → Ensures (unary ctx op x) (IsDerived n)
  unfolding unary
  unary_is unary_op.Minus x k = lift_ensures (minus ctx x) (IsDerived n) (λ d found. minus_is x d k found)
  unary_is unary_op.Complement x k = lift_ensures (on_integer ctx checked_unary.Complement x) (IsDerived n) (λ d found. on_integer_is checked_unary.Complement x d found)
  unary_is unary_op.Not x k = lift_ensures (not_of ctx x) (IsDerived n) (λ d found. not_is x d found)
  unary_is unary_op.Plus x k = lift_ensures (on_integer ctx checked_unary.Plus x) (IsDerived n) (λ d found. on_integer_is checked_unary.Plus x d found)
  unary_is unary_op.Dereference x k = dereferenced_is x k
  unary_is unary_op.Address x k = lift_ensures (address_of ctx x) (IsDerived n) (λ d found. address_is ctx is n x d k found)

  pub cast_is : (t : TypeName) (x d : Derived) → cast ctx t x ≡ Some d → IsDerived n d
  unfolding cast
  cast_is t x d found =
      let r = some_then (integer_type t) (λ s. cast_by ctx s x) d found in
      let m = some_map (integer_of ctx x) (cast_to r.0) d r.2 in
      subst (IsDerived n) m.2 (computed_is _ _ n)

  -- ---- two operands
  divided_is : (op : Arithmetic) (a b : Whole) → IsWhole b → Ensures (divided ctx op a b) (IsDerived (n + 1))
  unfolding divided
  divided_is op a b k =
      then_ensures _ _ Any (IsDerived (n + 1)) (ask_ensures ctx kind.Div (cond.NonZero (side b)) (small_light (side b) (side_small b k)))
      (λ c any. pure_ensures _ (IsDerived (n + 1)) (computed_is _ _ (n + 1)))

  integers_are : (f : Family) (a b : Whole) → IsWhole a → IsWhole b → Ensures (on_integers ctx f a b) (IsDerived (n + 1))
  unfolding on_integers
  integers_are family.Add a b k l = pure_ensures _ (IsDerived (n + 1)) (computed_is _ _ (n + 1))
  integers_are family.Subtract a b k l = pure_ensures _ (IsDerived (n + 1)) (computed_is _ _ (n + 1))
  integers_are (family.Plain op) a b k l = pure_ensures _ (IsDerived (n + 1)) (computed_is _ _ (n + 1))
  integers_are (family.Shift op) a b k l = pure_ensures _ (IsDerived (n + 1)) (computed_is _ _ (n + 1))
  integers_are (family.Divide op) a b k l = divided_is op a b l
  integers_are (family.Order op) a b k l = pure_ensures _ (IsDerived (n + 1)) (computed_is _ _ (n + 1))
  integers_are (family.Equality op) a b k l = pure_ensures _ (IsDerived (n + 1)) (computed_is _ _ (n + 1))
  integers_are (family.Logic op) a b k l = pure_ensures _ (IsDerived (n + 1)) (computed_is _ _ (n + 1))

  pointer_plus_is : (p : Pointed) (i : Whole) → IsPointed n p → IsWhole i → Ensures (pointer_plus ctx p i) (IsDerived (n + 1))
  pointer_plus_is p i k w =
      if_ensures p.nullterm _ _ (IsDerived (n + 1)) (λ e. text_sum_is ctx is n (omega arith) p i k w) (λ e. moved_is ctx is n (omega arith) pointer_sum.PointerPlus p i k w)

  moved_unless_is : (how : PointerSum) (p : Pointed) (i : Whole) → IsPointed n p → IsWhole i → Ensures (moved_unless_text ctx how p i) (IsDerived (n + 1))
  moved_unless_is how p i k w = if_ensures p.nullterm _ _ (IsDerived (n + 1)) (λ e. none_ensures (IsDerived (n + 1))) (λ e. moved_is ctx is n (omega arith) how p i k w)

  -- a comparison that may have no rule
  compared_is : (t : Bool) (e : CheckedExpr) (s : Scalar) (d : Derived) → (if t then Some (computed e s) else None) ≡ Some d → IsDerived (n + 1) d
  compared_is true e s d found = given (IsDerived (n + 1)) (computed e s) d found (computed_is e s (n + 1))
  compared_is false e s d found = absurd cc

  pointer_and_integer_is : (f : Family) (p : Pointed) (i : Whole) → IsPointed n p → IsWhole i → Ensures (on_pointer_and_integer ctx f p i) (IsDerived (n + 1))
  unfolding on_pointer_and_integer
  pointer_and_integer_is family.Add p i k w = pointer_plus_is p i k w
  pointer_and_integer_is family.Subtract p i k w = moved_unless_is pointer_sum.PointerMinus p i k w
  pointer_and_integer_is (family.Equality op) p i k w = lift_ensures (compared_with_zero op p i) (IsDerived (n + 1)) (λ d found. compared_is (is_written 0 i.written) _ _ d found)
  pointer_and_integer_is (family.Logic op) p i k w = pure_ensures _ (IsDerived (n + 1)) (computed_is _ _ (n + 1))
  pointer_and_integer_is (family.Plain op) p i k w = none_ensures (IsDerived (n + 1))
  pointer_and_integer_is (family.Shift op) p i k w = none_ensures (IsDerived (n + 1))
  pointer_and_integer_is (family.Divide op) p i k w = none_ensures (IsDerived (n + 1))
  pointer_and_integer_is (family.Order op) p i k w = none_ensures (IsDerived (n + 1))

  integer_and_pointer_is : (f : Family) (i : Whole) (p : Pointed) → IsWhole i → IsPointed n p → Ensures (on_integer_and_pointer ctx f i p) (IsDerived (n + 1))
  unfolding on_integer_and_pointer
  integer_and_pointer_is family.Add i p w k = moved_unless_is pointer_sum.PlusPointer p i k w
  integer_and_pointer_is (family.Equality op) i p w k = lift_ensures (zero_compared op i p) (IsDerived (n + 1)) (λ d found. compared_is (is_written 0 i.written) _ _ d found)
  integer_and_pointer_is (family.Logic op) i p w k = pure_ensures _ (IsDerived (n + 1)) (computed_is _ _ (n + 1))
  integer_and_pointer_is family.Subtract i p w k = none_ensures (IsDerived (n + 1))
  integer_and_pointer_is (family.Plain op) i p w k = none_ensures (IsDerived (n + 1))
  integer_and_pointer_is (family.Shift op) i p w k = none_ensures (IsDerived (n + 1))
  integer_and_pointer_is (family.Divide op) i p w k = none_ensures (IsDerived (n + 1))
  integer_and_pointer_is (family.Order op) i p w k = none_ensures (IsDerived (n + 1))

  pointers_are : (f : Family) (p q : Pointed) (d : Derived) → on_pointers f p q ≡ Some d → IsDerived (n + 1) d
  unfolding on_pointers
  pointers_are (family.Order op) p q d found = compared_is (alike p q) _ _ d found
  pointers_are (family.Equality op) p q d found = compared_is (alike p q) _ _ d found
  pointers_are (family.Logic op) p q d found = given (IsDerived (n + 1)) (joined op p.form q.form) d found (computed_is _ _ (n + 1))
  pointers_are family.Add p q d found = absurd cc
  pointers_are family.Subtract p q d found = absurd cc
  pointers_are (family.Plain op) p q d found = absurd cc
  pointers_are (family.Shift op) p q d found = absurd cc
  pointers_are (family.Divide op) p q d found = absurd cc

  pointer_and_null_is : (f : Family) (p : Pointed) (d : Derived) → pointer_and_null f p ≡ Some d → IsDerived (n + 1) d
  unfolding pointer_and_null
  pointer_and_null_is (family.Equality op) p d found = given (IsDerived (n + 1)) (addresses_compared op p.form form.Null) d found (computed_is _ _ (n + 1))
  pointer_and_null_is (family.Order op) p d found = absurd cc
  pointer_and_null_is (family.Logic op) p d found = absurd cc
  pointer_and_null_is family.Add p d found = absurd cc
  pointer_and_null_is family.Subtract p d found = absurd cc
  pointer_and_null_is (family.Plain op) p d found = absurd cc
  pointer_and_null_is (family.Shift op) p d found = absurd cc
  pointer_and_null_is (family.Divide op) p d found = absurd cc

  null_and_pointer_is : (f : Family) (p : Pointed) (d : Derived) → null_and_pointer f p ≡ Some d → IsDerived (n + 1) d
  unfolding null_and_pointer
  null_and_pointer_is (family.Equality op) p d found = given (IsDerived (n + 1)) (addresses_compared op form.Null p.form) d found (computed_is _ _ (n + 1))
  null_and_pointer_is (family.Order op) p d found = absurd cc
  null_and_pointer_is (family.Logic op) p d found = absurd cc
  null_and_pointer_is family.Add p d found = absurd cc
  null_and_pointer_is family.Subtract p d found = absurd cc
  null_and_pointer_is (family.Plain op) p d found = absurd cc
  null_and_pointer_is (family.Shift op) p d found = absurd cc
  null_and_pointer_is (family.Divide op) p d found = absurd cc

  null_is : (f : Family) (v : Value) (d : Derived) → on_null f v ≡ Some d → IsDerived (n + 1) d
  null_is f (value.Int i) d found = absurd cc
  null_is f (value.Pointer p) d found = null_and_pointer_is f p d found
  null_is f value.Null d found = absurd cc

  values_are : (f : Family) (v w : Value) → IsValue n v → IsValue n w → Ensures (on_values ctx f v w) (IsDerived (n + 1))
  values_are f (value.Int a) (value.Int b) k l = integers_are f a b k l
  values_are f (value.Int i) (value.Pointer p) k l = integer_and_pointer_is f i p k l
  values_are f (value.Int i) value.Null k l = none_ensures (IsDerived (n + 1))
  values_are f (value.Pointer p) (value.Int i) k l = pointer_and_integer_is f p i k l
  values_are f (value.Pointer p) (value.Pointer q) k l = lift_ensures (on_pointers f p q) (IsDerived (n + 1)) (λ d found. pointers_are f p q d found)
  values_are f (value.Pointer p) value.Null k l = lift_ensures (pointer_and_null f p) (IsDerived (n + 1)) (λ d found. pointer_and_null_is f p d found)
  values_are f value.Null v k l = lift_ensures (on_null f v) (IsDerived (n + 1)) (λ d found. null_is f v d found)

  pub binary_is : (op : Binary) (x y : Derived) → IsDerived n x → IsDerived n y → Ensures (binary ctx op x y) (IsDerived (n + 1))
  unfolding binary
  binary_is op x y k l =
      then_ensures _ _ (IsValue n) (IsDerived (n + 1)) (lift_ensures (value_of ctx x) (IsValue n) (λ v found. value_is ctx is n x v k found))
      (λ v p. then_ensures _ _ (IsValue n) (IsDerived (n + 1)) (lift_ensures (value_of ctx y) (IsValue n) (λ w found. value_is ctx is n y w l found))
      (λ w q. values_are (family_of op) v w p q))

  -- `e->f`
  pub arrow_is : (x : Derived) (f : List ℕ) → IsDerived n x → Ensures (arrow ctx x f) (IsDerived (n + 1))
  unfolding arrow
  arrow_is x f k =
      then_ensures _ _ (IsPointed n) (IsDerived (n + 1)) (lift_ensures (pointer_of ctx x) (IsPointed n) (λ p found. pointer_is ctx is n x p k found))
      (λ p l. then_ensures _ _ (IsDerived n) (IsDerived (n + 1)) (followed_is ctx is n (omega arith) p l) (λ y m. dotted_is ctx is y f n m))

  -- `e[i]`
  pub subscript_is : (x y : Derived) → IsDerived n x → IsDerived n y → Ensures (subscript ctx x y) (IsDerived (n + 1))
  unfolding subscript
  subscript_is x y k l =
      then_ensures _ _ (IsPointed n) (IsDerived (n + 1)) (lift_ensures (pointer_of ctx x) (IsPointed n) (λ p found. pointer_is ctx is n x p k found))
      (λ p q. then_ensures _ _ IsWhole (IsDerived (n + 1)) (lift_ensures (integer_of ctx y) IsWhole (λ w found. integer_is ctx is n y w l found))
      (λ i w. indexed_by_is ctx is n few p i q w))
