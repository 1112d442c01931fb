-- Numbers, and the operators on two integers.
use Rattle.std.proofs.Common.{◌≡◌, ◌≢◌, ◌⊎◌, inl, inr, ℕ, ◌^◌, ◌<◌, ◌≤◌, nat_lt, IsTrue, Bool, true, false, List}
use Rattle.std.proofs.Common.{[], ◌∷◌, ℤ, pos, negsuc, ◌-ℤ◌, neg_ℤ, Option, Some, None, Ok, Err, if◌then◌else◌, refl, sym, ap}
use Rattle.std.proofs.Common.{◌∙◌, subst, arith}
use Rattle.std.specs.Ordering.{int_eq}
use Rattle.std.proofs.Math.IntN.{*ℤ_comm}
use Rattle.std.proofs.lemmas.Bool.{lt-ltb}
use Rattle.std.proofs.lemmas.Bool.Decides.{Decides-int_eq}
use Rattle.std.proofs.lemmas.Int.{ints}
use Rattle.sd_base.specs.Blocks.{Block}
use Rattle.sd_base.specs.declared.kinds.CheckKind.TheVariants as kind
use Rattle.c_tree.specs.declared.types.Number.{Number}
use Rattle.c_tree.specs.declared.words.Suffix.{Suffix}
use Rattle.c_tree.specs.declared.words.Suffix.TheVariants as suffix
use Rattle.checked_tree.specs.declared.expressions.Arithmetic.{Arithmetic}
use Rattle.checked_tree.specs.declared.expressions.Arithmetic.TheVariants as op
use Rattle.checked_tree.specs.declared.expressions.CheckedExpr.{CheckedExpr}
use Rattle.checked_tree.specs.declared.expressions.CheckedExpr.TheVariants as form
use Rattle.checked_tree.specs.declared.shapes.Scalar.{Scalar}
use Rattle.checked_tree.specs.declared.shapes.Scalar.TheVariants.{Void, U8, I8, U16, I16, I32, U32, Pointer}
use Rattle.checked_tree.specs.declared.stops.Stop.TheVariants.{Wild}
use Rattle.checked_tree.specs.declared.units.CheckedFn.{CheckedFn}
use Rattle.checked_tree.specs.Numbers.{low_bits, signed, converted, is_of, is_value, arithmetic}
use Rattle.checked_tree.specs.Outcome.{Got, ◌>>=◌, Safe}
use Rattle.checked_tree.specs.Conditions.{State}
use Rattle.checked_tree.specs.Eval.{eval, tests, test, check_of}
use Rattle.checked_tree.proofs.Outcomes.{safe_bind}
use Rattle.deputy_rules.specs.declared.asked.AskedCond.TheVariants as cond
use Rattle.deputy_rules.specs.declared.derived.Derived.{Derived}
use Rattle.deputy_rules.specs.declared.derived.Value.TheVariants as value
use Rattle.deputy_rules.specs.declared.derived.Whole.{Whole}
use Rattle.deputy_rules.specs.declared.derived.Written.TheVariants as written
use Rattle.deputy_rules.specs.Context.{Context}
use Rattle.deputy_rules.specs.Operators.{number, character, size_constant, suffix_scalar, narrow_scalar, promoted, common, on_one, on_two}
use Rattle.deputy_rules.specs.Operators.{divided, negative_by, negative, negation, not_by, minus, on_integer}
use Rattle.deputy_rules.specs.Operators.{not_of, unary, base_scalar, starless, integer_type, cast_to, cast_by}
use Rattle.deputy_rules.specs.Operators.{cast, family_of, compared, joined, on_integers}
use Rattle.deputy_rules.specs.Operators.{pointer_plus, moved_unless_text, compared_with_zero, zero_compared, on_pointer_and_integer}
use Rattle.deputy_rules.specs.Operators.{on_integer_and_pointer, alike, on_pointers, pointer_and_null, null_and_pointer}
use Rattle.deputy_rules.specs.Operators.{on_null, on_values, binary, computed as of_type}
use Rattle.deputy_rules.specs.Places.{is_unsigned}
use Rattle.deputy_rules.specs.Sums.{side, side_by, constant_part}
use Rattle.deputy_rules.specs.SumValues.{part_at, PartHasValue}
use Rattle.driver_safety.specs.Derivations.{IsWhole, HasType, IsValue, IsDerived}
use Rattle.driver_safety.specs.Goodness.{IsGood}
use Rattle.driver_safety.specs.TypeFacts.{HasTypes, HasSlots, IsInteger}
use Rattle.checked_tree.proofs.Conversions.{converted_same}
use Rattle.driver_safety.proofs.checks.Evaluations.{safe_same, safe_weaker, Pass, pass_none, pass_one, eval-Number, eval-Null, eval-Unary}
use Rattle.driver_safety.proofs.checks.Evaluations.{eval-Binary, eval-Compare, eval-Logical}
use Rattle.checked_tree.proofs.NumberRanges.{of_value, converted_of}
use Rattle.driver_safety.proofs.checks.Sounding.{Sound, then_sound, pure_sound, lift_sound, if_sound, none_sound, ask_sound, weaker}
use Rattle.driver_safety.proofs.expressions.PlaceRules.{followed_sound}
use Rattle.driver_safety.proofs.expressions.PointerRules.{address_sound, moved_sound}
use Rattle.driver_safety.proofs.expressions.ReadRules.{integer_safe, value_sound}
use Rattle.driver_safety.proofs.expressions.TextRules.{text_sum_sound}
use Rattle.c_tree.specs.declared.expressions.Binary.{Binary}
use Rattle.c_tree.specs.declared.expressions.Binary.TheVariants as binary_op
use Rattle.c_tree.specs.declared.expressions.Unary.{Unary}
use Rattle.c_tree.specs.declared.expressions.Unary.TheVariants as unary_op
use Rattle.c_tree.specs.declared.types.Base.{Base}
use Rattle.c_tree.specs.declared.types.Base.TheVariants as base
use Rattle.c_tree.specs.declared.types.Star.{Star}
use Rattle.c_tree.specs.declared.types.TypeName.{TypeName}
use Rattle.checked_tree.specs.declared.expressions.Comparison.{Comparison}
use Rattle.checked_tree.specs.declared.expressions.Logic.{Logic}
use Rattle.checked_tree.specs.declared.expressions.Logic.TheVariants as logic_op
use Rattle.checked_tree.specs.declared.expressions.PointerSum.{PointerSum}
use Rattle.checked_tree.specs.declared.expressions.PointerSum.TheVariants as pointer_sum
use Rattle.checked_tree.specs.declared.expressions.Unary.{Unary as Operator}
use Rattle.checked_tree.specs.declared.expressions.Unary.TheVariants as operator
use Rattle.checked_tree.specs.Conditions.{logical}
use Rattle.checked_tree.specs.Numbers.{comparison, has_all, holds, truth, unary as unary_value}
use Rattle.checked_tree.proofs.Conversions.{wider}
use Rattle.deputy_types.specs.Types.{base_key}
use Rattle.deputy_types.proofs.Inversions.{some_then, some_map}
use Rattle.deputy_rules.specs.declared.derived.Pointed.{Pointed}
use Rattle.deputy_rules.specs.declared.derived.Value.{Value}
use Rattle.deputy_rules.specs.declared.derived.Written.{Written}
use Rattle.deputy_rules.specs.declared.families.Family.{Family}
use Rattle.deputy_rules.specs.declared.families.Family.TheVariants as family
use Rattle.deputy_rules.specs.Pointers.{address_of, is_written}
use Rattle.deputy_rules.specs.Sums.{constant_of}
use Rattle.deputy_rules.specs.Values.{value_of, integer_of, pointer_of, whole, pointed}

-- ---- numbers
narrow_of : (n : ℕ) → n < 2 ^ 32 → IsTrue (is_of (narrow_scalar n) (pos n))
unfolding is_of
narrow_of n h = by (nat_lt 2147483647 n) refl
  where
    by : (b : Bool) → nat_lt 2147483647 n ≡ b → IsTrue (is_of (if b then U32 else I32) (pos n))
    by true e = lt-ltb n (2 ^ 32) h
    by false e = let small : n ≤ 2147483647 = grind arith in grind (arith, ints, small)

suffix_of : (x : Suffix) (n : ℕ) → n < 2 ^ 32 → IsTrue (is_of (suffix_scalar x n) (pos n))
unfolding is_of
suffix_of suffix.Plain n h = narrow_of n h
suffix_of suffix.Long n h = narrow_of n h
suffix_of suffix.Unsigned n h = lt-ltb n (2 ^ 32) h
suffix_of suffix.UnsignedLong n h = lt-ltb n (2 ^ 32) h

narrow_integer : (n : ℕ) → IsInteger (narrow_scalar n)
narrow_integer n = by (nat_lt 2147483647 n)
  where
    by : (b : Bool) → IsInteger (if b then U32 else I32)
    by true = tt
    by false = tt

suffix_integer : (x : Suffix) (n : ℕ) → IsInteger (suffix_scalar x n)
suffix_integer suffix.Plain n = narrow_integer n
suffix_integer suffix.Long n = narrow_integer n
suffix_integer suffix.Unsigned n = tt
suffix_integer suffix.UnsignedLong n = tt

common_no_void : (s t : Scalar) → common s t ≢ Void
common_no_void s t = by (is_unsigned s) (is_unsigned t)
  where
    by : (a b : Bool) → (if a then U32 else (if b then U32 else I32)) ≢ Void
    by true b e = absurd cc
    by false true e = absurd cc
    by false false e = absurd cc

common_is : (s t : Scalar) → (common s t ≡ U32) ⊎ (common s t ≡ I32)
common_is s t = by (is_unsigned s) (is_unsigned t)
  where
    by : (a b : Bool) → ((if a then U32 else (if b then U32 else I32)) ≡ U32) ⊎ ((if a then U32 else (if b then U32 else I32)) ≡ I32)
    by true b = inl refl
    by false true = inl refl
    by false false = inr refl

-- ---- division
low_zero : (y : ℤ) → IsTrue (is_value y) → low_bits 32 y ≡ 0 → y ≡ pos 0
low_zero (pos n) h e = let l : n < 2 ^ 32 = grind (arith, ints) in let z : n ≡ 0 = grind (arith, e, l) in ap (λ (n : ℕ). pos n) z
low_zero (negsuc n) h e = let l : n < 2 ^ 31 = grind (arith, ints) in absurd (grind (arith, e, l))

pos_zero : (n : ℕ) → pos n ≡ pos 0 → n ≡ 0
pos_zero n h = cc

signed_zero : (l : ℕ) → l < 2 ^ 32 → signed 32 l ≡ pos 0 → l ≡ 0
signed_zero l h e = by (nat_lt l 2147483648) refl e
  where
    by : (b : Bool) → nat_lt l 2147483648 ≡ b → (if b then pos l else (pos l -ℤ pos 4294967296)) ≡ pos 0 → l ≡ 0
    by true f e = pos_zero l e
    by false f e = absurd (omega (arith, ints, e, h))

low_below : (z : ℤ) → low_bits 32 z < 2 ^ 32
low_below (pos m) = grind arith
low_below (negsuc m) = grind arith

converted_zero : (s : Scalar) (y : ℤ) → (s ≡ U32) ⊎ (s ≡ I32) → IsTrue (is_value y) → converted s y ≡ pos 0 → y ≡ pos 0
unfolding converted
converted_zero s y (inl e) h z = low_zero y h (pos_zero (low_bits 32 y) (ap (λ (s : Scalar). converted s y) (sym e) ∙ z))
converted_zero s y (inr e) h z = low_zero y h (signed_zero (low_bits 32 y) (low_below y) (ap (λ (s : Scalar). converted s y) (sym e) ∙ z))

-- ---- arithmetic
abbrev pub divides : Arithmetic → Bool
divides op.Divide = true
divides op.Remainder = true
divides _ = false

quotient_safe : (s : Scalar) (y q : ℤ) → s ≢ Void → y ≢ pos 0 → Safe (if int_eq y (pos 0) then Err Wild else Ok (converted s q))
    (λ z. IsTrue (is_of s z))
quotient_safe s y q n some = by (int_eq y (pos 0)) refl
  where
    by : (b : Bool) → int_eq y (pos 0) ≡ b → Safe (if b then Err Wild else Ok (converted s q)) (λ z. IsTrue (is_of s z))
    by true e = absurd (some ((Decides-int_eq y (pos 0)).0 e))
    by false e = converted_of s q n

arithmetic_safe : (o : Arithmetic) (s : Scalar) (x y : ℤ) → s ≢ Void → (divides o ≡ true → converted s y ≢ pos 0)
    → Safe (arithmetic o s x y) (λ z. IsTrue (is_of s z))
unfolding arithmetic
arithmetic_safe op.Add s x y n d = converted_of s _ n
arithmetic_safe op.Subtract s x y n d = converted_of s _ n
arithmetic_safe op.Multiply s x y n d = converted_of s _ n
arithmetic_safe op.Divide s x y n d = quotient_safe s (converted s y) _ n (d refl)
arithmetic_safe op.Remainder s x y n d = quotient_safe s (converted s y) _ n (d refl)
arithmetic_safe op.And s x y n d = converted_of s _ n
arithmetic_safe op.Or s x y n d = converted_of s _ n
arithmetic_safe op.Xor s x y n d = converted_of s _ n
arithmetic_safe op.ShiftLeft s x y n d = converted_of s _ n
arithmetic_safe op.ShiftRight s x y n d = converted_of s _ n

-- ---- types
promoted_is : (s : Scalar) → (promoted s ≡ U32) ⊎ (promoted s ≡ I32)
promoted_is s = by (is_unsigned s)
  where
    by : (b : Bool) → ((if b then U32 else I32) ≡ U32) ⊎ ((if b then U32 else I32) ≡ I32)
    by true = inl refl
    by false = inr refl

promoted_no_void : (s : Scalar) → promoted s ≢ Void
promoted_no_void s = by (is_unsigned s)
  where
    by : (b : Bool) → (if b then U32 else I32) ≢ Void
    by true e = absurd cc
    by false e = absurd cc

truth_of : (s : Scalar) (b : Bool) → (s ≡ U32) ⊎ (s ≡ I32) → IsTrue (is_of s (truth b))
unfolding is_of
truth_of s b (inl e) = subst (λ (s : Scalar). IsTrue (is_of s (truth b))) (sym e) (word b)
  where
    word : (b : Bool) → IsTrue (is_of U32 (truth b))
    word true = refl
    word false = refl
truth_of s b (inr e) = subst (λ (s : Scalar). IsTrue (is_of s (truth b))) (sym e) (int b)
  where
    int : (b : Bool) → IsTrue (is_of I32 (truth b))
    int true = refl
    int false = refl

-- an operator on one number
unary_of : (o : Operator) (s : Scalar) (x : ℤ) → (s ≡ U32) ⊎ (s ≡ I32) → s ≢ Void → IsTrue (is_of s (unary_value o s x))
unfolding unary_value
unary_of operator.Plus s x u n = converted_of s x n
unary_of operator.Negative s x u n = converted_of s _ n
unary_of operator.Complement s x u n = converted_of s _ n
unary_of operator.Not s x u n = truth_of s (int_eq x (pos 0)) u
unary_of operator.Cast s x u n = converted_of s x n

-- a cast stands in the promoted type
cast_of : (s : Scalar) (z : ℤ) → IsInteger s → IsTrue (is_of s z) → IsTrue (is_of (promoted s) z)
unfolding has_all
cast_of Void z i h = absurd i
cast_of (Pointer size) z i h = absurd i
cast_of U8 z i h = wider I32 U8 z refl h
cast_of I8 z i h = wider I32 I8 z refl h
cast_of U16 z i h = wider I32 U16 z refl h
cast_of I16 z i h = wider I32 I16 z refl h
cast_of I32 z i h = h
cast_of U32 z i h = h

scalar_same : (a b : Scalar) → ◌≡◌ {A = Option Scalar} (Some a) (Some b) → a ≡ b
scalar_same a b h = cc

base_integer : (b : Base) (s : Scalar) → base_scalar b ≡ Some s → IsInteger s
unfolding base_scalar base_key
base_integer base.Char s h = subst IsInteger (scalar_same U8 s h) tt
base_integer base.SignedChar s h = subst IsInteger (scalar_same I8 s h) tt
base_integer base.UnsignedChar s h = subst IsInteger (scalar_same U8 s h) tt
base_integer base.Short s h = subst IsInteger (scalar_same I16 s h) tt
base_integer base.UnsignedShort s h = subst IsInteger (scalar_same U16 s h) tt
base_integer base.Int s h = subst IsInteger (scalar_same I32 s h) tt
base_integer base.Long s h = subst IsInteger (scalar_same I32 s h) tt
base_integer base.Unsigned s h = subst IsInteger (scalar_same U32 s h) tt
base_integer base.UnsignedInt s h = subst IsInteger (scalar_same U32 s h) tt
base_integer base.UnsignedLong s h = subst IsInteger (scalar_same U32 s h) tt
base_integer (base.Struct name) s h = absurd cc

starless_is : (stars : List Star) (o : Option Scalar) (s : Scalar) → starless stars o ≡ Some s → o ≡ Some s
starless_is [] o s h = h
starless_is (star ∷ stars) o s h = absurd cc

no_void : (s : Scalar) → IsInteger s → s ≢ Void
no_void s i e = subst IsInteger e i

-- what an operator's family may hold: only `/` and `%` divide, and these alone have a check
abbrev IsFamily : Family → Type 0
IsFamily family.Add = Unit {0}
IsFamily family.Subtract = Unit {0}
IsFamily (family.Plain o) = divides o ≡ false
IsFamily (family.Shift o) = divides o ≡ false
IsFamily (family.Divide o) = Unit {0}
IsFamily (family.Order o) = Unit {0}
IsFamily (family.Equality o) = Unit {0}
IsFamily (family.Logic o) = Unit {0}

family_is : (o : Binary) → IsFamily (family_of o)
unfolding family_of
family_is binary_op.LogicalOr = tt
family_is binary_op.LogicalAnd = tt
family_is binary_op.BitOr = refl
family_is binary_op.BitXor = refl
family_is binary_op.BitAnd = refl
family_is binary_op.Equal = tt
family_is binary_op.NotEqual = tt
family_is binary_op.Less = tt
family_is binary_op.Greater = tt
family_is binary_op.LessEqual = tt
family_is binary_op.GreaterEqual = tt
family_is binary_op.ShiftLeft = refl
family_is binary_op.ShiftRight = refl
family_is binary_op.Add = tt
family_is binary_op.Subtract = tt
family_is binary_op.Multiply = refl
family_is binary_op.Divide = tt
family_is binary_op.Remainder = tt

module _ (f : CheckedFn) (ctx : Context) (blocks : List Block) (st : State) where
  abbrev Ok' : CheckedExpr → (ℤ → Type 0) → Type 0
  Ok' e P = Safe (eval [] f st e) P

  -- whatever evaluates to a number in the range of its type
  pub whole_safe : (e : CheckedExpr) (s : Scalar) → Ok' e (λ z. IsTrue (is_of s z)) → IsDerived f ctx blocks st (of_type e s)
  whole_safe e s h = integer_safe f ctx blocks st e s h

  -- a constant
  pub constant_safe : (z : ℤ) (s : Scalar) (w : Written) → constant_of w ≡ Some z → IsTrue (is_of s z) → HasType s w
      → IsValue f ctx blocks st (value.Int (record { form = form.Number z s; scalar = s; written = w }))
  unfolding side
  constant_safe z s w is range type =
      let same = converted_same s z range in
      let here : side_by (constant_of w) (form.Number z s) ≡ constant_part z = ap (λ (o : Option ℤ). side_by o (form.Number z s)) is in (
        type,
        safe_same _ _ _ (eval-Number f st z s ∙ ap (λ (y : ℤ). Ok y) same) (record {
          range = range;
          read = subst (PartHasValue st) (sym here) tt;
          is = ap (part_at st) here ∙ omega (arith, ints, *ℤ_comm (pos 1) z);
        }),
      )

  pub number_safe : (n : Number) → n.value < 2 ^ 32 → IsDerived f ctx blocks st (number n)
  unfolding number
  number_safe n h = constant_safe (pos n.value) (suffix_scalar n.suffix n.value) _ refl (suffix_of n.suffix n.value h)
      (suffix_integer n.suffix n.value)

  pub character_safe : (c : ℕ) → c < 256 → IsDerived f ctx blocks st (character c)
  unfolding character is_of
  character_safe c h = constant_safe (pos c) I32 _ refl (small c h) tt
    where
      small : (c : ℕ) → c < 256 → IsTrue (is_of I32 (pos c))
      small c h = grind (arith, ints, h)

  pub size_safe : (n : ℕ) → n ≤ 65536 → IsDerived f ctx blocks st (size_constant n)
  unfolding size_constant is_of
  size_safe n h = constant_safe (pos n) U32 _ refl (small n h) tt
    where
      small : (n : ℕ) → n ≤ 65536 → IsTrue (is_of U32 (pos n))
      small n h = lt-ltb n (2 ^ 32) (omega (arith, h))

  -- ---- one integer
  one_safe : (o : Operator) (e : CheckedExpr) (s : Scalar) (P : ℤ → Type 0) → (s ≡ U32) ⊎ (s ≡ I32) → s ≢ Void → Ok' e P
      → IsDerived f ctx blocks st (of_type (form.Unary o s e) s)
  one_safe o e s P u n d = whole_safe (form.Unary o s e) s (safe_same _ _ _ (eval-Unary f st o s e) (safe_bind (eval [] f st e) _ _ _ d
      (λ x is. unary_of o s x u n)))

  on_one_safe : (o : Operator) (w : Whole) → IsValue f ctx blocks st (value.Int w) → IsDerived f ctx blocks st (on_one o w)
  on_one_safe o w d = one_safe o w.form (promoted w.scalar) _ (promoted_is w.scalar) (promoted_no_void w.scalar) d.1

  negation_safe : (e : CheckedExpr) (P : ℤ → Type 0) → Ok' e P → IsDerived f ctx blocks st (negation e)
  negation_safe e P d = one_safe operator.Not e I32 P (inr refl) (λ e. absurd cc) d

  negative_safe : (w : Whole) → IsValue f ctx blocks st (value.Int w) → IsDerived f ctx blocks st (negative w)
  unfolding negative
  negative_safe w d = by w.written refl
    where
      by : (x : Written) → w.written ≡ x → IsDerived f ctx blocks st (negative_by w x)
      by (written.Number n plain) e =
          let integer = subst (HasType w.scalar) e d.0 in
          constant_safe (converted w.scalar (neg_ℤ (pos n))) w.scalar _ refl (converted_of w.scalar (neg_ℤ (pos n))
          (no_void w.scalar integer)) tt
      by (written.Constant z) e = on_one_safe operator.Negative w d
      by written.Other e = on_one_safe operator.Negative w d

  cast_safe : (s : Scalar) (w : Whole) → IsInteger s → IsValue f ctx blocks st (value.Int w) → IsDerived f ctx blocks st (cast_to s w)
  unfolding unary_value
  cast_safe s w i d = whole_safe (form.Unary operator.Cast s w.form) (promoted s) (safe_same _ _ _ (eval-Unary f st operator.Cast s w.form)
      (safe_bind (eval [] f st w.form) _ _ _ d.1 (λ x is. cast_of s (converted s x) i (converted_of s x (no_void s i)))))

  -- ---- two integers
  two_safe : (o : Arithmetic) (s : Scalar) (a b : Whole) (ids : List ℕ) → s ≢ Void → IsValue f ctx blocks st (value.Int a)
      → IsValue f ctx blocks st (value.Int b)
      → ((y : ℤ) → IsWhole st b y → Pass f st ids (divides o ≡ true → converted s y ≢ pos 0)) → IsDerived f ctx blocks st
      (of_type (form.Binary o s a.form b.form ids) s)
  two_safe o s a b ids n va vb pass =
      whole_safe (form.Binary o s a.form b.form ids) s (safe_same _ _ _ (eval-Binary f st o s a.form b.form ids)
      (safe_bind (eval [] f st a.form) _ _ _ va.1 (λ x ix. safe_bind (eval [] f st b.form) _ _ _ vb.1 (λ y iy.
      safe_bind (tests [] f st ids) _ _ _ (pass y iy) (λ u d. arithmetic_safe o s x y n d)))))

  -- `/ %`
  divided_sound : (o : Arithmetic) (a b : Whole) → Sound f st ctx.first (divided ctx o a b) (λ d. IsValue f ctx blocks st (value.Int a)
      → IsValue f ctx blocks st (value.Int b) → IsDerived f ctx blocks st d)
  unfolding divided
  divided_sound o a b =
      then_sound f st ctx.first _ _ _ _ (ask_sound f st ctx kind.Div (cond.NonZero (side b))) (λ c. pure_sound f st ctx.first
      (on_two o a b (c ∷ [])) _ (λ tested va vb.
      two_safe o (common a.scalar b.scalar) a b (c ∷ []) (common_no_void a.scalar b.scalar) va vb (λ y is. pass_one f st c _
      (safe_weaker (test f st (check_of f c)) _ _ (tested.tested is.read)
      (λ u e some d z. some (is.is ∙ converted_zero (common a.scalar b.scalar) y (common_is a.scalar b.scalar)
      (of_value b.scalar y is.range) z))))))

  -- the operators without a check
  plain_safe : (o : Arithmetic) (s : Scalar) (a b : Whole) → s ≢ Void → divides o ≡ false → IsValue f ctx blocks st (value.Int a)
      → IsValue f ctx blocks st (value.Int b)
      → IsDerived f ctx blocks st (of_type (form.Binary o s a.form b.form []) s)
  plain_safe o s a b v n va vb = two_safe o s a b [] v va vb (λ y is. pass_none f st _ (λ d. absurd (both (divides o) n d)))
    where
      both : (b : Bool) → b ≡ false → b ≡ true → ⊥
      both b e g = absurd cc

  compared_safe : (o : Comparison) (s : Scalar) (a b : CheckedExpr) (P Q : ℤ → Type 0) → Ok' a P → Ok' b Q → IsDerived f ctx blocks st
      (compared o s a b)
  unfolding comparison
  compared_safe o s a b P Q va vb = whole_safe (form.Compare o s a b) I32 (safe_same _ _ _ (eval-Compare f st o s a b)
      (safe_bind (eval [] f st a) _ _ _ va (λ x ix. safe_bind (eval [] f st b) _ _ _ vb (λ y iy. truth_of I32 _ (inr refl)))))

  -- the right side of `&&` and `||`, where it is evaluated
  right_safe : (r : Got) (Q : ℤ → Type 0) → Safe r Q → Safe (r >>= λ y. Ok (truth (holds y))) (λ z. IsTrue (is_of I32 z))
  right_safe r Q s = safe_bind r _ Q _ s (λ y is. truth_of I32 (holds y) (inr refl))

  logical_safe : (o : Logic) (x : ℤ) (r : Got) (Q : ℤ → Type 0) → Safe r Q → Safe (logical o x r) (λ z. IsTrue (is_of I32 z))
  logical_safe logic_op.And x r Q s = by (holds x)
    where
      by : (b : Bool) → Safe (if b then (r >>= λ y. Ok (truth (holds y))) else Ok (pos 0)) (λ z. IsTrue (is_of I32 z))
      by true = right_safe r Q s
      by false = truth_of I32 false (inr refl)
  logical_safe logic_op.Or x r Q s = by (holds x)
    where
      by : (b : Bool) → Safe (if b then Ok (pos 1) else (r >>= λ y. Ok (truth (holds y)))) (λ z. IsTrue (is_of I32 z))
      by true = truth_of I32 true (inr refl)
      by false = right_safe r Q s

  joined_safe : (o : Logic) (a b : CheckedExpr) (P Q : ℤ → Type 0) → Ok' a P → Ok' b Q → IsDerived f ctx blocks st (joined o a b)
  joined_safe o a b P Q va vb = whole_safe (form.Logical o a b) I32 (safe_same _ _ _ (eval-Logical f st o a b)
      (safe_bind (eval [] f st a) _ _ _ va (λ x ix. logical_safe o x (eval [] f st b) Q vb)))

  null_safe : Ok' form.Null (λ z. Unit {0})
  null_safe = safe_same _ _ _ (eval-Null f st) tt

  abbrev Int : Whole → Type 0
  Int w = IsValue f ctx blocks st (value.Int w)

  abbrev Ptr : Pointed → Type 0
  Ptr p = IsValue f ctx blocks st (value.Pointer p)

  on_integers_sound : (x : Family) (a b : Whole) → IsFamily x → Sound f st ctx.first (on_integers ctx x a b) (λ d. Int a → Int b
      → IsDerived f ctx blocks st d)
  unfolding on_integers
  on_integers_sound family.Add a b n = pure_sound f st ctx.first _ _ (λ va vb. plain_safe op.Add (common a.scalar b.scalar) a b
      (common_no_void a.scalar b.scalar) refl va vb)
  on_integers_sound family.Subtract a b n = pure_sound f st ctx.first _ _ (λ va vb. plain_safe op.Subtract (common a.scalar b.scalar) a b
      (common_no_void a.scalar b.scalar) refl va vb)
  on_integers_sound (family.Plain o) a b n = pure_sound f st ctx.first _ _ (λ va vb. plain_safe o (common a.scalar b.scalar) a b
      (common_no_void a.scalar b.scalar) n va vb)
  on_integers_sound (family.Shift o) a b n = pure_sound f st ctx.first _ _ (λ va vb. plain_safe o (promoted a.scalar) a b
      (promoted_no_void a.scalar) n va vb)
  on_integers_sound (family.Divide o) a b n = divided_sound o a b
  on_integers_sound (family.Order o) a b n = pure_sound f st ctx.first _ _ (λ va vb. compared_safe o (common a.scalar b.scalar) a.form
      b.form _ _ va.1 vb.1)
  on_integers_sound (family.Equality o) a b n = pure_sound f st ctx.first _ _ (λ va vb. compared_safe o (common a.scalar b.scalar) a.form
      b.form _ _ va.1 vb.1)
  on_integers_sound (family.Logic o) a b n = pure_sound f st ctx.first _ _ (λ va vb. joined_safe o a.form b.form _ _ va.1 vb.1)

  some_derived : (a b : Derived) → ◌≡◌ {A = Option Derived} (Some a) (Some b) → a ≡ b
  some_derived a b h = cc

  if_is : (b : Bool) (x d : Derived) → (if b then Some x else None) ≡ Some d → x ≡ d
  if_is true x d h = some_derived x d h
  if_is false x d h = absurd cc

  module _ (good : IsGood ctx blocks st) (types : HasTypes ctx.table) where
    plus_sound : (p : Pointed) (i : Whole) → Sound f st ctx.first (pointer_plus ctx p i) (λ d. Ptr p → Int i → IsDerived f ctx blocks st d)
    plus_sound p i = if_sound f st ctx.first p.nullterm _ _ _ (λ e. text_sum_sound f ctx blocks st good types p i e)
        (λ e. moved_sound f ctx blocks st good types pointer_sum.PointerPlus p i e)

    unless_sound : (how : PointerSum) (p : Pointed) (i : Whole) → Sound f st ctx.first (moved_unless_text ctx how p i) (λ d. Ptr p → Int i
        → IsDerived f ctx blocks st d)
    unless_sound how p i = if_sound f st ctx.first p.nullterm _ _ _ (λ e. none_sound f st ctx.first _) (λ e. moved_sound f ctx blocks st
        good types how p i e)

    pointer_and_integer : (x : Family) (p : Pointed) (i : Whole) → Sound f st ctx.first (on_pointer_and_integer ctx x p i) (λ d. Ptr p
        → Int i → IsDerived f ctx blocks st d)
    unfolding on_pointer_and_integer
    pointer_and_integer family.Add p i = plus_sound p i
    pointer_and_integer family.Subtract p i = unless_sound pointer_sum.PointerMinus p i
    pointer_and_integer (family.Equality o) p i = lift_sound f st ctx.first (compared_with_zero o p i) _ (λ d h vp vi.
        subst (IsDerived f ctx blocks st) (if_is (is_written 0 i.written) _ d h) (compared_safe o (Pointer 0) p.form form.Null _ _ vp
        null_safe))
    pointer_and_integer (family.Logic o) p i = pure_sound f st ctx.first _ _ (λ vp vi. joined_safe o p.form i.form _ _ vp vi.1)
    pointer_and_integer (family.Plain o) p i = none_sound f st ctx.first _
    pointer_and_integer (family.Shift o) p i = none_sound f st ctx.first _
    pointer_and_integer (family.Divide o) p i = none_sound f st ctx.first _
    pointer_and_integer (family.Order o) p i = none_sound f st ctx.first _

    integer_and_pointer : (x : Family) (i : Whole) (p : Pointed) → Sound f st ctx.first (on_integer_and_pointer ctx x i p) (λ d. Int i
        → Ptr p → IsDerived f ctx blocks st d)
    unfolding on_integer_and_pointer
    integer_and_pointer family.Add i p = weaker f st ctx.first _ _ _ (λ d q vi vp. q vp vi) (unless_sound pointer_sum.PlusPointer p i)
    integer_and_pointer family.Subtract i p = none_sound f st ctx.first _
    integer_and_pointer (family.Equality o) i p = lift_sound f st ctx.first (zero_compared o i p) _ (λ d h vi vp.
        subst (IsDerived f ctx blocks st) (if_is (is_written 0 i.written) _ d h) (compared_safe o (Pointer 0) form.Null p.form _ _
        null_safe vp))
    integer_and_pointer (family.Logic o) i p = pure_sound f st ctx.first _ _ (λ vi vp. joined_safe o i.form p.form _ _ vi.1 vp)
    integer_and_pointer (family.Plain o) i p = none_sound f st ctx.first _
    integer_and_pointer (family.Shift o) i p = none_sound f st ctx.first _
    integer_and_pointer (family.Divide o) i p = none_sound f st ctx.first _
    integer_and_pointer (family.Order o) i p = none_sound f st ctx.first _

    pointers : (x : Family) (p q : Pointed) (d : Derived) → on_pointers x p q ≡ Some d → Ptr p → Ptr q → IsDerived f ctx blocks st d
    unfolding on_pointers
    pointers (family.Order o) p q d h vp vq = subst (IsDerived f ctx blocks st) (if_is (alike p q) _ d h) (compared_safe o (Pointer 0)
        p.form q.form _ _ vp vq)
    pointers (family.Equality o) p q d h vp vq = subst (IsDerived f ctx blocks st) (if_is (alike p q) _ d h) (compared_safe o (Pointer 0)
        p.form q.form _ _ vp vq)
    pointers (family.Logic o) p q d h vp vq = subst (IsDerived f ctx blocks st) (some_derived _ d h) (joined_safe o p.form q.form _ _ vp vq)
    pointers family.Add p q d h vp vq = absurd cc
    pointers family.Subtract p q d h vp vq = absurd cc
    pointers (family.Plain o) p q d h vp vq = absurd cc
    pointers (family.Shift o) p q d h vp vq = absurd cc
    pointers (family.Divide o) p q d h vp vq = absurd cc

    with_null : (x : Family) (p : Pointed) (d : Derived) → pointer_and_null x p ≡ Some d → Ptr p → IsDerived f ctx blocks st d
    unfolding pointer_and_null
    with_null (family.Equality o) p d h vp = subst (IsDerived f ctx blocks st) (some_derived _ d h) (compared_safe o (Pointer 0) p.form
        form.Null _ _ vp null_safe)
    with_null (family.Order o) p d h vp = absurd cc
    with_null (family.Logic o) p d h vp = absurd cc
    with_null family.Add p d h vp = absurd cc
    with_null family.Subtract p d h vp = absurd cc
    with_null (family.Plain o) p d h vp = absurd cc
    with_null (family.Shift o) p d h vp = absurd cc
    with_null (family.Divide o) p d h vp = absurd cc

    from_null : (x : Family) (p : Pointed) (d : Derived) → null_and_pointer x p ≡ Some d → Ptr p → IsDerived f ctx blocks st d
    unfolding null_and_pointer
    from_null (family.Equality o) p d h vp = subst (IsDerived f ctx blocks st) (some_derived _ d h) (compared_safe o (Pointer 0) form.Null
        p.form _ _ null_safe vp)
    from_null (family.Order o) p d h vp = absurd cc
    from_null (family.Logic o) p d h vp = absurd cc
    from_null family.Add p d h vp = absurd cc
    from_null family.Subtract p d h vp = absurd cc
    from_null (family.Plain o) p d h vp = absurd cc
    from_null (family.Shift o) p d h vp = absurd cc
    from_null (family.Divide o) p d h vp = absurd cc

    null_and : (x : Family) (v : Value) (d : Derived) → on_null x v ≡ Some d → IsValue f ctx blocks st v → IsDerived f ctx blocks st d
    null_and x (value.Int i) d h is = absurd cc
    null_and x (value.Pointer p) d h is = from_null x p d h is
    null_and x value.Null d h is = absurd cc

    values_sound : (x : Family) (a b : Value) → IsFamily x → Sound f st ctx.first (on_values ctx x a b) (λ d. IsValue f ctx blocks st a
        → IsValue f ctx blocks st b → IsDerived f ctx blocks st d)
    values_sound x (value.Int a) (value.Int b) n = on_integers_sound x a b n
    values_sound x (value.Int i) (value.Pointer p) n = integer_and_pointer x i p
    values_sound x (value.Int i) value.Null n = none_sound f st ctx.first _
    values_sound x (value.Pointer p) (value.Int i) n = pointer_and_integer x p i
    values_sound x (value.Pointer p) (value.Pointer q) n = lift_sound f st ctx.first (on_pointers x p q) _ (λ d h vp vq. pointers x p q d h
        vp vq)
    values_sound x (value.Pointer p) value.Null n = lift_sound f st ctx.first (pointer_and_null x p) _ (λ d h vp vn. with_null x p d h vp)
    values_sound x value.Null v n = lift_sound f st ctx.first (on_null x v) _ (λ d h vn vv. null_and x v d h vv)

    module _ (slots : HasSlots ctx) where
      -- what was derived, as an integer and as a pointer
      whole_is : (v : Value) (w : Whole) → whole v ≡ Some w → IsValue f ctx blocks st v → Int w
      whole_is (value.Int w) x h is = subst Int (some_same w x h) is
        where
          some_same : (a b : Whole) → ◌≡◌ {A = Option Whole} (Some a) (Some b) → a ≡ b
          some_same a b h = cc
      whole_is (value.Pointer p) x h is = absurd cc
      whole_is value.Null x h is = absurd cc

      pointed_is : (v : Value) (p : Pointed) → pointed v ≡ Some p → IsValue f ctx blocks st v → Ptr p
      pointed_is (value.Pointer p) x h is = subst Ptr (some_same p x h) is
        where
          some_same : (a b : Pointed) → ◌≡◌ {A = Option Pointed} (Some a) (Some b) → a ≡ b
          some_same a b h = cc
      pointed_is (value.Int w) x h is = absurd cc
      pointed_is value.Null x h is = absurd cc

      pub integer_sound : (d : Derived) (w : Whole) → integer_of ctx d ≡ Some w → IsDerived f ctx blocks st d → Int w
      unfolding integer_of
      integer_sound d w h is = let r = some_then (value_of ctx d) whole w h in whole_is r.0 w r.2 (value_sound f ctx blocks st good types
          slots d r.0 r.1 is)

      pub pointer_sound : (d : Derived) (p : Pointed) → pointer_of ctx d ≡ Some p → IsDerived f ctx blocks st d → Ptr p
      unfolding pointer_of
      pointer_sound d p h is = let r = some_then (value_of ctx d) pointed p h in pointed_is r.0 p r.2 (value_sound f ctx blocks st good
          types slots d r.0 r.1 is)

      pub binary_sound : (o : Binary) (x y : Derived) → Sound f st ctx.first (binary ctx o x y) (λ d. IsDerived f ctx blocks st x
          → IsDerived f ctx blocks st y → IsDerived f ctx blocks st d)
      unfolding binary
      binary_sound o x y =
          then_sound f st ctx.first _ _ (λ a. value_of ctx x ≡ Some a) _ (lift_sound f st ctx.first (value_of ctx x) _ (λ a h. h)) (λ a.
          then_sound f st ctx.first _ _ (λ b. value_of ctx y ≡ Some b) _ (lift_sound f st ctx.first (value_of ctx y) _ (λ b h. h)) (λ b.
          weaker f st ctx.first _ _ _ (λ d q hb ha dx dy. q (value_sound f ctx blocks st good types slots x a ha dx)
          (value_sound f ctx blocks st good types slots y b hb dy))
          (values_sound (family_of o) a b (family_is o))))

      not_value : (v : Value) (d : Derived) → not_by v ≡ Some d → IsValue f ctx blocks st v → IsDerived f ctx blocks st d
      not_value (value.Int w) d h is = subst (IsDerived f ctx blocks st) (some_derived _ d h) (negation_safe w.form _ is.1)
      not_value (value.Pointer p) d h is = subst (IsDerived f ctx blocks st) (some_derived _ d h) (negation_safe p.form _ is)
      not_value value.Null d h is = absurd cc

      one_sound : (o : Operator) (x d : Derived) → on_integer ctx o x ≡ Some d → IsDerived f ctx blocks st x → IsDerived f ctx blocks st d
      one_sound o x d h is = let r = some_map (integer_of ctx x) (on_one o) d h in subst (IsDerived f ctx blocks st) r.2
          (on_one_safe o r.0 (integer_sound x r.0 r.1 is))

      pub unary_sound : (o : Unary) (x : Derived) → Sound f st ctx.first (unary ctx o x) (λ d. IsDerived f ctx blocks st x
          → IsDerived f ctx blocks st d)
      unfolding unary
      unary_sound unary_op.Minus x = lift_sound f st ctx.first (minus ctx x) _ (λ d h is.
          let r = some_map (integer_of ctx x) negative d h in subst (IsDerived f ctx blocks st) r.2
          (negative_safe r.0 (integer_sound x r.0 r.1 is)))
      unary_sound unary_op.Complement x = lift_sound f st ctx.first (on_integer ctx operator.Complement x) _
          (λ d h is. one_sound operator.Complement x d h is)
      unary_sound unary_op.Plus x = lift_sound f st ctx.first (on_integer ctx operator.Plus x) _ (λ d h is. one_sound operator.Plus x d h
          is)
      unary_sound unary_op.Not x = lift_sound f st ctx.first (not_of ctx x) _ (λ d h is.
          let r = some_then (value_of ctx x) not_by d h in not_value r.0 d r.2 (value_sound f ctx blocks st good types slots x r.0 r.1 is))
      unary_sound unary_op.Dereference x =
          then_sound f st ctx.first _ _ (λ p. pointer_of ctx x ≡ Some p) _ (lift_sound f st ctx.first (pointer_of ctx x) _ (λ p h. h)) (λ p.
          weaker f st ctx.first _ _ _ (λ d q h is. q (pointer_sound x p h is)) (followed_sound f ctx blocks st good types p))
      unary_sound unary_op.Address x = lift_sound f st ctx.first (address_of ctx x) _ (λ d h is. address_sound f ctx blocks st good types x
          d h is)

      pub cast_sound : (t : TypeName) (x d : Derived) → cast ctx t x ≡ Some d → IsDerived f ctx blocks st x → IsDerived f ctx blocks st d
      unfolding cast integer_type
      cast_sound t x d h is =
          let s = some_then (integer_type t) (λ s. cast_by ctx s x) d h in
          let r = some_map (integer_of ctx x) (cast_to s.0) d s.2 in
          subst (IsDerived f ctx blocks st) r.2 (cast_safe s.0 r.0 (base_integer t.base s.0 (starless_is t.stars (base_scalar t.base) s.0
          s.1)) (integer_sound x r.0 r.1 is))
