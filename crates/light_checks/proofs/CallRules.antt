-- Calls: their checks are light.
use Rattle.std.proofs.Common.{◌≡◌, ℕ, zero, suc, true, false, List, [], ◌∷◌, ◌++◌, map, Option, Some, None, option_map, slice_get, unwrap_or, All, refl, sym, ◌∙◌, subst, append-nil, append_assoc, arith}
use Rattle.std.specs.List.{AllZip}
use Rattle.std.proofs.lemmas.Bool.{false≢true}
use Rattle.std.proofs.lemmas.List.Elements.{All-head, All-tail}
use Rattle.c_tree.specs.declared.expressions.Expr.{Expr}
use Rattle.c_tree.specs.declared.types.TypeName.{TypeName}
use Rattle.c_tree.specs.Spelling.{spelled}
use Rattle.checked_tree.specs.declared.kernel.KernelName.{KernelName}
use Rattle.checked_tree.specs.declared.shapes.Shape.{Shape}
use Rattle.checked_tree.specs.declared.shapes.Shape.TheVariants as shape
use Rattle.deputy_rules.specs.declared.derived.Derived.{Derived}
use Rattle.deputy_rules.specs.declared.handed.Handed.{Handed}
use Rattle.deputy_rules.specs.declared.handed.Passed.{Passed}
use Rattle.deputy_rules.specs.declared.handed.Passed.TheVariants as passed
use Rattle.checked_tree.specs.declared.kernel_table.ParameterKind.{ParameterKind}
use Rattle.checked_tree.specs.declared.kernel_table.ParameterKind.TheVariants.{Number, Text, Handler, Element, Block}
use Rattle.deputy_rules.specs.declared.kernel_arguments.KernelArguments.{KernelArguments}
use Rattle.deputy_rules.specs.declared.naming.Naming.{Naming}
use Rattle.deputy_rules.specs.declared.signature.Signature.{Signature}
use Rattle.deputy_rules.specs.Calls.{function_number, call_target, pass, pass_one, pass_each, passed_sum, coerce_shape, coerce_value, coerce_passed, coerce_each, of_arguments, call_function, kernel_result, handler, text_key, kernel_argument, kernel_arguments, no_arguments, call_kernel, call_numbered, call_named, call_by, call, kalloc_target, counted, elem_bytes, kalloc, freed_value, kfree}
use Rattle.deputy_rules.specs.Coercion.{converted_side, handed}
use Rattle.deputy_rules.specs.Context.{Context}
use Rattle.checked_tree.specs.KernelTable.{kernel_row, kernel_named}
use Rattle.deputy_types.specs.Options.{and_then}
use Rattle.deputy_rules.specs.Sums.{sum_of}
use Rattle.deputy_types.specs.Table.{elem, element_at}
use Rattle.deputy_rules.specs.Values.{integer_of, value_of, is_nullterm, nothing, named_sum, name_sum}
use Rattle.deputy_types.proofs.Inversions.{some_then, some_map}
use Rattle.light_checks.specs.Weights.{IsAddress, IsSmallPart, IsSingle, IsDerived, IsHanded}
use Rattle.light_checks.specs.Within.{is_integer, shape_at, IsShape, AreShapes, IsContext}
use Rattle.light_checks.specs.Words.{IsReadable}
use Rattle.light_checks.proofs.Ensuring.{Ensures, Any, then_ensures, pure_ensures, none_ensures, lift_ensures}
use Rattle.light_checks.proofs.Weighing.{single_address}
use Rattle.light_checks.proofs.Annotating.{looked_up, AreNames}
use Rattle.light_checks.proofs.Reading.{integer_is}
use Rattle.light_checks.proofs.CoercionRules.{converted_side_small, handed_is, coerce_to_is}
use Rattle.light_checks.proofs.AssignmentRules.{derive_short}

-- an argument, as a parameter of this shape takes it: an integer, or a pointer where no integer is declared
abbrev pub IsPassed : Option Shape → Passed → Type 0
IsPassed s (passed.Int k e side) = IsSmallPart side
IsPassed s (passed.Pointer h) = IsHanded 1000 h × (is_integer s ≡ false)

abbrev pub ArePassed : List (Option Shape) → List Passed → Type 0
ArePassed params args = AllZip IsPassed params args

passed_push : (params : List (Option Shape)) (args : List Passed) (s : Option Shape) (a : Passed) → ArePassed params args → IsPassed s a → ArePassed (params ++ s ∷ []) (args ++ a ∷ [])
passed_push [] [] s a are is = (is, tt)
passed_push [] (b ∷ args) s a are is = absurd are
passed_push (t ∷ params) [] s a are is = absurd are
passed_push (t ∷ params) (b ∷ args) s a are is = (are.0, passed_push params args s a are.1 is)

-- ---- the names of the parameters stand for the arguments
argument_address : (s : Option Shape) (a : Passed) → IsPassed s a → IsAddress 1000 (passed_sum a)
argument_address s (passed.Int k e side) is = single_address (sum_of side) 1000 is
argument_address s (passed.Pointer h) is = is.0.at

argument_single : (s : Option Shape) (a : Passed) → IsPassed s a → is_integer s ≡ true → IsSingle (passed_sum a)
argument_single s (passed.Int k e side) is t = is
argument_single s (passed.Pointer h) is t = absurd (false≢true (sym is.1 ∙ t))

no_address : IsAddress 1000 nothing
no_address = record { factors = omega arith; constants = omega arith }

addresses : (params : List (Option Shape)) (args : List Passed) → ArePassed params args → (k : ℕ) → IsAddress 1000 (unwrap_or (slice_get (map passed_sum args) k) nothing)
addresses [] [] are k = no_address
addresses [] (a ∷ args) are k = absurd are
addresses (s ∷ params) [] are k = absurd are
addresses (s ∷ params) (a ∷ args) are zero = argument_address s a are.0
addresses (s ∷ params) (a ∷ args) are (suc k) = addresses params args are.1 k

singles : (params : List (Option Shape)) (args : List Passed) → ArePassed params args → (k : ℕ) → is_integer (shape_at params k) ≡ true
    → IsSingle (unwrap_or (slice_get (map passed_sum args) k) nothing)
singles [] [] are k t = tt
singles [] (a ∷ args) are k t = absurd are
singles (s ∷ params) [] are k t = absurd are
singles (s ∷ params) (a ∷ args) are zero t = argument_single s a are.0 t
singles (s ∷ params) (a ∷ args) are (suc k) t = singles params args are.1 k t

argument_names : (ctx : Context) (params : List (Option Shape)) (args : List Passed) → ArePassed params args → AreNames ctx 1000 params (of_arguments args)
unfolding name_sum named_sum
argument_names ctx params args are = record { each = addresses params args are; integers = singles params args are }

module _ (ctx : Context) (is : IsContext ctx) where
  -- ---- arguments
  pub pass_is : (s : Shape) (x : Derived) (a : Passed) → IsDerived 1000 x → pass ctx s x ≡ Some a → IsPassed (Some s) a
  unfolding pass
  pass_is (shape.Int s) x a k found =
      let r = some_map (integer_of ctx x) (λ w. passed.Int s w.form (converted_side s w)) a found in
      subst (IsPassed (Some (shape.Int s))) r.2 (converted_side_small s r.0 (integer_is ctx is 1000 x r.0 k r.1))
  pass_is (shape.Pointer n b) x a k found =
      let r = some_then (element_at ctx.table n) (λ key. option_map passed.Pointer (handed ctx key (is_nullterm b) x)) a found in
      let m = some_map (handed ctx r.0 (is_nullterm b) x) passed.Pointer a r.2 in
      subst (IsPassed (Some (shape.Pointer n b))) m.2 (handed_is ctx is 1000 (omega arith) r.0 (is_nullterm b) x m.0 k m.1, refl)
  pass_is (shape.Struct j) x a k found = absurd cc
  pass_is shape.Address x a k found = absurd cc

  pass_optional : (s : Option Shape) (x : Derived) (a : Passed) → IsDerived 1000 x → and_then s (λ y. pass ctx y x) ≡ Some a → IsPassed s a
  pass_optional None x a k found = absurd cc
  pass_optional (Some s) x a k found = pass_is s x a k found

  pass_one_is : (s : Option Shape) (e : Expr) → IsReadable (spelled e) → Ensures (pass_one ctx s e) (IsPassed s)
  unfolding pass_one
  pass_one_is s e r =
      then_ensures _ _ (IsDerived 1000) (IsPassed s) (derive_short ctx is e r) (λ x k. lift_ensures (and_then s (λ y. pass ctx y x)) (IsPassed s) (λ a found. pass_optional s x a k found))

  abbrev AreReadable : List Expr → Type 0
  AreReadable es = All (λ e. IsReadable (spelled e)) es

  pass_each_is : (ss : List (Option Shape)) (es : List Expr) (before : List (Option Shape)) (done : List Passed) → AreReadable es → ArePassed before done
      → Ensures (pass_each ctx ss es done) (ArePassed (before ++ ss))
  pass_each_is [] [] before done r are = pure_ensures _ (ArePassed (before ++ [])) (subst (λ ps. ArePassed ps done) (sym (append-nil before)) are)
  pass_each_is [] (e ∷ es) before done r are = none_ensures (ArePassed (before ++ []))
  pass_each_is (s ∷ ss) [] before done r are = none_ensures (ArePassed (before ++ s ∷ ss))
  pass_each_is (s ∷ ss) (e ∷ es) before done r are =
      then_ensures _ _ (IsPassed s) (ArePassed (before ++ s ∷ ss)) (pass_one_is s e (All-head (λ e. IsReadable (spelled e)) e es r))
      (λ a k. subst (λ ps. Ensures (pass_each ctx ss es (done ++ a ∷ [])) (ArePassed ps)) (append_assoc before (s ∷ []) ss)
      (pass_each_is ss es (before ++ s ∷ []) (done ++ a ∷ []) (All-tail (λ e. IsReadable (spelled e)) e es r) (passed_push before done s a are k)))

  -- ---- coercions
  shape_coerced : (shapes : List (Option Shape)) (naming : Naming) (s : Shape) (h : Handed) → AreNames ctx 1000 shapes naming → IsShape shapes (Some s) → IsHanded 1000 h
      → Ensures (coerce_shape ctx naming s h) Any
  shape_coerced shapes naming (shape.Pointer m b) h are bound k =
      then_ensures _ _ Any Any (lift_ensures (element_at ctx.table m) Any (λ key found. tt)) (λ key any. coerce_to_is ctx is 1000 (omega arith) shapes naming key b h are bound k)
  shape_coerced shapes naming (shape.Int s) h are bound k = pure_ensures _ Any tt
  shape_coerced shapes naming (shape.Struct j) h are bound k = pure_ensures _ Any tt
  shape_coerced shapes naming shape.Address h are bound k = pure_ensures _ Any tt

  pub value_coerced : (shapes : List (Option Shape)) (naming : Naming) (s : Shape) (a : Passed) → AreNames ctx 1000 shapes naming → IsShape shapes (Some s) → IsPassed (Some s) a
      → Ensures (coerce_value ctx naming s a) Any
  unfolding coerce_value
  value_coerced shapes naming s (passed.Int k e side) are bound is = pure_ensures _ Any tt
  value_coerced shapes naming s (passed.Pointer h) are bound is = shape_coerced shapes naming s h are bound is.0

  passed_coerced : (shapes : List (Option Shape)) (naming : Naming) (s : Option Shape) (a : Passed) → AreNames ctx 1000 shapes naming → IsShape shapes s → IsPassed s a
      → Ensures (coerce_passed ctx naming s a) Any
  passed_coerced shapes naming None a are bound is = pure_ensures _ Any tt
  passed_coerced shapes naming (Some s) a are bound is = value_coerced shapes naming s a are bound is

  each_coerced : (shapes : List (Option Shape)) (naming : Naming) (ss : List (Option Shape)) (args : List Passed) (ids : List ℕ) → AreNames ctx 1000 shapes naming
      → All (IsShape shapes) ss → ArePassed ss args → Ensures (coerce_each ctx naming ss args ids) Any
  each_coerced shapes naming [] args ids are all zip = pure_ensures _ Any tt
  each_coerced shapes naming (s ∷ ss) [] ids are all zip = pure_ensures _ Any tt
  each_coerced shapes naming (s ∷ ss) (a ∷ more) ids are all zip =
      then_ensures _ _ Any Any (passed_coerced shapes naming s a are (All-head (IsShape shapes) s ss all) zip.0)
      (λ found any. each_coerced shapes naming ss more (ids ++ found) are (All-tail (IsShape shapes) s ss all) zip.1)

  -- ---- calls of functions
  function_is : (number : ℕ) (f : Signature) (x : Option (List ℕ)) (es : List Expr) → AreShapes f.params → AreReadable es → Ensures (call_function ctx number f x es) Any
  unfolding call_function
  function_is number f x es shapes r =
      then_ensures _ _ Any Any (lift_ensures (call_target ctx f.result x) Any (λ t found. tt))
      (λ t any. then_ensures _ _ (ArePassed f.params) Any (pass_each_is f.params es [] [] r tt)
      (λ args are. then_ensures _ _ Any Any (each_coerced f.params (of_arguments args) f.params args [] (argument_names ctx f.params args are) shapes are) (λ ids any. pure_ensures _ Any tt)))

  -- ---- calls of the kernel
  kernel_argument_is : (functions : List Signature) (k : ParameterKind) (e : Expr) (before : KernelArguments) → IsReadable (spelled e) → Ensures (kernel_argument ctx functions k e before) Any
  unfolding kernel_argument
  kernel_argument_is functions Number e before r =
      then_ensures _ _ (IsDerived 1000) Any (derive_short ctx is e r)
      (λ x k. then_ensures _ _ Any Any (lift_ensures (integer_of ctx x) Any (λ w found. tt)) (λ w any. pure_ensures _ Any tt))
  kernel_argument_is functions Text e before r =
      then_ensures _ _ (IsDerived 1000) Any (derive_short ctx is e r)
      (λ x k. then_ensures _ _ Any Any (lift_ensures (handed ctx text_key true x) Any (λ h found. tt)) (λ h any. pure_ensures _ Any tt))
  kernel_argument_is functions Handler e before r = then_ensures _ _ Any Any (lift_ensures (handler functions e) Any (λ k found. tt)) (λ k any. pure_ensures _ Any tt)
  kernel_argument_is functions Element e before r = none_ensures Any
  kernel_argument_is functions Block e before r = none_ensures Any

  kernel_arguments_are : (functions : List Signature) (ks : List ParameterKind) (es : List Expr) (before : KernelArguments) → AreReadable es
      → Ensures (kernel_arguments ctx functions ks es before) Any
  kernel_arguments_are functions [] [] before r = pure_ensures _ Any tt
  kernel_arguments_are functions [] (e ∷ es) before r = none_ensures Any
  kernel_arguments_are functions (k ∷ ks) [] before r = none_ensures Any
  kernel_arguments_are functions (k ∷ ks) (e ∷ es) before r =
      then_ensures _ _ Any Any (kernel_argument_is functions k e before (All-head (λ e. IsReadable (spelled e)) e es r))
      (λ next any. kernel_arguments_are functions ks es next (All-tail (λ e. IsReadable (spelled e)) e es r))

  kernel_is : (functions : List Signature) (name : KernelName) (x : Option (List ℕ)) (es : List Expr) → AreReadable es → Ensures (call_kernel ctx functions name x es) Any
  unfolding call_kernel
  kernel_is functions name x es r =
      then_ensures _ _ Any Any (lift_ensures (call_target ctx (kernel_result (kernel_row name).result) x) Any (λ t found. tt))
      (λ t any. then_ensures _ _ Any Any (kernel_arguments_are functions (kernel_row name).parameters es no_arguments r) (λ a any. pure_ensures _ Any tt))

  -- ---- calls
  named_call : (functions : List Signature) (name : List ℕ) (x : Option (List ℕ)) (es : List Expr) → All (λ (f : Signature). AreShapes f.params) functions → AreReadable es
      → Ensures (call_named ctx functions name x es) Any
  unfolding call_named call_numbered
  named_call functions name x es all r =
      then_ensures _ _ Any Any (lift_ensures (function_number functions name) Any (λ k found. tt))
      (λ k any. then_ensures _ _ (λ (f : Signature). AreShapes f.params) Any
      (lift_ensures (slice_get functions k) _ (λ f found. looked_up (λ (f : Signature). AreShapes f.params) functions k f all found))
      (λ f shapes. function_is k f x es shapes r))

  call_by_is : (functions : List Signature) (o : Option KernelName) (name : List ℕ) (x : Option (List ℕ)) (es : List Expr) → All (λ (f : Signature). AreShapes f.params) functions
      → AreReadable es → Ensures (call_by ctx functions o name x es) Any
  call_by_is functions (Some k) name x es all r = kernel_is functions k x es r
  call_by_is functions None name x es all r = named_call functions name x es all r

  pub call_is : (functions : List Signature) (x : Option (List ℕ)) (name : List ℕ) (es : List Expr) → All (λ (f : Signature). AreShapes f.params) functions → AreReadable es
      → Ensures (call ctx functions x name es) Any
  unfolding call
  call_is functions x name es all r = call_by_is functions (kernel_named name) name x es all r

  -- ---- memory
  counted_is : (e : Expr) → IsReadable (spelled e) → Ensures (counted ctx e) Any
  unfolding counted
  counted_is e r =
      then_ensures _ _ (IsDerived 1000) Any (derive_short ctx is e r)
      (λ x k. then_ensures _ _ Any Any (lift_ensures (integer_of ctx x) Any (λ w found. tt)) (λ w any. pure_ensures _ Any tt))

  pub kalloc_is : (x : List ℕ) (t : TypeName) (e : Expr) → IsReadable (spelled e) → Ensures (kalloc ctx x t e) Any
  unfolding kalloc
  kalloc_is x t e r =
      then_ensures _ _ Any Any (lift_ensures (elem ctx.table t) Any (λ n found. tt))
      (λ n any. then_ensures _ _ Any Any (lift_ensures (kalloc_target ctx x n) Any (λ k found. tt))
      (λ k any. then_ensures _ _ Any Any (counted_is e r)
      (λ a any. then_ensures _ _ Any Any (lift_ensures (elem_bytes ctx n) Any (λ m found. tt)) (λ m any. pure_ensures _ Any tt))))

  pub kfree_is : (e : Expr) → IsReadable (spelled e) → Ensures (kfree ctx e) Any
  unfolding kfree
  kfree_is e r =
      then_ensures _ _ (IsDerived 1000) Any (derive_short ctx is e r)
      (λ d k. then_ensures _ _ Any Any (lift_ensures (and_then (value_of ctx d) freed_value) Any (λ h found. tt)) (λ h any. pure_ensures _ Any tt))
