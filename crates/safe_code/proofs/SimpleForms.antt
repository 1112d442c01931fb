-- A simple statement has no statement in it, and room for its arguments: a call has one for each parameter, a kernel call at most four.
use Rattle.std.proofs.Common.{◌≡◌, ℕ, ◌+◌, ◌≤◌, nat_le, Bool, true, List, [], ◌∷◌, ◌++◌, length, map, Option, Some, None, ℤ, slice_get, ◌∙◌, arith}
use Rattle.std.proofs.lemmas.Bool.Decides.{nat_tests}
use Rattle.std.proofs.lemmas.List.{length-append, length-map}
use Rattle.c_tree.specs.declared.expressions.Expr.{Expr}
use Rattle.c_tree.specs.declared.statements.Action.{Action}
use Rattle.c_tree.specs.declared.statements.Action.TheVariants as action
use Rattle.c_tree.specs.declared.types.TypeName.{TypeName}
use Rattle.checked_tree.specs.declared.expressions.CheckedExpr.{CheckedExpr}
use Rattle.checked_tree.specs.declared.kernel.KernelName.{KernelName}
use Rattle.checked_tree.specs.declared.kernel.KernelName.TheVariants as kernel
use Rattle.checked_tree.specs.declared.shapes.Bounds.{Bounds}
use Rattle.checked_tree.specs.declared.shapes.Bounds.TheVariants as bounds
use Rattle.checked_tree.specs.declared.shapes.Scalar.{Scalar}
use Rattle.checked_tree.specs.declared.shapes.Scalar.TheVariants.{I32}
use Rattle.checked_tree.specs.declared.shapes.Shape.{Shape}
use Rattle.checked_tree.specs.declared.shapes.Shape.TheVariants as shape
use Rattle.checked_tree.specs.declared.statements.Argument.{Argument}
use Rattle.checked_tree.specs.declared.statements.CheckedStmt.{CheckedStmt}
use Rattle.checked_tree.specs.declared.statements.CheckedStmt.TheVariants as statement
use Rattle.checked_tree.specs.declared.statements.PointerOperand.{PointerOperand}
use Rattle.checked_tree.specs.declared.statements.Target.{Target}
use Rattle.checked_tree.proofs.Equations.{at-Empty, at-Assign, at-AssignAutomatic, at-Store, at-Zero, at-Call, at-Kernel, at-Return}
use Rattle.deputy_rules.specs.declared.derived.Derived.{Derived}
use Rattle.deputy_rules.specs.declared.derived.Derived.TheVariants as derived
use Rattle.deputy_rules.specs.declared.derived.Place.{Place}
use Rattle.deputy_rules.specs.declared.derived.Source.{Source}
use Rattle.deputy_rules.specs.declared.derived.Source.TheVariants as source
use Rattle.deputy_rules.specs.declared.derived.Whole.{Whole}
use Rattle.deputy_rules.specs.declared.handed.Handed.{Handed}
use Rattle.deputy_rules.specs.declared.handed.Passed.{Passed}
use Rattle.deputy_rules.specs.declared.kernel_arguments.KernelArguments.{KernelArguments}
use Rattle.deputy_rules.specs.declared.signature.Returned.{Returned}
use Rattle.deputy_rules.specs.declared.signature.Returned.TheVariants as returned
use Rattle.deputy_rules.specs.declared.signature.Signature.{Signature}
use Rattle.deputy_rules.specs.Assignment.{assign_integer, assign_automatic, assign_annotated, assign_pointer, assign_local, store_counted, store_text, store_integer, store_element, store_byte, store_number, store_pointer, store_member, store_by, store, assign_to, assign}
use Rattle.deputy_rules.specs.Calls.{pass_one, pass_each, passed_argument, call_function, call_numbered, call_named, call_by, call, call_kernel, kernel_argument, kernel_arguments, no_arguments, kalloc, kfree}
use Rattle.deputy_rules.specs.Context.{Context}
use Rattle.deputy_rules.specs.Deriving.{Deriving}
use Rattle.deputy_rules.specs.Statements.{Home, zero_of, zero, return_value, return_from, act}
use Rattle.deputy_types.specs.declared.element.Element.{Element}
use Rattle.deputy_types.specs.declared.element.Element.TheVariants as element
use Rattle.checked_tree.specs.declared.kernel_table.ParameterKind.{ParameterKind}
use Rattle.checked_tree.specs.declared.kernel_table.ParameterKind.TheVariants as argument
use Rattle.checked_tree.specs.KernelTable.{kernel_row}
use Rattle.safe_code.specs.Runnable.{nest_level, nest, roomy_level, is_roomy}
use Rattle.safe_code.proofs.Always.{Always, then_always, behind, pure_always, none_always, lift_always}

-- a statement with no statement in it, and with room for its arguments
pub record IsSimple (c : CheckedStmt) : Type 0 where
  pub nest : nest c ≡ 0
  pub room : is_roomy c ≡ true

one_more : {A : Type 0} (xs : List A) (x : A) → length (xs ++ x ∷ []) ≤ length xs + 1
one_more xs x = let more = length-append xs (x ∷ []) in omega arith

-- a kernel call has at most four arguments
few_arguments : (k : KernelName) → length (kernel_row k).parameters ≤ 4
unfolding kernel_row
few_arguments kernel.Printd = omega arith
few_arguments kernel.Prints = omega arith
few_arguments kernel.Kalloc = omega arith
few_arguments kernel.Kfree = omega arith
few_arguments kernel.RequestLine = omega arith
few_arguments kernel.FreeLine = omega arith
few_arguments kernel.RequestPorts = omega arith
few_arguments kernel.ReleasePorts = omega arith
few_arguments kernel.PortIn = omega arith
few_arguments kernel.PortOut = omega arith
few_arguments kernel.AddDevice = omega arith
few_arguments kernel.DelDevice = omega arith
few_arguments kernel.SetParam = omega arith
few_arguments kernel.ClearParam = omega arith
few_arguments kernel.GetParam = omega arith
few_arguments kernel.SetTimer = omega arith
few_arguments kernel.DelTimer = omega arith
few_arguments kernel.Now = omega arith
few_arguments kernel.Lock = omega arith
few_arguments kernel.Unlock = omega arith
few_arguments kernel.Mask = omega arith
few_arguments kernel.Unmask = omega arith
few_arguments kernel.Hold = omega arith
few_arguments kernel.DropHold = omega arith
few_arguments kernel.QueueWork = omega arith

-- ---- the forms
empty_simple : (line : ℕ) → IsSimple (statement.Empty line)
unfolding nest is_roomy
empty_simple line = record { nest = at-Empty ℕ nest_level line; room = at-Empty Bool roomy_level line }

assign_simple : (line slot : ℕ) (scalar : Scalar) (value : CheckedExpr) (checks : List ℕ)
    → IsSimple (statement.Assign line slot scalar value checks)
unfolding nest is_roomy
assign_simple line slot scalar value checks =
    record { nest = at-Assign ℕ nest_level line slot scalar value checks; room = at-Assign Bool roomy_level line slot scalar value checks }

automatic_simple : (line slot hidden : ℕ) (value : PointerOperand) (checks : List ℕ)
    → IsSimple (statement.AssignAutomatic line slot hidden value checks)
unfolding nest is_roomy
automatic_simple line slot hidden value checks =
    record {
      nest = at-AssignAutomatic ℕ nest_level line slot hidden value checks;
      room =
          at-AssignAutomatic Bool roomy_level line slot hidden value checks;
    }

store_simple : (line : ℕ) (scalar : Scalar) (place value : CheckedExpr) (checks : List ℕ)
    → IsSimple (statement.Store line scalar place value checks)
unfolding nest is_roomy
store_simple line scalar place value checks =
    record { nest = at-Store ℕ nest_level line scalar place value checks; room = at-Store Bool roomy_level line scalar place value checks }

zero_simple : (line : ℕ) (place : CheckedExpr) (size : ℕ) → IsSimple (statement.Zero line place size)
unfolding nest is_roomy
zero_simple line place size = record { nest = at-Zero ℕ nest_level line place size; room = at-Zero Bool roomy_level line place size }

return_simple : (line : ℕ) (value : Option Argument) (checks : List ℕ) → IsSimple (statement.Return line value checks)
unfolding nest is_roomy
return_simple line value checks =
    record { nest = at-Return ℕ nest_level line value checks; room = at-Return Bool roomy_level line value checks }

within : (n : ℕ) → n ≤ 128 → nat_le n 128 ≡ true
within n h = grind (arith, nat_tests)

call_simple : (line : ℕ) (target : Option Target) (function : ℕ) (values : List Argument) (checks : List ℕ) → length values ≤ 128
    → IsSimple (statement.Call line target function values checks)
unfolding nest is_roomy
call_simple line target function values checks few = record {
  nest = at-Call ℕ nest_level line target function values checks;
  room = at-Call Bool roomy_level line target function values checks ∙ within (length values) few;
}

kernel_simple : (line : ℕ) (target : Option Target) (name : KernelName) (values : List Argument) (pointer : Option PointerOperand)
    (function elem size : ℕ) → length values ≤ 128
    → IsSimple (statement.Kernel line target name values pointer function elem size)
unfolding nest is_roomy
kernel_simple line target name values pointer function elem size few = record {
  nest = at-Kernel ℕ nest_level line target name values pointer function elem size;
  room = at-Kernel Bool roomy_level line target name values pointer function elem size ∙ within (length values) few;
}

abbrev Simply : Deriving CheckedStmt → Type 0
Simply p = Always p IsSimple

-- ---- assignments
module _ (ctx : Context) where
  integer_assigned : (slot : ℕ) (s : Scalar) (w : Whole) → Simply (assign_integer ctx slot s w)
  unfolding assign_integer
  integer_assigned slot s w = behind _ _ IsSimple (λ ids. pure_always _ IsSimple (assign_simple ctx.line slot s w.form ids))

  automatic_assigned : (slot : ℕ) (h : Handed) → Simply (assign_automatic ctx slot h)
  unfolding assign_automatic
  automatic_assigned slot h =
      behind _ _ IsSimple (λ hidden. behind _ _ IsSimple (λ ids. pure_always _ IsSimple (automatic_simple ctx.line slot hidden _ ids)))

  annotated_assigned : (slot : ℕ) (key : Element) (b : Bounds) (h : Handed) → Simply (assign_annotated ctx slot key b h)
  unfolding assign_annotated
  annotated_assigned slot key b h =
      behind _ _ IsSimple (λ ids. behind _ _ IsSimple (λ more. pure_always _ IsSimple (assign_simple ctx.line slot _ h.form _)))

  pointer_assigned : (slot : ℕ) (key : Element) (b : Bounds) (x : Derived) → Simply (assign_pointer ctx slot key b x)
  unfolding assign_pointer
  pointer_assigned slot key bounds.Hidden x = behind _ _ IsSimple (automatic_assigned slot)
  pointer_assigned slot key bounds.Nullterm x = behind _ _ IsSimple (annotated_assigned slot key bounds.Nullterm)
  pointer_assigned slot key (bounds.Within lo hi) x = behind _ _ IsSimple (annotated_assigned slot key (bounds.Within lo hi))

  local_assigned : (slot : ℕ) (x : Derived) (s : Shape) → Simply (assign_local ctx slot x s)
  unfolding assign_local
  local_assigned slot x (shape.Int s) = behind _ _ IsSimple (integer_assigned slot s)
  local_assigned slot x (shape.Pointer elem b) = behind _ _ IsSimple (λ key. pointer_assigned slot key b x)
  local_assigned slot x (shape.Struct k) = none_always IsSimple
  local_assigned slot x shape.Address = none_always IsSimple

  counted_stored : (p : Place) (x : Derived) (n : ℕ) (count : ℤ) → Simply (store_counted ctx p x n count)
  unfolding store_counted
  counted_stored p x n count =
      behind _ _ IsSimple (λ key. behind _ _ IsSimple
      (λ h. behind _ _ IsSimple (λ ids. pure_always _ IsSimple (store_simple ctx.line _ p.form h.form ids))))

  text_stored : (p : Place) (x : Derived) (n : ℕ) → Simply (store_text ctx p x n)
  unfolding store_text
  text_stored p x n = behind _ _ IsSimple
      (λ key. behind _ _ IsSimple (λ h. pure_always _ IsSimple (store_simple ctx.line _ p.form h.form [])))

  integer_stored : (p : Place) (x : Derived) (s : Scalar) → Simply (store_integer ctx p x s)
  unfolding store_integer
  integer_stored p x s = behind _ _ IsSimple (λ w. pure_always _ IsSimple (store_simple ctx.line s p.form w.form []))

  element_stored : (p : Place) (x : Derived) (key : Element) → Simply (store_element ctx p x key)
  unfolding store_element
  element_stored p x (element.Int s) = integer_stored p x s
  element_stored p x (element.Struct k) = none_always IsSimple
  element_stored p x (element.Sentinel n) = counted_stored p x n _
  element_stored p x (element.Nullterm n) = text_stored p x n
  element_stored p x (element.Count n count) = counted_stored p x n count

  byte_stored : (p : Place) (w : Whole) → Simply (store_byte ctx p w)
  unfolding store_byte
  byte_stored p w = behind _ _ IsSimple (λ id. pure_always _ IsSimple (store_simple ctx.line _ p.form w.form _))

  number_stored : (p : Place) (s m offset : ℕ) (scalar : Scalar) (w : Whole) → Simply (store_number ctx p s m offset scalar w)
  unfolding store_number
  number_stored p s m offset scalar w =
      behind _ _ IsSimple (λ ids. behind _ _ IsSimple (λ more. pure_always _ IsSimple (store_simple ctx.line scalar p.form w.form _)))

  pointer_stored : (p : Place) (s m : ℕ) (key : Element) (b : Bounds) (h : Handed) → Simply (store_pointer ctx p s m key b h)
  unfolding store_pointer
  pointer_stored p s m key b h =
      behind _ _ IsSimple (λ ids. behind _ _ IsSimple (λ more. pure_always _ IsSimple (store_simple ctx.line _ p.form h.form _)))

  member_stored : (p : Place) (x : Derived) (s m offset : ℕ) (y : Shape) → Simply (store_member ctx p x s m offset y)
  unfolding store_member
  member_stored p x s m offset (shape.Int scalar) = behind _ _ IsSimple (number_stored p s m offset scalar)
  member_stored p x s m offset (shape.Pointer elem b) = behind _ _ IsSimple (λ key. behind _ _ IsSimple (pointer_stored p s m key b))
  member_stored p x s m offset (shape.Struct k) = none_always IsSimple
  member_stored p x s m offset shape.Address = none_always IsSimple

  stored : (p : Place) (x : Derived) (y : Source) → Simply (store_by ctx p x y)
  stored p x (source.Element key) = element_stored p x key
  stored p x source.Text = behind _ _ IsSimple (byte_stored p)
  stored p x (source.Member s m) = behind _ _ IsSimple (λ y. member_stored p x s m y.offset y.shape)

  assigned_to : (x y : Derived) → Simply (assign_to ctx x y)
  unfolding assign_to store
  assigned_to x (derived.Local slot) = behind _ _ IsSimple (local_assigned slot x)
  assigned_to x (derived.Place p) = stored p x p.source
  assigned_to x (derived.Value v) = none_always IsSimple
  assigned_to x (derived.Array a) = none_always IsSimple
  assigned_to x (derived.Union u) = none_always IsSimple

  assigned : (l e : Expr) → Simply (assign ctx l e)
  unfolding assign
  assigned l e = behind _ _ IsSimple (λ x. behind _ _ IsSimple (λ y. assigned_to x y))

  -- ---- `zero` and `return`
  zeroed : (d : Derived) → Simply (zero_of ctx d)
  unfolding zero_of
  zeroed (derived.Union p) = behind _ _ IsSimple (λ u. pure_always _ IsSimple (zero_simple ctx.line _ _))
  zeroed (derived.Local slot) = none_always IsSimple
  zeroed (derived.Place p) = none_always IsSimple
  zeroed (derived.Value v) = none_always IsSimple
  zeroed (derived.Array a) = none_always IsSimple

  returned_from : (r : Returned) (e : Option Expr) → Simply (return_from ctx r e)
  unfolding return_from return_value
  returned_from returned.Nothing None = pure_always _ IsSimple (return_simple ctx.line None [])
  returned_from returned.Nothing (Some e) = none_always IsSimple
  returned_from (returned.Value s) None = none_always IsSimple
  returned_from (returned.Value s) (Some e) =
      behind _ _ IsSimple (λ x. behind _ _ IsSimple
      (λ a. behind _ _ IsSimple (λ ids. pure_always _ IsSimple (return_simple ctx.line _ ids))))

  -- ---- calls
  each_passed : (ss : List (Option Shape)) (es : List Expr) (done : List Passed)
      → Always (pass_each ctx ss es done) (λ args. length args ≡ length done + length ss)
  each_passed [] [] done = pure_always done (λ args. length args ≡ length done + 0) (omega arith)
  each_passed [] (e ∷ es) done = none_always (λ args. length args ≡ length done + 0)
  each_passed (s ∷ ss) [] done = none_always (λ args. length args ≡ length done + length (s ∷ ss))
  each_passed (s ∷ ss) (e ∷ es) done =
      behind (pass_one ctx s e) _ (λ args. length args ≡ length done + length (s ∷ ss)) (λ a.
      let more = length-append done (a ∷ []) in
      record { run = λ st args t h. let rest = (each_passed ss es (done ++ a ∷ [])).run st args t h in omega arith })

  function_called : (number : ℕ) (f : Signature) (x : Option (List ℕ)) (es : List Expr) → length f.params ≤ 128
      → Simply (call_function ctx number f x es)
  unfolding call_function
  function_called number f x es few =
      behind _ _ IsSimple (λ t.
      then_always _ _ (λ args. length args ≡ 0 + length f.params) IsSimple (each_passed f.params es []) (λ args count.
      behind _ _ IsSimple (λ ids.
      pure_always _ IsSimple
      (call_simple ctx.line t number (map passed_argument args) ids (let same = length-map args passed_argument in omega arith)))))

  module _ (functions : List Signature) (few : (k : ℕ) (f : Signature) → slice_get functions k ≡ Some f → length f.params ≤ 128) where
    numbered_called : (number : ℕ) (x : Option (List ℕ)) (es : List Expr) → Simply (call_numbered ctx functions number x es)
    unfolding call_numbered
    numbered_called number x es =
        then_always _ _ (λ f. length f.params ≤ 128) IsSimple
        (lift_always (slice_get functions number) (λ f. length f.params ≤ 128) (few number)) (λ f h. function_called number f x es h)

    named_called : (name : List ℕ) (x : Option (List ℕ)) (es : List Expr) → Simply (call_named ctx functions name x es)
    unfolding call_named
    named_called name x es = behind _ _ IsSimple (λ number. numbered_called number x es)

    argument_given : (k : ParameterKind) (e : Expr) (given : KernelArguments)
        → Always (kernel_argument ctx functions k e given) (λ a. length a.numbers ≤ length given.numbers + 1)
    unfolding kernel_argument
    argument_given argument.Number e given =
        behind _ _ _ (λ x. behind _ _ _ (λ w. pure_always _ _ (one_more given.numbers (record { scalar = I32; value = w.form }))))
    argument_given argument.Text e given = behind _ _ _ (λ x. behind _ _ _ (λ h. pure_always _ _ (omega arith)))
    argument_given argument.Handler e given = behind _ _ _ (λ k. pure_always _ _ (omega arith))
    argument_given argument.Element e given = none_always (λ (a : KernelArguments). length a.numbers ≤ length given.numbers + 1)
    argument_given argument.Block e given = none_always (λ (a : KernelArguments). length a.numbers ≤ length given.numbers + 1)

    arguments_given : (ks : List ParameterKind) (es : List Expr) (given : KernelArguments)
        → Always (kernel_arguments ctx functions ks es given) (λ a. length a.numbers ≤ length given.numbers + length ks)
    arguments_given [] [] given = pure_always given (λ a. length a.numbers ≤ length given.numbers + 0) (omega arith)
    arguments_given [] (e ∷ es) given = none_always (λ a. length a.numbers ≤ length given.numbers + 0)
    arguments_given (k ∷ ks) [] given = none_always (λ a. length a.numbers ≤ length given.numbers + length (k ∷ ks))
    arguments_given (k ∷ ks) (e ∷ es) given =
        then_always (kernel_argument ctx functions k e given) _ (λ a. length a.numbers ≤ length given.numbers + 1)
        (λ a. length a.numbers ≤ length given.numbers + length (k ∷ ks)) (argument_given k e given) (λ b h.
        record { run = λ st a t g. let rest = (arguments_given ks es b).run st a t g in omega arith })

    kernel_called : (name : KernelName) (x : Option (List ℕ)) (es : List Expr) → Simply (call_kernel ctx functions name x es)
    unfolding call_kernel
    kernel_called name x es =
        behind _ _ IsSimple (λ t.
        then_always _ _ (λ a. length a.numbers ≤ 0 + length (kernel_row name).parameters) IsSimple
        (arguments_given (kernel_row name).parameters es no_arguments) (λ a h.
        pure_always _ IsSimple
        (kernel_simple ctx.line t name a.numbers a.pointer a.handler 0 0 (let most = few_arguments name in omega arith))))

    by_name : (k : Option KernelName) (name : List ℕ) (x : Option (List ℕ)) (es : List Expr) → Simply (call_by ctx functions k name x es)
    by_name (Some k) name x es = kernel_called k x es
    by_name None name x es = named_called name x es

    called : (x : Option (List ℕ)) (name : List ℕ) (es : List Expr) → Simply (call ctx functions x name es)
    unfolding call
    called x name es = by_name _ name x es

  -- ---- `kalloc` and `kfree`
  allocated : (x : List ℕ) (t : TypeName) (e : Expr) → Simply (kalloc ctx x t e)
  unfolding kalloc
  allocated x t e =
      behind _ _ IsSimple (λ n. behind _ _ IsSimple (λ target. behind _ _ IsSimple (λ a. behind _ _ IsSimple (λ size.
      pure_always _ IsSimple (kernel_simple ctx.line (Some target) kernel.Kalloc (a ∷ []) None 0 n size (omega arith))))))

  freed : (e : Expr) → Simply (kfree ctx e)
  unfolding kfree
  freed e = behind _ _ IsSimple
      (λ d. behind _ _ IsSimple (λ h. pure_always _ IsSimple (kernel_simple ctx.line None kernel.Kfree [] _ 0 0 0 (omega arith))))

  -- each simple statement
  pub acted : (home : Home) → ((k : ℕ) (f : Signature) → slice_get home.functions k ≡ Some f → length f.params ≤ 128) → (a : Action)
      → Simply (act ctx home a)
  unfolding act zero
  acted home few (action.Assign l e) = assigned l e
  acted home few (action.Call x name es) = called home.functions few x name es
  acted home few (action.Kalloc x t e) = allocated x t e
  acted home few (action.Kfree e) = freed e
  acted home few (action.Zero l) = behind _ _ IsSimple (λ d. zeroed d)
  acted home few (action.Return e) = returned_from home.result e
  acted home few action.Empty = pure_always _ IsSimple (empty_simple ctx.line)
