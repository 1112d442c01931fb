-- Calls of functions and of the kernel, `kalloc` and `kfree`, and the local that takes a result.
use Rattle.std.specs.Prelude.{ℕ, Bool, true, false, ◌&&◌, ◌==◌, if◌then◌else◌, List, [], ◌∷◌, ◌++◌, map, Option, Some, None, option_map}
use Rattle.std.specs.Prelude.{position, bytes_eq, slice_get}
use Rattle.std.specs.List.{list_any}
use Rattle.c_tree.specs.declared.expressions.Expr.{Expr}
use Rattle.c_tree.specs.declared.expressions.Expr.TheOpen as X
use Rattle.c_tree.specs.declared.expressions.Expr.TheFolds.{fold-Expr}
use Rattle.c_tree.specs.declared.types.TypeName.{TypeName}
use Rattle.c_tree.specs.Slots.{slot_named, hidden_slot}
use Rattle.checked_tree.specs.declared.kernel.KernelName.{KernelName}
use Rattle.checked_tree.specs.declared.kernel.KernelName.TheVariants as kernel
use Rattle.checked_tree.specs.declared.shapes.Bounds.{Bounds}
use Rattle.checked_tree.specs.declared.shapes.Bounds.TheVariants as bounds
use Rattle.checked_tree.specs.declared.shapes.Scalar.TheVariants.{U8, I32}
use Rattle.checked_tree.specs.declared.shapes.Shape.{Shape}
use Rattle.checked_tree.specs.declared.shapes.Shape.TheVariants as shape
use Rattle.checked_tree.specs.declared.statements.Argument.{Argument}
use Rattle.checked_tree.specs.declared.statements.CheckedStmt.{CheckedStmt}
use Rattle.checked_tree.specs.declared.statements.CheckedStmt.TheVariants as statement
use Rattle.checked_tree.specs.declared.statements.PointerOperand.{PointerOperand}
use Rattle.checked_tree.specs.declared.statements.Target.{Target}
use Rattle.checked_tree.specs.declared.statements.Target.TheVariants as target
use Rattle.checked_tree.specs.declared.sums.Sum.{Sum}
use Rattle.deputy_rules.specs.declared.derived.Derived.{Derived}
use Rattle.deputy_rules.specs.declared.derived.Value.{Value}
use Rattle.deputy_rules.specs.declared.derived.Value.TheVariants as value
use Rattle.deputy_types.specs.declared.element.Element.{Element}
use Rattle.deputy_types.specs.declared.element.Element.TheVariants as element
use Rattle.deputy_rules.specs.declared.handed.Handed.{Handed}
use Rattle.deputy_rules.specs.declared.handed.Passed.{Passed}
use Rattle.deputy_rules.specs.declared.handed.Passed.TheVariants as passed
use Rattle.checked_tree.specs.declared.kernel_table.KernelResult.{KernelResult}
use Rattle.checked_tree.specs.declared.kernel_table.KernelResult.TheVariants as answer
use Rattle.checked_tree.specs.declared.kernel_table.ParameterKind.{ParameterKind}
use Rattle.deputy_rules.specs.declared.kernel_arguments.KernelArguments.{KernelArguments}
use Rattle.checked_tree.specs.declared.kernel_table.ParameterKind.TheVariants.{Number, Text, Handler, Element as NewElement, Block}
use Rattle.deputy_rules.specs.declared.naming.Names.TheVariants as names
use Rattle.deputy_rules.specs.declared.naming.Naming.{Naming}
use Rattle.deputy_rules.specs.declared.signature.Returned.{Returned}
use Rattle.deputy_rules.specs.declared.signature.Returned.TheVariants as returned
use Rattle.deputy_rules.specs.declared.signature.Signature.{Signature}
use Rattle.deputy_rules.specs.Coercion.{converted_side, handed, handed_over, null, coerce_to}
use Rattle.deputy_rules.specs.Context.{Context, slot_shape}
use Rattle.deputy_rules.specs.Expressions.{derive}
use Rattle.deputy_rules.specs.Deriving.{Deriving, ◌>>=◌, pure, none, lift}
use Rattle.checked_tree.specs.KernelTable.{kernel_row, kernel_named}
use Rattle.deputy_rules.specs.Operators.{promoted}
use Rattle.deputy_types.specs.Options.{and_then}
use Rattle.deputy_rules.specs.Pointers.{is_written}
use Rattle.deputy_rules.specs.Sums.{sum_of}
use Rattle.deputy_types.specs.Table.{elem, element_at, shape_names}
use Rattle.deputy_rules.specs.Values.{address, integer_of, is_nullterm, size_of, value_of}

-- the number of a function with a body: the place of the first that has this name
unfoldable pub function_number : List Signature → List ℕ → Option ℕ
function_number functions name = position (bytes_eq name) (map (λ (f : Signature). f.name) functions)

-- a slot that an annotation names
abbrev pub names_slot : ℕ → Option Shape → Bool
names_slot k None = false
names_slot k (Some s) = shape_names k s

unfoldable pub is_named_slot : Context → ℕ → Bool
is_named_slot ctx k = list_any (names_slot k) ctx.slots

-- the slot that takes a result: that of a local or parameter that no annotation names
unfoldable pub free_slot : Context → List ℕ → Option ℕ
free_slot ctx name = and_then (slot_named ctx.locals name) (λ k. if is_named_slot ctx k then None else Some k)

-- an integer local takes an integer
abbrev pub integer_target : ℕ → Option Shape → Option Target
integer_target slot (Some (shape.Int s)) = Some (target.Int slot s)
integer_target slot (Some (shape.Pointer n b)) = None
integer_target slot (Some (shape.Struct k)) = None
integer_target slot (Some shape.Address) = None
integer_target slot None = None

-- an automatic pointer takes a pointer to its element
abbrev pub is_hidden : Bounds → Bool
is_hidden bounds.Hidden = true
is_hidden bounds.Nullterm = false
is_hidden (bounds.Within lo hi) = false

-- an automatic pointer to the element with number n
abbrev pub is_automatic_to : ℕ → Option Shape → Bool
is_automatic_to n (Some (shape.Pointer m b)) = is_hidden b && m == n
is_automatic_to n (Some (shape.Int s)) = false
is_automatic_to n (Some (shape.Struct k)) = false
is_automatic_to n (Some shape.Address) = false
is_automatic_to n None = false

unfoldable pub automatic_target : Context → ℕ → ℕ → Option Target
automatic_target ctx n slot =
    if is_automatic_to n (slot_shape ctx slot) then option_map (λ h. target.Automatic slot h) (hidden_slot ctx.locals slot) else None

-- a nullterm pointer takes a nullterm one
abbrev pub is_nullterm_shape : Option Shape → Bool
is_nullterm_shape (Some (shape.Pointer m b)) = is_nullterm b
is_nullterm_shape (Some (shape.Int s)) = false
is_nullterm_shape (Some (shape.Struct k)) = false
is_nullterm_shape (Some shape.Address) = false
is_nullterm_shape None = false

abbrev pub text_target : ℕ → Option Shape → Option Target
text_target slot s = if is_nullterm_shape s then Some (target.Nullterm slot) else None

-- the slot as the target of a result of this shape
unfoldable pub shape_target : Context → ℕ → Shape → Option Target
shape_target ctx slot (shape.Int s) = integer_target slot (slot_shape ctx slot)
shape_target ctx slot (shape.Pointer n b) = if is_nullterm b then text_target slot (slot_shape ctx slot) else automatic_target ctx n slot
shape_target ctx slot (shape.Struct k) = None
shape_target ctx slot shape.Address = None

-- the local or parameter x that no annotation names, as the target of a result of this shape
abbrev pub value_target : Context → Shape → List ℕ → Option (Option Target)
value_target ctx s x = and_then (free_slot ctx x) (λ slot. option_map (λ t. Some t) (shape_target ctx slot s))

-- `x = ` before a call with this result; the result of a call without it is dropped
unfoldable pub call_target : Context → Option Returned → Option (List ℕ) → Option (Option Target)
call_target ctx result None = Some None
call_target ctx None (Some x) = None
call_target ctx (Some returned.Nothing) (Some x) = None
call_target ctx (Some (returned.Value s)) (Some x) = value_target ctx s x

-- an argument, as a parameter of this shape takes it
unfoldable pub pass : Context → Shape → Derived → Option Passed
pass ctx (shape.Int s) x = option_map (λ w. passed.Int s w.form (converted_side s w)) (integer_of ctx x)
pass ctx (shape.Pointer n b) x = and_then (element_at ctx.table n) (λ key. option_map passed.Pointer (handed ctx key (is_nullterm b) x))
pass ctx (shape.Struct k) x = None
pass ctx shape.Address x = None

-- one argument, where the parameter's type is derived
unfoldable pub pass_one : Context → Option Shape → Expr → Deriving Passed
pass_one ctx s e = derive ctx e >>= λ x. lift (and_then s (λ y. pass ctx y x))

-- the arguments from left to right, one for each parameter, behind those that are there
abbrev pub pass_each : Context → List (Option Shape) → List Expr → List Passed → Deriving (List Passed)
pass_each ctx [] [] done = pure done
pass_each ctx [] (e ∷ es) done = none
pass_each ctx (s ∷ ss) [] done = none
pass_each ctx (s ∷ ss) (e ∷ es) done = pass_one ctx s e >>= λ a. pass_each ctx ss es (done ++ a ∷ [])

-- the value of an argument after its conversion
abbrev pub passed_sum : Passed → Sum
passed_sum (passed.Int s e side) = sum_of side
passed_sum (passed.Pointer h) = h.at

-- the number that is handed over
abbrev pub passed_argument : Passed → Argument
passed_argument (passed.Int s e side) = record { scalar = s; value = e }
passed_argument (passed.Pointer h) = record { scalar = address; value = h.form }

-- the coercion of a pointer that is handed to this type
abbrev pub coerce_shape : Context → Naming → Shape → Handed → Deriving (List ℕ)
coerce_shape ctx n (shape.Pointer m b) h = lift (element_at ctx.table m) >>= λ key. coerce_to ctx n key b h
coerce_shape ctx n (shape.Int s) h = pure []
coerce_shape ctx n (shape.Struct k) h = pure []
coerce_shape ctx n shape.Address h = pure []

-- the coercion of a value that is handed to this type
unfoldable pub coerce_value : Context → Naming → Shape → Passed → Deriving (List ℕ)
coerce_value ctx n s (passed.Int k e side) = pure []
coerce_value ctx n s (passed.Pointer h) = coerce_shape ctx n s h

-- the coercion of an argument to its parameter's type
abbrev pub coerce_passed : Context → Naming → Option Shape → Passed → Deriving (List ℕ)
coerce_passed ctx n None a = pure []
coerce_passed ctx n (Some s) a = coerce_value ctx n s a

-- the coercions to the parameters' types in order
abbrev pub coerce_each : Context → Naming → List (Option Shape) → List Passed → List ℕ → Deriving (List ℕ)
coerce_each ctx n [] args ids = pure ids
coerce_each ctx n (s ∷ ss) [] ids = pure ids
coerce_each ctx n (s ∷ ss) (a ∷ more) ids = coerce_passed ctx n s a >>= λ found. coerce_each ctx n ss more (ids ++ found)

-- each name of a parameter stands for its converted argument
abbrev pub of_arguments : List Passed → Naming
of_arguments args = record { names = names.OfArguments (map passed_sum args); change = None }

-- a call of the function with this number
unfoldable pub call_function : Context → ℕ → Signature → Option (List ℕ) → List Expr → Deriving CheckedStmt
call_function ctx number f x es = lift (call_target ctx f.result x) >>= λ t. pass_each ctx f.params es [] >>= λ args.
    coerce_each ctx (of_arguments args) f.params args [] >>= λ ids. pure (statement.Call ctx.line t number (map passed_argument args) ids)

-- nothing handed over yet
abbrev pub no_arguments : KernelArguments
no_arguments = record { numbers = []; pointer = None; handler = 0 }

-- the name that an expression is, if it is one
abbrev pub plain_name_level : X.Expr-F (Option (List ℕ)) → Option (List ℕ)
plain_name_level (X.Name x) = Some x
plain_name_level (X.Grouped e) = e
plain_name_level _ = None

unfoldable pub plain_name : Expr → Option (List ℕ)
plain_name e = fold-Expr (Option (List ℕ)) plain_name_level e

-- a handler has one parameter `int`, and no result
abbrev pub takes_int : List (Option Shape) → Bool
takes_int (Some (shape.Int I32) ∷ []) = true
takes_int _ = false

abbrev pub is_void : Option Returned → Bool
is_void (Some returned.Nothing) = true
is_void _ = false

abbrev pub is_handler : Signature → Bool
is_handler f = if takes_int f.params then is_void f.result else false

abbrev pub handler_number : ℕ → Option Signature → Option ℕ
handler_number k None = None
handler_number k (Some f) = if is_handler f then Some k else None

-- the number of the function that is named as a handler
unfoldable pub handler : List Signature → Expr → Option ℕ
handler functions e =
    and_then (plain_name e) (λ name. and_then (function_number functions name) (λ k. handler_number k (slice_get functions k)))

-- the key of text
abbrev pub text_key : Element
text_key = element.Int U8

-- the pointer that is handed over
abbrev pub operand : Handed → PointerOperand
operand h = record { value = h.form; low = h.low; high = h.high }

-- one argument of a kernel call, behind those that are there. What `kalloc` and `kfree` take is no argument of a call by name
unfoldable pub kernel_argument : Context → List Signature → ParameterKind → Expr → KernelArguments → Deriving KernelArguments
kernel_argument ctx functions Number e given = derive ctx e >>= λ x. lift (integer_of ctx x) >>= λ w.
    pure (record given { numbers = given.numbers ++ (record { scalar = I32; value = w.form }) ∷ [] })
kernel_argument ctx functions Text e given = derive ctx e >>= λ x. lift (handed ctx text_key true x) >>= λ h.
    pure (record given { pointer = Some (operand h) })
kernel_argument ctx functions Handler e given = lift (handler functions e) >>= λ k. pure (record given { handler = k })
kernel_argument ctx functions NewElement e given = none
kernel_argument ctx functions Block e given = none

-- the arguments from left to right, one for each of the call's kinds
abbrev pub kernel_arguments : Context → List Signature → List ParameterKind → List Expr → KernelArguments → Deriving KernelArguments
kernel_arguments ctx functions [] [] given = pure given
kernel_arguments ctx functions [] (e ∷ es) given = none
kernel_arguments ctx functions (k ∷ ks) [] given = none
kernel_arguments ctx functions (k ∷ ks) (e ∷ es) given = kernel_argument ctx functions k e given >>= kernel_arguments ctx functions ks es

-- what a kernel call gives back; a block is the result of `kalloc` alone
abbrev pub kernel_result : KernelResult → Option Returned
kernel_result answer.Nothing = Some returned.Nothing
kernel_result answer.Number = Some (returned.Value (shape.Int I32))
kernel_result answer.Block = None

-- a kernel call
unfoldable pub call_kernel : Context → List Signature → KernelName → Option (List ℕ) → List Expr → Deriving CheckedStmt
call_kernel ctx functions name x es =
    lift (call_target ctx (kernel_result (kernel_row name).result) x) >>= λ t.
    kernel_arguments ctx functions (kernel_row name).parameters es no_arguments >>= λ a.
    pure (statement.Kernel ctx.line t name a.numbers a.pointer a.handler 0 0)

-- a call of a function with a body
unfoldable pub call_numbered : Context → List Signature → ℕ → Option (List ℕ) → List Expr → Deriving CheckedStmt
call_numbered ctx functions number x es = lift (slice_get functions number) >>= λ f. call_function ctx number f x es

unfoldable pub call_named : Context → List Signature → List ℕ → Option (List ℕ) → List Expr → Deriving CheckedStmt
call_named ctx functions name x es = lift (function_number functions name) >>= λ number. call_numbered ctx functions number x es

-- `f(..)` and `x = f(..)`
abbrev pub call_by : Context → List Signature → Option KernelName → List ℕ → Option (List ℕ) → List Expr → Deriving CheckedStmt
call_by ctx functions (Some k) name x es = call_kernel ctx functions k x es
call_by ctx functions None name x es = call_named ctx functions name x es

unfoldable pub call : Context → List Signature → Option (List ℕ) → List ℕ → List Expr → Deriving CheckedStmt
call ctx functions x name es = call_by ctx functions (kernel_named name) name x es

-- the target of `x = kalloc(T, e)`, where T is the element with this number
abbrev pub kalloc_target : Context → List ℕ → ℕ → Option Target
kalloc_target ctx x n = and_then (free_slot ctx x) (automatic_target ctx n)

-- the number of elements, which is taken as a whole number
unfoldable pub counted : Context → Expr → Deriving Argument
counted ctx e = derive ctx e >>= λ d. lift (integer_of ctx d) >>= λ w. pure (record { scalar = promoted w.scalar; value = w.form })

-- the bytes of the element with number n
abbrev pub elem_bytes : Context → ℕ → Option ℕ
elem_bytes ctx n = option_map (size_of ctx) (element_at ctx.table n)

-- `x = kalloc(T, e)`
unfoldable pub kalloc : Context → List ℕ → TypeName → Expr → Deriving CheckedStmt
kalloc ctx x t e =
    lift (elem ctx.table t) >>= λ n. lift (kalloc_target ctx x n) >>= λ target. counted ctx e >>= λ a. lift (elem_bytes ctx n) >>= λ size.
    pure (statement.Kernel ctx.line (Some target) kernel.Kalloc (a ∷ []) None 0 n size)

-- a pointer that is given back: none that is nullterm
unfoldable pub freed_value : Value → Option Handed
freed_value value.Null = Some null
freed_value (value.Int w) = if is_written 0 w.written then Some null else None
freed_value (value.Pointer p) = if p.nullterm then None else Some (handed_over p)

-- `kfree(e)`
unfoldable pub kfree : Context → Expr → Deriving CheckedStmt
kfree ctx e = derive ctx e >>= λ d. lift (and_then (value_of ctx d) freed_value) >>= λ h.
    pure (statement.Kernel ctx.line None kernel.Kfree [] (Some (operand h)) 0 0 0)
