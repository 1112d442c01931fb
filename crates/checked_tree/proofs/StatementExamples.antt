-- Each form of a statement, computed: what it does to its frame, and its turn.
use Rattle.std.specs.Prelude.{◌≡◌, ℕ, List, false, true, [], ◌∷◌, ◌++◌, replicate, ℤ, pos, negsuc, Ok, Err, Some, None, refl}
use Rattle.sd_base.specs.declared.kinds.CheckKind.TheVariants as kind
use Rattle.sd_base.specs.declared.kinds.FailKind.TheVariants as fail
use Rattle.checked_tree.specs.declared.stops.Stop.TheVariants.{Failed, Wild}
use Rattle.checked_tree.specs.declared.shapes.Scalar.TheVariants.{U8, I8, I32, Pointer}
use Rattle.checked_tree.specs.declared.kernel.KernelName.TheVariants as kernel
use Rattle.checked_tree.specs.declared.sums.Part.TheVariants.{Atom}
use Rattle.checked_tree.specs.declared.sums.Sum.{Sum}
use Rattle.checked_tree.specs.declared.expressions.CheckedExpr.{CheckedExpr}
use Rattle.checked_tree.specs.declared.expressions.CheckedExpr.TheVariants as V
use Rattle.checked_tree.specs.declared.expressions.PointerSum.TheVariants.{PointerPlus, PointerMinus}
use Rattle.checked_tree.specs.declared.statements.PointerOperand.{PointerOperand}
use Rattle.checked_tree.specs.declared.statements.CheckedStmt.{CheckedStmt}
use Rattle.checked_tree.specs.declared.statements.CheckedStmt.TheOpen as S
use Rattle.checked_tree.specs.Outcome.{Outcome}
use Rattle.checked_tree.specs.Numbers.{converted, unary, arithmetic, comparison}
use Rattle.byte_memory.specs.Bytes.{little_endian, low_bytes, bytes_at, overwritten, zeros}
use Rattle.checked_tree.specs.Memory.{reached, read, written, load, store, cleared}
use Rattle.checked_tree.specs.Conditions.{peek, form_value, condition}
use Rattle.checked_tree.specs.Eval.{tests, eval}
use Rattle.checked_tree.specs.Operands.{null, operand, sum_value, bounded, taken, argument, arguments, optional_operand, optional_argument}
use Rattle.checked_tree.specs.Act.{On, Into, Calls, Asks, Returns, Acted, act}
use Rattle.checked_tree.proofs.Equations.{at_forms}
use Rattle.checked_tree.proofs.Sample.{state, memory, f, number}

-- what a statement does where the integer is n and the pointer p
abbrev does : ℤ → ℤ → S.CheckedStmt-F CheckedStmt → Outcome Acted
does n p st = act [] f (state n p) st

-- control goes on with these locals
abbrev goes_on_with : List ℤ → Outcome Acted
goes_on_with locals = Ok (record { state = record { locals = locals; memory = memory }; turn = On })

-- control goes on with the third integer of the block written so
abbrev goes_on_writing : List ℕ → Outcome Acted
goes_on_writing bytes = Ok (record {
  state = record {
    locals = pos 5 ∷ pos 24 ∷ pos 16 ∷ pos 28 ∷ [];
    memory = record memory { bytes = replicate 16 0 ++ (1 ∷ 0 ∷ 0 ∷ 0 ∷ 254 ∷ 255 ∷ 255 ∷ 255 ∷ []) ++ (bytes ++ (9 ∷ [])) };
  };
  turn = On;
})

-- `*p`, checked, and unchecked
abbrev checked_place : CheckedExpr
checked_place = V.Through (V.Local 1) (1 ∷ (2 ∷ []))

abbrev place : CheckedExpr
place = V.Through (V.Local 1) []

-- the sum that a local alone is
abbrev of_slot : ℕ → Sum
of_slot slot = record { parts = Atom (pos 1) (V.Local slot) ∷ [] }

-- the pointer, with its hidden bounds
abbrev bounded_pointer : CheckedExpr → PointerOperand
bounded_pointer e = record { value = e; low = of_slot 2; high = of_slot 3 }

-- `;` goes on
empty : does (pos 5) (pos 24) (S.Empty 3) ≡ goes_on_with (pos 5 ∷ pos 24 ∷ pos 16 ∷ pos 28 ∷ [])
unfolding act operand sum_value bounded taken argument arguments optional_operand optional_argument eval tests condition form_value peek store cleared written load reached read overwritten bytes_at little_endian low_bytes zeros converted unary arithmetic comparison
empty = refl

-- `n = 300` into a slot of one byte is converted
assign : does (pos 5) (pos 24) (S.Assign 3 0 U8 (number (pos 300)) []) ≡ goes_on_with (pos 44 ∷ pos 24 ∷ pos 16 ∷ pos 28 ∷ [])
unfolding act operand sum_value bounded taken argument arguments optional_operand optional_argument eval tests condition form_value peek store cleared written load reached read overwritten bytes_at little_endian low_bytes zeros converted unary arithmetic comparison
assign = simp at_forms

-- its own checks come after the value
assign_fails : does (pos 0) (pos 24) (S.Assign 3 0 I32 (number (pos 1)) (3 ∷ [])) ≡ Err (Failed 7 (fail.Check kind.Div))
unfolding act operand sum_value bounded taken argument arguments optional_operand optional_argument eval tests condition form_value peek store cleared written load reached read overwritten bytes_at little_endian low_bytes zeros converted unary arithmetic comparison
assign_fails = simp at_forms

-- a pointer local takes an address
assign_pointer : does (pos 5) (pos 24) (S.Assign 3 1 (Pointer 0) (V.AddressOf (V.Block 16)) []) ≡ goes_on_with (pos 5 ∷ pos 16 ∷ pos 16 ∷ pos 28 ∷ [])
unfolding act operand sum_value bounded taken argument arguments optional_operand optional_argument eval tests condition form_value peek store cleared written load reached read overwritten bytes_at little_endian low_bytes zeros converted unary arithmetic comparison
assign_pointer = simp at_forms

-- and nothing else
assign_no_address : does (pos 5) (pos 24) (S.Assign 3 1 (Pointer 0) (V.Moved PointerMinus (V.Null) (V.Local 0) 4 []) []) ≡ Err Wild
unfolding act operand sum_value bounded taken argument arguments optional_operand optional_argument eval tests condition form_value peek store cleared written load reached read overwritten bytes_at little_endian low_bytes zeros converted unary arithmetic comparison
assign_no_address = simp at_forms

-- an automatic local takes the bounds with the pointer
assign_automatic : does (pos 1) (pos 16) (S.AssignAutomatic 3 1 2 (record { value = V.Moved PointerPlus (V.Local 1) (V.Local 0) 4 []; low = of_slot 1; high = of_slot 3 }) []) ≡ goes_on_with (pos 1 ∷ pos 20 ∷ pos 16 ∷ pos 28 ∷ [])
unfolding act operand sum_value bounded taken argument arguments optional_operand optional_argument eval tests condition form_value peek store cleared written load reached read overwritten bytes_at little_endian low_bytes zeros converted unary arithmetic comparison
assign_automatic = simp at_forms

-- its checks come before it takes the pointer
assign_automatic_fails : does (pos 0) (pos 16) (S.AssignAutomatic 3 1 2 (bounded_pointer (V.Local 1)) (3 ∷ [])) ≡ Err (Failed 7 (fail.Check kind.Div))
unfolding act operand sum_value bounded taken argument arguments optional_operand optional_argument eval tests condition form_value peek store cleared written load reached read overwritten bytes_at little_endian low_bytes zeros converted unary arithmetic comparison
assign_automatic_fails = simp at_forms

-- the null pointer has the bounds 0 and 0
assign_null : does (pos 1) (pos 16) (S.AssignAutomatic 3 1 2 (bounded_pointer V.Null) []) ≡ goes_on_with (pos 1 ∷ pos 0 ∷ pos 0 ∷ pos 0 ∷ [])
unfolding act operand sum_value bounded taken argument arguments optional_operand optional_argument eval tests condition form_value peek store cleared written load reached read overwritten bytes_at little_endian low_bytes zeros converted unary arithmetic comparison
assign_null = simp at_forms

-- a bound that is no address has no meaning
assign_wild_bound : does (negsuc 0) (pos 16) (S.AssignAutomatic 3 1 2 (record { value = V.Local 1; low = of_slot 0; high = of_slot 3 }) []) ≡ Err Wild
unfolding act operand sum_value bounded taken argument arguments optional_operand optional_argument eval tests condition form_value peek store cleared written load reached read overwritten bytes_at little_endian low_bytes zeros converted unary arithmetic comparison
assign_wild_bound = simp at_forms

-- `*p = 258` writes four bytes, the lowest first
store_word : does (pos 5) (pos 24) (S.Store 3 I32 checked_place (number (pos 258)) []) ≡ goes_on_writing (2 ∷ 1 ∷ 0 ∷ 0 ∷ [])
unfolding act operand sum_value bounded taken argument arguments optional_operand optional_argument eval tests condition form_value peek store cleared written load reached read overwritten bytes_at little_endian low_bytes zeros converted unary arithmetic comparison
store_word = simp at_forms

-- a byte keeps the low bits
store_byte : does (pos 5) (pos 24) (S.Store 3 I8 place (number (negsuc 1)) []) ≡ goes_on_writing (254 ∷ 0 ∷ 0 ∷ 0 ∷ [])
unfolding act operand sum_value bounded taken argument arguments optional_operand optional_argument eval tests condition form_value peek store cleared written load reached read overwritten bytes_at little_endian low_bytes zeros converted unary arithmetic comparison
store_byte = simp at_forms

-- the right side comes before the place
store_order : does (pos 0) (pos 0) (S.Store 3 I32 checked_place (V.Load I32 (V.Block 64)) []) ≡ Err Wild
unfolding act operand sum_value bounded taken argument arguments optional_operand optional_argument eval tests condition form_value peek store cleared written load reached read overwritten bytes_at little_endian low_bytes zeros converted unary arithmetic comparison
store_order = simp at_forms

-- and the place before the statement's own checks
store_place : does (pos 0) (pos 0) (S.Store 3 I32 checked_place (number (pos 1)) (3 ∷ [])) ≡ Err (Failed 7 (fail.Check kind.Null))
unfolding act operand sum_value bounded taken argument arguments optional_operand optional_argument eval tests condition form_value peek store cleared written load reached read overwritten bytes_at little_endian low_bytes zeros converted unary arithmetic comparison
store_place = simp at_forms

-- which come last
store_own : does (pos 0) (pos 24) (S.Store 3 I32 checked_place (number (pos 1)) (3 ∷ [])) ≡ Err (Failed 7 (fail.Check kind.Div))
unfolding act operand sum_value bounded taken argument arguments optional_operand optional_argument eval tests condition form_value peek store cleared written load reached read overwritten bytes_at little_endian low_bytes zeros converted unary arithmetic comparison
store_own = simp at_forms

-- a store outside has no meaning
store_outside : does (pos 5) (pos 28) (S.Store 3 I32 place (number (pos 1)) []) ≡ Err Wild
unfolding act operand sum_value bounded taken argument arguments optional_operand optional_argument eval tests condition form_value peek store cleared written load reached read overwritten bytes_at little_endian low_bytes zeros converted unary arithmetic comparison
store_outside = simp at_forms

-- `zero(l)` clears the bytes of the place
zero : act [] f (state (pos 5) (pos 24)) (S.Zero 3 (V.Block 24) 4) ≡ goes_on_writing (0 ∷ 0 ∷ 0 ∷ 0 ∷ [])
unfolding act operand sum_value bounded taken argument arguments optional_operand optional_argument eval tests condition form_value peek store cleared written load reached read overwritten bytes_at little_endian low_bytes zeros converted unary arithmetic comparison
zero = simp at_forms

-- which have to be inside
zero_outside : does (pos 5) (pos 24) (S.Zero 3 (V.Block 26) 4) ≡ Err Wild
unfolding act operand sum_value bounded taken argument arguments optional_operand optional_argument eval tests condition form_value peek store cleared written load reached read overwritten bytes_at little_endian low_bytes zeros converted unary arithmetic comparison
zero_outside = simp at_forms

-- a call hands its arguments over, each converted
call : does (pos 300) (pos 24) (S.Call 3 None 1 (record { scalar = U8; value = V.Local 0 } ∷ (record { scalar = Pointer 0; value = V.Local 1 } ∷ [])) []) ≡ Ok (record { state = state (pos 300) (pos 24); turn = Calls 1 (pos 44 ∷ (pos 24 ∷ [])) })
unfolding act operand sum_value bounded taken argument arguments optional_operand optional_argument eval tests condition form_value peek store cleared written load reached read overwritten bytes_at little_endian low_bytes zeros converted unary arithmetic comparison
call = simp at_forms

-- after its checks
call_fails : does (pos 0) (pos 24) (S.Call 3 None 1 [] (3 ∷ [])) ≡ Err (Failed 7 (fail.Check kind.Div))
unfolding act operand sum_value bounded taken argument arguments optional_operand optional_argument eval tests condition form_value peek store cleared written load reached read overwritten bytes_at little_endian low_bytes zeros converted unary arithmetic comparison
call_fails = simp at_forms

-- a kernel call asks
kernel_call : does (pos 5) (pos 24) (S.Kernel 3 None kernel.Printd (record { scalar = I32; value = V.Local 0 } ∷ []) None 0 0 0) ≡ Ok (record { state = state (pos 5) (pos 24); turn = Asks (record { name = kernel.Printd; args = pos 5 ∷ pos 0 ∷ pos 0 ∷ pos 0 ∷ []; function = 0; elem = 0; size = 0; pointer = null }) })
unfolding act operand sum_value bounded taken argument arguments optional_operand optional_argument eval tests condition form_value peek store cleared written load reached read overwritten bytes_at little_endian low_bytes zeros converted unary arithmetic comparison
kernel_call = simp at_forms

-- a pointer goes with its bounds
kernel_pointer : does (pos 5) (pos 24) (S.Kernel 3 None kernel.Kfree [] (Some (bounded_pointer (V.Local 1))) 0 0 0) ≡ Ok (record { state = state (pos 5) (pos 24); turn = Asks (record { name = kernel.Kfree; args = pos 0 ∷ pos 0 ∷ pos 0 ∷ pos 0 ∷ []; function = 0; elem = 0; size = 0; pointer = record { value = 24; lo = 16; hi = 28 } }) })
unfolding act operand sum_value bounded taken argument arguments optional_operand optional_argument eval tests condition form_value peek store cleared written load reached read overwritten bytes_at little_endian low_bytes zeros converted unary arithmetic comparison
kernel_pointer = simp at_forms

-- `return n` converts to the result's type
return_value : does (pos 300) (pos 24) (S.Return 3 (Some (record { scalar = U8; value = V.Local 0 })) []) ≡ Ok (record { state = state (pos 300) (pos 24); turn = Returns (Some (pos 44)) })
unfolding act operand sum_value bounded taken argument arguments optional_operand optional_argument eval tests condition form_value peek store cleared written load reached read overwritten bytes_at little_endian low_bytes zeros converted unary arithmetic comparison
return_value = simp at_forms

-- `return` alone
return_void : does (pos 5) (pos 24) (S.Return 3 None []) ≡ Ok (record { state = state (pos 5) (pos 24); turn = Returns None })
unfolding act operand sum_value bounded taken argument arguments optional_operand optional_argument eval tests condition form_value peek store cleared written load reached read overwritten bytes_at little_endian low_bytes zeros converted unary arithmetic comparison
return_void = refl

-- `if` on what is not 0
if_holds : does (pos 5) (pos 24) (S.If 3 (V.Local 0) [] []) ≡ Ok (record { state = state (pos 5) (pos 24); turn = Into true })
unfolding act operand sum_value bounded taken argument arguments optional_operand optional_argument eval tests condition form_value peek store cleared written load reached read overwritten bytes_at little_endian low_bytes zeros converted unary arithmetic comparison
if_holds = simp at_forms

-- `if` on 0
if_fails : does (pos 0) (pos 24) (S.If 3 (V.Local 0) [] []) ≡ Ok (record { state = state (pos 0) (pos 24); turn = Into false })
unfolding act operand sum_value bounded taken argument arguments optional_operand optional_argument eval tests condition form_value peek store cleared written load reached read overwritten bytes_at little_endian low_bytes zeros converted unary arithmetic comparison
if_fails = simp at_forms

-- `while` on a pointer
while_pointer : does (pos 0) (pos 24) (S.While 3 (V.Local 1) []) ≡ Ok (record { state = state (pos 0) (pos 24); turn = Into true })
unfolding act operand sum_value bounded taken argument arguments optional_operand optional_argument eval tests condition form_value peek store cleared written load reached read overwritten bytes_at little_endian low_bytes zeros converted unary arithmetic comparison
while_pointer = simp at_forms

-- a test has its checks
test_fails : does (pos 0) (pos 0) (S.While 3 (V.Load I32 checked_place) []) ≡ Err (Failed 7 (fail.Check kind.Null))
unfolding act operand sum_value bounded taken argument arguments optional_operand optional_argument eval tests condition form_value peek store cleared written load reached read overwritten bytes_at little_endian low_bytes zeros converted unary arithmetic comparison
test_fails = simp at_forms
