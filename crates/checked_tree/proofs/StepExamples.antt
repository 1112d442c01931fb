-- The steps of an activity, computed: branches, loops, calls, returns, kernel calls and their answers.
use Rattle.std.specs.Prelude.{◌≡◌, List, [], ◌∷◌, replicate, ℤ, pos, Ok, Err, Some, None, refl}
use Rattle.sd_base.specs.declared.kinds.CheckKind.TheVariants as kind
use Rattle.sd_base.specs.declared.kinds.FailKind.TheVariants as fail
use Rattle.checked_tree.specs.declared.stops.Stop.TheVariants.{Failed, Wild}
use Rattle.checked_tree.specs.declared.shapes.Scalar.TheVariants.{I32, Pointer}
use Rattle.checked_tree.specs.declared.kernel.KernelName.TheVariants as kernel
use Rattle.checked_tree.specs.declared.kernel.Answer.TheVariants as answer
use Rattle.checked_tree.specs.declared.expressions.CheckedExpr.TheVariants as V
use Rattle.checked_tree.specs.declared.statements.Target.TheVariants as target
use Rattle.checked_tree.specs.declared.statements.CheckedStmt.{CheckedStmt}
use Rattle.checked_tree.specs.declared.statements.CheckedStmt.TheVariants as T
use Rattle.checked_tree.specs.declared.units.CheckedFn.{CheckedFn}
use Rattle.checked_tree.specs.Outcome.{Outcome}
use Rattle.checked_tree.specs.Numbers.{converted, unary, arithmetic, comparison}
use Rattle.byte_memory.specs.Bytes.{little_endian, low_bytes, bytes_at, overwritten, zeros}
use Rattle.checked_tree.specs.Memory.{reached, read, written, load, store, cleared}
use Rattle.checked_tree.specs.Conditions.{peek, form_value, condition}
use Rattle.checked_tree.specs.Eval.{tests, eval}
use Rattle.checked_tree.specs.Operands.{null, operand, sum_value, bounded, taken, argument, arguments, optional_operand, optional_argument}
use Rattle.checked_tree.specs.Act.{act}
use Rattle.checked_tree.specs.Step.{Frame, Activity, Next, Went, Wants, Ended, step_kept, step, answered, line, started}
use Rattle.checked_tree.proofs.Equations.{at_forms, at_statements}
use Rattle.checked_tree.proofs.Sample.{memory, f, function, unit, number, return_number}

-- a function with the integer and the pointer, and one with these statements that returns `int`
abbrev callee : CheckedFn
callee = record (function (return_number (pos 8) ∷ [])) { name = 102 ∷ [] }

-- a frame where the integer is n and the pointer 24
abbrev at : ℤ → List CheckedStmt → Frame
at n todo = record { function = 0; locals = n ∷ pos 24 ∷ pos 16 ∷ pos 28 ∷ []; todo = todo }

-- the step of an activity of the two functions
abbrev next : Activity → Outcome Next
next frames = step (unit (f ∷ (callee ∷ []))) frames memory

abbrev set_one : CheckedStmt
set_one = T.Assign 4 0 I32 (number (pos 1)) []

abbrev rest : List CheckedStmt
rest = T.Empty 6 ∷ []

-- a statement leaves those after it
goes_on : next (at (pos 5) (set_one ∷ rest) ∷ []) ≡ Ok (Went (at (pos 1) rest ∷ []) memory)
unfolding step step_kept answered started act operand sum_value bounded taken argument arguments optional_operand optional_argument eval tests condition form_value peek store cleared written load reached read overwritten bytes_at little_endian low_bytes zeros converted unary arithmetic comparison
goes_on = simp (at_forms, at_statements)

-- an `if` goes into the branch that its test picks, before what stands behind it
into_the_branch : next (at (pos 5) (T.If 3 (V.Local 0) (set_one ∷ []) [] ∷ rest) ∷ []) ≡ Ok (Went (at (pos 5) (set_one ∷ rest) ∷ []) memory)
unfolding step step_kept answered started act operand sum_value bounded taken argument arguments optional_operand optional_argument eval tests condition form_value peek store cleared written load reached read overwritten bytes_at little_endian low_bytes zeros converted unary arithmetic comparison
into_the_branch = simp (at_forms, at_statements)

-- or into the other
into_the_other_branch : next (at (pos 0) (T.If 3 (V.Local 0) [] (set_one ∷ []) ∷ rest) ∷ []) ≡ Ok (Went (at (pos 0) (set_one ∷ rest) ∷ []) memory)
unfolding step step_kept answered started act operand sum_value bounded taken argument arguments optional_operand optional_argument eval tests condition form_value peek store cleared written load reached read overwritten bytes_at little_endian low_bytes zeros converted unary arithmetic comparison
into_the_other_branch = simp (at_forms, at_statements)

-- behind a loop's body the loop stands again
into_the_loop : next (at (pos 5) (T.While 3 (V.Local 0) (set_one ∷ []) ∷ rest) ∷ []) ≡ Ok (Went (at (pos 5) (set_one ∷ (T.While 3 (V.Local 0) (set_one ∷ []) ∷ rest)) ∷ []) memory)
unfolding step step_kept answered started act operand sum_value bounded taken argument arguments optional_operand optional_argument eval tests condition form_value peek store cleared written load reached read overwritten bytes_at little_endian low_bytes zeros converted unary arithmetic comparison
into_the_loop = simp (at_forms, at_statements)

-- and past it only what follows
past_the_loop : next (at (pos 0) (T.While 3 (V.Local 0) (set_one ∷ []) ∷ rest) ∷ []) ≡ Ok (Went (at (pos 0) rest ∷ []) memory)
unfolding step step_kept answered started act operand sum_value bounded taken argument arguments optional_operand optional_argument eval tests condition form_value peek store cleared written load reached read overwritten bytes_at little_endian low_bytes zeros converted unary arithmetic comparison
past_the_loop = simp (at_forms, at_statements)

-- a call puts a frame on top: the arguments, and 0 in each local; the caller waits in its call
calls : next (at (pos 5) (T.Call 3 (Some (target.Int 0 I32)) 1 (record { scalar = I32; value = V.Local 0 } ∷ []) [] ∷ rest) ∷ []) ≡ Ok (Went (record { function = 1; locals = pos 5 ∷ pos 0 ∷ pos 0 ∷ pos 0 ∷ []; todo = return_number (pos 8) ∷ [] } ∷ (at (pos 5) (T.Call 3 (Some (target.Int 0 I32)) 1 (record { scalar = I32; value = V.Local 0 } ∷ []) [] ∷ rest) ∷ [])) memory)
unfolding step step_kept answered started act operand sum_value bounded taken argument arguments optional_operand optional_argument eval tests condition form_value peek store cleared written load reached read overwritten bytes_at little_endian low_bytes zeros converted unary arithmetic comparison
calls = simp (at_forms, at_statements)

-- a call fails where 64 frames are live
no_frame_left : step (unit (f ∷ (callee ∷ []))) (at (pos 5) (T.Call 3 None 1 [] [] ∷ rest) ∷ replicate 63 (at (pos 0) [])) memory ≡ Err (Failed 3 fail.Stack)
unfolding step step_kept answered started act operand sum_value bounded taken argument arguments optional_operand optional_argument eval tests condition form_value peek store cleared written load reached read overwritten bytes_at little_endian low_bytes zeros converted unary arithmetic comparison
no_frame_left = simp (at_forms, at_statements)

-- a return takes the frame away and puts the result into the caller's local
returns_to_the_caller : next (record { function = 1; locals = pos 0 ∷ pos 0 ∷ pos 0 ∷ pos 0 ∷ []; todo = return_number (pos 8) ∷ [] } ∷ (at (pos 5) (T.Call 3 (Some (target.Int 0 I32)) 1 [] [] ∷ rest) ∷ [])) ≡ Ok (Went (at (pos 8) rest ∷ []) memory)
unfolding step step_kept answered started act operand sum_value bounded taken argument arguments optional_operand optional_argument eval tests condition form_value peek store cleared written load reached read overwritten bytes_at little_endian low_bytes zeros converted unary arithmetic comparison
returns_to_the_caller = simp (at_forms, at_statements)

-- a result may be dropped
returns_nowhere : next (record { function = 1; locals = []; todo = return_number (pos 8) ∷ [] } ∷ (at (pos 5) (T.Call 3 None 1 [] [] ∷ rest) ∷ [])) ≡ Ok (Went (at (pos 5) rest ∷ []) memory)
unfolding step step_kept answered started act operand sum_value bounded taken argument arguments optional_operand optional_argument eval tests condition form_value peek store cleared written load reached read overwritten bytes_at little_endian low_bytes zeros converted unary arithmetic comparison
returns_nowhere = simp (at_forms, at_statements)

-- a returned pointer reaches as far as the result's annotation says
returns_a_pointer : step (unit (f ∷ (record callee { result = Pointer 8 } ∷ []))) (record { function = 1; locals = []; todo = T.Return 9 (Some (record { scalar = Pointer 8; value = V.AddressOf (V.Block 16) })) [] ∷ [] } ∷ (at (pos 5) (T.Call 3 (Some (target.Automatic 1 2)) 1 [] [] ∷ rest) ∷ [])) memory ≡ Ok (Went (record { function = 0; locals = pos 5 ∷ pos 16 ∷ pos 16 ∷ pos 24 ∷ []; todo = rest } ∷ []) memory)
unfolding step step_kept answered started act operand sum_value bounded taken argument arguments optional_operand optional_argument eval tests condition form_value peek store cleared written load reached read overwritten bytes_at little_endian low_bytes zeros converted unary arithmetic comparison
returns_a_pointer = simp (at_forms, at_statements)

-- a return from the first frame ends the activity
ends : next (at (pos 5) (return_number (pos 8) ∷ []) ∷ []) ≡ Ok (Ended (Some (pos 8)))
unfolding step step_kept answered started act operand sum_value bounded taken argument arguments optional_operand optional_argument eval tests condition form_value peek store cleared written load reached read overwritten bytes_at little_endian low_bytes zeros converted unary arithmetic comparison
ends = simp (at_forms, at_statements)

-- a kernel call waits at its statement
asks : next (at (pos 5) (T.Kernel 3 (Some (target.Int 0 I32)) kernel.Now [] None 0 0 0 ∷ rest) ∷ []) ≡ Ok (Wants (at (pos 5) (T.Kernel 3 (Some (target.Int 0 I32)) kernel.Now [] None 0 0 0 ∷ rest) ∷ []) (record { name = kernel.Now; args = pos 0 ∷ pos 0 ∷ pos 0 ∷ pos 0 ∷ []; function = 0; elem = 0; size = 0; pointer = null }))
unfolding step step_kept answered started act operand sum_value bounded taken argument arguments optional_operand optional_argument eval tests condition form_value peek store cleared written load reached read overwritten bytes_at little_endian low_bytes zeros converted unary arithmetic comparison
asks = simp (at_forms, at_statements)

-- the answer ends the statement
is_answered : answered (at (pos 5) (T.Kernel 3 (Some (target.Int 0 I32)) kernel.Now [] None 0 0 0 ∷ rest) ∷ []) (answer.Number (pos 41)) ≡ at (pos 41) rest ∷ []
unfolding step step_kept answered started act operand sum_value bounded taken argument arguments optional_operand optional_argument eval tests condition form_value peek store cleared written load reached read overwritten bytes_at little_endian low_bytes zeros converted unary arithmetic comparison
is_answered = simp (at_forms, at_statements)

-- a block comes with its bounds
is_answered_by_a_block : answered (at (pos 5) (T.Kernel 3 (Some (target.Automatic 1 2)) kernel.Kalloc [] None 0 0 4 ∷ rest) ∷ []) (answer.Pointer (record { value = 32; lo = 32; hi = 40 })) ≡ record { function = 0; locals = pos 5 ∷ pos 32 ∷ pos 32 ∷ pos 40 ∷ []; todo = rest } ∷ []
unfolding step step_kept answered started act operand sum_value bounded taken argument arguments optional_operand optional_argument eval tests condition form_value peek store cleared written load reached read overwritten bytes_at little_endian low_bytes zeros converted unary arithmetic comparison
is_answered_by_a_block = simp (at_forms, at_statements)

-- an answer may be dropped
is_answered_nowhere : answered (at (pos 5) (T.Kernel 3 None kernel.Now [] None 0 0 0 ∷ rest) ∷ []) (answer.Number (pos 41)) ≡ at (pos 5) rest ∷ []
unfolding step step_kept answered started act operand sum_value bounded taken argument arguments optional_operand optional_argument eval tests condition form_value peek store cleared written load reached read overwritten bytes_at little_endian low_bytes zeros converted unary arithmetic comparison
is_answered_nowhere = simp (at_forms, at_statements)

-- a failing step gives its line and kind
fails : next (at (pos 0) (T.Assign 7 0 I32 (number (pos 1)) (3 ∷ []) ∷ rest) ∷ []) ≡ Err (Failed 7 (fail.Check kind.Div))
unfolding step step_kept answered started act operand sum_value bounded taken argument arguments optional_operand optional_argument eval tests condition form_value peek store cleared written load reached read overwritten bytes_at little_endian low_bytes zeros converted unary arithmetic comparison
fails = simp (at_forms, at_statements)

-- a step without a meaning
is_wild : next (at (pos 0) (T.Store 7 I32 (V.Block 64) (number (pos 1)) [] ∷ rest) ∷ []) ≡ Err Wild
unfolding step step_kept answered started act operand sum_value bounded taken argument arguments optional_operand optional_argument eval tests condition form_value peek store cleared written load reached read overwritten bytes_at little_endian low_bytes zeros converted unary arithmetic comparison
is_wild = simp (at_forms, at_statements)

-- an activity stands at the line of its first statement
the_line : line (at (pos 5) (set_one ∷ rest) ∷ []) ≡ 4
unfolding step step_kept answered started act operand sum_value bounded taken argument arguments optional_operand optional_argument eval tests condition form_value peek store cleared written load reached read overwritten bytes_at little_endian low_bytes zeros converted unary arithmetic comparison
the_line = simp (at_forms, at_statements)

-- a call from outside
starts : started (unit (f ∷ (callee ∷ []))) 1 (pos 3 ∷ []) ≡ Some (record { function = 1; locals = pos 3 ∷ pos 0 ∷ pos 0 ∷ pos 0 ∷ []; todo = return_number (pos 8) ∷ [] } ∷ [])
unfolding step step_kept answered started act operand sum_value bounded taken argument arguments optional_operand optional_argument eval tests condition form_value peek store cleared written load reached read overwritten bytes_at little_endian low_bytes zeros converted unary arithmetic comparison
starts = refl
