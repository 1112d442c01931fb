-- The numbers with which a running goes on behind a call and behind a kernel call.
use Rattle.std.specs.Prelude.{List, [], ◌∷◌, ℤ, pos, Option, Some, None, Ok, Err}
use Rattle.sd_base.specs.declared.actors.Fat.{Fat}
use Rattle.checked_tree.specs.declared.stops.Stop.TheVariants.{Wild}
use Rattle.checked_tree.specs.declared.shapes.Scalar.{Scalar}
use Rattle.checked_tree.specs.declared.kernel.Answer.{Answer}
use Rattle.checked_tree.specs.declared.kernel.Answer.TheVariants as answer
use Rattle.checked_tree.specs.declared.statements.Target.{Target}
use Rattle.checked_tree.specs.declared.statements.Target.TheVariants as target
use Rattle.checked_tree.specs.Outcome.{Outcome, ◌>>=◌}
use Rattle.checked_tree.specs.Step.{returned_pointer}
use Rattle.driver_code.specs.declared.instr.Awaited.{Awaited}
use Rattle.driver_code.specs.declared.instr.Awaited.TheVariants.{Nothing, Number, Pointer}

-- a pointer and its bounds on the stack
abbrev pub pointer_numbers : Fat → List ℤ
pointer_numbers p = pos p.hi ∷ (pos p.lo ∷ (pos p.value ∷ []))

-- of a call: the numbers of the result, where the function has a result of this type
abbrev pub returned_numbers : Scalar → Awaited → Option ℤ → Outcome (List ℤ)
returned_numbers scalar Nothing result = Ok []
returned_numbers scalar Number (Some v) = Ok (v ∷ [])
returned_numbers scalar Pointer (Some v) = returned_pointer scalar v >>= λ p. Ok (pointer_numbers p)
returned_numbers scalar _ None = Err Wild

-- of the kernel: the numbers of its answer
abbrev pub answered_numbers : Awaited → Answer → Outcome (List ℤ)
answered_numbers Nothing reply = Ok []
answered_numbers Number (answer.Number v) = Ok (v ∷ [])
answered_numbers Pointer (answer.Pointer p) = Ok (pointer_numbers p)
answered_numbers _ _ = Err Wild

-- what a statement awaits of a call, by the local that takes the result
abbrev pub awaited_of_call : Option Target → Awaited
awaited_of_call None = Nothing
awaited_of_call (Some (target.Int slot own)) = Number
awaited_of_call (Some (target.Nullterm slot)) = Number
awaited_of_call (Some (target.Automatic slot hidden)) = Pointer

-- of the kernel; it answers no nullterm pointer
abbrev pub awaited_of_kernel : Option Target → Awaited
awaited_of_kernel None = Nothing
awaited_of_kernel (Some (target.Int slot own)) = Number
awaited_of_kernel (Some (target.Nullterm slot)) = Nothing
awaited_of_kernel (Some (target.Automatic slot hidden)) = Pointer
