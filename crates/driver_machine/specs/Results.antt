-- The result of a call in the local that takes it.
use Rattle.std.specs.Prelude.{◌≡◌, ℤ, List, [], ◌∷◌, Option, Result, Ok, Err}
use Rattle.byte_memory.specs.Tested.{Memory}
use Rattle.checked_tree.specs.declared.shapes.Scalar.{Scalar}
use Rattle.checked_tree.specs.declared.statements.Target.{Target}
use Rattle.checked_tree.specs.declared.stops.Stop.{Stop}
use Rattle.checked_tree.specs.declared.kernel.Answer.{Answer}
use Rattle.checked_tree.specs.declared.statements.CheckedStmt.{CheckedStmt, out-CheckedStmt}
use Rattle.checked_tree.specs.declared.stops.Stop.TheVariants.{Wild}
use Rattle.checked_tree.specs.Outcome.{Outcome}
use Rattle.checked_tree.specs.Conditions.{State}
use Rattle.checked_tree.specs.Step.{with_returned, target_of, answer_set}
use Rattle.driver_machine.specs.Acts.{state}

-- the locals with the result, whatever the memory is; where it has no place there, they are as they were
abbrev pub Takes : Scalar → Option Target → Option ℤ → List ℤ → Result (Unit {0}) Stop → List ℤ → Type 0
Takes scalar target value old (Ok x) new = (m : Memory) → with_returned scalar (state old m) target value ≡ Ok (state new m)
Takes scalar target value old (Err e) new = ((m : Memory) → with_returned scalar (state old m) target value ≡ Err e) × (new ≡ old)

-- the state of a frame behind the call at which it stands
abbrev pub behind_call : Scalar → State → List CheckedStmt → Option ℤ → Outcome State
behind_call scalar s [] value = Err Wild
behind_call scalar s (st ∷ rest) value = with_returned scalar s (target_of (out-CheckedStmt st)) value

-- what is to do behind the first statement
abbrev pub behind_first : List CheckedStmt → List CheckedStmt
behind_first [] = []
behind_first (st ∷ rest) = rest

-- a frame goes on behind its call; or it stays, with its locals and its place
abbrev pub Resumes : Scalar → Option ℤ → List ℤ → List CheckedStmt → Result (Unit {0}) Stop → List ℤ → List CheckedStmt → Type 0
Resumes scalar value old todo (Ok x) new todo' = ((m : Memory) → behind_call scalar (state old m) todo value ≡ Ok (state new m)) × (todo' ≡ behind_first todo)
Resumes scalar value old todo (Err e) new todo' = ((m : Memory) → behind_call scalar (state old m) todo value ≡ Err e) × (new ≡ old) × (todo' ≡ todo)

-- the locals of a frame behind the kernel call at which it stands
abbrev pub answered_locals : List ℤ → List CheckedStmt → Answer → List ℤ
answered_locals locals [] reply = locals
answered_locals locals (st ∷ rest) reply = answer_set locals (target_of (out-CheckedStmt st)) reply

-- a frame goes on behind the kernel's answer
abbrev pub Answers : Answer → List ℤ → List CheckedStmt → List ℤ → List CheckedStmt → Type 0
Answers reply old todo new todo' = (new ≡ answered_locals old todo reply) × (todo' ≡ behind_first todo)
