-- What a statement and a step do, with the numbers of the checks that they test, in order. `act_told_is` and `step_told_is` of
-- proofs/Acting say that the first part is what they do.
use Rattle.std.specs.Prelude.{List, [], ◌∷◌, ℤ, Option, Some, None, Ok, Err, slice_get}
use Rattle.sd_base.specs.declared.actors.Fat.{Fat}
use Rattle.byte_memory.specs.Tested.{Memory}
use Rattle.checked_tree.specs.declared.stops.Stop.TheVariants.{Wild}
use Rattle.checked_tree.specs.declared.statements.Argument.{Argument}
use Rattle.checked_tree.specs.declared.statements.PointerOperand.{PointerOperand}
use Rattle.checked_tree.specs.declared.statements.CheckedStmt.{CheckedStmt, out-CheckedStmt}
use Rattle.checked_tree.specs.declared.statements.CheckedStmt.TheOpen as S
use Rattle.checked_tree.specs.declared.units.CheckedFn.{CheckedFn}
use Rattle.checked_tree.specs.declared.units.CheckedUnit.{CheckedUnit}
use Rattle.checked_tree.specs.Numbers.{holds}
use Rattle.checked_tree.specs.Memory.{store, cleared}
use Rattle.checked_tree.specs.Conditions.{State}
use Rattle.checked_tree.specs.Eval.{Keep}
use Rattle.checked_tree.specs.Operands.{null, with_bounds, taken}
use Rattle.checked_tree.specs.Act.{Acted, Into, Calls, Asks, Returns, goes_on, turns, remembers, with_local, with_pointer, kernel_call}
use Rattle.checked_tree.specs.Step.{Frame, Activity, Next, Keeps, state_of, turned}
use Rattle.checked_tree.specs.Told.{Told, ◌>>>◌, quiet, told, tests_told}

-- a pointer that is handed over or stored, with its bounds
unfoldable pub operand_told : Keep → CheckedFn → State → PointerOperand → Told Fat
operand_told keep f s p = told keep f s p.value >>> λ v. quiet (with_bounds s p.low p.high v)

-- a number that is handed over
unfoldable pub argument_told : Keep → CheckedFn → State → Argument → Told ℤ
argument_told keep f s a = told keep f s a.value >>> λ v. quiet (taken a.scalar v)

-- numbers that are handed over, left to right
unfoldable pub arguments_told : Keep → CheckedFn → State → List Argument → Told (List ℤ)
arguments_told keep f s [] = quiet (Ok [])
arguments_told keep f s (a ∷ rest) = argument_told keep f s a >>> λ v. arguments_told keep f s rest >>> λ vs. quiet (Ok (v ∷ vs))

-- the pointer of a kernel call, if it has one
unfoldable pub optional_operand_told : Keep → CheckedFn → State → Option PointerOperand → Told Fat
optional_operand_told keep f s None = quiet (Ok null)
optional_operand_told keep f s (Some p) = operand_told keep f s p

-- the value of a `return`, if it has one
unfoldable pub optional_argument_told : Keep → CheckedFn → State → Option Argument → Told (Option ℤ)
optional_argument_told keep f s None = quiet (Ok None)
optional_argument_told keep f s (Some a) = argument_told keep f s a >>> λ v. quiet (Ok (Some v))

-- what a statement does
unfoldable pub act_told : Keep → CheckedFn → State → S.CheckedStmt-F CheckedStmt → Told Acted
act_told keep f s (S.Empty line) = quiet (goes_on s)
act_told keep f s (S.Assign line slot scalar value checks) =
    told keep f s value >>> λ v. tests_told keep f s checks >>> λ _. quiet (taken scalar v) >>> λ w. quiet (goes_on (with_local s slot w))
act_told keep f s (S.AssignAutomatic line slot hidden value checks) =
    operand_told keep f s value >>> λ p. tests_told keep f s checks >>> λ _. quiet (goes_on (with_pointer s slot hidden p))
act_told keep f s (S.Store line scalar place value checks) =
    told keep f s value >>> λ v. told keep f s place >>> λ a. tests_told keep f s checks >>> λ _. quiet (taken scalar v) >>> λ w.
    quiet (store s.memory scalar a w) >>> λ m. quiet (remembers s m)
act_told keep f s (S.Zero line place size) = told keep f s place >>> λ a. quiet (cleared s.memory a size) >>> λ m. quiet (remembers s m)
act_told keep f s (S.Call line target function values checks) =
    arguments_told keep f s values >>> λ vs. tests_told keep f s checks >>> λ _. quiet (turns s (Calls function vs))
act_told keep f s (S.Kernel line target name values pointer function elem size) =
    arguments_told keep f s values >>> λ vs. optional_operand_told keep f s pointer >>> λ p.
    quiet (turns s (Asks (kernel_call name function elem size vs p)))
act_told keep f s (S.Return line value checks) =
    optional_argument_told keep f s value >>> λ v. tests_told keep f s checks >>> λ _. quiet (turns s (Returns v))
act_told keep f s (S.If line test first second) = told keep f s test >>> λ v. quiet (turns s (Into (holds v)))
act_told keep f s (S.While line test body) = told keep f s test >>> λ v. quiet (turns s (Into (holds v)))

-- the step of the top frame, whose function is this one, by its first statement
abbrev pub step_told_of : Keep → CheckedUnit → Frame → Activity → Memory → Option CheckedFn → List CheckedStmt → Told Next
step_told_of keep unit top below m None todo = quiet (Err Wild)
step_told_of keep unit top below m (Some f) [] = quiet (Err Wild)
step_told_of keep unit top below m (Some f) (st ∷ rest) =
    act_told keep f (state_of top m) (out-CheckedStmt st) >>> λ w. quiet (turned unit f top st rest below w.turn w.state)

-- the step of an activity, in which the kept checks alone are tested
unfoldable pub step_told : Keeps → CheckedUnit → Activity → Memory → Told Next
step_told keeps unit [] m = quiet (Err Wild)
step_told keeps unit (top ∷ below) m =
    step_told_of (keeps top.function) unit top below m (slice_get unit.functions top.function) top.todo
