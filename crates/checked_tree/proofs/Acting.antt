-- What is told of a statement and of a step is what they do.
use Rattle.std.proofs.Common.{◌≡◌, false, List, [], ◌∷◌, Option, Some, None, Ok, Err, refl, sym, true≢false, slice_get}
use Rattle.byte_memory.specs.Tested.{Memory}
use Rattle.checked_tree.specs.declared.stops.Stop.TheVariants.{Wild}
use Rattle.checked_tree.specs.declared.expressions.CheckedExpr.{CheckedExpr}
use Rattle.checked_tree.specs.declared.statements.Argument.{Argument}
use Rattle.checked_tree.specs.declared.statements.PointerOperand.{PointerOperand}
use Rattle.checked_tree.specs.declared.statements.CheckedStmt.{CheckedStmt, out-CheckedStmt}
use Rattle.checked_tree.specs.declared.statements.CheckedStmt.TheOpen as S
use Rattle.checked_tree.specs.declared.units.CheckedFn.{CheckedFn}
use Rattle.checked_tree.specs.declared.units.CheckedUnit.{CheckedUnit}
use Rattle.checked_tree.specs.Outcome.{Outcome}
use Rattle.checked_tree.specs.Memory.{store, cleared}
use Rattle.checked_tree.specs.Conditions.{State}
use Rattle.checked_tree.specs.Eval.{Keep, eval}
use Rattle.checked_tree.specs.Operands.{null, with_bounds, taken, operand, argument, arguments, optional_operand, optional_argument}
use Rattle.checked_tree.specs.Act.{act, remembers}
use Rattle.checked_tree.specs.Step.{Frame, Activity, Keeps, state_of, turned, step_of, step_kept}
use Rattle.checked_tree.specs.Told.{got, quiet, told}
use Rattle.checked_tree.specs.ActTold.{operand_told, argument_told, arguments_told, optional_operand_told, optional_argument_told, act_told, step_told_of, step_told}
use Rattle.checked_tree.proofs.Telling.{Agrees, agrees_then, all_agree, tests_agree}

plain : {A : Type 0} (r : Outcome A) → Agrees false (quiet r) r
plain r = record { gives = refl; says = λ e. refl; calm = λ e. absurd (true≢false (sym e)) }

expr_agrees : (keep : Keep) (f : CheckedFn) (s : State) (e : CheckedExpr) → Agrees false (told keep f s e) (eval keep f s e)
unfolding told eval
expr_agrees keep f s e = all_agree false _ _ s (tests_agree keep f s) e

module _ (keep : Keep) (f : CheckedFn) (s : State) where
  operand_agrees : (p : PointerOperand) → Agrees false (operand_told keep f s p) (operand keep f s p)
  unfolding operand_told operand
  operand_agrees p = agrees_then false _ _ _ (with_bounds s p.low p.high) (expr_agrees keep f s p.value) (λ v. plain (with_bounds s p.low p.high v))

  argument_agrees : (a : Argument) → Agrees false (argument_told keep f s a) (argument keep f s a)
  unfolding argument_told argument
  argument_agrees a = agrees_then false _ _ _ (taken a.scalar) (expr_agrees keep f s a.value) (λ v. plain (taken a.scalar v))

  arguments_agree : (values : List Argument) → Agrees false (arguments_told keep f s values) (arguments keep f s values)
  unfolding arguments_told arguments
  arguments_agree [] = plain (Ok [])
  arguments_agree (a ∷ rest) =
      agrees_then false _ _ _ _ (argument_agrees a) (λ v. agrees_then false _ _ _ (λ vs. Ok (v ∷ vs)) (arguments_agree rest) (λ vs. plain (Ok (v ∷ vs))))

  optional_operand_agrees : (p : Option PointerOperand) → Agrees false (optional_operand_told keep f s p) (optional_operand keep f s p)
  unfolding optional_operand_told optional_operand
  optional_operand_agrees None = plain (Ok null)
  optional_operand_agrees (Some p) = operand_agrees p

  optional_argument_agrees : (a : Option Argument) → Agrees false (optional_argument_told keep f s a) (optional_argument keep f s a)
  unfolding optional_argument_told optional_argument
  optional_argument_agrees None = plain (Ok None)
  optional_argument_agrees (Some a) = agrees_then false _ _ _ (λ v. Ok (Some v)) (argument_agrees a) (λ v. plain (Ok (Some v)))

  pub act_agrees : (y : S.CheckedStmt-F CheckedStmt) → Agrees false (act_told keep f s y) (act keep f s y)
  unfolding act_told act
  act_agrees (S.Empty line) = plain _
  act_agrees (S.Assign line slot scalar value checks) =
      agrees_then false _ _ _ _ (expr_agrees keep f s value) (λ v. agrees_then false _ _ _ _ (tests_agree keep f s checks) (λ _.
      agrees_then false _ _ _ _ (plain (taken scalar v)) (λ w. plain _)))
  act_agrees (S.AssignAutomatic line slot hidden value checks) =
      agrees_then false _ _ _ _ (operand_agrees value) (λ p. agrees_then false _ _ _ _ (tests_agree keep f s checks) (λ _. plain _))
  act_agrees (S.Store line scalar place value checks) =
      agrees_then false _ _ _ _ (expr_agrees keep f s value) (λ v. agrees_then false _ _ _ _ (expr_agrees keep f s place) (λ a.
      agrees_then false _ _ _ _ (tests_agree keep f s checks) (λ _. agrees_then false _ _ _ _ (plain (taken scalar v)) (λ w.
      agrees_then false _ _ _ (remembers s) (plain (store s.memory scalar a w)) (λ m. plain (remembers s m))))))
  act_agrees (S.Zero line place size) =
      agrees_then false _ _ _ _ (expr_agrees keep f s place) (λ a.
      agrees_then false _ _ _ (remembers s) (plain (cleared s.memory a size)) (λ m. plain (remembers s m)))
  act_agrees (S.Call line target function values checks) =
      agrees_then false _ _ _ _ (arguments_agree values) (λ vs. agrees_then false _ _ _ _ (tests_agree keep f s checks) (λ _. plain _))
  act_agrees (S.Kernel line target name values pointer function elem size) =
      agrees_then false _ _ _ _ (arguments_agree values) (λ vs. agrees_then false _ _ _ _ (optional_operand_agrees pointer) (λ p. plain _))
  act_agrees (S.Return line value checks) =
      agrees_then false _ _ _ _ (optional_argument_agrees value) (λ v. agrees_then false _ _ _ _ (tests_agree keep f s checks) (λ _. plain _))
  act_agrees (S.If line test first second) = agrees_then false _ _ _ _ (expr_agrees keep f s test) (λ v. plain _)
  act_agrees (S.While line test body) = agrees_then false _ _ _ _ (expr_agrees keep f s test) (λ v. plain _)

-- what is told of a statement is what it does
pub act_told_is : (keep : Keep) (f : CheckedFn) (s : State) (y : S.CheckedStmt-F CheckedStmt) → got (act_told keep f s y) ≡ act keep f s y
act_told_is keep f s y = (act_agrees keep f s y).gives

step_of_agrees : (keep : Keep) (unit : CheckedUnit) (top : Frame) (below : Activity) (m : Memory) (f : Option CheckedFn) (todo : List CheckedStmt)
    → Agrees false (step_told_of keep unit top below m f todo) (step_of keep unit top below m f todo)
step_of_agrees keep unit top below m None todo = plain (Err Wild)
step_of_agrees keep unit top below m (Some f) [] = plain (Err Wild)
step_of_agrees keep unit top below m (Some f) (st ∷ rest) =
    agrees_then false _ _ _ (λ w. turned unit f top st rest below w.turn w.state) (act_agrees keep f (state_of top m) (out-CheckedStmt st))
    (λ w. plain (turned unit f top st rest below w.turn w.state))

-- what is told of a step is the step
pub step_told_is : (keeps : Keeps) (unit : CheckedUnit) (frames : Activity) (m : Memory) → got (step_told keeps unit frames m) ≡ step_kept keeps unit frames m
unfolding step_told step_kept
step_told_is keeps unit [] m = refl
step_told_is keeps unit (top ∷ below) m =
    (step_of_agrees (keeps top.function) unit top below m (slice_get unit.functions top.function) top.todo).gives
