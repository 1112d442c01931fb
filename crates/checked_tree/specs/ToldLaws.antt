-- The laws of what is told: beside the numbers of the checks that were tested stands the evaluation, the statement or the step itself.
use Rattle.std.specs.Prelude.{◌≡◌}
use Rattle.byte_memory.specs.Tested.{Memory}
use Rattle.checked_tree.specs.declared.expressions.CheckedExpr.{CheckedExpr}
use Rattle.checked_tree.specs.declared.statements.CheckedStmt.{CheckedStmt}
use Rattle.checked_tree.specs.declared.statements.CheckedStmt.TheOpen as S
use Rattle.checked_tree.specs.declared.units.CheckedFn.{CheckedFn}
use Rattle.checked_tree.specs.declared.units.CheckedUnit.{CheckedUnit}
use Rattle.checked_tree.specs.Conditions.{State}
use Rattle.checked_tree.specs.Eval.{Keep, eval}
use Rattle.checked_tree.specs.Act.{act}
use Rattle.checked_tree.specs.Step.{Activity, Keeps, step_kept}
use Rattle.checked_tree.specs.Told.{got, told}
use Rattle.checked_tree.specs.ActTold.{act_told, step_told}

abbrev pub ToldIsEvaluated : Type 0
ToldIsEvaluated = (keep : Keep) (f : CheckedFn) (s : State) (e : CheckedExpr) → got (told keep f s e) ≡ eval keep f s e

abbrev pub ToldIsDone : Type 0
ToldIsDone = (keep : Keep) (f : CheckedFn) (s : State) (y : S.CheckedStmt-F CheckedStmt) → got (act_told keep f s y) ≡ act keep f s y

abbrev pub ToldIsStepped : Type 0
ToldIsStepped =
    (keeps : Keeps) (unit : CheckedUnit) (frames : Activity) (m : Memory) → got (step_told keeps unit frames m) ≡ step_kept keeps unit frames m
