-- Each frame of an activity but the top one waits in a call of the function of the frame above it.
use Rattle.std.specs.Prelude.{ℕ, ◌==◌, Bool, true, false, ◌&&◌, List, [], ◌∷◌}
use Rattle.checked_tree.specs.declared.statements.CheckedStmt.{CheckedStmt, out-CheckedStmt}
use Rattle.checked_tree.specs.declared.statements.CheckedStmt.TheOpen as S
use Rattle.checked_tree.specs.Step.{Activity}

-- a statement that calls this function
abbrev pub is_call_of : ℕ → S.CheckedStmt-F CheckedStmt → Bool
is_call_of callee (S.Call line target number values checks) = number == callee
is_call_of callee _ = false

-- such a statement stands first
abbrev pub calls_first : ℕ → List CheckedStmt → Bool
calls_first callee [] = false
calls_first callee (st ∷ rest) = is_call_of callee (out-CheckedStmt st)

-- the first of these frames waits in a call of this function, if there is one
abbrev pub waits_for : ℕ → Activity → Bool
waits_for callee [] = true
waits_for callee (caller ∷ below) = calls_first callee caller.todo

unfoldable pub are_waiting : Activity → Bool
are_waiting [] = true
are_waiting (top ∷ below) = waits_for top.function below && are_waiting below
