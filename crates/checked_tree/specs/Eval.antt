-- Evaluation with checks: parts first, left to right, each with its checks; then the form's own checks; then its value.
use Rattle.std.specs.Prelude.{ℕ, ◌-◌, ◌==◌, Bool, true, false, List, [], ◌∷◌, Option, Some, None, Ok, Err, slice_get, slice_index_or, if◌then◌else◌}
use Rattle.sd_base.specs.declared.kinds.FailKind.TheVariants as fail
use Rattle.checked_tree.specs.declared.stops.Stop.TheVariants.{Failed, Wild}
use Rattle.checked_tree.specs.declared.checks.Check.{Check}
use Rattle.checked_tree.specs.declared.units.CheckedFn.{CheckedFn}
use Rattle.checked_tree.specs.declared.expressions.CheckedExpr.{CheckedExpr}
use Rattle.checked_tree.specs.declared.expressions.CheckedExpr.TheFolds.{fold-CheckedExpr}
use Rattle.checked_tree.specs.Outcome.{Outcome, Got, ◌>>=◌}
use Rattle.checked_tree.specs.Conditions.{State, eval_level, condition}

-- which checks are tested: an entry for each check, by number, from 1. Past the end every check is, so that `[]` tests all
abbrev pub Keep : Type 0
Keep = List Bool

-- whether the check with this number is tested
abbrev pub is_kept : Keep → ℕ → Bool
is_kept keep id = if id == 0 then true else slice_index_or keep (id - 1) true

-- the check with this number. Numbers begin with 1: no check has the number 0
abbrev pub check_of : CheckedFn → ℕ → Option Check
check_of f id = if id == 0 then None else slice_get f.checks (id - 1)

-- a check that does not hold fails, at its line, by its kind
abbrev pub or_fails : Check → Bool → Outcome (Unit {0})
or_fails c true = Ok tt
or_fails c false = Err (Failed c.line (fail.Check c.kind))

-- the test of one check
abbrev pub test : CheckedFn → State → Option Check → Outcome (Unit {0})
test f s (Some c) = condition f.atoms s c.cond >>= or_fails c
test f s None = Err Wild

-- the tests of checks in order, the kept ones alone
unfoldable pub tests : Keep → CheckedFn → State → List ℕ → Outcome (Unit {0})
tests keep f s [] = Ok tt
tests keep f s (id ∷ ids) = (if is_kept keep id then test f s (check_of f id) else Ok tt) >>= λ _. tests keep f s ids

-- the value of an expression in a function's frame
unfoldable pub eval : Keep → CheckedFn → State → CheckedExpr → Got
eval keep f s e = fold-CheckedExpr Got (eval_level (tests keep f s) s) e
