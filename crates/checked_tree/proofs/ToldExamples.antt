-- What is told of the checks that are tested, computed.
use Rattle.std.specs.Prelude.{◌≡◌, ℕ, false, List, [], ◌∷◌, pos, negsuc, Ok, Err, Some, None, refl}
use Rattle.sd_base.specs.declared.kinds.CheckKind.TheVariants as kind
use Rattle.sd_base.specs.declared.kinds.FailKind.TheVariants as fail
use Rattle.checked_tree.specs.declared.stops.Stop.TheVariants.{Failed, Wild}
use Rattle.checked_tree.specs.declared.shapes.Scalar.TheVariants.{I32}
use Rattle.checked_tree.specs.declared.expressions.CheckedExpr.{CheckedExpr}
use Rattle.checked_tree.specs.declared.expressions.CheckedExpr.TheVariants as V
use Rattle.checked_tree.specs.declared.expressions.Logic.TheVariants as logic_op
use Rattle.checked_tree.specs.declared.statements.CheckedStmt.TheVariants as T
use Rattle.byte_memory.specs.Bytes.{little_endian, bytes_at}
use Rattle.checked_tree.specs.Numbers.{converted}
use Rattle.checked_tree.specs.Memory.{reached, read, load}
use Rattle.checked_tree.specs.Conditions.{peek, form_value, condition}
use Rattle.checked_tree.specs.Operands.{taken}
use Rattle.checked_tree.specs.Step.{all_kept}
use Rattle.checked_tree.specs.Told.{Told, Tells, count_tested, tests_told, told}
use Rattle.checked_tree.specs.ActTold.{act_told, step_told}
use Rattle.checked_tree.proofs.Equations.{at_forms, at_statements}
use Rattle.checked_tree.proofs.Sample.{state, memory, f, unit, number}

-- `*p`, with its two checks
abbrev load_p : CheckedExpr
load_p = V.Load I32 (V.Through (V.Local 1) (1 ∷ (2 ∷ [])))

-- both are told, in order, beside the value
tells_both : told [] f (state (pos 5) (pos 20)) load_p ≡ Tells (Ok (negsuc 1)) (1 ∷ 2 ∷ [])
unfolding told tests_told condition form_value peek load read reached bytes_at little_endian converted
tells_both = simp at_forms

-- one that fails is told, and none behind it
tells_the_failing : told [] f (state (pos 5) (pos 0)) load_p ≡ Tells (Err (Failed 7 (fail.Check kind.Null))) (1 ∷ [])
unfolding told tests_told condition form_value peek load read reached bytes_at little_endian converted
tells_the_failing = simp at_forms

-- one that is not kept is neither tested nor told
tells_the_kept : told (false ∷ []) f (state (pos 5) (pos 20)) load_p ≡ Tells (Ok (negsuc 1)) (2 ∷ [])
unfolding told tests_told condition form_value peek load read reached bytes_at little_endian converted
tells_the_kept = simp at_forms

-- `n && *p`: where the left side is 0 the right side is not met
tells_nothing : told [] f (state (pos 0) (pos 20)) (V.Logical logic_op.And (V.Local 0) load_p) ≡ Tells (Ok (pos 0)) []
unfolding told tests_told condition form_value peek load read reached bytes_at little_endian converted
tells_nothing = simp at_forms

-- no check has the number 0: to test it has no meaning
tells_no_check : told [] f (state (pos 5) (pos 20)) (V.Through (V.Local 1) (0 ∷ [])) ≡ Tells (Err Wild) []
unfolding told tests_told
tells_no_check = simp at_forms

-- a step counts the checks of its statement: `n = *p;` under the check that n is not 0
counts_three : count_tested (step_told all_kept (unit (f ∷ [])) (record { function = 0; locals = pos 5 ∷ pos 20 ∷ pos 16 ∷ pos 28 ∷ []; todo = T.Assign 7 0 I32 load_p (3 ∷ []) ∷ [] } ∷ []) memory) ≡ 3
unfolding step_told act_told told tests_told condition form_value peek load read reached bytes_at little_endian converted taken
counts_three = simp (at_forms, at_statements)
