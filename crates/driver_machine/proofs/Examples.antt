-- The definitions tried: `while (p) return i;` with `return p;` behind it.
use Rattle.std.proofs.Common.{◌≡◌, ℕ, true, false, List, [], ◌∷◌, ◌++◌, Some}
use Rattle.checked_tree.specs.declared.expressions.CheckedExpr.TheVariants as V
use Rattle.checked_tree.specs.declared.shapes.Scalar.TheVariants.{I32}
use Rattle.checked_tree.specs.declared.statements.CheckedStmt.{CheckedStmt}
use Rattle.checked_tree.specs.declared.statements.CheckedStmt.TheVariants as T
use Rattle.checked_tree.proofs.Equations.{at_parts, at_statements}
use Rattle.driver_machine.specs.declared.position.Place.{Place}
use Rattle.safe_code.specs.Runnable.{is_roomy, are_roomy}
use Rattle.driver_machine.specs.Paths.{list_at, todo_at, picked_from}
use Rattle.safe_code.specs.Runnable.{nest, depth}

returned : ℕ → CheckedStmt
returned slot = T.Return 9 (Some (record { scalar = I32; value = V.Local slot })) []

inner : List CheckedStmt
inner = returned 2 ∷ []

body : List CheckedStmt
body = T.While 9 (V.Local 0) inner ∷ returned 0 ∷ []

abbrev in_loop : List Place
in_loop = record { at = 0; holds = true } ∷ []

-- the body of the loop, and behind it the loop again
the_part : list_at body in_loop ≡ inner
unfolding body
the_part = simp at_statements

in_the_loop : todo_at body in_loop 0 ≡ inner ++ body
unfolding todo_at body inner
in_the_loop = simp at_statements

behind_the_loop : todo_at body in_loop 1 ≡ body
unfolding todo_at body inner
behind_the_loop = simp at_statements

-- a test that holds, and one that does not
the_test_holds : picked_from body true ≡ inner ++ body
unfolding body inner
the_test_holds = simp at_statements

the_test_fails : picked_from body false ≡ returned 0 ∷ []
unfolding body
the_test_fails = simp at_statements

one_deep : depth body ≡ 1
unfolding nest body inner returned
one_deep = simp at_parts

has_rooms : are_roomy body ≡ true
unfolding is_roomy body inner returned
has_rooms = simp at_parts
