-- The kinds of nodes at which something is known, and what the events on the way to them do to an inequality, computed.
use Rattle.std.specs.Prelude.{◌≡◌, ℕ, Bool, true, false, List, [], ◌∷◌, ℤ, pos, negsuc, Some, None, refl}
use Rattle.dep_expr.specs.Merged.{merged_terms}
use Rattle.dep_expr.specs.Normed.{gcd}
use Rattle.dep_expr.specs.Inequality.{implies}
use Rattle.dep_expr.specs.declared.inequality.Ineq.{Ineq}
use Rattle.checked_tree.specs.declared.shapes.Scalar.TheVariants.{I32, U32}
use Rattle.checked_tree.specs.declared.shapes.Shape.TheVariants as shape
use Rattle.checked_tree.specs.declared.kernel.KernelName.TheVariants as kernel
use Rattle.checked_tree.specs.declared.expressions.CheckedExpr.{CheckedExpr}
use Rattle.checked_tree.specs.declared.expressions.CheckedExpr.TheVariants as V
use Rattle.checked_tree.specs.declared.expressions.Comparison.TheVariants as comparison_op
use Rattle.checked_tree.specs.declared.statements.Target.TheVariants as target
use Rattle.checked_tree.specs.declared.statements.CheckedStmt.{CheckedStmt}
use Rattle.checked_tree.specs.declared.statements.CheckedStmt.TheVariants as T
use Rattle.checked_tree.specs.Flow.{Event, Tests, Assigns, Finds, Passes, Flow, Leaves, Ends, Meets, Splits, as_test, seen, node_at, entry, ways}
use Rattle.checked_tree.specs.Redundant.{event_inequality, comparable, fact_over_atoms, slots_of, slots_read}
use Rattle.checked_tree.specs.Effects.{Gives, Takes, Keeps, met_by, effect_of}
use Rattle.checked_tree.specs.Known.{waiting_at, place_of}
use Rattle.checked_tree.proofs.Equations.{at_forms, at_expressions, at_statements}
use Rattle.checked_tree.proofs.Listings.{form, get, sum, sum_exchanged}
use Rattle.checked_tree.proofs.Sample.{f}

abbrev rest : List CheckedStmt
rest = T.Empty 6 ∷ []

-- ---- nodes
-- a frame that waits in a call stands behind its arguments and checks, before its result is stored
waits_in_a_call : waiting_at f (T.Call 3 (Some (target.Int 0 I32)) 1 [] (1 ∷ []) ∷ rest) ≡ record { flow = Meets (Assigns (0 ∷ [])) (Leaves true); holds = rest; fails = rest }
unfolding waiting_at
waits_in_a_call = simp at_statements

-- where the result is dropped nothing is assigned
waits_for_nothing : waiting_at f (T.Call 3 None 1 [] [] ∷ rest) ≡ record { flow = Meets (Assigns []) (Leaves true); holds = rest; fails = rest }
unfolding waiting_at
waits_for_nothing = simp at_statements

-- a block of the kernel is assigned to a pointer and its two hidden bounds
waits_for_a_block : waiting_at f (T.Kernel 3 (Some (target.Automatic 1 2)) kernel.Kalloc [] None 0 0 4 ∷ rest) ≡ record { flow = Meets (Assigns (1 ∷ (2 ∷ (3 ∷ [])))) (Leaves true); holds = rest; fails = rest }
unfolding waiting_at
waits_for_a_block = simp at_statements

-- a frame that has not begun its call stands before its checks
begins_a_call : place_of f false (T.Call 3 (Some (target.Int 0 I32)) 1 [] (1 ∷ []) ∷ rest) ≡ record { flow = Meets (Tests 1) (Meets (Assigns (0 ∷ [])) (Leaves true)); holds = rest; fails = rest }
unfolding node_at
begins_a_call = simp at_statements

-- the way on from where it waits
way_of_the_result : ways f (record { flow = Meets (Assigns (0 ∷ [])) (Leaves true); holds = rest; fails = rest }) ≡ (Assigns (0 ∷ []), record { flow = Leaves true; holds = rest; fails = rest }) ∷ []
unfolding ways
way_of_the_result = refl

-- a branch leads either way
ways_of_a_branch : ways f (record { flow = Splits (Leaves true) (Leaves false); holds = rest; fails = [] }) ≡ (Passes, record { flow = Leaves true; holds = rest; fails = [] }) ∷ ((Passes, record { flow = Leaves false; holds = rest; fails = [] }) ∷ [])
unfolding ways
ways_of_a_branch = refl

-- the end of a function leads nowhere
no_way : ways f (node_at f []) ≡ []
unfolding ways node_at
no_way = refl

-- ---- events
-- an `unsigned` local against a constant of at least 0 tells what whole numbers tell; against a negative one nothing
abbrev below : ℤ → CheckedExpr
below z = V.Compare comparison_op.Less U32 (V.Local 0) (V.Number z I32)

abbrev test_flow : CheckedExpr → Flow
test_flow e = as_test (seen (shape.Int U32 ∷ []) e) (Leaves true) (Leaves false)

unsigned_below_3 : test_flow (below (pos 3)) ≡ Splits (Meets (Finds (Some (form ((pos 1, 0) ∷ []) (negsuc 1)))) (Leaves true)) (Meets (Finds (Some (form ((negsuc 0, 0) ∷ []) (pos 3)))) (Leaves false))
unfolding seen
unsigned_below_3 = simp at_forms

unsigned_below_minus_1 : test_flow (below (negsuc 0)) ≡ Splits (Meets (Finds None) (Leaves true)) (Meets (Finds None) (Leaves false))
unfolding seen
unsigned_below_minus_1 = simp at_forms

-- 1 <= p, as the rules compare it
abbrev not_null_p : Ineq
not_null_p = record { left = form ((negsuc 0, 0) ∷ []) (pos 1); guard = None }

-- int get(int *p) { int x; x = *p; *p = x; return x; }: at the second null check the walk from the entry has met the first, and x is no local of it
met_in_get : met_by (effect_of get not_null_p) false (Tests 1 ∷ Tests 2 ∷ Assigns (1 ∷ []) ∷ Passes ∷ []) ≡ true
unfolding effect_of implies comparable merged_terms gcd slots_of slots_read
met_in_get = simp at_forms

-- an assignment of p would take it
taken_by_assignment : met_by (effect_of get not_null_p) false (Tests 1 ∷ Assigns (0 ∷ []) ∷ []) ≡ false
unfolding effect_of implies comparable merged_terms gcd slots_of slots_read
taken_by_assignment = simp at_forms

-- i - n + 1 <= 0 over the atoms p, i, n: what the second check of `s = s + p[i];` says
abbrev within : Ineq
within = record { left = form ((pos 1, 1) ∷ ((negsuc 0, 2) ∷ [])) (pos 1); guard = None }

-- `i < n` over the slots p, n, i, s
abbrev i_below_n : Event
i_below_n = Finds (Some (form ((pos 1, 2) ∷ ((negsuc 0, 1) ∷ [])) (pos 1)))

-- the branch of the loop gives it
given_by_the_branch : event_inequality sum i_below_n ≡ Some within
unfolding fact_over_atoms comparable merged_terms gcd
given_by_the_branch = simp at_expressions

-- so in the loop it is met where the element is read first
met_in_sum : met_by (effect_of sum within) false (i_below_n ∷ Passes ∷ Tests 1 ∷ []) ≡ true
unfolding effect_of implies fact_over_atoms comparable merged_terms gcd slots_of slots_read
met_in_sum = simp (at_forms, at_expressions)

-- and not where `i = i + 1;` stands before
lost_when_exchanged : met_by (effect_of sum_exchanged within) false (i_below_n ∷ Passes ∷ Assigns (2 ∷ []) ∷ Passes ∷ Tests 1 ∷ []) ≡ false
unfolding effect_of implies fact_over_atoms comparable merged_terms gcd slots_of slots_read
lost_when_exchanged = simp (at_forms, at_expressions)
