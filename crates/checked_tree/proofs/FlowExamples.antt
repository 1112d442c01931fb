-- Flow graphs, ranges and bounds of small functions, computed.
use Rattle.std.specs.Prelude.{◌≡◌, false, true, [], ◌∷◌, map, pos, negsuc, Some, None, refl}
use Rattle.dep_expr.specs.Linear.{LinearForm}
use Rattle.dep_expr.specs.Merged.{merged_terms}
use Rattle.dep_expr.specs.Normed.{gcd}
use Rattle.checked_tree.specs.declared.shapes.Scalar.TheVariants.{I32, U32, Pointer}
use Rattle.checked_tree.specs.declared.checks.Cond.TheVariants as cond
use Rattle.checked_tree.specs.declared.expressions.CheckedExpr.{CheckedExpr}
use Rattle.checked_tree.specs.declared.expressions.CheckedExpr.TheVariants as V
use Rattle.checked_tree.specs.declared.expressions.Comparison.TheVariants as comparison_op
use Rattle.checked_tree.specs.declared.expressions.Logic.TheVariants as logic_op
use Rattle.checked_tree.specs.declared.expressions.Unary.TheVariants as unary_op
use Rattle.checked_tree.specs.declared.statements.CheckedStmt.TheVariants as T
use Rattle.checked_tree.specs.Numbers.{converted, is_of}
use Rattle.checked_tree.specs.Ranges.{are_in_range}
use Rattle.checked_tree.specs.Edges.{edge_value}
use Rattle.checked_tree.specs.Bare.{bare}
use Rattle.checked_tree.specs.Flow.{Tests, Assigns, Finds, Passes, Flow, Leaves, Ends, Meets, Splits, as_value, as_test, seen, node_at, entry, ways}
use Rattle.checked_tree.specs.Redundant.{flows_of, paths_to, is_constant, is_over_locals, slots_of, comparable, fact_over_atoms, reads_memory, slots_read}
use Rattle.checked_tree.proofs.Equations.{at_forms, at_expressions, at_parts, at_statements}
use Rattle.checked_tree.proofs.Sample.{f, function, form, number}

-- `*p`, with its two checks
abbrev load : CheckedExpr
load = V.Load I32 (V.Through (V.Local 1) (1 ∷ (2 ∷ [])))

-- the flow of a test
abbrev test_flow : CheckedExpr → Flow
test_flow e = as_test (seen f.slots e) (Leaves true) (Leaves false)

abbrev less_than_3 : CheckedExpr
less_than_3 = V.Compare comparison_op.Less I32 (V.Local 0) (number (pos 3))

-- n - 3 + 1 <= 0, and 3 - n <= 0
abbrev below : LinearForm
below = form ((pos 1, 0) ∷ []) (negsuc 1)

abbrev not_below : LinearForm
not_below = form ((negsuc 0, 0) ∷ []) (pos 3)

-- 1 - p <= 0
abbrev not_null : LinearForm
not_null = form ((negsuc 0, 1) ∷ []) (pos 1)

-- a comparison of a local with a constant tells an inequality on either edge
comparison_flow : test_flow less_than_3 ≡ Splits (Meets (Finds (Some below)) (Leaves true)) (Meets (Finds (Some not_below)) (Leaves false))
unfolding seen ways node_at flows_of paths_to is_constant is_over_locals slots_of comparable fact_over_atoms reads_memory slots_read merged_terms gcd converted are_in_range is_of edge_value bare
comparison_flow = simp (at_forms, at_statements)

-- a pointer as a test is at least 1 on the edge where it holds
pointer_flow : test_flow (V.Local 1) ≡ Splits (Meets (Finds (Some not_null)) (Leaves true)) (Meets (Finds None) (Leaves false))
unfolding seen ways node_at flows_of paths_to is_constant is_over_locals slots_of comparable fact_over_atoms reads_memory slots_read merged_terms gcd converted are_in_range is_of edge_value bare
pointer_flow = simp (at_forms, at_statements)

-- `!` exchanges the edges
not_flow : test_flow (V.Unary unary_op.Not I32 (V.Local 1)) ≡ Splits (Meets (Finds (Some not_null)) (Leaves false)) (Meets (Finds None) (Leaves true))
unfolding seen ways node_at flows_of paths_to is_constant is_over_locals slots_of comparable fact_over_atoms reads_memory slots_read merged_terms gcd converted are_in_range is_of edge_value bare
not_flow = simp (at_forms, at_statements)

-- `p == 0` holds where `p` does not
equal_null_flow : test_flow (V.Compare comparison_op.Equal (Pointer 0) (V.Local 1) V.Null) ≡ Splits (Meets (Finds None) (Leaves true)) (Meets (Finds (Some not_null)) (Leaves false))
unfolding seen ways node_at flows_of paths_to is_constant is_over_locals slots_of comparable fact_over_atoms reads_memory slots_read merged_terms gcd converted are_in_range is_of edge_value bare
equal_null_flow = simp (at_forms, at_statements)

-- `0 == p` tells nothing
null_first_flow : test_flow (V.Compare comparison_op.Equal (Pointer 0) V.Null (V.Local 1)) ≡ Splits (Meets (Finds None) (Leaves true)) (Meets (Finds None) (Leaves false))
unfolding seen ways node_at flows_of paths_to is_constant is_over_locals slots_of comparable fact_over_atoms reads_memory slots_read merged_terms gcd converted are_in_range is_of edge_value bare
null_first_flow = simp (at_forms, at_statements)

-- an `int` local compared as `unsigned` tells nothing
unsigned_flow : test_flow (V.Compare comparison_op.Less U32 (V.Local 0) (V.Number (pos 3) U32)) ≡ Splits (Meets (Finds None) (Leaves true)) (Meets (Finds None) (Leaves false))
unfolding seen ways node_at flows_of paths_to is_constant is_over_locals slots_of comparable fact_over_atoms reads_memory slots_read merged_terms gcd converted are_in_range is_of edge_value bare
unsigned_flow = simp (at_forms, at_statements)

-- the leaves under `&&` of a test are taken apart: the right side is met where the left holds
and_flow : test_flow (V.Logical logic_op.And (V.Local 1) load) ≡ Splits (Meets (Finds (Some not_null)) (Meets (Tests 1) (Meets (Tests 2) (Splits (Meets (Finds None) (Leaves true)) (Meets (Finds None) (Leaves false)))))) (Meets (Finds None) (Leaves false))
unfolding seen ways node_at flows_of paths_to is_constant is_over_locals slots_of comparable fact_over_atoms reads_memory slots_read merged_terms gcd converted are_in_range is_of edge_value bare
and_flow = simp (at_forms, at_statements)

-- as a value there is one branch, on the left side
and_value_flow : as_value (seen f.slots (V.Logical logic_op.And (V.Local 1) load)) (Leaves true) ≡ Splits (Meets (Finds (Some not_null)) (Meets (Tests 1) (Meets (Tests 2) (Leaves true)))) (Meets (Finds None) (Leaves true))
unfolding seen ways node_at flows_of paths_to is_constant is_over_locals slots_of comparable fact_over_atoms reads_memory slots_read merged_terms gcd converted are_in_range is_of edge_value bare
and_value_flow = simp (at_forms, at_statements)

-- an assignment meets the checks of its parts, its own, and then assigns
assign_flow : (entry (function (T.Assign 3 0 I32 load (3 ∷ []) ∷ []))).flow ≡ Meets (Tests 1) (Meets (Tests 2) (Meets (Tests 3) (Meets (Assigns (0 ∷ [])) (Leaves true))))
unfolding seen ways node_at flows_of paths_to is_constant is_over_locals slots_of comparable fact_over_atoms reads_memory slots_read merged_terms gcd converted are_in_range is_of edge_value bare
assign_flow = simp (at_forms, at_statements)

-- a return ends the function
return_flow : (entry (function (T.Return 3 None [] ∷ []))).flow ≡ Ends
unfolding seen ways node_at flows_of paths_to is_constant is_over_locals slots_of comparable fact_over_atoms reads_memory slots_read merged_terms gcd converted are_in_range is_of edge_value bare
return_flow = simp (at_forms, at_statements)

-- from the end of a loop's test a walk goes into its body, behind which the loop stands again
loop_ways : ways (function []) (record { flow = Leaves true; holds = T.Empty 4 ∷ (T.While 3 (V.Local 0) (T.Empty 4 ∷ []) ∷ []); fails = [] }) ≡ (Passes, record { flow = Leaves true; holds = T.While 3 (V.Local 0) (T.Empty 4 ∷ []) ∷ []; fails = T.While 3 (V.Local 0) (T.Empty 4 ∷ []) ∷ [] }) ∷ []
unfolding seen ways node_at flows_of paths_to is_constant is_over_locals slots_of comparable fact_over_atoms reads_memory slots_read merged_terms gcd converted are_in_range is_of edge_value bare
loop_ways = simp (at_forms, at_statements)

-- the ways to a check from the start of its statement
the_paths : map (paths_to 2) (flows_of (function (T.If 3 (V.Logical logic_op.And (V.Local 1) load) (T.Empty 4 ∷ []) [] ∷ []))) ≡ ((Finds (Some not_null) ∷ (Tests 1 ∷ [])) ∷ []) ∷ ([] ∷ [])
unfolding seen ways node_at flows_of paths_to is_constant is_over_locals slots_of comparable fact_over_atoms reads_memory slots_read merged_terms gcd converted are_in_range is_of edge_value bare
the_paths = simp (at_forms, at_parts, at_statements)

-- an inequality without atoms that is true
a_constant_inequality : is_constant (cond.Le (record { left = form [] (negsuc 2); guard = None })) ≡ true
unfolding seen ways node_at flows_of paths_to is_constant is_over_locals slots_of comparable fact_over_atoms reads_memory slots_read merged_terms gcd converted are_in_range is_of edge_value bare
a_constant_inequality = refl

-- one that is false
a_false_inequality : is_constant (cond.Le (record { left = form [] (pos 2); guard = None })) ≡ false
unfolding seen ways node_at flows_of paths_to is_constant is_over_locals slots_of comparable fact_over_atoms reads_memory slots_read merged_terms gcd converted are_in_range is_of edge_value bare
a_false_inequality = refl

-- a divisor that is a constant and not 0
a_constant_divisor : is_constant (cond.NonZero (form [] (pos 2))) ≡ true
unfolding seen ways node_at flows_of paths_to is_constant is_over_locals slots_of comparable fact_over_atoms reads_memory slots_read merged_terms gcd converted are_in_range is_of edge_value bare
a_constant_divisor = refl

-- a gap of which each coefficient is a multiple of the size
a_constant_gap : is_constant (cond.Aligned (form ((pos 8, 1) ∷ []) (negsuc 3)) 4 (form ((pos 1, 1) ∷ []) (pos 0))) ≡ true
unfolding seen ways node_at flows_of paths_to is_constant is_over_locals slots_of comparable fact_over_atoms reads_memory slots_read merged_terms gcd converted are_in_range is_of edge_value bare
a_constant_gap = refl

-- an inequality over locals, and its slots
over_locals : slots_of f (record { left = form ((pos 1, 1) ∷ ((negsuc 0, 3) ∷ [])) (pos 4); guard = Some (form ((pos 1, 0) ∷ []) (pos 0)) }) ≡ 1 ∷ (3 ∷ (0 ∷ []))
unfolding seen ways node_at flows_of paths_to is_constant is_over_locals slots_of comparable fact_over_atoms reads_memory slots_read merged_terms gcd converted are_in_range is_of edge_value bare
over_locals = simp (at_forms, at_statements)

-- a load reads memory
reads : reads_memory load ≡ true
unfolding seen ways node_at flows_of paths_to is_constant is_over_locals slots_of comparable fact_over_atoms reads_memory slots_read merged_terms gcd converted are_in_range is_of edge_value bare
reads = simp (at_forms, at_statements)

-- an address does not
reads_nothing : reads_memory (V.AddressOf (V.Through (V.Local 1) [])) ≡ false
unfolding seen ways node_at flows_of paths_to is_constant is_over_locals slots_of comparable fact_over_atoms reads_memory slots_read merged_terms gcd converted are_in_range is_of edge_value bare
reads_nothing = simp (at_forms, at_statements)

-- a fact over slots as an inequality over atoms
the_fact : fact_over_atoms f (form ((pos 2, 0) ∷ []) (negsuc 2)) ≡ Some (record { left = form ((pos 1, 0) ∷ []) (negsuc 0); guard = None })
unfolding seen ways node_at flows_of paths_to is_constant is_over_locals slots_of comparable fact_over_atoms reads_memory slots_read merged_terms gcd converted are_in_range is_of edge_value bare
the_fact = simp at_expressions

-- locals in range
in_range : are_in_range f.slots (negsuc 4 ∷ (pos 16 ∷ (pos 16 ∷ (pos 28 ∷ [])))) ≡ true
unfolding seen ways node_at flows_of paths_to is_constant is_over_locals slots_of comparable fact_over_atoms reads_memory slots_read merged_terms gcd converted are_in_range is_of edge_value bare
in_range = refl

-- a hidden bound below 0 is not
out_of_range : are_in_range f.slots (negsuc 4 ∷ (pos 16 ∷ (negsuc 0 ∷ (pos 28 ∷ [])))) ≡ false
unfolding seen ways node_at flows_of paths_to is_constant is_over_locals slots_of comparable fact_over_atoms reads_memory slots_read merged_terms gcd converted are_in_range is_of edge_value bare
out_of_range = refl

-- `p + 4 * n` where p is 16 and n is 3
an_edge : edge_value (λ k. pos 3) (pos 16) (record { base = None; terms = (pos 4, 0) ∷ []; bytes = pos 0 }) ≡ pos 28
unfolding seen ways node_at flows_of paths_to is_constant is_over_locals slots_of comparable fact_over_atoms reads_memory slots_read merged_terms gcd converted are_in_range is_of edge_value bare
an_edge = refl

-- a bare form has no checks
a_bare_form : bare load ≡ V.Load I32 (V.Through (V.Local 1) [])
unfolding seen ways node_at flows_of paths_to is_constant is_over_locals slots_of comparable fact_over_atoms reads_memory slots_read merged_terms gcd converted are_in_range is_of edge_value bare
a_bare_form = simp (at_forms, at_statements)
