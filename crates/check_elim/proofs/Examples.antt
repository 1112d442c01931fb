-- Which checks of small drivers are redundant, with every walk: what the analysis says of each, and so (by `decided`) what the walks say.
use Rattle.std.specs.Prelude.{◌≡◌, ℕ, Bool, true, false, List, [], ◌∷◌, map, pos, negsuc, Some, None}
use Rattle.std.proofs.Common.{ap}
use Rattle.dep_expr.specs.Merged.{merged_terms}
use Rattle.dep_expr.specs.Normed.{gcd}
use Rattle.sd_base.specs.declared.kinds.CheckKind.TheVariants as kind
use Rattle.checked_tree.specs.declared.shapes.Scalar.TheVariants.{I32, U32}
use Rattle.checked_tree.specs.declared.shapes.Bounds.TheVariants as bounds
use Rattle.checked_tree.specs.declared.shapes.Shape.TheVariants as shape
use Rattle.checked_tree.specs.declared.checks.Cond.TheVariants as cond
use Rattle.checked_tree.specs.declared.checks.Check.{Check}
use Rattle.checked_tree.specs.declared.expressions.Comparison.{Comparison}
use Rattle.checked_tree.specs.declared.expressions.CheckedExpr.{CheckedExpr}
use Rattle.checked_tree.specs.declared.expressions.CheckedExpr.TheVariants as V
use Rattle.checked_tree.specs.declared.expressions.Arithmetic.TheVariants as arithmetic_op
use Rattle.checked_tree.specs.declared.expressions.Comparison.TheVariants as comparison_op
use Rattle.checked_tree.specs.declared.statements.CheckedStmt.{CheckedStmt}
use Rattle.checked_tree.specs.declared.statements.CheckedStmt.TheVariants as T
use Rattle.checked_tree.specs.declared.units.CheckedFn.{CheckedFn}
use Rattle.checked_tree.specs.Flow.{seen}
use Rattle.checked_tree.specs.Redundant.{comparable, is_constant, is_over_locals, reads_memory, slots_of, slots_read, flows_of, fact_over_atoms, Redundant}
use Rattle.checked_tree.proofs.Equations.{at_forms, at_parts, at_expressions}
use Rattle.checked_tree.proofs.Listings.{get, in_one, in_two, plain_edge, sum, sum_exchanged}
use Rattle.check_elim.specs.Ways.{comes_in, passing}
use Rattle.check_elim.specs.Facts.{implies, effect_of, is_met_before}
use Rattle.check_elim.specs.Redundancy.{same_check, follows_equal, redundant}
use Rattle.check_elim.proofs.Deciding.{decided}

-- which of these checks are removed
abbrev removed : CheckedFn → List ℕ → List Bool
removed f ids = map (redundant f) ids

-- `int get(int *p) { int x; x = *p; *p = x; return x; }`: the second null check stands behind the first
of_get : removed get (1 ∷ 2 ∷ 3 ∷ 4 ∷ []) ≡ false ∷ true ∷ true ∷ true ∷ []
unfolding redundant is_constant follows_equal flows_of seen same_check is_met_before is_over_locals comparable merged_terms gcd reads_memory slots_of slots_read comes_in passing effect_of implies fact_over_atoms
of_get = simp (at_forms, at_parts, at_expressions)

third_of_get : Redundant get 3
third_of_get = (decided get 3).0 (let e : redundant get 3 ≡ true = ap third of_get in e)
  where
    third : List Bool → Bool
    third (a ∷ (b ∷ (c ∷ l))) = c
    third _ = true

-- in two statements what reads memory is tested again, in one it is not
of_two : removed in_two (1 ∷ 2 ∷ 3 ∷ 4 ∷ 5 ∷ 6 ∷ []) ≡ false ∷ true ∷ false ∷ false ∷ true ∷ false ∷ []
unfolding redundant is_constant follows_equal flows_of seen same_check is_met_before is_over_locals comparable merged_terms gcd reads_memory slots_of slots_read comes_in passing effect_of implies fact_over_atoms
of_two = simp (at_forms, at_parts, at_expressions)

of_one : removed in_one (1 ∷ 2 ∷ 3 ∷ 4 ∷ 5 ∷ 6 ∷ []) ≡ false ∷ true ∷ false ∷ true ∷ true ∷ true ∷ []
unfolding redundant is_constant follows_equal flows_of seen same_check is_met_before is_over_locals comparable merged_terms gcd reads_memory slots_of slots_read comes_in passing effect_of implies fact_over_atoms
of_one = simp (at_forms, at_parts, at_expressions)

-- a loop over elements, written out
abbrev over_all : List CheckedStmt → CheckedFn
over_all body = record {
  name = [];
  params = 2;
  slots = shape.Pointer 1 (bounds.Within (plain_edge (pos 0)) (record { base = None; terms = (pos 4, 1) ∷ []; bytes = pos 0 })) ∷ shape.Int U32 ∷ shape.Int U32 ∷ shape.Int I32 ∷ [];
  result = I32;
  atoms = V.Local 0 ∷ V.Local 2 ∷ V.Local 1 ∷ [];
  checks =
      (record { id = 1; line = 5; kind = kind.Null; cond = cond.Le (record { left = record { terms = (negsuc 0, 0) ∷ []; constant = pos 1 }; guard = None }) })
      ∷ (record { id = 2; line = 5; kind = kind.Bound; cond = cond.Le (record { left = record { terms = (pos 4, 1) ∷ (negsuc 3, 2) ∷ []; constant = pos 4 }; guard = None }) }) ∷ [];
  body = T.While 4 (V.Compare comparison_op.Less U32 (V.Local 2) (V.Local 1)) body ∷ T.Return 1 (Some (record { scalar = I32; value = V.Local 3 })) [] ∷ [];
}

of_written : removed
    (over_all (T.Assign 5 3 I32 (V.Binary arithmetic_op.Add I32 (V.Local 3) (V.Load I32 (V.Element (V.Local 0) (V.Local 2) 4 (1 ∷ 2 ∷ []))) []) []
    ∷ T.Assign 6 2 U32 (V.Binary arithmetic_op.Add U32 (V.Local 2) (V.Number (pos 1) I32) []) [] ∷ [])) (1 ∷ 2 ∷ []) ≡ false ∷ true ∷ []
unfolding redundant is_constant follows_equal flows_of seen same_check is_met_before is_over_locals comparable merged_terms gcd reads_memory slots_of slots_read comes_in passing effect_of implies fact_over_atoms
of_written = simp (at_forms, at_parts, at_expressions)

of_turned : removed
    (over_all (T.Assign 6 2 U32 (V.Binary arithmetic_op.Add U32 (V.Local 2) (V.Number (pos 1) I32) []) []
    ∷ T.Assign 5 3 I32 (V.Binary arithmetic_op.Add I32 (V.Local 3) (V.Load I32 (V.Element (V.Local 0) (V.Local 2) 4 (1 ∷ 2 ∷ []))) []) [] ∷ [])) (1 ∷ 2 ∷ []) ≡ false ∷ false ∷ []
unfolding redundant is_constant follows_equal flows_of seen same_check is_met_before is_over_locals comparable merged_terms gcd reads_memory slots_of slots_read comes_in passing effect_of implies fact_over_atoms
of_turned = simp (at_forms, at_parts, at_expressions)

-- the test of the loop tells the bound, unless the index moves before the element is read
of_sum : removed sum (1 ∷ 2 ∷ []) ≡ false ∷ true ∷ []
of_sum = of_written

of_exchanged : removed sum_exchanged (1 ∷ 2 ∷ []) ≡ false ∷ false ∷ []
of_exchanged = of_turned

-- ---- the leaves of tests, on both edges: `if (..) { x = p[i]; } else { x = p[i]; }` for `int *count(n) p`, with the checks 1 and 2 where the test holds, 3 and 4 where not
abbrev read_at : ℕ → ℕ → CheckedStmt
read_at a b = T.Assign 3 3 I32 (V.Load I32 (V.Element (V.Local 0) (V.Local 2) 4 (a ∷ b ∷ []))) []

abbrev null_check : ℕ → Check
null_check id = record { id = id; line = 3; kind = kind.Null; cond = cond.Le (record { left = record { terms = (negsuc 0, 0) ∷ []; constant = pos 1 }; guard = None }) }

abbrev bound_check : ℕ → Check
bound_check id = record { id = id; line = 3; kind = kind.Bound; cond = cond.Le (record { left = record { terms = (pos 4, 1) ∷ (negsuc 3, 2) ∷ []; constant = pos 4 }; guard = None }) }

abbrev branching : CheckedExpr → CheckedFn
branching test = record {
  name = [];
  params = 2;
  slots = shape.Pointer 1 (bounds.Within (plain_edge (pos 0)) (record { base = None; terms = (pos 4, 1) ∷ []; bytes = pos 0 })) ∷ shape.Int U32 ∷ shape.Int U32 ∷ shape.Int I32 ∷ [];
  result = I32;
  atoms = V.Local 0 ∷ V.Local 2 ∷ V.Local 1 ∷ [];
  checks = null_check 1 ∷ bound_check 2 ∷ null_check 3 ∷ bound_check 4 ∷ [];
  body = T.If 2 test (read_at 1 2 ∷ []) (read_at 3 4 ∷ []) ∷ [];
}

abbrev tested : CheckedExpr → List Bool
tested test = removed (branching test) (1 ∷ 2 ∷ 3 ∷ 4 ∷ [])

abbrev compared : Comparison → CheckedExpr → CheckedExpr → CheckedExpr
compared op a b = V.Compare op U32 a b

-- i < n, n > i; i >= n, n <= i; i <= n is too weak
of_less : tested (compared comparison_op.Less (V.Local 2) (V.Local 1)) ≡ false ∷ true ∷ false ∷ false ∷ []
unfolding redundant is_constant follows_equal flows_of seen same_check is_met_before is_over_locals comparable merged_terms gcd reads_memory slots_of slots_read comes_in passing effect_of implies fact_over_atoms
of_less = simp (at_forms, at_parts, at_expressions)

of_greater_equal : tested (compared comparison_op.GreaterEqual (V.Local 2) (V.Local 1)) ≡ false ∷ false ∷ false ∷ true ∷ []
unfolding redundant is_constant follows_equal flows_of seen same_check is_met_before is_over_locals comparable merged_terms gcd reads_memory slots_of slots_read comes_in passing effect_of implies fact_over_atoms
of_greater_equal = simp (at_forms, at_parts, at_expressions)

of_less_equal : tested (compared comparison_op.LessEqual (V.Local 2) (V.Local 1)) ≡ false ∷ false ∷ false ∷ false ∷ []
unfolding redundant is_constant follows_equal flows_of seen same_check is_met_before is_over_locals comparable merged_terms gcd reads_memory slots_of slots_read comes_in passing effect_of implies fact_over_atoms
of_less_equal = simp (at_forms, at_parts, at_expressions)

-- p, p == 0, and 0 != p, which tells nothing
of_pointer : tested (V.Local 0) ≡ true ∷ false ∷ false ∷ false ∷ []
unfolding redundant is_constant follows_equal flows_of seen same_check is_met_before is_over_locals comparable merged_terms gcd reads_memory slots_of slots_read comes_in passing effect_of implies fact_over_atoms
of_pointer = simp (at_forms, at_parts, at_expressions)

of_null : tested (compared comparison_op.Equal (V.Local 0) V.Null) ≡ false ∷ false ∷ true ∷ false ∷ []
unfolding redundant is_constant follows_equal flows_of seen same_check is_met_before is_over_locals comparable merged_terms gcd reads_memory slots_of slots_read comes_in passing effect_of implies fact_over_atoms
of_null = simp (at_forms, at_parts, at_expressions)

of_turned_null : tested (compared comparison_op.NotEqual V.Null (V.Local 0)) ≡ false ∷ false ∷ false ∷ false ∷ []
unfolding redundant is_constant follows_equal flows_of seen same_check is_met_before is_over_locals comparable merged_terms gcd reads_memory slots_of slots_read comes_in passing effect_of implies fact_over_atoms
of_turned_null = simp (at_forms, at_parts, at_expressions)
