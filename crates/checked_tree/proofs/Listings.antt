-- Small drivers as the rules derive them, on which redundant checks and what is known are tried.
use Rattle.std.specs.Prelude.{ℕ, List, [], ◌∷◌, ℤ, pos, negsuc, Some, None}
use Rattle.sd_base.specs.declared.kinds.CheckKind.TheVariants as kind
use Rattle.dep_expr.specs.Linear.{LinearForm}
use Rattle.checked_tree.specs.declared.shapes.Scalar.{Scalar}
use Rattle.checked_tree.specs.declared.shapes.Scalar.TheVariants.{I32, U32, Pointer}
use Rattle.checked_tree.specs.declared.shapes.Edge.{Edge}
use Rattle.checked_tree.specs.declared.shapes.Bounds.TheVariants as bounds
use Rattle.checked_tree.specs.declared.shapes.Shape.{Shape}
use Rattle.checked_tree.specs.declared.shapes.Shape.TheVariants as shape
use Rattle.checked_tree.specs.declared.checks.Check.{Check}
use Rattle.checked_tree.specs.declared.checks.Cond.{Cond}
use Rattle.checked_tree.specs.declared.checks.Cond.TheVariants as cond
use Rattle.checked_tree.specs.declared.expressions.CheckedExpr.{CheckedExpr}
use Rattle.checked_tree.specs.declared.expressions.CheckedExpr.TheVariants as V
use Rattle.checked_tree.specs.declared.expressions.Arithmetic.TheVariants as arithmetic_op
use Rattle.checked_tree.specs.declared.expressions.Comparison.TheVariants as comparison_op
use Rattle.checked_tree.specs.declared.statements.CheckedStmt.{CheckedStmt}
use Rattle.checked_tree.specs.declared.statements.CheckedStmt.TheVariants as T
use Rattle.checked_tree.specs.declared.units.CheckedFn.{CheckedFn}

abbrev pub form : List (ℤ × ℕ) → ℤ → LinearForm
form terms constant = record { terms = terms; constant = constant }

-- an inequality without a guard, and one with
abbrev pub at_most : List (ℤ × ℕ) → ℤ → Cond
at_most terms constant = cond.Le (record { left = form terms constant; guard = None })

abbrev pub at_most_or : List (ℤ × ℕ) → ℤ → ℕ → Cond
at_most_or terms constant guard = cond.Le (record { left = form terms constant; guard = Some (form ((pos 1, guard) ∷ []) (pos 0)) })

-- 1 <= the atom
abbrev pub not_null : ℕ → Cond
not_null atom = at_most ((negsuc 0, atom) ∷ []) (pos 1)

-- a pointer in a slot that may reach so many bytes, and as many elements of 4 bytes as another slot says
abbrev pub plain_edge : ℤ → Edge
plain_edge bytes = record { base = None; terms = []; bytes = bytes }

abbrev pub safe_pointer : Shape
safe_pointer = shape.Pointer 1 (bounds.Within (plain_edge (pos 0)) (plain_edge (pos 4)))

abbrev pub counted_pointer : ℕ → Shape
counted_pointer slot = shape.Pointer 1 (bounds.Within (plain_edge (pos 0)) (record { base = None; terms = (pos 4, slot) ∷ []; bytes = pos 0 }))

abbrev pub returned : ℕ → CheckedStmt
returned slot = T.Return 1 (Some (record { scalar = I32; value = V.Local slot })) []

-- ---- int get(int *p) { int x; x = *p; *p = x; return x; }
abbrev pub place_get : List ℕ → CheckedExpr
place_get checks = V.Through (V.Local 0) checks

abbrev pub get : CheckedFn
get = record {
  name = [];
  params = 1;
  slots = safe_pointer ∷ shape.Int I32 ∷ [];
  result = I32;
  atoms = V.Local 0 ∷ [];
  checks =
      (record { id = 1; line = 1; kind = kind.Null; cond = not_null 0 }) ∷ (record { id = 2; line = 1; kind = kind.Bound; cond = at_most [] (pos 0) })
      ∷ (record { id = 3; line = 1; kind = kind.Null; cond = not_null 0 }) ∷ (record { id = 4; line = 1; kind = kind.Bound; cond = at_most [] (pos 0) }) ∷ [];
  body =
      T.Assign 1 1 I32 (V.Load I32 (place_get (1 ∷ 2 ∷ []))) [] ∷ T.Store 1 I32 (place_get (3 ∷ 4 ∷ [])) (V.Local 1) [] ∷ returned 1 ∷ [];
}

-- ---- struct s { int len; int *count(len) buf; }; struct s g;
-- `g.buf[0]`, whose checks read memory: the pointer is not null, the element begins and ends within its bounds
abbrev pub buf : CheckedExpr
buf = V.Load (Pointer 0) (V.Field (V.Block 16) 4 [])

abbrev pub len : CheckedExpr
len = V.Load I32 (V.Field (V.Block 16) 0 [])

abbrev pub first_of : List ℕ → CheckedExpr
first_of checks = V.Load I32 (V.Element buf (V.Number (pos 0) I32) 4 checks)

abbrev pub three : ℕ → ℕ → ℕ → List Check → List Check
three a b c more =
    (record { id = a; line = 3; kind = kind.Null; cond = not_null 0 })
    ∷ (record { id = b; line = 3; kind = kind.Bound; cond = at_most [] (pos 0) })
    ∷ (record { id = c; line = 3; kind = kind.Bound; cond = at_most ((negsuc 3, 1) ∷ []) (pos 4) }) ∷ more

abbrev pub over_buf : List CheckedStmt → CheckedFn
over_buf body = record {
  name = [];
  params = 0;
  slots = shape.Int I32 ∷ [];
  result = I32;
  atoms = buf ∷ len ∷ [];
  checks = three 1 2 3 (three 4 5 6 []);
  body = body;
}

-- int f(void) { int x; x = g.buf[0]; x = x + g.buf[0]; return x; }
abbrev pub in_two : CheckedFn
in_two = over_buf (
    T.Assign 3 0 I32 (first_of (1 ∷ 2 ∷ 3 ∷ [])) []
    ∷ T.Assign 3 0 I32 (V.Binary arithmetic_op.Add I32 (V.Local 0) (first_of (4 ∷ 5 ∷ 6 ∷ [])) []) [] ∷ returned 0 ∷ []
    )

-- the same in one statement: x = g.buf[0] + g.buf[0];
abbrev pub in_one : CheckedFn
in_one = over_buf (T.Assign 3 0 I32 (V.Binary arithmetic_op.Add I32 (first_of (1 ∷ 2 ∷ 3 ∷ [])) (first_of (4 ∷ 5 ∷ 6 ∷ [])) []) [] ∷ returned 0 ∷ [])

-- ---- int sum(int *count(n) p, unsigned n) { unsigned i; int s; while (i < n) { s = s + p[i]; i = i + 1; } return s; }
abbrev pub add_element : CheckedStmt
add_element = T.Assign 5 3 I32 (V.Binary arithmetic_op.Add I32 (V.Local 3) (V.Load I32 (V.Element (V.Local 0) (V.Local 2) 4 (1 ∷ 2 ∷ []))) []) []

abbrev pub next_one : CheckedStmt
next_one = T.Assign 6 2 U32 (V.Binary arithmetic_op.Add U32 (V.Local 2) (V.Number (pos 1) I32) []) []

abbrev pub is_below : CheckedExpr
is_below = V.Compare comparison_op.Less U32 (V.Local 2) (V.Local 1)

abbrev pub over_elements : List CheckedStmt → CheckedFn
over_elements body = record {
  name = [];
  params = 2;
  slots = counted_pointer 1 ∷ shape.Int U32 ∷ shape.Int U32 ∷ shape.Int I32 ∷ [];
  result = I32;
  atoms = V.Local 0 ∷ V.Local 2 ∷ V.Local 1 ∷ [];
  checks =
      (record { id = 1; line = 5; kind = kind.Null; cond = not_null 0 })
      ∷ (record { id = 2; line = 5; kind = kind.Bound; cond = at_most ((pos 4, 1) ∷ (negsuc 3, 2) ∷ []) (pos 4) }) ∷ [];
  body = T.While 4 is_below body ∷ returned 3 ∷ [];
}

abbrev pub sum : CheckedFn
sum = over_elements (add_element ∷ next_one ∷ [])

-- the same with the two lines of the loop exchanged
abbrev pub sum_exchanged : CheckedFn
sum_exchanged = over_elements (next_one ∷ add_element ∷ [])

-- ---- r = sum(q, 3); with q an automatic pointer, its bounds in two hidden slots: the five checks of the coercion to `count(3)`.
-- The atoms: q, its low bound, its high bound
abbrev pub coercion : List Cond
coercion =
    at_most_or ((negsuc 0, 0) ∷ (pos 1, 1) ∷ []) (pos 0) 0
    ∷ at_most_or [] (pos 0) 0
    ∷ at_most_or [] (negsuc 11) 0
    ∷ at_most_or ((pos 1, 0) ∷ (negsuc 0, 2) ∷ []) (pos 12) 0
    ∷ cond.Aligned (form [] (pos 0)) 4 (form ((pos 1, 0) ∷ []) (pos 0)) ∷ []
