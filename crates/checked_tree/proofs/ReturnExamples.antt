-- What comes back from a call, and what a call from outside hands over, computed.
use Rattle.std.specs.Prelude.{◌≡◌, List, [], ◌∷◌, ℤ, pos, Ok, Some, refl}
use Rattle.checked_tree.specs.declared.shapes.Scalar.{Scalar}
use Rattle.checked_tree.specs.declared.shapes.Scalar.TheVariants.{U8, I32, Pointer}
use Rattle.checked_tree.specs.declared.shapes.Shape.TheVariants as shape
use Rattle.checked_tree.specs.declared.expressions.CheckedExpr.{CheckedExpr}
use Rattle.checked_tree.specs.declared.expressions.CheckedExpr.TheVariants as V
use Rattle.checked_tree.specs.declared.statements.Target.{Target}
use Rattle.checked_tree.specs.declared.statements.Target.TheVariants as target
use Rattle.checked_tree.specs.declared.statements.CheckedStmt.{CheckedStmt}
use Rattle.checked_tree.specs.declared.statements.CheckedStmt.TheVariants as T
use Rattle.checked_tree.specs.declared.units.CheckedFn.{CheckedFn}
use Rattle.checked_tree.specs.Outcome.{Outcome}
use Rattle.checked_tree.specs.Numbers.{converted}
use Rattle.checked_tree.specs.Eval.{tests, eval}
use Rattle.checked_tree.specs.Operands.{bounded, taken, argument, optional_argument}
use Rattle.checked_tree.specs.Act.{act}
use Rattle.checked_tree.specs.Step.{Frame, Next, Went, step_kept, step, started}
use Rattle.checked_tree.proofs.Equations.{at_forms, at_statements}
use Rattle.checked_tree.proofs.Sample.{memory, f, function, unit, number}

abbrev rest : List CheckedStmt
rest = T.Empty 6 ∷ []

-- the caller, that waits in a call of the second function; its locals are n, the pointer and two bounds
abbrev caller : Target → Frame
caller t = record { function = 0; locals = pos 5 ∷ pos 24 ∷ pos 16 ∷ pos 28 ∷ []; todo = T.Call 3 (Some t) 1 [] [] ∷ rest }

abbrev behind : List ℤ → Outcome Next
behind locals = Ok (Went (record { function = 0; locals = locals; todo = rest } ∷ []) memory)

-- what comes of a return of this expression by a function of this result type
abbrev returning : Scalar → CheckedExpr → Target → Outcome Next
returning scalar e t =
    step (unit (f ∷ (record f { result = scalar } ∷ [])))
    (record { function = 1; locals = []; todo = T.Return 9 (Some (record { scalar = scalar; value = e })) [] ∷ [] } ∷ (caller t ∷ [])) memory

-- 300, returned as an `int`, is 44 in an `unsigned char`
returns_converted : returning I32 (number (pos 300)) (target.Int 0 U8) ≡ behind (pos 44 ∷ pos 24 ∷ pos 16 ∷ pos 28 ∷ [])
unfolding step step_kept act eval tests taken argument optional_argument converted
returns_converted = simp (at_forms, at_statements)

-- and 44 already where the function returns an `unsigned char`
returns_narrow : returning U8 (number (pos 300)) (target.Int 0 I32) ≡ behind (pos 44 ∷ pos 24 ∷ pos 16 ∷ pos 28 ∷ [])
unfolding step step_kept act eval tests taken argument optional_argument converted
returns_narrow = simp (at_forms, at_statements)

-- a null pointer has the bounds 0 and 0, however far the result's annotation reaches
returns_null : returning (Pointer 8) V.Null (target.Automatic 1 2) ≡ behind (pos 5 ∷ pos 0 ∷ pos 0 ∷ pos 0 ∷ [])
unfolding step step_kept act eval tests taken argument optional_argument converted bounded
returns_null = simp (at_forms, at_statements)

-- a nullterm pointer has no bounds of its own
returns_text : returning (Pointer 0) (V.AddressOf (V.Block 16)) (target.Nullterm 1) ≡ behind (pos 5 ∷ pos 16 ∷ pos 16 ∷ pos 28 ∷ [])
unfolding step step_kept act eval tests taken argument optional_argument converted
returns_text = simp (at_forms, at_statements)

-- a call from outside hands 300 over as 44 where the parameter is an `unsigned char`; an argument without a slot is left out
starts_converted : started (unit (record f { slots = shape.Int U8 ∷ shape.Int I32 ∷ [] } ∷ [])) 0 (pos 300 ∷ []) ≡ Some (record { function = 0; locals = pos 44 ∷ pos 0 ∷ []; todo = [] } ∷ [])
unfolding started converted
starts_converted = refl

starts_short : started (unit (record f { slots = shape.Int I32 ∷ [] } ∷ [])) 0 (pos 7 ∷ pos 8 ∷ []) ≡ Some (record { function = 0; locals = pos 7 ∷ []; todo = [] } ∷ [])
unfolding started converted
starts_short = refl
