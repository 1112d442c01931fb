-- A small driver by hand, on which the examples compute: a function of an integer and a pointer, with a block of 12 bytes.
use Rattle.std.specs.Prelude.{ℕ, List, [], ◌∷◌, ◌++◌, replicate, ℤ, pos, negsuc, Some, None}
use Rattle.byte_memory.specs.declared.tested.GrantedRange.{GrantedRange}
use Rattle.sd_base.specs.declared.kinds.CheckKind.{CheckKind}
use Rattle.sd_base.specs.declared.kinds.CheckKind.TheVariants as kind
use Rattle.dep_expr.specs.Linear.{LinearForm}
use Rattle.checked_tree.specs.declared.shapes.Scalar.TheVariants.{I32}
use Rattle.checked_tree.specs.declared.shapes.Bounds.TheVariants as bounds
use Rattle.checked_tree.specs.declared.shapes.Shape.TheVariants as shape
use Rattle.checked_tree.specs.declared.checks.Check.{Check}
use Rattle.checked_tree.specs.declared.checks.Cond.{Cond}
use Rattle.checked_tree.specs.declared.checks.Cond.TheVariants as cond
use Rattle.checked_tree.specs.declared.expressions.CheckedExpr.{CheckedExpr}
use Rattle.checked_tree.specs.declared.expressions.CheckedExpr.TheVariants as V
use Rattle.checked_tree.specs.declared.statements.CheckedStmt.{CheckedStmt}
use Rattle.checked_tree.specs.declared.statements.CheckedStmt.TheVariants as T
use Rattle.checked_tree.specs.declared.units.CheckedFn.{CheckedFn}
use Rattle.checked_tree.specs.declared.units.CheckedUnit.{CheckedUnit}
use Rattle.byte_memory.specs.Tested.{Memory}
use Rattle.checked_tree.specs.Conditions.{State}

-- a block of three integers at 16: 1, -2 and 0; behind it a byte that is not granted
abbrev pub bytes : List ℕ
bytes = replicate 16 0 ++ (1 ∷ 0 ∷ 0 ∷ 0 ∷ 254 ∷ 255 ∷ 255 ∷ 255 ∷ 0 ∷ 0 ∷ 0 ∷ 0 ∷ 9 ∷ [])

abbrev pub range : GrantedRange
range = record { base = 16; size = 12 }

abbrev pub memory : Memory
memory = record { bytes = bytes; granted = range ∷ [] }

-- a function's frame: an integer, and a pointer with its two hidden bounds
abbrev pub state : ℤ → ℤ → State
state n p = record { locals = n ∷ p ∷ pos 16 ∷ pos 28 ∷ []; memory = memory }

abbrev pub form : List (ℤ × ℕ) → ℤ → LinearForm
form terms constant = record { terms = terms; constant = constant }

abbrev pub check : ℕ → CheckKind → Cond → Check
check id kind cond = record { id = id; line = 7; kind = kind; cond = cond }

-- the pointer is not null; it has room for one integer; the integer is not 0
abbrev pub checks : List Check
checks =
    check 1 kind.Null (cond.Le (record { left = form ((negsuc 0, 1) ∷ []) (pos 1); guard = None }))
    ∷ check 2 kind.Bound (cond.Le (record { left = form ((pos 1, 1) ∷ (negsuc 0, 3) ∷ []) (pos 4); guard = None }))
    ∷ check 3 kind.Div (cond.NonZero (form ((pos 1, 0) ∷ []) (pos 0)))
    ∷ []

-- the atoms: the four slots
abbrev pub atoms : List CheckedExpr
atoms = V.Local 0 ∷ V.Local 1 ∷ V.Local 2 ∷ V.Local 3 ∷ []

abbrev pub function : List CheckedStmt → CheckedFn
function body = record {
  name = [];
  params = 1;
  slots = shape.Int I32 ∷ shape.Pointer 1 bounds.Hidden ∷ shape.Address ∷ shape.Address ∷ [];
  result = I32;
  atoms = atoms;
  checks = checks;
  body = body;
}

abbrev pub f : CheckedFn
f = function []

abbrev pub number : ℤ → CheckedExpr
number z = V.Number z I32

abbrev pub return_number : ℤ → CheckedStmt
return_number z = T.Return 9 (Some (record { scalar = I32; value = number z })) []

abbrev pub unit : List CheckedFn → CheckedUnit
unit functions = record { functions = functions; image = []; structs = []; elems = [] }
