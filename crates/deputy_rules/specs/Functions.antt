-- Functions and whole texts: in text order, within a function its head, its parameters and locals, then its statements.
use Rattle.std.specs.Prelude.{ℕ, nat_lt, not, if◌then◌else◌, List, [], ◌∷◌, ◌++◌, map, length, ℤ, pos, negsuc, Option, Some, None, Result}
use Rattle.std.specs.Prelude.{Ok, Err, ◌^◌, ◌≡◌}
use Rattle.c_tree.specs.declared.items.Function.{Function}
use Rattle.c_tree.specs.declared.items.Head.{Head}
use Rattle.c_tree.specs.declared.items.Item.{Item}
use Rattle.c_tree.specs.declared.items.Item.TheVariants as item
use Rattle.c_tree.specs.declared.items.Unit.{Unit}
use Rattle.c_tree.specs.declared.limits.LimitKind.TheVariants.{Locals}
use Rattle.c_tree.specs.Slots.{locals_of}
use Rattle.checked_tree.specs.declared.shapes.Bounds.{Bounds}
use Rattle.checked_tree.specs.declared.shapes.Bounds.TheVariants as bounds
use Rattle.checked_tree.specs.declared.shapes.Scalar.{Scalar}
use Rattle.checked_tree.specs.declared.shapes.Scalar.TheVariants as scalar
use Rattle.checked_tree.specs.declared.shapes.Shape.{Shape}
use Rattle.checked_tree.specs.declared.shapes.Shape.TheVariants as shape
use Rattle.checked_tree.specs.declared.statements.CheckedStmt.{CheckedStmt}
use Rattle.checked_tree.specs.declared.units.CheckedFn.{CheckedFn}
use Rattle.checked_tree.specs.declared.units.CheckedUnit.{CheckedUnit}
use Rattle.deputy_rules.specs.declared.signature.Returned.{Returned}
use Rattle.deputy_rules.specs.declared.signature.Returned.TheVariants as returned
use Rattle.deputy_rules.specs.Checking.{Fault, NoRule, Limit, in_turn}
use Rattle.deputy_rules.specs.Context.{Context}
use Rattle.deputy_rules.specs.Heads.{SeenText, signature_of, parameter_shapes, slot_shapes, result_of, head_stands, function_stands}
use Rattle.deputy_rules.specs.Heads.{is_over, wrong_declaration, wrong_in_head}
use Rattle.deputy_rules.specs.Numbering.{Numbered}
use Rattle.deputy_rules.specs.Statements.{check_statement}
use Rattle.deputy_types.specs.Table.{Table}
use Rattle.deputy_types.specs.UnitLayout.{functions_of}

unfoldable pub text_of : Table → List Item → SeenText
text_of t items = record { table = t; items = items; functions = map (signature_of t) (functions_of items) }

-- how many bytes a pointer that is returned may reach from where it points. Where the number has no place in 32 bits, or is negative, the
-- pointer is null
abbrev pub reach_of : ℤ → ℕ
reach_of (pos n) = if nat_lt n (2 ^ 32) then n else 0
reach_of (negsuc n) = 0

abbrev pub reach : Bounds → ℕ
reach bounds.Hidden = 0
reach bounds.Nullterm = 0
reach (bounds.Within lo hi) = reach_of hi.bytes

-- a result as one number
unfoldable pub result_scalar : Returned → Scalar
result_scalar returned.Nothing = scalar.Void
result_scalar (returned.Value (shape.Int s)) = s
result_scalar (returned.Value (shape.Pointer elem b)) = scalar.Pointer (reach b)
result_scalar (returned.Value (shape.Struct k)) = scalar.Void
result_scalar (returned.Value shape.Address) = scalar.Void

-- the shapes that are there
abbrev pub shapes_of : List (Option Shape) → List Shape
shapes_of [] = []
shapes_of (None ∷ ss) = shapes_of ss
shapes_of (Some s ∷ ss) = s ∷ shapes_of ss

-- the context of a function's statements
abbrev pub context_of : Table → Function → Context
context_of t f = record { table = t; locals = locals_of f; slots = slot_shapes t f; line = 0; first = 0 }

-- a checked function: its slots, and what its statements came to
abbrev pub checked_function : Context → Function → Returned → List CheckedStmt → Numbered → CheckedFn
checked_function ctx f r body b = record {
  name = f.head.name;
  params = length f.head.params;
  slots = shapes_of ctx.slots;
  result = result_scalar r;
  atoms = b.atoms;
  checks = b.checks;
  body = body;
}

-- before its first statement a function has no checks
abbrev pub no_checks : Numbered
no_checks = record { atoms = []; checks = [] }

abbrev pub finished : Context → Function → Returned → Result (List CheckedStmt × Numbered) Fault → Result CheckedFn Fault
finished ctx f r (Ok b) = Ok (checked_function ctx f r b.0 b.1)
finished ctx f r (Err e) = Err e

-- the statements of a function with this result
unfoldable pub check_statements : SeenText → Function → Returned → Context → Result CheckedFn Fault
check_statements text f r ctx =
    finished ctx f r (in_turn (map (check_statement ctx (record { functions = text.functions; result = r })) f.body) [] no_checks)

-- its parameters and locals, then its statements
abbrev pub check_declared : SeenText → Function → Returned → Context → Option ℕ → Result CheckedFn Fault
check_declared text f r ctx (Some line) = Err (NoRule line)
check_declared text f r ctx None = check_statements text f r ctx

abbrev pub check_result : SeenText → Function → Option Returned → Context → Result CheckedFn Fault
check_result text f None ctx = Err (NoRule f.head.line)
check_result text f (Some r) ctx = check_declared text f r ctx (wrong_declaration ctx.locals ctx.slots f)

-- the k-th function with a body
unfoldable pub check_function : SeenText → ℕ → Function → Result CheckedFn Fault
check_function text k f =
    if not (function_stands text k f.head) then Err (NoRule f.head.line)
    else if is_over f then Err (Limit f.head.line Locals)
    else check_result text f (result_of text.table f.head) (context_of text.table f)

-- the line of what does not stand in a prototype
unfoldable pub wrong_prototype : SeenText → Head → Option ℕ
wrong_prototype text h = if head_stands text h then wrong_in_head (parameter_shapes text.table h.params) h else Some h.line

-- the items in turn, behind the functions that are done
abbrev pub behind_prototype : Option ℕ → Result (List CheckedFn) Fault → Result (List CheckedFn) Fault
behind_prototype None rest = rest
behind_prototype (Some line) rest = Err (NoRule line)

abbrev pub behind_function : List CheckedFn → Result CheckedFn Fault → (List CheckedFn → Result (List CheckedFn) Fault)
    → Result (List CheckedFn) Fault
behind_function done (Ok f) rest = rest (done ++ f ∷ [])
behind_function done (Err e) rest = Err e

abbrev pub check_items : SeenText → List Item → List CheckedFn → Result (List CheckedFn) Fault
check_items text [] done = Ok done
check_items text (item.Struct s ∷ items) done = check_items text items done
check_items text (item.Global g ∷ items) done = check_items text items done
check_items text (item.Function f ∷ items) done = behind_function done (check_function text (length done) f) (check_items text items)
check_items text (item.Prototype h ∷ items) done = behind_prototype (wrong_prototype text h) (check_items text items done)

abbrev pub checked_with : Table → Result (List CheckedFn) Fault → Result CheckedUnit Fault
checked_with t (Ok fs) = Ok (record { functions = fs; image = t.image; structs = t.structs; elems = t.elems })
checked_with t (Err e) = Err e

-- what the rules derive from a text whose types these are: a checked unit, or the first fault
unfoldable pub checked : Table → Unit → Result CheckedUnit Fault
checked t u = checked_with t (check_items (text_of t u.items) u.items [])

-- the rules derive this checked unit from a text
abbrev pub DerivesUnit : Table → Unit → CheckedUnit → Type 0
DerivesUnit t u c = checked t u ≡ Ok c
