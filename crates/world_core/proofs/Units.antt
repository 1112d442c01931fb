-- Small drivers by hand, as the rules derive them, on which the examples run.
use Rattle.std.specs.Prelude.{ℕ, List, [], ◌∷◌, length, ℤ, pos, negsuc, Option, Some, None, codes}
use Rattle.sd_base.specs.declared.kinds.CheckKind.TheVariants as kind
use Rattle.checked_tree.specs.declared.shapes.Scalar.{Scalar}
use Rattle.checked_tree.specs.declared.shapes.Scalar.TheVariants.{I32, Void}
use Rattle.checked_tree.specs.declared.shapes.Shape.{Shape}
use Rattle.checked_tree.specs.declared.shapes.Shape.TheVariants as shape
use Rattle.checked_tree.specs.declared.checks.Check.{Check}
use Rattle.checked_tree.specs.declared.checks.Cond.TheVariants as cond
use Rattle.checked_tree.specs.declared.kernel.KernelName.{KernelName}
use Rattle.checked_tree.specs.declared.kernel.KernelName.TheVariants as kernel
use Rattle.checked_tree.specs.declared.expressions.Arithmetic.{Arithmetic}
use Rattle.checked_tree.specs.declared.expressions.Arithmetic.TheVariants.{Divide, Remainder}
use Rattle.checked_tree.specs.declared.expressions.CheckedExpr.{CheckedExpr}
use Rattle.checked_tree.specs.declared.expressions.CheckedExpr.TheVariants as V
use Rattle.checked_tree.specs.declared.statements.Argument.{Argument}
use Rattle.checked_tree.specs.declared.statements.Target.{Target}
use Rattle.checked_tree.specs.declared.statements.Target.TheVariants as target
use Rattle.checked_tree.specs.declared.statements.CheckedStmt.{CheckedStmt}
use Rattle.checked_tree.specs.declared.statements.CheckedStmt.TheVariants as T
use Rattle.checked_tree.specs.declared.units.CheckedFn.{CheckedFn}
use Rattle.checked_tree.specs.declared.units.CheckedUnit.{CheckedUnit}

-- ---- expressions and statements

abbrev pub number : ℤ → CheckedExpr
number z = V.Number z I32

abbrev pub local : ℕ → CheckedExpr
local slot = V.Local slot

-- a value that is handed over as an `int`
abbrev pub int : CheckedExpr → Argument
int e = record { scalar = I32; value = e }

-- a kernel call on a line, whose result is dropped
abbrev pub asks : ℕ → KernelName → List Argument → CheckedStmt
asks line name arguments = T.Kernel line None name arguments None 0 0 0

-- a kernel call with a handler, whose result goes into the `int` local in slot 0
abbrev pub registers : ℕ → KernelName → List Argument → ℕ → CheckedStmt
registers line name arguments handler = T.Kernel line (Some (target.Int 0 I32)) name arguments None handler 0 0

abbrev pub returns : ℕ → ℤ → CheckedStmt
returns line z = T.Return line (Some (int (number z))) []

abbrev pub returns_nothing : ℕ → CheckedStmt
returns_nothing line = T.Return line None []

-- `z = 1 / z;` of the `int` local in slot 0, with its check, the first of its function
abbrev pub divides_by_zero : ℕ → CheckedStmt
divides_by_zero line = T.Assign line 0 I32 (V.Binary Divide I32 (number (pos 1)) (local 0) (1 ∷ [])) []

-- the check of it
abbrev pub division : ℕ → Check
division line = record { id = 1; line = line; kind = kind.Div; cond = cond.NonZero (record { terms = (pos 1, 0) ∷ []; constant = pos 0 }) }

-- ---- functions

abbrev pub function : List ℕ → ℕ → List Shape → Scalar → List CheckedStmt → CheckedFn
function name params slots result body =
    record { name = name; params = params; slots = slots; result = result; atoms = []; checks = []; body = body }

abbrev pub int_slot : Shape
int_slot = shape.Int I32

-- `int init(void) { .. }` with this body
abbrev pub init : List Shape → List CheckedStmt → CheckedFn
init slots body = function (codes "init") 0 slots I32 body

-- `int init(void) { int z; S; z = 1 / z; return 0; }` with a first statement S, on one line
abbrev pub fails_after : CheckedStmt → CheckedFn
fails_after first = record (init (int_slot ∷ []) (first ∷ divides_by_zero 1 ∷ returns 1 (pos 0) ∷ returns 1 (pos 0) ∷ [])) {
  atoms = local 0 ∷ [];
  checks = division 1 ∷ [];
}

-- `int bad(void) { int z; z = 1 op z; return 0; }`, on one line
abbrev pub bad : Arithmetic → ℕ → CheckedFn
bad op line = record (function (codes "bad") 0 (int_slot ∷ []) I32
    (T.Assign line 0 I32 (V.Binary op I32 (number (pos 1)) (local 0) (1 ∷ [])) [] ∷ returns line (pos 0) ∷ returns line (pos 0) ∷ [])) {
      atoms = local 0 ∷ [];
      checks = division line ∷ [];
    }

abbrev pub unit : List CheckedFn → CheckedUnit
unit functions = record { functions = functions; image = []; structs = []; elems = [] }

-- ---- drivers

-- int init(void) { printd(7); return 0; }
abbrev pub seven_init : CheckedFn
seven_init = init [] (asks 1 kernel.Printd (int (number (pos 7)) ∷ []) ∷ returns 1 (pos 0) ∷ returns 1 (pos 0) ∷ [])

abbrev pub prints_seven : CheckedUnit
prints_seven = unit (seven_init ∷ [])

-- void h(int l) { printd(l); return; }
-- int init(void) { int r; r = request_line(5, h); printd(r); return 0; }
abbrev pub line_handler : CheckedFn
line_handler = function (codes "h") 1 (int_slot ∷ []) Void (asks 1 kernel.Printd (int
    (local 0) ∷ []) ∷ returns_nothing 1 ∷ returns_nothing 1 ∷ [])

abbrev pub line_init : CheckedFn
line_init = init (int_slot ∷ [])
    (registers 2 kernel.RequestLine (int (number (pos 5)) ∷ []) 0 ∷ asks 2 kernel.Printd (int (local 0) ∷ []) ∷ returns 2
    (pos 0) ∷ returns 2 (pos 0) ∷ [])

abbrev pub serves_line : CheckedUnit
serves_line = unit (line_handler ∷ line_init ∷ [])

-- int init(void) { int z; mask(); z = 1 / z; return 0; }
abbrev pub mask_init : CheckedFn
mask_init = fails_after (asks 1 kernel.Mask [])

abbrev pub masks : CheckedUnit
masks = unit (mask_init ∷ [])

-- int init(void) { int z; lock(3); z = 1 / z; return 0; }
abbrev pub lock_init : CheckedFn
lock_init = fails_after (asks 1 kernel.Lock (int (number (pos 3)) ∷ []))

abbrev pub locks : CheckedUnit
locks = unit (lock_init ∷ [])

-- int init(void) { lock(3); printd(3); unlock(3); return 0; }
abbrev pub waits_init : CheckedFn
waits_init = init [] (
    asks 1 kernel.Lock (int (number (pos 3)) ∷ []) ∷ asks 1 kernel.Printd (int (number (pos 3)) ∷ []) ∷ asks 1 kernel.Unlock (int (number
    (pos 3)) ∷ [])
    ∷ returns 1 (pos 0) ∷ returns 1 (pos 0) ∷ [])

abbrev pub waits_for_lock : CheckedUnit
waits_for_lock = unit (waits_init ∷ [])

-- void h(int l) { return; }
abbrev pub quiet_handler : CheckedFn
quiet_handler = function (codes "h") 1 (int_slot ∷ []) Void (returns_nothing 1 ∷ returns_nothing 1 ∷ [])

-- int init(void) { int r; r = request_line(5, h); r = free_line(5); printd(r); return 0; }
abbrev pub gives_back_init : CheckedFn
gives_back_init = init (int_slot ∷ [])
    (registers 2 kernel.RequestLine (int (number (pos 5)) ∷ []) 0 ∷ registers 2 kernel.FreeLine (int (number (pos 5)) ∷ []) 0
    ∷ asks 2 kernel.Printd (int (local 0) ∷ []) ∷ returns 2 (pos 0) ∷ returns 2 (pos 0) ∷ [])

-- with `bad`, which divides by zero
abbrev pub gives_line_back : CheckedUnit
gives_line_back = unit (quiet_handler ∷ gives_back_init ∷ bad Divide 3 ∷ [])

-- int init(void) { lock(3); printd(1); unlock(3); return 0; }
abbrev pub holds_init : CheckedFn
holds_init = init [] (
    asks 1 kernel.Lock (int (number (pos 3)) ∷ []) ∷ asks 1 kernel.Printd (int (number (pos 1)) ∷ []) ∷ asks 1 kernel.Unlock (int (number
    (pos 3)) ∷ [])
    ∷ returns 1 (pos 0) ∷ returns 1 (pos 0) ∷ [])

abbrev pub holds_lock : CheckedUnit
holds_lock = unit (holds_init ∷ [])

-- int init(void) { int r; r = set_param(7, 1); r = hold(2); return 0; }
-- int bad(void) { int z; z = 1 % z; return 0; }
abbrev pub param_init : CheckedFn
param_init = init (int_slot ∷ [])
    (registers 1 kernel.SetParam (int (number (pos 7)) ∷ int (number (pos 1)) ∷ []) 0 ∷ registers 1 kernel.Hold (int (number (pos 2)) ∷ []) 0
    ∷ returns 1 (pos 0) ∷ returns 1 (pos 0) ∷ [])

abbrev pub sets_param : CheckedUnit
sets_param = unit (param_init ∷ bad Remainder 2 ∷ [])

-- void w(int x) { printd(x); return; }
-- int init(void) { int r; r = set_param(7, 2); r = hold(2); r = queue_work(w, 8); return 0; }
abbrev pub worker : CheckedFn
worker = function (codes "w") 1 (int_slot ∷ []) Void
    (asks 1 kernel.Printd (int (local 0) ∷ []) ∷ returns_nothing 1 ∷ returns_nothing 1 ∷ [])

abbrev pub work_init : CheckedFn
work_init = init (int_slot ∷ [])
    (registers 2 kernel.SetParam (int (number (pos 7)) ∷ int (number (pos 2)) ∷ []) 0 ∷ registers 2 kernel.Hold (int (number (pos 2)) ∷ []) 0
    ∷ registers 2 kernel.QueueWork (int (number (pos 8)) ∷ []) 0 ∷ returns 2 (pos 0) ∷ returns 2 (pos 0) ∷ [])

abbrev pub queues_work : CheckedUnit
queues_work = unit (worker ∷ work_init ∷ [])

-- void h(int l) { int z; z = 1 / z; return; }, on line 1
abbrev pub failing_handler : CheckedFn
failing_handler = record (function (codes "h") 1 (int_slot ∷ int_slot ∷ []) Void
    (T.Assign 1 1 I32 (V.Binary Divide I32 (number (pos 1)) (local 1) (1 ∷ [])) [] ∷ returns_nothing 1 ∷ returns_nothing 1 ∷ [])) {
      atoms = local 1 ∷ [];
      checks = division 1 ∷ [];
    }

-- with the `init` of `serves_line`
abbrev pub fails_line : CheckedUnit
fails_line = unit (failing_handler ∷ line_init ∷ [])

-- void h(int n) { printd(n); return; }
-- int init(void) { int r; r = set_timer(1, 10, h, 7); return 0; }
abbrev pub timer_init : CheckedFn
timer_init = init (int_slot ∷ [])
    (registers 2 kernel.SetTimer (int (number (pos 1)) ∷ int (number (pos 10)) ∷ int (number (pos 7)) ∷ []) 0 ∷ returns 2 (pos 0) ∷ returns 2
    (pos 0) ∷ [])

abbrev pub sets_timer : CheckedUnit
sets_timer = unit (line_handler ∷ timer_init ∷ [])

-- int init(void) { int r; r = request_ports(768, 8); r = port_in(768); printd(r); r = port_in(768); printd(r); port_out(768, 1); return 0; }
abbrev pub ports_init : CheckedFn
ports_init = init (int_slot ∷ [])
    (registers 1 kernel.RequestPorts (int (number (pos 768)) ∷ int (number (pos 8)) ∷ []) 0
    ∷ registers 1 kernel.PortIn (int (number (pos 768)) ∷ []) 0 ∷ asks 1 kernel.Printd (int (local 0) ∷ [])
    ∷ registers 1 kernel.PortIn (int (number (pos 768)) ∷ []) 0 ∷ asks 1 kernel.Printd (int (local 0) ∷ [])
    ∷ asks 1 kernel.PortOut (int (number (pos 768)) ∷ int (number (pos 1)) ∷ []) ∷ returns 1 (pos 0) ∷ returns 1 (pos 0) ∷ [])

abbrev pub reads_ports : CheckedUnit
reads_ports = unit (ports_init ∷ [])
