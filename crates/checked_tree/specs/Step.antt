-- The step of an activity: one statement of its top frame, with all its checks. A failing step changes nothing.
use Rattle.std.specs.Prelude.{ℕ, ◌-◌, nat_lt, Bool, true, false, List, [], ◌∷◌, ◌++◌, length, replicate, ℤ, pos, ◌+ℤ◌, Option, Some, None, Ok, Err, slice_get, slice_set, if◌then◌else◌}
use Rattle.sd_base.specs.declared.actors.Fat.{Fat}
use Rattle.sd_base.specs.declared.kinds.FailKind.TheVariants as fail
use Rattle.checked_tree.specs.declared.stops.Stop.TheVariants.{Failed, Wild}
use Rattle.checked_tree.specs.declared.kernel.KernelCall.{KernelCall}
use Rattle.checked_tree.specs.declared.kernel.Answer.{Answer}
use Rattle.checked_tree.specs.declared.kernel.Answer.TheVariants as answer
use Rattle.checked_tree.specs.declared.shapes.Scalar.{Scalar}
use Rattle.checked_tree.specs.declared.shapes.Scalar.TheVariants.{Void, Pointer}
use Rattle.checked_tree.specs.declared.shapes.Shape.{Shape}
use Rattle.checked_tree.specs.declared.shapes.Shape.TheVariants as shape
use Rattle.checked_tree.specs.declared.statements.Target.{Target}
use Rattle.checked_tree.specs.declared.statements.Target.TheVariants as target
use Rattle.checked_tree.specs.declared.statements.CheckedStmt.{CheckedStmt, out-CheckedStmt}
use Rattle.checked_tree.specs.declared.statements.CheckedStmt.TheOpen as S
use Rattle.checked_tree.specs.declared.units.CheckedFn.{CheckedFn}
use Rattle.checked_tree.specs.declared.units.CheckedUnit.{CheckedUnit}
use Rattle.checked_tree.specs.Outcome.{Outcome, ◌>>=◌}
use Rattle.checked_tree.specs.Numbers.{converted}
use Rattle.byte_memory.specs.Tested.{Memory}
use Rattle.checked_tree.specs.Conditions.{State}
use Rattle.checked_tree.specs.Eval.{Keep}
use Rattle.checked_tree.specs.Operands.{null, bounded}
use Rattle.checked_tree.specs.Act.{Turn, On, Into, Calls, Asks, Returns, with_local, with_pointer, pointer_set, act}
use Rattle.std.specs.Ordering.{int_eq}

-- a frame: the number of its function, the values of its slots, and the statements that it has still to do
pub record Frame : Type 0 where
  pub function : ℕ
  pub locals : List ℤ
  pub todo : List CheckedStmt

-- an activity: its frames, the top one first. Each other waits in the call that stands first among its statements
abbrev pub Activity : Type 0
Activity = List Frame

-- what a step comes to
pub data Next : Type 0 where
  Went : Activity → Memory → Next  -- the activity goes on so
  Wants : Activity → KernelCall → Next  -- it waits for an answer, at the same statement
  Ended : Option ℤ → Next  -- its first frame returned

-- the line of a statement
abbrev pub line_of : S.CheckedStmt-F CheckedStmt → ℕ
line_of (S.Empty line) = line
line_of (S.Assign line slot scalar value checks) = line
line_of (S.AssignAutomatic line slot hidden value checks) = line
line_of (S.Store line scalar place value checks) = line
line_of (S.Zero line place size) = line
line_of (S.Call line target function values checks) = line
line_of (S.Kernel line target name values pointer function elem size) = line
line_of (S.Return line value checks) = line
line_of (S.If line test first second) = line
line_of (S.While line test body) = line

-- the statements of the part that a test picks: of a `while` the body, where it holds
abbrev pub part_of : S.CheckedStmt-F CheckedStmt → Bool → List CheckedStmt
part_of (S.If line test first second) true = first
part_of (S.If line test first second) false = second
part_of (S.While line test body) true = body
part_of _ _ = []

-- the statements after such a part: behind its body a `while` stands again
abbrev pub beyond : S.CheckedStmt-F CheckedStmt → Bool → CheckedStmt → List CheckedStmt → List CheckedStmt
beyond (S.While line test body) true st rest = st ∷ rest
beyond _ _ st rest = rest

-- what is to do after the test of a statement came out so
abbrev pub picked : CheckedStmt → Bool → List CheckedStmt → List CheckedStmt
picked st holds rest = part_of (out-CheckedStmt st) holds ++ beyond (out-CheckedStmt st) holds st rest

-- the local that takes the result of a statement, if there is one
abbrev pub target_of : S.CheckedStmt-F CheckedStmt → Option Target
target_of (S.Call line target function values checks) = target
target_of (S.Kernel line target name values pointer function elem size) = target
target_of _ = None

-- a pointer that a function returned: its annotation is constant, and lets it reach so many bytes
abbrev pub returned_pointer : Scalar → ℤ → Outcome Fat
returned_pointer (Pointer size) v = if int_eq v (pos 0) then Ok null else bounded v v (v +ℤ pos size)
returned_pointer _ v = Err Wild

-- the state with the result of a function of this result type in a local
abbrev pub with_returned : Scalar → State → Option Target → Option ℤ → Outcome State
with_returned scalar s None result = Ok s
with_returned scalar s (Some t) None = Err Wild
with_returned scalar s (Some (target.Int slot own)) (Some v) = Ok (with_local s slot (converted own v))
with_returned scalar s (Some (target.Nullterm slot)) (Some v) = Ok (with_local s slot v)
with_returned scalar s (Some (target.Automatic slot hidden)) (Some v) = returned_pointer scalar v >>= λ p. Ok (with_pointer s slot hidden p)

-- locals with the kernel's answer in one of them
abbrev pub answer_set : List ℤ → Option Target → Answer → List ℤ
answer_set locals (Some (target.Int slot own)) (answer.Number v) = slice_set locals slot (converted own v)
answer_set locals (Some (target.Automatic slot hidden)) (answer.Pointer p) = pointer_set locals slot hidden p
answer_set locals _ _ = locals

-- the state that a frame sees
abbrev pub state_of : Frame → Memory → State
state_of fr m = record { locals = fr.locals; memory = m }

-- the slots of a function at its start: the arguments, and 0 in each local
abbrev pub first_locals : CheckedFn → List ℤ → List ℤ
first_locals f values = values ++ replicate (length f.slots - length values) (pos 0)

-- the first frame of a call
abbrev pub entered : ℕ → List ℤ → CheckedFn → Frame
entered number values f = record { function = number; locals = first_locals f values; todo = f.body }

-- a call makes one more frame, of at most 64
abbrev pub called : ℕ → ℕ → List ℤ → Option CheckedFn → Activity → Memory → Outcome Next
called line number values None frames m = Err Wild
called line number values (Some f) frames m =
    if nat_lt (length frames) 64 then Ok (Went (entered number values f ∷ frames) m) else Err (Failed line fail.Stack)

-- the caller goes on behind its call, with the result in its local
abbrev pub resumed : Frame → CheckedStmt → List CheckedStmt → Activity → Memory → State → Outcome Next
resumed caller st rest below m s = Ok (Went (record caller { locals = s.locals; todo = rest } ∷ below) m)

abbrev pub resume : Scalar → Frame → List CheckedStmt → Activity → Memory → Option ℤ → Outcome Next
resume scalar caller [] below m result = Err Wild
resume scalar caller (st ∷ rest) below m result =
    with_returned scalar (state_of caller m) (target_of (out-CheckedStmt st)) result >>= resumed caller st rest below m

-- a return: to the caller, or the end of the activity
abbrev pub returned : Scalar → Activity → Memory → Option ℤ → Outcome Next
returned scalar [] m result = Ok (Ended result)
returned scalar (caller ∷ below) m result = resume scalar caller caller.todo below m result

-- the top frame after a statement, by its turn
abbrev pub turned : CheckedUnit → CheckedFn → Frame → CheckedStmt → List CheckedStmt → Activity → Turn → State → Outcome Next
turned unit f top st rest below On s = Ok (Went (record top { locals = s.locals; todo = rest } ∷ below) s.memory)
turned unit f top st rest below (Into holds) s = Ok (Went (record top { locals = s.locals; todo = picked st holds rest } ∷ below) s.memory)
turned unit f top st rest below (Calls number values) s = called (line_of (out-CheckedStmt st)) number values (slice_get unit.functions number) (top ∷ below) s.memory
turned unit f top st rest below (Asks call) s = Ok (Wants (top ∷ below) call)
turned unit f top st rest below (Returns result) s = returned f.result below s.memory result

-- the step of the top frame, whose function is this one, by its first statement
abbrev pub step_of : Keep → CheckedUnit → Frame → Activity → Memory → Option CheckedFn → List CheckedStmt → Outcome Next
step_of keep unit top below m None todo = Err Wild
step_of keep unit top below m (Some f) [] = Err Wild
step_of keep unit top below m (Some f) (st ∷ rest) =
    act keep f (state_of top m) (out-CheckedStmt st) >>= λ w. turned unit f top st rest below w.turn w.state

-- the checks of a function that are tested
abbrev pub Keeps : Type 0
Keeps = ℕ → Keep

-- each check of each function is tested
abbrev pub all_kept : Keeps
all_kept number = []

-- the step of an activity, in which the kept checks alone are tested
unfoldable pub step_kept : Keeps → CheckedUnit → Activity → Memory → Outcome Next
step_kept keeps unit [] m = Err Wild
step_kept keeps unit (top ∷ below) m = step_of (keeps top.function) unit top below m (slice_get unit.functions top.function) top.todo

-- the step of an activity, in which each check is tested
unfoldable pub step : CheckedUnit → Activity → Memory → Outcome Next
step unit frames m = step_kept all_kept unit frames m

-- the activity after the kernel's answer: the statement that asked has ended
abbrev pub answered_by : Frame → List CheckedStmt → Activity → Answer → Activity
answered_by top [] below reply = top ∷ below
answered_by top (st ∷ rest) below reply =
    record top { locals = answer_set top.locals (target_of (out-CheckedStmt st)) reply; todo = rest } ∷ below

unfoldable pub answered : Activity → Answer → Activity
answered [] reply = []
answered (top ∷ below) reply = answered_by top top.todo below reply

-- the line at which a frame stands, 0 where it has nothing to do
abbrev pub line_at : List CheckedStmt → ℕ
line_at [] = 0
line_at (st ∷ rest) = line_of (out-CheckedStmt st)

-- the line at which an activity stands
abbrev pub line : Activity → ℕ
line [] = 0
line (top ∷ below) = line_at top.todo

-- the type to which the argument of a parameter of this shape is converted
abbrev pub parameter_type : Shape → Scalar
parameter_type (shape.Int scalar) = scalar
parameter_type (shape.Pointer elem bounds) = Pointer 0
parameter_type (shape.Struct number) = Void
parameter_type shape.Address = Pointer 0

-- arguments, each converted to the type of its parameter: parameters are the first slots. One that has no slot is left out
abbrev pub converted_arguments : List ℤ → List Shape → List ℤ
converted_arguments [] parameters = []
converted_arguments (v ∷ vs) [] = []
converted_arguments (v ∷ vs) (s ∷ ss) = converted (parameter_type s) v ∷ converted_arguments vs ss

-- the first frame of a call from outside
abbrev pub started_frame : ℕ → List ℤ → CheckedFn → Frame
started_frame number values f = entered number (converted_arguments values f.slots) f

-- the activity that a call from outside starts
abbrev pub started_by : ℕ → List ℤ → Option CheckedFn → Option Activity
started_by number values None = None
started_by number values (Some f) = Some (started_frame number values f ∷ [])

unfoldable pub started : CheckedUnit → ℕ → List ℤ → Option Activity
started unit number values = started_by number values (slice_get unit.functions number)
