-- What one statement does to its frame's locals and to memory, and where control turns then. It speaks of no other frame.
use Rattle.std.specs.Prelude.{ℕ, ◌+◌, Bool, List, ◌++◌, take, replicate, ℤ, pos, Option, Ok, slice_set}
use Rattle.sd_base.specs.declared.actors.Fat.{Fat}
use Rattle.checked_tree.specs.declared.kernel.KernelName.{KernelName}
use Rattle.checked_tree.specs.declared.kernel.KernelCall.{KernelCall}
use Rattle.checked_tree.specs.declared.units.CheckedFn.{CheckedFn}
use Rattle.checked_tree.specs.declared.statements.CheckedStmt.{CheckedStmt}
use Rattle.checked_tree.specs.declared.statements.CheckedStmt.TheOpen as S
use Rattle.checked_tree.specs.Outcome.{Outcome, ◌>>=◌}
use Rattle.checked_tree.specs.Numbers.{holds}
use Rattle.byte_memory.specs.Tested.{Memory}
use Rattle.checked_tree.specs.Memory.{store, cleared}
use Rattle.checked_tree.specs.Conditions.{State}
use Rattle.checked_tree.specs.Eval.{Keep, eval, tests}
use Rattle.checked_tree.specs.Operands.{operand, taken, arguments, optional_operand, optional_argument}

-- where control turns after a statement
pub data Turn : Type 0 where
  On : Turn  -- to the next statement
  Into : Bool → Turn  -- into the part that a test picks
  Calls : ℕ → List ℤ → Turn  -- into the function with this number, with these arguments
  Asks : KernelCall → Turn  -- to the kernel, for an answer
  Returns : Option ℤ → Turn  -- back to the caller, with this result

-- what a statement does: the state that it leaves, and its turn
pub record Acted : Type 0 where
  pub state : State
  pub turn : Turn

-- the state with a new value in a slot
abbrev pub with_local : State → ℕ → ℤ → State
with_local s slot v = record s { locals = slice_set s.locals slot v }

-- locals with a pointer in a slot, and its bounds in two hidden slots
abbrev pub pointer_set : List ℤ → ℕ → ℕ → Fat → List ℤ
pointer_set locals slot hidden p = slice_set (slice_set (slice_set locals slot (pos p.value)) hidden (pos p.lo)) (hidden + 1) (pos p.hi)

-- the state with such a pointer
abbrev pub with_pointer : State → ℕ → ℕ → Fat → State
with_pointer s slot hidden p = record s { locals = pointer_set s.locals slot hidden p }

-- a state with which control goes on
abbrev pub goes_on : State → Outcome Acted
goes_on s = Ok (record { state = s; turn = On })

-- the same state, with a turn
abbrev pub turns : State → Turn → Outcome Acted
turns s turn = Ok (record { state = s; turn = turn })

-- the state with this memory, with which control goes on
abbrev pub remembers : State → Memory → Outcome Acted
remembers s m = goes_on (record s { memory = m })

-- four numbers: these, and 0 for what is not there
abbrev pub four : List ℤ → List ℤ
four xs = take 4 (xs ++ replicate 4 (pos 0))

-- the call that a kernel statement makes
abbrev pub kernel_call : KernelName → ℕ → ℕ → ℕ → List ℤ → Fat → KernelCall
kernel_call name function elem size numbers pointer =
    record { name = name; args = four numbers; function = function; elem = elem; size = size; pointer = pointer }

-- what a statement does. The right side of an assignment comes first, then the place, then the statement's own checks
unfoldable pub act : Keep → CheckedFn → State → S.CheckedStmt-F CheckedStmt → Outcome Acted
act keep f s (S.Empty line) = goes_on s
act keep f s (S.Assign line slot scalar value checks) =
    eval keep f s value >>= λ v. tests keep f s checks >>= λ _. taken scalar v >>= λ w. goes_on (with_local s slot w)
act keep f s (S.AssignAutomatic line slot hidden value checks) =
    operand keep f s value >>= λ p. tests keep f s checks >>= λ _. goes_on (with_pointer s slot hidden p)
act keep f s (S.Store line scalar place value checks) =
    eval keep f s value >>= λ v. eval keep f s place >>= λ a. tests keep f s checks >>= λ _. taken scalar v >>= λ w.
    store s.memory scalar a w >>= remembers s
act keep f s (S.Zero line place size) = eval keep f s place >>= λ a. cleared s.memory a size >>= remembers s
act keep f s (S.Call line target function values checks) =
    arguments keep f s values >>= λ vs. tests keep f s checks >>= λ _. turns s (Calls function vs)
act keep f s (S.Kernel line target name values pointer function elem size) =
    arguments keep f s values >>= λ vs. optional_operand keep f s pointer >>= λ p. turns s (Asks (kernel_call name function elem size vs p))
act keep f s (S.Return line value checks) = optional_argument keep f s value >>= λ v. tests keep f s checks >>= λ _. turns s (Returns v)
act keep f s (S.If line test first second) = eval keep f s test >>= λ v. turns s (Into (holds v))
act keep f s (S.While line test body) = eval keep f s test >>= λ v. turns s (Into (holds v))
