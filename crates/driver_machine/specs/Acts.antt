-- What the machine answers of one statement, beside what the definition says.
use Rattle.std.specs.Prelude.{◌≡◌, nat_le, Bool, true, IsTrue, List, length, ℤ, Some, Result, Ok, Err}
use Rattle.byte_memory.specs.Tested.{Memory}
use Rattle.checked_tree.specs.declared.statements.CheckedStmt.{CheckedStmt}
use Rattle.checked_tree.specs.declared.statements.CheckedStmt.TheOpen as S
use Rattle.checked_tree.specs.declared.stops.Stop.{Stop}
use Rattle.checked_tree.specs.Act as act
use Rattle.checked_tree.specs.Act.{Acted}
use Rattle.checked_tree.specs.Conditions.{State}
use Rattle.checked_tree.specs.Numbers.{is_value}
use Rattle.checked_tree.specs.Outcome.{Outcome}
use Rattle.driver_machine.specs.declared.turn.Turn.{Turn}
use Rattle.driver_machine.specs.declared.turn.Turn.TheVariants as turn

-- the state of these locals and this memory
abbrev pub state : List ℤ → Memory → State
state locals memory = record { locals = locals; memory = memory }

-- the turn that an answer stands for, with the arguments that were collected
abbrev pub turn_of : Turn → List ℤ → act.Turn
turn_of turn.On arguments = act.On
turn_of (turn.Into holds) arguments = act.Into holds
turn_of (turn.Calls function) arguments = act.Calls function arguments
turn_of (turn.Asks call) arguments = act.Asks call
turn_of (turn.Returns result) arguments = act.Returns result

-- a statement behind which control does not simply go on changes nothing
abbrev pub StaysBy : Turn → State → State → Type 0
StaysBy turn.On old new = Unit {0}
StaysBy (turn.Into holds) old new = new ≡ old
StaysBy (turn.Calls function) old new = new ≡ old
StaysBy (turn.Asks call) old new = new ≡ old
StaysBy (turn.Returns result) old new = new ≡ old

-- the state that the definition gives, and its turn; or its stop, with the state as it was
abbrev pub Acts : Outcome Acted → State → Result Turn Stop → State → List ℤ → Type 0
Acts outcome old (Ok t) new arguments = (outcome ≡ Ok (record { state = new; turn = turn_of t arguments })) × StaysBy t old new
Acts outcome old (Err e) new arguments = (outcome ≡ Err e) × (new ≡ old)

-- a result that is handed back fits 32 bits, as each value does
abbrev pub HasValue : Turn → Type 0
HasValue (turn.Returns (Some v)) = IsTrue (is_value v)
HasValue _ = Unit {0}

-- the same of a statement behind which control goes on
abbrev pub GoesOn : Outcome Acted → State → Result (Unit {0}) Stop → State → Type 0
GoesOn outcome old (Ok x) new = outcome ≡ Ok (record { state = new; turn = act.On })
GoesOn outcome old (Err e) new = (outcome ≡ Err e) × (new ≡ old)

-- a statement with at most 128 arguments, as many as a function has slots
abbrev pub has_room : S.CheckedStmt-F CheckedStmt → Bool
has_room (S.Call line target function values checks) = nat_le (length values) 128
has_room (S.Kernel line target name values pointer function elem size) = nat_le (length values) 128
has_room _ = true
