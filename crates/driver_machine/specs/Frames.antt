-- A frame's own part of a step: its first statement is done, and what it has still to do follows the turn.
use Rattle.std.specs.Prelude.{◌≡◌, List, [], ◌∷◌, drop, ℤ, Result, Ok, Err}
use Rattle.checked_tree.specs.declared.statements.CheckedStmt.{CheckedStmt, out-CheckedStmt}
use Rattle.checked_tree.specs.declared.stops.Stop.{Stop}
use Rattle.checked_tree.specs.declared.stops.Stop.TheVariants.{Wild}
use Rattle.checked_tree.specs.declared.units.CheckedFn.{CheckedFn}
use Rattle.checked_tree.specs.Act as act
use Rattle.checked_tree.specs.Act.{Acted}
use Rattle.checked_tree.specs.Conditions.{State}
use Rattle.checked_tree.specs.Outcome.{Outcome}
use Rattle.driver_machine.specs.declared.turn.Turn.{Turn}
use Rattle.driver_machine.specs.Acts.{turn_of, StaysBy}
use Rattle.driver_machine.specs.Paths.{picked_from}

-- ---- a step of one frame
-- the first statement done
abbrev pub first_done : CheckedFn → State → List CheckedStmt → Outcome Acted
first_done f s [] = Err Wild
first_done f s (st ∷ rest) = act.act [] f s (out-CheckedStmt st)

-- what is to do then: a call, a kernel call and a return stay to do
abbrev pub after_turn : act.Turn → List CheckedStmt → List CheckedStmt
after_turn act.On todo = drop 1 todo
after_turn (act.Into holds) todo = picked_from todo holds
after_turn (act.Calls function arguments) todo = todo
after_turn (act.Asks call) todo = todo
after_turn (act.Returns result) todo = todo

-- what the machine answers of a frame, from the state and the statements to do before and after
abbrev pub FrameSteps : CheckedFn → State → List CheckedStmt → Result Turn Stop → State → List CheckedStmt → List ℤ → Type 0
FrameSteps f s todo (Ok t) s' todo' arguments =
    (first_done f s todo ≡ Ok (record { state = s'; turn = turn_of t arguments })) × StaysBy t s s' × (todo' ≡ after_turn (turn_of t arguments) todo)
FrameSteps f s todo (Err e) s' todo' arguments = (first_done f s todo ≡ Err e) × (s' ≡ s) × (todo' ≡ todo)
