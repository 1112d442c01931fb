-- That a code simulates its function: from the segment of a statement it does what the statement does, with the kept checks alone.
use Rattle.std.specs.Prelude.{◌≡◌, ℕ, ◌<◌, ◌≤◌, ◌==◌, IsTrue, Bool, List, [], ◌∷◌, length, ℤ, Option, Some, Ok, Err, slice_get}
use Rattle.std.specs.List.{list_any}
use Rattle.sd_base.specs.declared.kinds.FailKind.{FailKind}
use Rattle.sd_base.specs.declared.kinds.FailKind.TheVariants as fail
use Rattle.checked_tree.specs.declared.stops.Stop.TheVariants.{Failed, Wild}
use Rattle.checked_tree.specs.declared.shapes.Scalar.{Scalar}
use Rattle.checked_tree.specs.declared.checks.Check.{Check}
use Rattle.checked_tree.specs.declared.kernel.Answer.{Answer}
use Rattle.checked_tree.specs.declared.statements.CheckedStmt.{CheckedStmt, out-CheckedStmt}
use Rattle.checked_tree.specs.declared.statements.CheckedStmt.TheOpen as S
use Rattle.checked_tree.specs.declared.units.CheckedFn.{CheckedFn}
use Rattle.checked_tree.specs.Ranges.{are_in_range}
use Rattle.checked_tree.specs.Conditions.{State}
use Rattle.checked_tree.specs.Eval.{Keep, check_of}
use Rattle.checked_tree.specs.Act.{Acted, Turn, On, Into, Calls, Asks, Returns}
use Rattle.checked_tree.specs.Step.{line_of, target_of, with_returned, answer_set}
use Rattle.driver_code.specs.declared.instr.Instr.{Instr}
use Rattle.checked_tree.specs.Told.{Told, Tells}
use Rattle.checked_tree.specs.ActTold.{act_told}
use Rattle.driver_code.specs.Meaning as m
use Rattle.driver_code.specs.Meaning.{At, at, Came}
use Rattle.driver_code.specs.Running.{Ran, goes_on, run}
use Rattle.driver_code.specs.Results.{returned_numbers, answered_numbers, awaited_of_call, awaited_of_kernel}
use Rattle.driver_code.specs.Statements.{Todo, picked_todo, IsTodo}

-- the first program counter of a segment
abbrev pub starts_in : List (ℕ × ℕ) → ℕ → Bool
starts_in segments pc = list_any (λ x. x.0 == pc) segments

-- bytes are below 256
abbrev pub AreBytes : List ℕ → Type 0
AreBytes [] = Unit {0}
AreBytes (b ∷ bs) = (b < 256) × AreBytes bs

-- a check that fails so
pub record FailsAs (f : CheckedFn) (id line : ℕ) (kind : FailKind) : Type 0 where
  pub check : Check
  pub check_is : check_of f id ≡ Some check
  pub line_is : check.line ≡ line
  pub kind_is : fail.Check check.kind ≡ kind

-- where a running of this code came to an end
pub record IsRunning (instrs : List Instr) (depth : ℕ) (r : Ran) (ids : List ℕ) (o : Came) : Type 0 where
  pub came : r.came ≡ o
  pub tested : r.tested ≡ ids  -- the check instructions that it took, in order
  pub few : r.taken ≤ length instrs
  pub shallow : r.highest ≤ depth

module _ (instrs : List Instr) (segments : List (ℕ × ℕ)) (depth : ℕ) where
  abbrev pub starts : ℕ → Bool
  starts pc = starts_in segments pc

  -- the running stopped at the segment of the statement that is to do next, with no number on the stack. Where nothing is to do, the source
  -- has no meaning from here on
  abbrev pub Arrives : Ran → List ℕ → State → Todo → Type 0
  Arrives r ids s [] = Unit {0}
  Arrives r ids s ((k, st) ∷ rest) = (pc : ℕ) × (line : ℕ) × (slice_get segments k ≡ Some (pc, line)) × IsRunning instrs depth r ids (m.Stands (at pc [] s))

  -- behind a call: whatever the callee left, the running goes on with the numbers of the result alone, and takes no check instruction
  abbrev pub Returned : ℕ → S.CheckedStmt-F CheckedStmt → Todo → Type 0
  Returned behind y rest = (s after : State) (scalar : Scalar) (result : Option ℤ) (numbers : List ℤ)
      → with_returned scalar s (target_of y) result ≡ Ok after
      → returned_numbers scalar (awaited_of_call (target_of y)) result ≡ Ok numbers
      → Arrives (goes_on instrs starts (length instrs) (at behind numbers s)) [] after rest

  -- behind a kernel call: with the numbers of the answer
  abbrev pub Answered : ℕ → S.CheckedStmt-F CheckedStmt → Todo → Type 0
  Answered behind y rest = (s : State) (reply : Answer) (numbers : List ℤ)
      → answered_numbers (awaited_of_kernel (target_of y)) reply ≡ Ok numbers
      → Arrives (goes_on instrs starts (length instrs) (at behind numbers s)) [] (record s { locals = answer_set s.locals (target_of y) reply }) rest

  -- how a running ends by the turn of the statement, which has this form
  abbrev pub Turned : ℕ → S.CheckedStmt-F CheckedStmt → CheckedStmt → Todo → Ran → List ℕ → State → Turn → Type 0
  Turned k y st rest r ids s On = Arrives r ids s rest
  Turned k y st rest r ids s (Into holds) = Arrives r ids s (picked_todo k y holds st rest)
  Turned k y st rest r ids s (Returns result) = IsRunning instrs depth r ids (m.Returns result s)
  Turned k y st rest r ids s (Calls function values) =
      (behind : ℕ) × IsRunning instrs depth r ids (m.Calls function values (awaited_of_call (target_of y)) (at behind [] s)) × Returned behind y rest
  Turned k y st rest r ids s (Asks call) =
      (behind : ℕ) × IsRunning instrs depth r ids (m.Asks call (awaited_of_kernel (target_of y)) (at behind [] s)) × Answered behind y rest

  -- a running does what is told of a statement; nothing is said where that is wild
  abbrev pub Follows : CheckedFn → ℕ → S.CheckedStmt-F CheckedStmt → CheckedStmt → Todo → Ran → Told Acted → Type 0
  Follows f k y st rest r (Tells (Ok w) ids) = Turned k y st rest r ids w.state w.turn
  Follows f k y st rest r (Tells (Err (Failed line kind)) ids) = (id : ℕ) × FailsAs f id line kind × IsRunning instrs depth r ids (m.Fails id)
  Follows f k y st rest r (Tells (Err Wild) ids) = Unit {0}

  -- what a segment does, from each state whose locals are in range and whose memory has bytes
  pub record Does (f : CheckedFn) (keep : Keep) (k : ℕ) (st : CheckedStmt) (rest : Todo) : Type 0 where
    pub first : ℕ
    pub segment_is : slice_get segments k ≡ Some (first, line_of (out-CheckedStmt st))
    pub follows : (s : State) → IsTrue (are_in_range f.slots s.locals) → AreBytes s.memory.bytes
        → Follows f k (out-CheckedStmt st) st rest (run instrs starts (length instrs) (at first [] s)) (act_told keep f s (out-CheckedStmt st))

-- the code does what the function does with these checks kept, from each statement that can be to do
pub record Simulates (instrs : List Instr) (segments : List (ℕ × ℕ)) (depth : ℕ) (f : CheckedFn) (keep : Keep) : Type 0 where
  pub does : (k : ℕ) (st : CheckedStmt) (rest : Todo) → IsTodo f ((k, st) ∷ rest) → Does instrs segments depth f keep k st rest
