-- Good activities, over what is good of frames, of the memory, and of what is handed over: each frame's slots are good, and each of its
-- statements runs, whatever blocks are granted; each other frame waits in a call whose result it takes.
use Rattle.std.specs.Prelude.{◌≡◌, ℕ, Bool, true, false, List, [], ◌∷◌, ℤ, Option, Some, Ok, slice_get}
use Rattle.byte_memory.specs.Tested.{Memory}
use Rattle.sd_base.specs.Blocks.{Block}
use Rattle.checked_tree.specs.declared.kernel.KernelCall.{KernelCall}
use Rattle.checked_tree.specs.declared.statements.CheckedStmt.{CheckedStmt, out-CheckedStmt}
use Rattle.checked_tree.specs.declared.statements.CheckedStmt.TheOpen as S
use Rattle.checked_tree.specs.declared.units.CheckedFn.{CheckedFn}
use Rattle.checked_tree.specs.declared.units.CheckedUnit.{CheckedUnit}
use Rattle.checked_tree.specs.Outcome.{Safe}
use Rattle.checked_tree.specs.Conditions.{State}
use Rattle.checked_tree.specs.Act.{Turn, On, Into, Calls, Asks, Returns, Acted, act}
use Rattle.checked_tree.specs.Step.{Frame, Activity, Next, Went, Wants, Ended, part_of, target_of, with_returned, first_locals}

-- what is good of the slots of a function's frame, of the memory, of the arguments of a function and of its result, where these blocks are
-- granted
pub record Terms : Type 1 where
  pub Slots : List Block → ℕ → List ℤ → Type 0
  pub Remembers : List Block → Memory → Type 0
  pub Passed : List Block → ℕ → List ℤ → Type 0
  pub Gives : List Block → ℕ → Option ℤ → Type 0
  pub Asked : List Block → ℕ → CheckedStmt → KernelCall → Type 0

module _ (unit : CheckedUnit) (terms : Terms) where
  -- the statement takes what the function with this number gives, whatever blocks are granted then
  abbrev pub Takes : ℕ → CheckedStmt → CheckedFn → ℕ → Type 0
  Takes k s g n = (w : List Block) (st : State) (r : Option ℤ) → terms.Slots w k st.locals → terms.Remembers w st.memory → terms.Gives w n r
      → Safe (with_returned g.result st (target_of (out-CheckedStmt s)) r) (λ t. terms.Slots w k t.locals)

  pub record IsCall (w : List Block) (k : ℕ) (s : CheckedStmt) (n : ℕ) (values : List ℤ) : Type 0 where
    pub callee : CheckedFn
    pub callee_is : slice_get unit.functions n ≡ Some callee
    pub passed : terms.Passed w n values
    pub takes : Takes k s callee n

  abbrev pub is_return : S.CheckedStmt-F CheckedStmt → Bool
  is_return (S.Return line value checks) = true
  is_return _ = false

  abbrev pub GoesOn : CheckedStmt → Type 0
  GoesOn s = is_return (out-CheckedStmt s) ≡ false

  -- where control may turn after a statement
  abbrev pub IsTurn : List Block → ℕ → CheckedStmt → Turn → Type 0
  IsTurn w k s On = GoesOn s
  IsTurn w k s (Into holds) = GoesOn s
  IsTurn w k s (Calls n values) = GoesOn s × IsCall w k s n values
  IsTurn w k s (Asks call) = GoesOn s × terms.Asked w k s call
  IsTurn w k s (Returns r) = terms.Gives w k r

  pub record LeavesGood (w : List Block) (k : ℕ) (s : CheckedStmt) (a : Acted) : Type 0 where
    pub slots : terms.Slots w k a.state.locals
    pub memory : terms.Remembers w a.state.memory
    pub turn : IsTurn w k s a.turn

  -- a statement that is sound in each good state, whatever blocks are granted, and so are the statements in it
  pub data Runs (k : ℕ) (f : CheckedFn) : CheckedStmt → Type 0 where
    runs : {s : CheckedStmt} → ((w : List Block) (st : State) → terms.Slots w k st.locals → terms.Remembers w st.memory
        → Safe (act [] f st (out-CheckedStmt s))
        (LeavesGood w k s))
        → ((w : List Block) (st : State) → terms.Slots w k st.locals → terms.Remembers w st.memory → (a : Acted) (b : Bool)
        → act [] f st (out-CheckedStmt s) ≡ Ok a → a.turn ≡ Into b
        → (i : ℕ) (x : CheckedStmt) → slice_get (part_of (out-CheckedStmt s) b) i ≡ Some x → Runs k f x) → Runs k f s

  abbrev pub AllRun : ℕ → CheckedFn → List CheckedStmt → Type 0
  AllRun k f ss = (i : ℕ) (x : CheckedStmt) → slice_get ss i ≡ Some x → Runs k f x

  -- statements that end in a return
  abbrev pub End : List CheckedStmt → Type 0
  End [] = ⊥
  End (s ∷ []) = is_return (out-CheckedStmt s) ≡ true
  End (s ∷ t ∷ ss) = End (t ∷ ss)

  pub record IsFrame (w : List Block) (fr : Frame) : Type 0 where
    pub function : CheckedFn
    pub function_is : slice_get unit.functions fr.function ≡ Some function
    pub slots : terms.Slots w fr.function fr.locals
    pub runs : AllRun fr.function function fr.todo
    pub ends : End fr.todo

  -- a frame that waits in a call of the function with this number, at its first statement
  pub record Waits (fr : Frame) (n : ℕ) : Type 0 where
    pub statement : CheckedStmt
    pub rest : List CheckedStmt
    pub todo : fr.todo ≡ statement ∷ rest
    pub callee : CheckedFn
    pub callee_is : slice_get unit.functions n ≡ Some callee
    pub takes : Takes fr.function statement callee n
    pub last : is_return (out-CheckedStmt statement) ≡ false

  -- the frames below one of the function n
  abbrev pub AreBelow : List Block → ℕ → Activity → Type 0
  AreBelow w n [] = Unit {0}
  AreBelow w n (fr ∷ below) = IsFrame w fr × Waits fr n × AreBelow w fr.function below

  abbrev pub IsActivity : List Block → Activity → Type 0
  IsActivity w [] = ⊥
  IsActivity w (top ∷ below) = IsFrame w top × AreBelow w top.function below

  -- an activity whose first statement asks this of the kernel
  pub record Asking (w : List Block) (fr : Frame) (call : KernelCall) : Type 0 where
    pub statement : CheckedStmt
    pub rest : List CheckedStmt
    pub todo : fr.todo ≡ statement ∷ rest
    pub last : is_return (out-CheckedStmt statement) ≡ false
    pub asked : terms.Asked w fr.function statement call

  abbrev pub IsAsking : List Block → Activity → KernelCall → Type 0
  IsAsking w [] call = ⊥
  IsAsking w (top ∷ below) call = Asking w top call

  abbrev pub IsNext : List Block → Next → Type 0
  IsNext w (Went frames m) = IsActivity w frames × terms.Remembers w m
  IsNext w (Wants frames call) = IsActivity w frames × IsAsking w frames call
  IsNext w (Ended r) = Unit {0}

  -- what the unit's functions owe: their bodies run and end in a return, and a fresh frame is good
  pub record IsSound : Type 0 where
    pub bodies : (n : ℕ) (f : CheckedFn) → slice_get unit.functions n ≡ Some f → AllRun n f f.body × End f.body
    pub enters : (w : List Block) (n : ℕ) (f : CheckedFn) (values : List ℤ) → slice_get unit.functions n ≡ Some f → terms.Passed w n values
        → terms.Slots w n (first_locals f values)
