-- The law of runs: a driver that was loaded is never wild, in whatever order its activities take their steps, answers come, blocks are
-- granted and calls from outside begin.
use Rattle.std.specs.Prelude.{◌≡◌, ◌⊎◌, IsTrue, ℕ, suc, ◌<◌, ◌≤◌, false, List, [], ◌∷◌, ◌++◌, All, take, drop, ℤ, Option, Some, Ok}
use Rattle.std.specs.Prelude.{slice_get, slice_set, slice_index_or}
use Rattle.std.specs.List.{Contains}
use Rattle.byte_memory.specs.Tested.{Memory, is_inside}
use Rattle.sd_base.specs.Blocks.{Block, block_end}
use Rattle.c_tree.specs.declared.items.Function.{Function}
use Rattle.c_tree.specs.declared.items.Unit.{Unit as TextUnit}
use Rattle.checked_tree.specs.declared.kernel.Answer.{Answer}
use Rattle.checked_tree.specs.declared.kernel.KernelCall.{KernelCall}
use Rattle.checked_tree.specs.declared.units.CheckedUnit.{CheckedUnit}
use Rattle.checked_tree.specs.Outcome.{Safe}
use Rattle.checked_tree.specs.Step.{Activity, Went, Wants, Ended, step, answered, started}
use Rattle.deputy_types.specs.Table.{Table}
use Rattle.deputy_types.specs.UnitLayout.{functions_of}
use Rattle.deputy_rules.specs.Heads.{parameter_shapes}
use Rattle.driver_safety.specs.Activities.{IsActivity}
use Rattle.driver_safety.specs.Goodness.{IsMemory}
use Rattle.driver_safety.specs.GrantLaw.{IsGranting}
use Rattle.driver_safety.specs.KernelLaw.{Answers}
use Rattle.driver_safety.specs.LoadLaw.{IsLoaded}
use Rattle.driver_safety.specs.StepLaw.{terms_of, IsAccepted, AreIntegers}

-- a driver under way: the blocks that it was granted, its memory, and its activities that have begun and not ended
pub record Driver : Type 0 where
  pub blocks : List Block
  pub memory : Memory
  pub activities : List Activity

-- the address lies in this block
abbrev pub LiesIn : Block → ℕ → Type 0
LiesIn b k = (b.base ≤ k) × (k < block_end b)

-- its blocks alone were granted, and each byte outside of them is 0
pub record IsOwn (blocks : List Block) (m : Memory) : Type 0 where
  pub only : (k : ℕ) → IsTrue (is_inside m k 1) → (b : Block) × Contains blocks b × LiesIn b k
  pub zero : (k : ℕ) → is_inside m k 1 ≡ false → slice_index_or m.bytes k 0 ≡ 0

-- it was loaded, and nothing has begun
pub record IsFirst (t : Table) (d : Driver) : Type 0 where
  pub loaded : IsLoaded t d.blocks d.memory
  pub own : IsOwn d.blocks d.memory
  pub none : d.activities ≡ []

module _ (u : TextUnit) (t : Table) (c : CheckedUnit) where
  -- the numbers for a call from outside: as many as the function has parameters, each of which is an integer
  abbrev pub AreNumbersFor : ℕ → List ℤ → Type 0
  AreNumbersFor k vs = (g : Function) → slice_get (functions_of u.items) k ≡ Some g → AreIntegers (parameter_shapes t g.head.params) vs

  -- what may happen next: any of its activities takes a step, ends, or is answered; a block is granted; a call from outside begins
  pub data Moves (d : Driver) : Driver → Type 0 where
    goes : (i : ℕ) (frames next : Activity) (m : Memory) → slice_get d.activities i ≡ Some frames
        → step c frames d.memory ≡ Ok (Went next m)
        → Moves d (record { blocks = d.blocks; memory = m; activities = slice_set d.activities i next })
    ends : (i : ℕ) (frames : Activity) (v : Option ℤ) → slice_get d.activities i ≡ Some frames → step c frames d.memory ≡ Ok (Ended v)
        → Moves d (record { blocks = d.blocks; memory = d.memory; activities = take i d.activities ++ drop (suc i) d.activities })
    asks : (i : ℕ) (frames waiting : Activity) (call : KernelCall) (r : Answer) → slice_get d.activities i ≡ Some frames
        → step c frames d.memory ≡ Ok (Wants waiting call) → Answers d.blocks call.elem r
        → Moves d (record { blocks = d.blocks; memory = d.memory; activities = slice_set d.activities i (answered waiting r) })
    grants : (more : List Block) (m : Memory) (b : Block) → IsGranting t d.blocks more d.memory m b
        → ((k : ℕ) → IsTrue (is_inside m k 1) → IsTrue (is_inside d.memory k 1) ⊎ LiesIn b k)
        → Moves d (record { blocks = more; memory = m; activities = d.activities })
    begins : (k : ℕ) (vs : List ℤ) (frames : Activity) → started c k vs ≡ Some frames → AreNumbersFor k vs
        → Moves d (record { blocks = d.blocks; memory = d.memory; activities = frames ∷ d.activities })

  -- what a driver may come to
  pub data Comes (first : Driver) : Driver → Type 0 where
    start : Comes first first
    onward : (d e : Driver) → Comes first d → Moves d e → Comes first e

  -- a good driver
  pub record IsGoodDriver (d : Driver) : Type 0 where
    pub memory : IsMemory t d.blocks d.memory
    pub own : IsOwn d.blocks d.memory
    pub activities : All (IsActivity c (terms_of u t) d.blocks) d.activities

-- each state that a loaded driver comes to is good, and no step of any of its activities is wild there
abbrev pub EachRunIsSafe : Type 0
EachRunIsSafe =
    (u : TextUnit) (t : Table) (c : CheckedUnit) → IsAccepted u t c → (first d : Driver) → IsFirst t first → Comes u t c first d
    → IsGoodDriver u t c d
    × ((i : ℕ) (frames : Activity) → slice_get d.activities i ≡ Some frames → Safe (step c frames d.memory) (λ n. Unit {0}))
