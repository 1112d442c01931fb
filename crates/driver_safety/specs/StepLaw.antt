-- The law of a step: an accepted driver is never wild. A step of a good activity over a good memory goes on so, asks the kernel, ends, or
-- fails at a line; and what the kernel answers, grants and starts leaves good activities.
use Rattle.std.specs.Prelude.{◌≡◌, ℕ, List, [], ◌∷◌, map, ℤ, pos, Option, Some, Ok, slice_get, slice_index_or}
use Rattle.std.specs.List.{Contains}
use Rattle.byte_memory.specs.Tested.{Memory}
use Rattle.sd_base.specs.Blocks.{Block}
use Rattle.c_tree.specs.declared.items.Function.{Function}
use Rattle.c_tree.specs.declared.items.Unit.{Unit as TextUnit}
use Rattle.c_tree.specs.ShortUnit.{IsShortUnit}
use Rattle.checked_tree.specs.declared.kernel.Answer.{Answer}
use Rattle.checked_tree.specs.declared.kernel.KernelCall.{KernelCall}
use Rattle.checked_tree.specs.declared.shapes.Shape.{Shape}
use Rattle.checked_tree.specs.declared.shapes.Shape.TheVariants as shape
use Rattle.checked_tree.specs.declared.statements.CheckedStmt.{CheckedStmt, out-CheckedStmt}
use Rattle.checked_tree.specs.declared.units.CheckedUnit.{CheckedUnit}
use Rattle.checked_tree.specs.Outcome.{Safe}
use Rattle.checked_tree.specs.Step.{Activity, answer_set, target_of, step, answered, started}
use Rattle.deputy_types.specs.Table.{Table}
use Rattle.deputy_types.specs.UnitLayout.{functions_of, layout}
use Rattle.deputy_rules.specs.declared.signature.Returned.{Returned}
use Rattle.deputy_rules.specs.declared.signature.Signature.{Signature}
use Rattle.deputy_rules.specs.Functions.{context_of, checked}
use Rattle.deputy_rules.specs.Heads.{parameter_shapes, result_of, signature_of}
use Rattle.driver_safety.specs.Asking.{IsLawfulCall}
use Rattle.driver_safety.specs.Activities.{Terms, IsActivity, IsAsking, IsNext}
use Rattle.driver_safety.specs.CallLaw.{GivesBack}
use Rattle.driver_safety.specs.Goodness.{IsFrame, IsMemory}
use Rattle.driver_safety.specs.Handing.{TakeEach}
use Rattle.driver_safety.specs.KernelLaw.{Answers}
use Rattle.driver_safety.specs.UnionArms.{ItemsHaveArms}

module _ (u : TextUnit) (t : Table) where
  -- what is good of a frame's slots, of arguments and of a result, by the function of the text with this number
  abbrev pub HasGoodSlots : List Block → ℕ → List ℤ → Type 0
  HasGoodSlots blocks k ls = (g : Function) → slice_get (functions_of u.items) k ≡ Some g → (m : Memory)
      → IsFrame (context_of t g) blocks (record { locals = ls; memory = m })

  abbrev pub HasGoodArguments : List Block → ℕ → List ℤ → Type 0
  HasGoodArguments blocks k vs = (g : Function) → slice_get (functions_of u.items) k ≡ Some g
      → TakeEach t blocks (λ i. slice_index_or vs i (pos 0)) (parameter_shapes t g.head.params) vs

  abbrev pub HasGoodResult : List Block → ℕ → Option ℤ → Type 0
  HasGoodResult blocks k v = (g : Function) → slice_get (functions_of u.items) k ≡ Some g → (r : Returned) → result_of t g.head ≡ Some r
      → (names : ℕ → ℤ) × GivesBack t blocks names r v

  -- the statement's local takes whatever the kernel may answer
  abbrev pub TakesEachAnswer : ℕ → CheckedStmt → KernelCall → Type 0
  TakesEachAnswer k s call = (blocks : List Block) (ls : List ℤ) (m : Memory) (r : Answer) → HasGoodSlots blocks k ls → IsMemory t blocks m
      → Answers blocks call.elem r → HasGoodSlots blocks k (answer_set ls (target_of (out-CheckedStmt s)) r)

  -- what calls see of the text's functions
  abbrev pub signatures_of : List Signature
  signatures_of = map (signature_of t) (functions_of u.items)

  abbrev pub terms_of : Terms
  terms_of = record {
    Slots = λ blocks k ls. HasGoodSlots blocks k ls;
    Remembers = λ blocks m. IsMemory t blocks m;
    Passed = λ blocks k vs. HasGoodArguments blocks k vs;
    Gives = λ blocks k v. HasGoodResult blocks k v;
    Asked = λ blocks k s call. TakesEachAnswer k s call × IsLawfulCall t blocks signatures_of call;
  }

-- a unit that the rules derive from a short text, each of whose unions has an arm
pub record IsAccepted (u : TextUnit) (t : Table) (c : CheckedUnit) : Type 0 where
  pub short : IsShortUnit u
  pub arms : ItemsHaveArms u.items
  pub laid : layout u ≡ Ok t
  pub derived : checked t u ≡ Ok c

-- a step is not wild, and leaves what is good
abbrev pub EachStepIsSafe : Type 0
EachStepIsSafe = (u : TextUnit) (t : Table) (c : CheckedUnit) → IsAccepted u t c → (blocks : List Block) (frames : Activity) (m : Memory)
    → IsActivity c (terms_of u t) blocks frames → IsMemory t blocks m → Safe (step c frames m) (IsNext c (terms_of u t) blocks)

-- as many numbers as there are parameters, each of which is an integer
abbrev pub AreIntegers : List (Option Shape) → List ℤ → Type 0
AreIntegers [] [] = Unit {0}
AreIntegers (Some (shape.Int s) ∷ ss) (v ∷ vs) = AreIntegers ss vs
AreIntegers _ _ = ⊥

-- what a call from outside starts is good: that of a load, of a handler, of a command
abbrev pub EachStartIsGood : Type 0
EachStartIsGood =
    (u : TextUnit) (t : Table) (c : CheckedUnit) → IsAccepted u t c → (k : ℕ) (vs : List ℤ) (frames : Activity)
    → started c k vs ≡ Some frames
    → ((g : Function) → slice_get (functions_of u.items) k ≡ Some g → AreIntegers (parameter_shapes t g.head.params) vs)
    → (blocks : List Block) → IsActivity c (terms_of u t) blocks frames

-- an activity that asked goes on good with any answer, where the kernel granted more or nothing; so does each other activity
abbrev pub EachAnswerLeavesGood : Type 0
EachAnswerLeavesGood =
    (u : TextUnit) (t : Table) (c : CheckedUnit) (blocks more : List Block) (frames : Activity) (call : KernelCall) (m : Memory)
    (r : Answer)
    → ((b : Block) → Contains blocks b → Contains more b) → IsMemory t more m → IsActivity c (terms_of u t) blocks frames
    → IsAsking c (terms_of u t) blocks frames call → Answers more call.elem r → IsActivity c (terms_of u t) more (answered frames r)

abbrev pub EachGrantLeavesGood : Type 0
EachGrantLeavesGood = (u : TextUnit) (t : Table) (c : CheckedUnit) (blocks more : List Block) (frames : Activity)
    → ((b : Block) → Contains blocks b → Contains more b) → IsActivity c (terms_of u t) blocks frames
    → IsActivity c (terms_of u t) more frames
