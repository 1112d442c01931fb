-- What the kernel answers and grants leaves good activities.
use Rattle.std.proofs.Common.{◌≡◌, ℕ, suc, false, List, [], ◌∷◌, ℤ, Contains, sym, ◌∙◌, subst, true≢false}
use Rattle.sd_base.specs.Blocks.{Block}
use Rattle.byte_memory.specs.Tested.{Memory}
use Rattle.c_tree.specs.declared.items.Unit.{Unit as TextUnit}
use Rattle.c_tree.specs.Slots.{locals_of}
use Rattle.checked_tree.specs.declared.kernel.Answer.{Answer}
use Rattle.checked_tree.specs.declared.kernel.KernelCall.{KernelCall}
use Rattle.checked_tree.specs.declared.statements.CheckedStmt.{CheckedStmt, out-CheckedStmt}
use Rattle.checked_tree.specs.declared.units.CheckedUnit.{CheckedUnit}
use Rattle.checked_tree.specs.Step.{Activity, Frame, answered, answered_by}
use Rattle.deputy_types.specs.Table.{Table}
use Rattle.deputy_rules.specs.Heads.{slot_shapes}
use Rattle.driver_safety.specs.Activities.{Terms, AllRun, End, is_return, IsFrame, AreBelow, IsActivity, IsAsking}
use Rattle.driver_safety.specs.Goodness.{IsMemory}
use Rattle.driver_safety.specs.KernelLaw.{Answers}
use Rattle.driver_safety.specs.StepLaw.{HasGoodSlots, terms_of, EachAnswerLeavesGood, EachGrantLeavesGood}
use Rattle.driver_safety.proofs.steps.Frames.{frame_moved}

module _ (u : TextUnit) (t : Table) (c : CheckedUnit) (blocks more : List Block) (all : (b : Block) → Contains blocks b
    → Contains more b) where
  abbrev terms : Terms
  terms = terms_of u t

  slots_more : (k : ℕ) (ls : List ℤ) → HasGoodSlots u t blocks k ls → HasGoodSlots u t more k ls
  slots_more k ls good g at m = frame_moved t (locals_of g) (slot_shapes t g) 0 0 0 0 blocks more all ls m m (good g at m)

  frame_more : (fr : Frame) → IsFrame c terms blocks fr → IsFrame c terms more fr
  frame_more fr h = record {
    function = h.function;
    function_is = h.function_is;
    slots = slots_more fr.function fr.locals h.slots;
    runs = h.runs;
    ends = h.ends;
  }

  below_more : (n : ℕ) (frames : Activity) → AreBelow c terms blocks n frames → AreBelow c terms more n frames
  below_more n [] h = tt
  below_more n (fr ∷ below) h = (frame_more fr h.0, h.1, below_more fr.function below h.2)

  activity_more : (frames : Activity) → IsActivity c terms blocks frames → IsActivity c terms more frames
  activity_more [] h = absurd h
  activity_more (fr ∷ below) h = (frame_more fr h.0, below_more fr.function below h.1)

  -- ---- an answer
  rest_ends : (s : CheckedStmt) (rest : List CheckedStmt) → is_return c terms (out-CheckedStmt s) ≡ false → End c terms (s ∷ rest)
      → End c terms rest
  rest_ends s [] n e = absurd (true≢false (sym e ∙ n))
  rest_ends s (x ∷ ss) n e = e

  answer_good : (frames : Activity) (call : KernelCall) (m : Memory) (r : Answer) → IsMemory t more m → IsActivity c terms blocks frames
      → IsAsking c terms blocks frames call
      → Answers more call.elem r → IsActivity c terms more (answered frames r)
  unfolding answered
  answer_good [] call m r memory h asks answers = absurd h
  answer_good (top ∷ below) call m r memory h asks answers =
      subst (λ (todo : List CheckedStmt). IsActivity c terms more (answered_by top todo below r)) (sym asks.todo) (
        record {
          function = (h.0).function;
          function_is = (h.0).function_is;
          slots = asks.asked.0 more top.locals m r (slots_more top.function top.locals (h.0).slots) memory answers;
          runs = λ i x at. subst (AllRun c terms top.function (h.0).function) asks.todo (h.0).runs (suc i) x at;
          ends = rest_ends asks.statement asks.rest asks.last (subst (End c terms) asks.todo (h.0).ends);
        },
        below_more top.function below h.1,
      )

pub each_answer : EachAnswerLeavesGood
each_answer u t c blocks more frames call m r all memory good asks answers =
    answer_good u t c blocks more all frames call m r memory good asks answers

pub each_grant : EachGrantLeavesGood
each_grant u t c blocks more frames all good = activity_more u t c blocks more all frames good
