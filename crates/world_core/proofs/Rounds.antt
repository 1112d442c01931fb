-- How a run is computed round by round: from what the next statement of a task comes to, to the world after it.
-- Here: IsNext, after; acts-as, step-as, next-round, next-step, next-call, next-handler_call
use Rattle.std.proofs.Common.{◌≡◌, ℕ, suc, true, false, Option, Some, Ok, ap, ◌∙◌}
use Rattle.std.specs.Option.{option_map}
use Rattle.checked_tree.specs.declared.kernel.Answer.{Answer}
use Rattle.checked_tree.specs.declared.kernel.KernelCall.{KernelCall}
use Rattle.checked_tree.specs.Outcome.{Outcome}
use Rattle.checked_tree.specs.Step as tree
use Rattle.checked_tree.specs.Step.{Next, Wants}
use Rattle.world_core.specs.WorldState.{WorldState, Running, unit_of, memory_of, activity_of, with_activity, who_in, is_spent}
use Rattle.world_core.specs.Script.{on_run, on_tasks, both, does, turns}
use Rattle.world_core.specs.Calling.{with_answer, task_answered}
use Rattle.world_core.specs.Stepping.{comes_to, acts_as, acts, stopped, one_taken, step, goes_on}
use Rattle.world_core.specs.Delivering.{deliver}
use Rattle.world_core.specs.Tasks.{may_go_on, round}
use Rattle.world_core.proofs.Leading.{turns-more, given-false}

-- what the statement of an activity comes to in a world
abbrev pub IsNext : WorldState → Running → Outcome Next → Type 0
IsNext s r next = tree.step (unit_of s.plan r.owner) r.frames (memory_of s.history s.memories r.owner) ≡ next

-- the world in which one step more is taken
abbrev pub taken : WorldState → WorldState
taken s = record s { run = one_taken s.run }

-- the world after the statement
abbrev pub after : ℕ → Running → Outcome Next → WorldState → WorldState
after task r next s = does (comes_to (who_in task r) (tree.line r.frames) next) (taken s)

pub acts-as : (task : ℕ) (r : Running) (next : Outcome Next) (s : WorldState) → activity_of s.tasks task ≡ Some r → IsNext s r next →
    does (acts task) s ≡ does (comes_to (who_in task r) (tree.line r.frames) next) s
unfolding acts
acts-as task r next s live e =
    ap (λ a. does (acts_as s.plan s.history s.memories task a) s) live
    ∙ ap (λ n. does (comes_to (who_in task r) (tree.line r.frames) n) s) e

pub step-as : (task : ℕ) (r : Running) (next : Outcome Next) (s : WorldState) → is_spent s.run ≡ false →
    activity_of s.tasks task ≡ Some r → IsNext s r next →
    does (step task) s ≡ after task r next s
unfolding step
step-as task r next s left live e =
    given-false (on_run stopped) (both (on_run one_taken) (acts task)) (is_spent s.run) s left ∙ acts-as task r next (taken s) live e

-- one round of `run T N` or `finish T`
pub next-round : (task n : ℕ) (r : Running) (next : Outcome Next) (s : WorldState) →
    may_go_on task s ≡ true → is_spent s.run ≡ false → activity_of s.tasks task ≡ Some r → IsNext s r next →
    turns (suc n) (may_go_on task) (does (round task)) s ≡ turns n (may_go_on task) (does (round task)) (does deliver (after task r next s))
unfolding round
next-round task n r next s on left live e =
    turns-more n (may_go_on task) (does (round task)) s on
    ∙ ap (λ w. turns n (may_go_on task) (does (round task)) (does deliver w)) (step-as task r next s left live e)

-- one step of a handler
pub next-step : (task n : ℕ) (r : Running) (next : Outcome Next) (s : WorldState) →
    goes_on task s ≡ true → is_spent s.run ≡ false → activity_of s.tasks task ≡ Some r → IsNext s r next →
    turns (suc n) (goes_on task) (does (step task)) s ≡ turns n (goes_on task) (does (step task)) (after task r next s)
next-step task n r next s on left live e =
    turns-more n (goes_on task) (does (step task)) s on ∙ ap (turns n (goes_on task) (does (step task))) (step-as task r next s left live e)

-- ---- a kernel call

-- the task's activity is this now
abbrev pub with_frames : ℕ → Running → WorldState → WorldState
with_frames task r s = record s { tasks = with_activity task (Some r) s.tasks }

-- what an answered call leaves: of the activity that asked, the one with the answer
pub answered-as : (task : ℕ) (reply : Answer) (r new : Running) (s : WorldState) → activity_of s.tasks task ≡ Some r →
    with_answer reply r ≡ new →
    does (on_tasks (task_answered task reply)) s ≡ with_frames task new s
answered-as task reply r new s live e =
    ap (λ a. record s { tasks = with_activity task (option_map (with_answer reply) a) s.tasks }) live
    ∙ ap (λ (x : Running). with_frames task x s) e

-- one round with a kernel call: `made` is the world in which the call was made and not answered yet
pub next-call : (task n : ℕ) (r new : Running) (call : KernelCall) (reply : Answer) (s made : WorldState) →
    may_go_on task s ≡ true → is_spent s.run ≡ false → activity_of s.tasks task ≡ Some r → IsNext s r (Ok (Wants r.frames call)) →
    after task r (Ok (Wants r.frames call)) s ≡ does (on_tasks (task_answered task reply)) made → activity_of made.tasks task ≡ Some r →
    with_answer reply r ≡ new →
    turns (suc n) (may_go_on task) (does (round task)) s ≡
    turns n (may_go_on task) (does (round task)) (does deliver (with_frames task new made))
next-call task n r new call reply s made on left live e is still answer =
    next-round task n r (Ok (Wants r.frames call)) s on left live e
    ∙ ap (λ w. turns n (may_go_on task) (does (round task)) (does deliver w)) (is ∙ answered-as task reply r new made still answer)

-- the same of a handler
pub next-handler_call : (task n : ℕ) (r new : Running) (call : KernelCall) (reply : Answer) (s made : WorldState) →
    goes_on task s ≡ true → is_spent s.run ≡ false → activity_of s.tasks task ≡ Some r → IsNext s r (Ok (Wants r.frames call)) →
    after task r (Ok (Wants r.frames call)) s ≡ does (on_tasks (task_answered task reply)) made → activity_of made.tasks task ≡ Some r →
    with_answer reply r ≡ new →
    turns (suc n) (goes_on task) (does (step task)) s ≡ turns n (goes_on task) (does (step task)) (with_frames task new made)
next-handler_call task n r new call reply s made on left live e is still answer =
    next-step task n r (Ok (Wants r.frames call)) s on left live e
    ∙ ap (turns n (goes_on task) (does (step task))) (is ∙ answered-as task reply r new made still answer)
