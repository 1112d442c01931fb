-- A loop of events: what is left of it, and that events take place after each turn.
-- Here: Turning, turning-start, turning-next, turning-ends, turning-done; run-kept, says, if-over, rests-if, rests-four
use Rattle.std.proofs.Common.{◌≡◌, ℕ, ◌+◌, ◌-◌, ◌≤◌, ◌<◌, Bool, true, false, not, ◌&&◌, List, Option, None, Some, is_some, refl, sym, ap, ◌∙◌}
use Rattle.claim_table.specs.declared.claims.Holder.{Holder}
use Rattle.checked_tree.specs.declared.units.CheckedUnit.{CheckedUnit}
use Rattle.driver_machine.specs.Machines.{owner_in}
use Rattle.run_report.specs.declared.item.Item.{Item}
use Rattle.run_report.specs.declared.item.Item.TheVariants as item
use Rattle.driver_host.specs.Grounds.{Carries}
use Rattle.world_core.specs.declared.run_state.RunState.{RunState}
use Rattle.world_core.specs.WorldState.{WorldState, is_over, is_live}
use Rattle.world_core.specs.Script.{Script, nothing, say, given, while_at_most, does}
use Rattle.world_core.specs.Delivering.{serves, is_waiting, still_waits}
use Rattle.world_core.specs.Stepping.{goes_on}
use Rattle.world_core.specs.Tasks.{may_go_on, rounds, run}
use Rattle.world_core.proofs.Leading as walk
use Rattle.world.specs.declared.live.Live.{Live}
use Rattle.world.specs.Standing.{Here, IsGood, Leads, names_in}
use Rattle.world.specs.Going.{Decides, Going}
use Rattle.world.specs.Ready.{IsReady, AreDueSet, serves_if, tells_waiting, MayGoOn}
use Rattle.world.proofs.Standing.{good-after, leads-nothing, leads-ground, beside-say, leads-by_run, leads-yes, leads-no}
use Rattle.world.proofs.Composing.{going-while, while-more, while-ends, while-done, decides-goes_on, leads-over, leads-by_tasks, live-is}
use Rattle.world.proofs.Calm.{Quiets, calm-good, quiets-unless_over, quiets-serves}
use Rattle.world.proofs.Lines.{ready-after}
use Rattle.world.proofs.Due.{Sets, due-after}

-- ---- turns

-- of n turns of a script, i were taken
pub record Turning (units : List CheckedUnit) (start now : Here) (n i : ℕ) (test : WorldState → Bool) (f : Script) : Type 0 where
  pub going : Going units start now (while_at_most n test f) (while_at_most (n - i) test f)
  pub ready : IsReady units now

pub turning-start : {units : List CheckedUnit} {a : Here} (n : ℕ) (test : WorldState → Bool) (f : Script) → IsReady units a → Turning units a a n 0 test f
turning-start {a} n test f ready = record { going = going-while a n test f; ready = ready }

pub turning-next : {units : List CheckedUnit} {start now next : Here} (n i : ℕ) (test : WorldState → Bool) (f : Script) → i < n
    → Turning units start now n i test f → Decides units now test true → Leads units now next f → Quiets f → Turning units start next n (i + 1) test f
turning-next n i test f below turning holds p quiets = record {
  going = while-more n i test f below turning.going holds p;
  ready = ready-after turning.ready p quiets;
}

pub turning-ends : {units : List CheckedUnit} {start now : Here} (n i : ℕ) (test : WorldState → Bool) (f : Script)
    → Turning units start now n i test f → Decides units now test false → Leads units start now (while_at_most n test f)
turning-ends n i test f turning no_more = while-ends n i test f turning.going no_more

pub turning-done : {units : List CheckedUnit} {start now : Here} (n i : ℕ) (test : WorldState → Bool) (f : Script) → n ≤ i
    → Turning units start now n i test f → Leads units start now (while_at_most n test f)
turning-done n i test f done turning = while-done n i test f done turning.going

-- the same, where it is known of the world only that it stands for one
pub record TurningGood (units : List CheckedUnit) (start now : Here) (n i : ℕ) (test : WorldState → Bool) (f : Script) : Type 0 where
  pub going : Going units start now (while_at_most n test f) (while_at_most (n - i) test f)
  pub good : IsGood units now

pub good-start : {units : List CheckedUnit} {a : Here} (n : ℕ) (test : WorldState → Bool) (f : Script) → IsGood units a → TurningGood units a a n 0 test f
good-start {a} n test f good = record { going = going-while a n test f; good = good }

pub good-next : {units : List CheckedUnit} {start now next : Here} (n i : ℕ) (test : WorldState → Bool) (f : Script) → i < n
    → TurningGood units start now n i test f → Decides units now test true → Leads units now next f → TurningGood units start next n (i + 1) test f
good-next n i test f below turning holds p = record {
  going = while-more n i test f below turning.going holds p;
  good = good-after turning.good p;
}

pub good-ends : {units : List CheckedUnit} {start now : Here} (n i : ℕ) (test : WorldState → Bool) (f : Script)
    → TurningGood units start now n i test f → Decides units now test false → Leads units start now (while_at_most n test f)
good-ends n i test f turning no_more = while-ends n i test f turning.going no_more

pub good-done : {units : List CheckedUnit} {start now : Here} (n i : ℕ) (test : WorldState → Bool) (f : Script) → n ≤ i
    → TurningGood units start now n i test f → Leads units start now (while_at_most n test f)
good-done n i test f done turning = while-done n i test f done turning.going

-- the run goes on, and the task has an activity
pub task-runs : (units : List CheckedUnit) (a : Here) (task : ℕ) (answer outcome : Bool)
    → answer ≡ not (is_over a.live.ground.run) && is_some (owner_in a.live.machine task) → answer ≡ outcome → Decides units a (goes_on task) outcome
task-runs units a task answer outcome is e = record { to = λ first faults s w. (decides-goes_on units a task).to first faults s w ∙ sym is ∙ e }

-- the same, where due drivers have their tasks
pub record TurningDue (units : List CheckedUnit) (start now : Here) (n i : ℕ) (test : WorldState → Bool) (f : Script) : Type 0 where
  pub turning : Turning units start now n i test f
  pub due : AreDueSet now.live.ground.run

pub due-start : {units : List CheckedUnit} {a : Here} (n : ℕ) (test : WorldState → Bool) (f : Script) → IsReady units a → AreDueSet a.live.ground.run
    → TurningDue units a a n 0 test f
due-start n test f ready due = record { turning = turning-start n test f ready; due = due }

-- one turn, which is said as what the turn is in this world
pub due-next : {units : List CheckedUnit} {start now next : Here} (n i : ℕ) (test : WorldState → Bool) (f once : Script) → i < n
    → TurningDue units start now n i test f → Decides units now test true → Leads units now next f → Leads units now next once → Quiets once → Sets once
    → TurningDue units start next n (i + 1) test f
due-next n i test f once below turning holds p q quiets sets = record {
  turning = record {
    going = while-more n i test f below turning.turning.going holds p;
    ready = ready-after turning.turning.ready q quiets;
  };
  due = due-after (calm-good turning.turning.ready.calm) q sets turning.due;
}

-- ---- what is printed

pub says : {units : List CheckedUnit} (a b : Here) (x : Item) → b.live.machine ≡ a.live.machine
    → ((names : ℕ → ℕ → List ℕ) → Carries a.live.ground b.live.ground a.told b.told names (say x)) → Leads units a b (say x)
says {units} a b x machine carries = leads-ground units a b (say x) (beside-say x) machine (carries (names_in units))

-- a script that leaves the run
pub run-kept : {units : List CheckedUnit} {a b : Here} {f : Script} → IsGood units a → Leads units a b f → ((s : WorldState) → (does f s).run ≡ s.run)
    → b.live.ground.run ≡ a.live.ground.run
run-kept good p kept =
    (p.to good.first good.faults good.state good.is).ground.run ∙ kept good.state ∙ sym good.is.ground.run

-- ---- holders

pub if-over : {units : List CheckedUnit} {a : Here} (line : ℕ) (holder : Option Holder) → is_over a.live.ground.run ≡ true
    → Leads units a a (serves_if line holder)
if-over line None over = leads-nothing
if-over line (Some x) over = leads-over (serves line x) over

pub rests-if : (line : ℕ) (holder : Option Holder) → Quiets (serves_if line holder)
rests-if line None = walk.leads-nothing
rests-if line (Some x) = quiets-unless_over (serves line x) (quiets-serves line x)

-- ---- a line that still waits

waits-over : (over waits : Bool) → over ≡ true → not over && waits ≡ false
waits-over true waits e = refl
waits-over false waits e = absurd cc

waits-not : (over waits : Bool) → waits ≡ false → not over && waits ≡ false
waits-not true waits e = refl
waits-not false waits e = e

waits-still : (over waits : Bool) → over ≡ false → waits ≡ true → not over && waits ≡ true
waits-still true waits o w = absurd cc
waits-still false waits o w = w

pub none-told : {units : List CheckedUnit} {a : Here} (line : ℕ) → is_over a.live.ground.run ≡ true → Leads units a a (tells_waiting line)
none-told {a} line over = leads-by_run (λ run. given (still_waits line run) (say (item.IrqWaits line)) nothing)
    (leads-no (still_waits line a.live.ground.run) (waits-over (is_over a.live.ground.run) (is_waiting a.live.ground.run line) over) leads-nothing)

pub served-told : {units : List CheckedUnit} {a : Here} (line : ℕ) → is_waiting a.live.ground.run line ≡ false → Leads units a a (tells_waiting line)
served-told {a} line served = leads-by_run (λ run. given (still_waits line run) (say (item.IrqWaits line)) nothing)
    (leads-no (still_waits line a.live.ground.run) (waits-not (is_over a.live.ground.run) (is_waiting a.live.ground.run line) served) leads-nothing)

pub waiting-told : {units : List CheckedUnit} {a b : Here} (line : ℕ) → is_over a.live.ground.run ≡ false → is_waiting a.live.ground.run line ≡ true
    → Leads units a b (say (item.IrqWaits line)) → Leads units a b (tells_waiting line)
waiting-told {a} line goes waits p = leads-by_run (λ run. given (still_waits line run) (say (item.IrqWaits line)) nothing)
    (leads-yes (still_waits line a.live.ground.run) (waits-still (is_over a.live.ground.run) (is_waiting a.live.ground.run line) goes waits) p)

-- ---- a task that may go on

may-go-on : (live : Live) (task : ℕ) (answer : Bool)
    → (not (is_over live.ground.run) && is_some (owner_in live.machine task)) && not live.ground.run.is_blocked ≡ answer → MayGoOn live task answer
may-go-on live task answer is = record {
  to = λ units o first faults s w.
      let over : is_over s.run ≡ is_over live.ground.run = ap is_over (sym w.ground.run) in
      let has : is_live s.tasks task ≡ is_some (owner_in live.machine task) = live-is units live.machine s.tasks task w.activities in
      let blocked : s.run.is_blocked ≡ live.ground.run.is_blocked = ap (λ (x : RunState). x.is_blocked) (sym w.ground.run) in
      ap (λ t. (not t && is_live s.tasks task) && not s.run.is_blocked) over
      ∙ ap (λ t. (not (is_over live.ground.run) && t) && not s.run.is_blocked) has
      ∙ ap (λ t. (not (is_over live.ground.run) && is_some (owner_in live.machine task)) && not t) blocked
      ∙ is;
}

by-over : (over has blocked : Bool) → over ≡ true → (not over && has) && not blocked ≡ false
by-over true has blocked e = refl
by-over false has blocked e = absurd cc

by-block : (over has blocked : Bool) → blocked ≡ true → (not over && has) && not blocked ≡ false
by-block true has blocked e = refl
by-block false true true e = refl
by-block false true false e = absurd cc
by-block false false blocked e = refl

by-live : (over has blocked : Bool) → over ≡ false → blocked ≡ false → (not over && has) && not blocked ≡ has
by-live true has blocked o b = absurd cc
by-live false has true o b = absurd cc
by-live false true false o b = refl
by-live false false false o b = refl

pub stays-over : (live : Live) (task : ℕ) → is_over live.ground.run ≡ true → MayGoOn live task false
stays-over live task over = may-go-on live task false (by-over (is_over live.ground.run) (is_some (owner_in live.machine task)) live.ground.run.is_blocked over)

pub stays-blocked : (live : Live) (task : ℕ) → live.ground.run.is_blocked ≡ true → MayGoOn live task false
stays-blocked live task blocked =
    may-go-on live task false (by-block (is_over live.ground.run) (is_some (owner_in live.machine task)) live.ground.run.is_blocked blocked)

pub goes-live : (live : Live) (task : ℕ) (answer : Bool) → is_over live.ground.run ≡ false → live.ground.run.is_blocked ≡ false
    → answer ≡ is_some (owner_in live.machine task) → MayGoOn live task answer
goes-live live task answer goes free is =
    may-go-on live task answer (by-live (is_over live.ground.run) (is_some (owner_in live.machine task)) live.ground.run.is_blocked goes free ∙ sym is)

pub task-goes : (units : List CheckedUnit) (a : Here) (task : ℕ) (answer outcome : Bool) → MayGoOn a.live task answer → answer ≡ outcome
    → Decides units a (may_go_on task) outcome
task-goes units a task answer outcome goes is = record { to = λ first faults s w. goes.to units a.told first faults s w ∙ is }

-- ---- `run T N`

run-by : {units : List CheckedUnit} {a b : Here} (task n : ℕ) → Leads units a b (given (is_some (owner_in a.live.machine task)) (rounds task n) (say (item.Idle task)))
    → Leads units a b (run task n)
unfolding run
run-by {units} {a} task n p = leads-by_tasks (λ tasks. given (is_live tasks task) (rounds task n) (say (item.Idle task)))
    (given (is_some (owner_in a.live.machine task)) (rounds task n) (say (item.Idle task)))
    (λ tasks has. ap (λ t. given t (rounds task n) (say (item.Idle task))) (sym (live-is units a.live.machine tasks task has))) p

pub run-idle : {units : List CheckedUnit} {a b : Here} (task n : ℕ) → owner_in a.live.machine task ≡ None → Leads units a b (say (item.Idle task))
    → Leads units a b (run task n)
run-idle {a} task n idle p = run-by task n (leads-no (is_some (owner_in a.live.machine task)) (ap is_some idle) p)

pub run-live : {units : List CheckedUnit} {a b : Here} (task n owner : ℕ) → owner_in a.live.machine task ≡ Some owner → Leads units a b (rounds task n)
    → Leads units a b (run task n)
run-live {a} task n owner live p = run-by task n (leads-yes (is_some (owner_in a.live.machine task)) (ap is_some live) p)
