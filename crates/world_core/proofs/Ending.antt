-- The bound stops everything at once: the step that finds no step left changes nothing but the flag, and in a world that is over nothing
-- that
-- could follow is done any more.
-- Here: event-over, events-over, step-spent, handler-spent
use Rattle.std.proofs.Common.{◌≡◌, ℕ, ◌+◌, Bool, true, false, not, ◌&&◌, eqb, List, [], ◌∷◌, is_some, refl, ap, ◌∙◌, arith}
use Rattle.std.specs.List.{list_any}
use Rattle.std.proofs.lemmas.Bool.Decides.{nat_tests}
use Rattle.sd_base.specs.declared.history.Update.TheVariants as update
use Rattle.claim_table.specs.declared.claims.Holder.{Holder}
use Rattle.scenario.specs.declared.event.Event.{Event}
use Rattle.world_core.specs.declared.run_state.DriverState.{DriverState}
use Rattle.world_core.specs.WorldState.{WorldState, is_over, is_spent, is_live, is_masked}
use Rattle.world_core.specs.Script.{Script, nothing, on_run, both, does, turns, unless_over, updates, ◌>>◌}
use Rattle.world_core.specs.Stepping.{acts, step, stopped, one_taken, goes_on, runs_to_end}
use Rattle.world_core.specs.Delivering.{delivers_least, deliver, serves, serves_each, can_deliver, some_waits}
use Rattle.world_core.specs.Clock.{has_due, due_by, fires_first, fires_all, ticks_to}
use Rattle.world_core.specs.Inputs.{work, has_work, works_one, is_item}
use Rattle.share_table.specs.Table.{queue_of}
use Rattle.world_core.specs.Restarting.{restarts, has_due_driver, restarts_least, restarts_left}
use Rattle.world_core.specs.Events.{takes, event, events}
use Rattle.world_core.proofs.Leading.{turns-more, while-ends, given-true}

-- a test of a loop, where the run is over
test-over : (over rest : Bool) → over ≡ true → not over && rest ≡ false
test-over true rest e = refl
test-over false rest e = cc

pub unless_over-over : (f : Script) (s : WorldState) → is_over s.run ≡ true → does (unless_over f) s ≡ s
unfolding unless_over
unless_over-over f s over = given-true nothing f (is_over s.run) s over

-- no event is taken once the run is over
pub event-over : (e : Event) (s : WorldState) → is_over s.run ≡ true → does (event e) s ≡ s
unfolding event
event-over e s over = unless_over-over (takes e >> deliver >> restarts) s over

pub events-over : (es : List Event) (s : WorldState) → is_over s.run ≡ true → does (events es) s ≡ s
events-over [] s over = refl
events-over (e ∷ es) s over = ap (does (events es)) (event-over e s over) ∙ events-over es s over

-- ---- within an event, nothing that could follow is done

pub deliver-over : (s : WorldState) → is_over s.run ≡ true → does deliver s ≡ s
unfolding deliver
deliver-over s over = while-ends 64 can_deliver delivers_least s (test-over (is_over s.run) (some_waits s.run && not
    (is_masked s.history)) over)

pub holders-over : (line : ℕ) (holders : List Holder) (s : WorldState) → is_over s.run ≡ true → does (serves_each line holders) s ≡ s
holders-over line [] s over = refl
holders-over line (h ∷ hs) s over = ap (does (serves_each line hs)) (unless_over-over (serves line h) s over) ∙ holders-over line hs s over

pub handler-over : (task : ℕ) (s : WorldState) → is_over s.run ≡ true → does (runs_to_end task) s ≡ s
unfolding runs_to_end
handler-over task s over = while-ends (s.run.left + 1) (goes_on task) (step task) s (test-over (is_over s.run) (is_live s.tasks task) over)

pub work-over : (n : ℕ) (s : WorldState) → is_over s.run ≡ true → does (work n) s ≡ s
unfolding work
work-over n s over = while-ends n has_work works_one s (test-over (is_over s.run) (is_item (queue_of s.history)) over)

pub restarts-over : (s : WorldState) → is_over s.run ≡ true → does restarts s ≡ s
unfolding restarts
restarts-over s over = while-ends (restarts_left s.run.drivers) has_due_driver restarts_least s (test-over (is_over s.run) (list_any (λ
    (d : DriverState). d.is_due) s.run.drivers) over)

-- also not the tick's target
pub tick-over : (target : ℕ) (s : WorldState) → is_over s.run ≡ true → does (ticks_to target) s ≡ s
unfolding ticks_to fires_all
tick-over target s over =
    ap (does (unless_over (updates 0 (update.Clock target))))
    (while-ends (s.run.left + 1) (has_due target) (fires_first target) s (test-over (is_over s.run) (is_some
    (due_by target s.history)) over))
    ∙ unless_over-over (updates 0 (update.Clock target)) s over

-- ---- the step that finds no step left

pub step-spent : (task : ℕ) (s : WorldState) → is_spent s.run ≡ true → does (step task) s ≡ record s { run = stopped s.run }
unfolding step
step-spent task s spent = given-true (on_run stopped) (both (on_run one_taken) (acts task)) (is_spent s.run) s spent

-- no step is taken but where one is left, and then one less is left
is_spent-zero : (n : ℕ) → eqb n 0 ≡ true → n ≡ 0
is_spent-zero n e = grind (arith, nat_tests)

-- an activity that has to go on where no step is left stops the run, and nothing else happens
pub handler-spent : (task : ℕ) (s : WorldState) → is_spent s.run ≡ true → goes_on task s ≡ true →
    does (runs_to_end task) s ≡ record s { run = stopped s.run }
unfolding runs_to_end
handler-spent task s spent live =
    let none : s.run.left ≡ 0 = is_spent-zero s.run.left spent in
    ap (λ n. turns (n + 1) (goes_on task) (does (step task)) s) none
    ∙ turns-more 0 (goes_on task) (does (step task)) s live
    ∙ step-spent task s spent
