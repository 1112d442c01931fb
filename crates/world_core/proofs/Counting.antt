-- Steps are counted one by one, and a task does not run past N of them at `run T N`.
-- Here: step-counts, run-counts
use Rattle.std.proofs.Common.{◌≡◌, ℕ, zero, suc, ◌+◌, ◌-◌, ◌≤◌, Bool, true, false, not, ◌&&◌, List, refl, ap, sym, subst, ◌∙◌, arith}
use Rattle.std.specs.List.{list_any}
use Rattle.run_report.specs.declared.item.Item.TheVariants as item
use Rattle.world_core.specs.WorldState.{WorldState, is_over, is_spent, is_masked, is_live}
use Rattle.world_core.specs.Script.{say, on_run, given, both, does, turns}
use Rattle.world_core.specs.Showing.{show}
use Rattle.world_core.specs.Failing.{takes_back, fails, strays}
use Rattle.world_core.specs.Stepping.{acts, stopped, one_taken, step}
use Rattle.world_core.specs.Delivering.{delivers_least, deliver, can_deliver, some_waits}
use Rattle.world_core.specs.Tasks.{not_blocked, may_go_on, round, rounds, run}
use Rattle.world_core.proofs.Leading.{while-ends, given-false}
use Rattle.world_core.proofs.Keeping.{Acting, keep-acts}

-- ---- a statement takes no step of its own and raises no line

abbrev Same : List Bool → ℕ → WorldState → Type 0
Same waiting left s = (s.run.waiting ≡ waiting) × (s.run.left ≡ left)

acting : (waiting : List Bool) (left : ℕ) → Acting (Same waiting left)
unfolding fails takes_back show strays
acting waiting left = record {
  saying = λ x quiet. record { to = λ s a. a };
  listing = λ xs quiet. record { to = λ s a. a };
  updating = λ owner u. record { to = λ s a. a };
  leaving = λ owner. record { to = λ s a. a };
  tasks = λ change same. record { to = λ s a. a };
  memories = λ change same. record { to = λ s a. a };
  devices = λ change. record { to = λ s a. a };
  failing = λ who kind line. record { to = λ s a. a };
  astray = λ who line. record { to = λ s a. a };
  blocked = record { to = λ s a. a };
}

pub acts-same : (task : ℕ) (s : WorldState) → Same s.run.waiting s.run.left (does (acts task) s)
acts-same task s = (keep-acts (acting s.run.waiting s.run.left) task).to s (refl, refl)

-- ---- a step

-- where a step is left, one is taken
pub step-counts : (task : ℕ) (s : WorldState) → is_spent s.run ≡ false → (does (step task) s).run.left ≡ s.run.left - 1
unfolding step
step-counts task s left =
    ap (λ (w : WorldState). w.run.left) (given-false (on_run stopped) (both (on_run one_taken) (acts task)) (is_spent s.run) s left)
    ∙ (acts-same task (record s { run = one_taken s.run })).1

step-lines : (task : ℕ) (s : WorldState) → (does (step task) s).run.waiting ≡ s.run.waiting
unfolding step
step-lines task s =
    elim (is_spent s.run) as (λ b. (does (given b (on_run stopped) (both (on_run one_taken) (acts task))) s).run.waiting ≡ s.run.waiting)
    [ true ↦ refl | false ↦ (acts-same task (record s { run = one_taken s.run })).0 ]

step-few : (task : ℕ) (s : WorldState) → s.run.left ≤ (does (step task) s).run.left + 1
unfolding step
step-few task s =
    elim (is_spent s.run) as (λ b. s.run.left ≤ (does (given b (on_run stopped) (both (on_run one_taken) (acts task))) s).run.left + 1) [
      | true ↦ omega arith
      | false ↦ let e = (acts-same task (record s { run = one_taken s.run })).1 in
          subst (λ n. s.run.left ≤ n + 1) (sym e) (omega arith)
    ]

-- ---- a run, where no line waits: with one, its handlers take steps too

pub nothing-waits : (over waits masked : Bool) → waits ≡ false → not over && (waits && not masked) ≡ false
nothing-waits true waits masked e = refl
nothing-waits false waits masked e = ap (λ b. b && not masked) e

deliver-none : (s : WorldState) → some_waits s.run ≡ false → does deliver s ≡ s
unfolding deliver
deliver-none s none = while-ends 64 can_deliver delivers_least s (nothing-waits (is_over s.run) (some_waits s.run)
    (is_masked s.history) none)

round-is : (task : ℕ) (s : WorldState) → some_waits s.run ≡ false → does (round task) s ≡ does (step task) s
unfolding round
round-is task s none = deliver-none (does (step task) s) (ap (λ lines. list_any (λ waits. waits) lines) (step-lines task s) ∙ none)

turns-few : (task n : ℕ) (s : WorldState) → some_waits s.run ≡ false →
    s.run.left ≤ (turns n (may_go_on task) (does (round task)) s).run.left + n
turns-few task zero s none = omega arith
turns-few task (suc n) s none =
    elim (may_go_on task s)
    as (λ b. s.run.left ≤ (elim b as (λ x. WorldState) [
      | true ↦ turns n (may_go_on task) (does (round task)) (does
          (round task) s)
      | false ↦ s
    ]).run.left + suc n) [
      | true ↦
          let after = does (round task) s in
          let still : some_waits after.run ≡ false =
          ap (λ (w : WorldState). some_waits w.run) (round-is task s none)
          ∙ ap (λ lines. list_any (λ waits. waits) lines) (step-lines task s) ∙ none in
          let first : s.run.left ≤ after.run.left + 1 =
          subst (λ (w : WorldState). s.run.left ≤ w.run.left + 1) (sym (round-is task s none)) (step-few task s) in
          let then_ : after.run.left ≤ (turns n (may_go_on task) (does (round task)) after).run.left + n = turns-few task n after still in
          omega arith
      | false ↦ omega arith
    ]

pub run-counts : (task n : ℕ) (s : WorldState) → some_waits s.run ≡ false → s.run.left ≤ (does (run task n) s).run.left + n
unfolding run rounds
run-counts task n s none =
    elim (is_live s.tasks task) as (λ b. s.run.left ≤ (does (given b (rounds task n) (say (item.Idle task))) s).run.left + n)
    [ true ↦ turns-few task n (record s { run = not_blocked s.run }) none | false ↦ omega arith ]
