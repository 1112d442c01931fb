-- How a script is carried out, form by form.
-- Here: carries-nothing, carries-then, carries-say, carries-says, carries-run, carries-updates, carries-devices, carries-takes_back
use Rattle.std.proofs.Common.{◌≡◌, ℕ, true, false, List, [], ◌∷◌, refl, sym, ap, ◌∙◌, subst}
use Rattle.sd_base.specs.declared.history.Refusal.{Refusal}
use Rattle.std.specs.Prelude.{Option, ℤ}
use Rattle.sd_base.specs.declared.history.Update.{Update}
use Rattle.sd_base.specs.History.{live_of}
use Rattle.device_model.specs.Scripted.{Scripted}
use Rattle.update_tracker.specs.NetPart.{net_items}
use Rattle.sd_base.specs.Allowed.{is_proper}
use Rattle.kernel_tables.specs.declared.kernel.Kernel.{Kernel}
use Rattle.update_tracker.specs.declared.undo.Undo.{Undo}
use Rattle.kernel_tables.specs.KernelRows.{kernel_rows}
use Rattle.kernel_tables.specs.TableRows.{tables_of}
use Rattle.kernel_tables.proofs.Shown.{rows_same}
use Rattle.scenario.specs.declared.event.KernelEvent.{KernelEvent}
use Rattle.scenario.specs.declared.event.KernelEvent.TheVariants as event
use Rattle.run_report.specs.Tables.{table_items}
use Rattle.run_report.specs.declared.item.Item.{Item}
use Rattle.run_report.specs.declared.item.Item.TheVariants as item
use Rattle.world_core.specs.WorldState.{empty_arena, with_memory}
use Rattle.world_core.specs.Script.{without_driver}
use Rattle.driver_host.specs.Granting.{grants_block, IsTimely}
use Rattle.driver_host.specs.Hosting.{IsHost, Moves, Updates, TakesBack}
use Rattle.driver_host.specs.declared.ground.Ground.{Ground}
use Rattle.world_core.specs.declared.run_state.RunState.{RunState}
use Rattle.world_core.specs.WorldState.{WorldState, Plan, without_activities}
use Rattle.world_core.specs.Script.{Script, say, says, updates, on_run, on_devices, by_plan, by_run, both, does}
use Rattle.world_core.specs.Showing.{names_of, show}
use Rattle.world_core.specs.Failing.{takes_back, undo_items}
use Rattle.world_core.specs.Inputs.{kernel, kernel_update, kernel_reply}
use Rattle.driver_host.specs.Printing.{Out, Prints}
use Rattle.driver_host.specs.Grounds.{undone_items, IsGround, Carries}
use Rattle.world_core.proofs.Lawful.{keeps-plan}

pub carries-then : {a b c : Ground} {o o' o'' : Out} {names : ℕ → ℕ → List ℕ} {f g : Script} → Carries a b o o' names f → Carries b c o' o'' names g →
    Carries a c o o'' names (both f g)
carries-then {f} p q = record {
  to = λ first faults s named is.
      q.to first faults (does f s) (ap names_of (keeps-plan f s) ∙ named) (p.to first faults s named is);
}

-- the same ground but for what is told
pub carries-say : (a b : Ground) (o o' : Out) (names : ℕ → ℕ → List ℕ) (x : Item) → b.run ≡ a.run → b.host ≡ a.host → Prints o o' (x ∷ []) →
    Carries a b o o' names (say x)
carries-say a b o o' names x run host prints = record {
  to = λ first faults s named is. record {
    run = run ∙ is.run;
    host = subst (λ h. IsHost s.plan.share h s.history s.memories s.devices) (sym host) is.host;
    told = prints.to first faults s.said is.told;
  };
}

pub carries-says : (a b : Ground) (o o' : Out) (names : ℕ → ℕ → List ℕ) (xs : List Item) → b.run ≡ a.run → b.host ≡ a.host → Prints o o' xs →
    Carries a b o o' names (says xs)
carries-says a b o o' names xs run host prints = record {
  to = λ first faults s named is. record {
    run = run ∙ is.run;
    host = subst (λ h. IsHost s.plan.share h s.history s.memories s.devices) (sym host) is.host;
    told = prints.to first faults s.said is.told;
  };
}

-- a change of the run
pub carries-run : (a b : Ground) (o : Out) (names : ℕ → ℕ → List ℕ) (change : RunState → RunState) → b.run ≡ change a.run → b.host ≡ a.host →
    Carries a b o o names (on_run change)
carries-run a b o names change run host = record {
  to = λ first faults s named is. record {
    run = run ∙ ap change is.run;
    host = subst (λ h. IsHost s.plan.share h s.history s.memories s.devices) (sym host) is.host;
    told = is.told;
  };
}

-- an update
pub carries-updates : (a b : Ground) (o : Out) (names : ℕ → ℕ → List ℕ) (owner : ℕ) (u : Update) (answer : Option Refusal) → b.run ≡ a.run →
    Updates a.host owner u answer b.host → Carries a b o o names (updates owner u)
carries-updates a b o names owner u answer run made = record {
  to = λ first faults s named is. record {
    run = run ∙ is.run;
    host = made.moves.to s.plan.share s.history s.memories s.devices is.host;
    told = is.told;
  };
}

-- the devices
pub carries-devices : (a b : Ground) (o : Out) (names : ℕ → ℕ → List ℕ) (change : Scripted → Scripted) → b.run ≡ a.run →
    Moves a.host b.host (λ share h. h) (λ memories. memories) change → Carries a b o o names (on_devices change)
carries-devices a b o names change run moves = record {
  to = λ first faults s named is. record {
    run = run ∙ is.run;
    host = moves.to s.plan.share s.history s.memories s.devices is.host;
    told = is.told;
  };
}

-- what is read of the run
pub carries-by_run : (a b : Ground) (o o' : Out) (names : ℕ → ℕ → List ℕ) (k : RunState → Script) → Carries a b o o' names (k a.run) →
    Carries a b o o' names (by_run k)
carries-by_run a b o o' names k p = record {
  to = λ first faults s named is.
      subst (λ r. IsGround b o' first faults (does (k r) s)) is.run (p.to first faults s named is);
}

-- what the names of functions decide
pub carries-by_plan : (a b : Ground) (o o' : Out) (names : ℕ → ℕ → List ℕ) (k : Plan → Script) →
    ((plan : Plan) → names_of plan ≡ names → Carries a b o o' names (k plan)) → Carries a b o o' names (by_plan k)
carries-by_plan a b o o' names k p = record { to = λ first faults s named is. (p s.plan named).to first faults s named is }

-- ---- the tables

pub carries-show : (a b : Ground) (o o' : Out) (names : ℕ → ℕ → List ℕ) → b.run ≡ a.run → b.host ≡ a.host →
    Prints o o' (table_items names (kernel_rows a.host.kernel.kernel)) → Carries a b o o' names show
unfolding show
carries-show a b o o' names run host prints = record {
  to = λ first faults s named is.
      let rows : kernel_rows a.host.kernel.kernel ≡ tables_of s.history = rows_same a.host.kernel.kernel s.history is.host.tables.kernel in
      let same : table_items names (kernel_rows a.host.kernel.kernel) ≡ table_items (names_of s.plan) (tables_of s.history) =
      ap (λ n. table_items n (kernel_rows a.host.kernel.kernel)) (sym named) ∙ ap (table_items (names_of s.plan)) rows in
      record {
        run = run ∙ is.run;
        host = subst (λ h. IsHost s.plan.share h s.history s.memories s.devices) (sym host) is.host;
        told = (subst (Prints o o') same prints).to first faults s.said is.told;
      };
}

-- ---- the kernel's own updates

pub kernel-proper : (e : KernelEvent) → is_proper 0 (kernel_update e) ≡ true
kernel-proper (event.Line line) = refl
kernel-proper (event.FreeLine line) = refl
kernel-proper (event.Param key value) = refl
kernel-proper (event.ClearParam key) = refl
kernel-proper (event.Hold domain) = refl
kernel-proper (event.DropHold domain) = refl
kernel-proper (event.Lock lock) = refl
kernel-proper (event.Unlock lock) = refl

pub kernel-no_block : (e : KernelEvent) → grants_block (kernel_update e) ≡ false
kernel-no_block (event.Line line) = refl
kernel-no_block (event.FreeLine line) = refl
kernel-no_block (event.Param key value) = refl
kernel-no_block (event.ClearParam key) = refl
kernel-no_block (event.Hold domain) = refl
kernel-no_block (event.DropHold domain) = refl
kernel-no_block (event.Lock lock) = refl
kernel-no_block (event.Unlock lock) = refl

pub kernel-timely : (e : KernelEvent) → IsTimely (kernel_update e)
kernel-timely (event.Line line) = tt
kernel-timely (event.FreeLine line) = tt
kernel-timely (event.Param key value) = tt
kernel-timely (event.ClearParam key) = tt
kernel-timely (event.Hold domain) = tt
kernel-timely (event.DropHold domain) = tt
kernel-timely (event.Lock lock) = tt
kernel-timely (event.Unlock lock) = tt

pub carries-kernel : (a b c : Ground) (o o' : Out) (names : ℕ → ℕ → List ℕ) (e : KernelEvent) (answer : Option Refusal)
    → b.run ≡ a.run → Updates a.host 0 (kernel_update e) answer b.host → Carries b c o o' names (say (item.Reply (kernel_reply answer)))
    → Carries a c o o' names (kernel e)
unfolding kernel
carries-kernel a b c o o' names e answer run made told = record {
  to = λ first faults s named is.
      let refused = made.refused s.plan.share s.history s.memories s.devices is.host in
      let middle = (carries-updates a b o names 0 (kernel_update e) answer run made).to first faults s named is in
      subst (λ r. IsGround c o' first faults (does (say (item.Reply (kernel_reply r))) (does (updates 0 (kernel_update e)) s))) refused
      (told.to first faults (does (updates 0 (kernel_update e)) s) named middle);
}

-- ---- a driver is taken back

pub carries-takes_back : (a b c : Ground) (o o' : Out) (names : ℕ → ℕ → List ℕ) (owner : ℕ) (stands : RunState → RunState)
    → TakesBack a.host owner b.host → b.run ≡ stands a.run
    → Carries b c o o' names (both (says (undone_items names owner b.host.kernel.undone)) show)
    → Carries a c o o' names (takes_back owner stands)
unfolding takes_back undo_items
carries-takes_back a b c o o' names owner stands taken run tells = record {
  to = λ first faults s named is.
      let left : WorldState = record s {
        history = without_driver owner s.history;
        tasks = without_activities owner s.tasks;
        memories = with_memory owner empty_arena s.memories;
        run = stands s.run;
      } in
      let there : IsGround b o first faults left = record {
        run = run ∙ ap stands is.run;
        host = taken.moves.to s.plan.share s.history s.memories s.devices is.host;
        told = is.told;
      } in
      let held : b.host.kernel.undone ≡ net_items owner (live_of s.history) = taken.undone s.plan.share s.history s.memories s.devices is.host in
      let same : undone_items names owner b.host.kernel.undone ≡ undone_items (names_of s.plan) owner (net_items owner (live_of s.history)) =
      ap (λ n. undone_items n owner b.host.kernel.undone) (sym named) ∙ ap (undone_items (names_of s.plan) owner) held in
      subst (λ items. IsGround c o' first faults (does (both (says items) show) left)) same (tells.to first faults left named there);
}

-- ---- what the code hands over

-- the tables, read from the host
pub shows : (a b : Ground) (o o' : Out) (names : ℕ → ℕ → List ℕ) (k : Kernel) → k ≡ a.host.kernel.kernel → b.run ≡ a.run → b.host ≡ a.host →
    Prints o o' (table_items names (kernel_rows k)) → Carries a b o o' names show
shows a b o o' names k is run host prints = carries-show a b o o' names run host (subst (λ k. Prints o o' (table_items names (kernel_rows k))) is prints)

-- an update of the kernel and its reply, as they were computed
pub replies : (a b c : Ground) (o o' : Out) (names : ℕ → ℕ → List ℕ) (e : KernelEvent) (u : Update) (answer : Option Refusal) (reply : ℤ)
    → u ≡ kernel_update e → reply ≡ kernel_reply answer → b.run ≡ a.run → Updates a.host 0 u answer b.host
    → Carries b c o o' names (say (item.Reply reply)) → Carries a c o o' names (kernel e)
replies a b c o o' names e u answer reply is said run made told =
    carries-kernel a b c o o' names e answer run (subst (λ u. Updates a.host 0 u answer b.host) is made)
    (subst (λ r. Carries b c o o' names (say (item.Reply r))) said told)

-- what was taken back, read from the host
pub told-undone : (a b : Ground) (o o' : Out) (names : ℕ → ℕ → List ℕ) (owner : ℕ) (undone : List Undo) → undone ≡ a.host.kernel.undone
    → b.run ≡ a.run → b.host ≡ a.host → Prints o o' (undone_items names owner undone)
    → Carries a b o o' names (says (undone_items names owner a.host.kernel.undone))
told-undone a b o o' names owner undone is run host prints =
    carries-says a b o o' names (undone_items names owner a.host.kernel.undone) run host
    (subst (λ u. Prints o o' (undone_items names owner u)) is prints)
