-- A run from its beginning to its end: the world that begins is the definition's first, and what is written at the end is its text.
-- Here: begun-first, closes-silent, closes-ok, closes-fault, run-closes, begun-plays, begun-with, begun-room, ok-written, ok-calm, ok-ended, err-faults
use Rattle.std.proofs.Common.{◌≡◌, ℕ, zero, suc, ◌≤◌, Bool, true, false, eqb, List, [], ◌∷◌, map, replicate, get_or, length, ℤ, Option, None, Result, Ok, Err, refl, sym, ap, ◌∙◌, subst, arith, true≢false}
use Rattle.std.proofs.Common.{IfOk, IfErr, OnOk}
use Rattle.std.proofs.lemmas.List.{length-map}
use Rattle.sd_outside.specs.Counts.{Rose}
use Rattle.sd_outside.specs.Sink.{more, IsCut}
use Rattle.device_model.specs.Scripted.{nothing_scripted}
use Rattle.checked_tree.specs.declared.units.CheckedUnit.{CheckedUnit}
use Rattle.safe_code.specs.Drivers.{Driver}
use Rattle.scenario.specs.declared.plan.Scenario.{Scenario}
use Rattle.run_report.specs.declared.item.Item.{Item}
use Rattle.run_report.specs.Lines.{print}
use Rattle.driver_machine.specs.declared.task.Task.{Task}
use Rattle.driver_machine.specs.Machines.{owner_in}
use Rattle.driver_host.specs.Hosting.{IsHost}
use Rattle.driver_host.specs.Printing.{Out, TellsWhen, IsTold}
use Rattle.world_core.specs.declared.run_state.RunState.{RunState}
use Rattle.world_core.specs.WorldState.{activity_of, not_loaded, first_run, first_world, share_of, empty_arena}
use Rattle.world_core.specs.Script.{does}
use Rattle.world_core.specs.Events.{whole}
use Rattle.world_core.proofs.Telling.{failed-exactly}
use Rattle.world.specs.declared.world.World.{World}
use Rattle.world.specs.declared.whole_run.Ended.{Ended}
use Rattle.world.specs.declared.whole_run.RunFault.{RunFault}
use Rattle.world.specs.declared.whole_run.RunFault.TheVariants.{Memory, Write}
use Rattle.world.specs.Standing.{units_of, running_by, BelongsBy, HasActivities}
use Rattle.world.specs.Ready.{HasLoadTask, AreDueSet}
use Rattle.world.specs.Runs.{tells, Stands, IsBegun, IsPlayable, room_of, run_text}
use Rattle.world.specs.WholeRuns.{IsEnded, Faults, ClosesAs, Closes, Played}

-- ---- before the first event

same-arenas : (drivers : List Driver) → map (λ (u : CheckedUnit). empty_arena) (units_of drivers) ≡ replicate (length drivers) empty_arena
same-arenas [] = refl
same-arenas (d ∷ ds) = ap (λ xs. empty_arena ∷ xs) (same-arenas ds)

none-at : (n k : ℕ) → activity_of (replicate n None) k ≡ None
none-at zero k = refl
none-at (suc n) zero = refl
none-at (suc n) (suc k) = none-at n k

absent-at : (n k : ℕ) → get_or (replicate n not_loaded) k not_loaded ≡ not_loaded
absent-at zero k = refl
absent-at (suc n) zero = refl
absent-at (suc n) (suc k) = absent-at n k

no-activities : (units : List CheckedUnit) (machine : List Task) → ((task : ℕ) → owner_in machine task ≡ None) → HasActivities units machine (replicate 9 None)
no-activities units machine idle = record {
  nine = refl;
  each = λ task. none-at 9 task ∙ ap (running_by units machine task) (sym (idle task));
  belongs = λ task. subst (BelongsBy units machine task) (sym (idle task)) tt;
}

no-due : (bound : ℕ) → AreDueSet (first_run bound)
no-due bound = record { each = λ k. subst HasLoadTask (sym (absent-at 4 k)) (λ e. absurd (true≢false (sym e))) }

nothing-told : (silent : Bool) (written : Option (List ℕ)) (faults : ℕ) → silent ≡ false
    → IsTold (record { is_silent = silent; kept = []; written = written; faults = faults }) written faults []
nothing-told silent written faults loud = record {
  tells = subst (λ b. TellsWhen b (record { is_silent = silent; kept = []; written = written; faults = faults }) written faults []) (sym loud) (refl, refl);
}

few-share : (version : ℕ) → share_of version ≤ 4
few-share version = by (eqb version 2)
  where
    by : (b : Bool) → (elim b as (λ x. ℕ) [ true ↦ 4 | false ↦ 1 ]) ≤ 4
    by true = omega arith
    by false = omega arith

pub begun-first : (world : World) (drivers : List Driver) (version : ℕ) (answers : List ℤ) (bound : ℕ) → world.drivers.list.items ≡ drivers
    → world.live.ground.run ≡ first_run bound → world.live.ground.is_silent ≡ false → world.bound ≡ bound
    → IsHost (share_of version) world.live.ground.host [] (replicate (length drivers) empty_arena) (nothing_scripted (length answers))
    → ((task : ℕ) → owner_in world.live.machine task ≡ None) → length drivers ≤ 4 → IsBegun world drivers version answers bound
begun-first world drivers version answers bound holds run loud bounded host idle few =
    let units = units_of world.drivers.list.items in
    let first = first_world (units_of drivers) version answers bound in
    let stands : (written : Option (List ℕ)) (faults : ℕ) → Stands world answers (tells world [] written faults) written faults first =
    λ written faults. record {
      is = record {
        drivers = ap units_of (sym holds);
        few = subst (λ ds. length (units_of ds) ≤ 4) (sym holds) (few-units drivers few);
        memories = length-map (units_of drivers) (λ (u : CheckedUnit). empty_arena) ∙ ap (λ ds. length (units_of ds)) (sym holds);
        ground = record {
          run = run;
          host = subst (λ m. IsHost (share_of version) world.live.ground.host [] m (nothing_scripted (length answers))) (sym (same-arenas drivers)) host;
          told = nothing-told world.live.ground.is_silent written faults loud;
        };
        activities = no-activities units world.live.machine idle;
      };
      bound = sym bounded;
      gives = refl;
    } in
    record {
      holds = holds;
      loud = loud;
      room = ap (λ d. d.room) host.answers;
      stands = stands;
      opens = λ written faults. record {
        ready = record {
          calm = record { first = written; faults = faults; state = first; is = (stands written faults).is; quiet = λ e. refl };
          share = subst (λ n. n ≤ 4) (sym host.holders) (few-share version);
        };
        due = subst AreDueSet (sym run) (no-due bound);
      };
    }
  where
    few-units : (ds : List Driver) → length ds ≤ 4 → length (units_of ds) ≤ 4
    few-units ds few = omega (arith, length-map ds (λ (d : Driver). d.unit), few)

-- ---- after the last line

pub closes-silent : (world : World) (o : Out) → o.is_silent ≡ true → Closes world o (Err Write) o.written o.faults
closes-silent world o silent = record { to = λ first faults said told. subst (λ b. TellsWhen b o first faults said) silent told.tells }

loud-told : (o : Out) (first : Option (List ℕ)) (faults : ℕ) (said : List Item) → o.is_silent ≡ false → IsTold o first faults said
    → (more o.written o.kept ≡ more first (print said)) × (o.faults ≡ faults)
loud-told o first faults said loud told = subst (λ b. TellsWhen b o first faults said) loud told.tells

pub closes-ok : (world : World) (o : Out) (now : Option (List ℕ)) (later : ℕ) (ended : Ended) → o.is_silent ≡ false → now ≡ more o.written o.kept → later ≡ o.faults
    → ended.failed ≡ world.live.ground.run.has_failed → ended.stopped ≡ world.live.ground.run.is_stopped → Closes world o (Ok ended) now later
closes-ok world o now later ended loud written calm failed stopped = record {
  to = λ first faults said told.
      let all = loud-told o first faults said loud told in (written ∙ all.0, calm ∙ all.1, failed, stopped);
}

pub closes-fault : (world : World) (o : Out) (now : Option (List ℕ)) (later : ℕ) → o.is_silent ≡ false → IsCut now (more o.written o.kept) → Rose o.faults later
    → Closes world o (Err Write) now later
closes-fault world o now later loud cut rose = record {
  to = λ first faults said told.
      let all = loud-told o first faults said loud told in (subst (IsCut now) all.0 cut, subst (λ n. Rose n later) all.1 rose);
}

-- ---- the whole

-- what a run has come to when it is closed
pub record Closed (drivers : List Driver) (scenario : Scenario) (bound : ℕ) (before : Option (List ℕ)) (count : ℕ) (result : Result Ended RunFault)
    (now : Option (List ℕ)) (later : ℕ) : Type 0 where
  pub world : World
  pub run : world.live.ground.run ≡
      (does (whole scenario.events.items) (first_world (units_of drivers) scenario.version scenario.answers.items bound)).run
  pub closes : ClosesAs world before count
      (does (whole scenario.events.items) (first_world (units_of drivers) scenario.version scenario.answers.items bound)).said result now later

pub run-closes : (drivers : List Driver) (scenario : Scenario) (bound : ℕ) (start : World) (before : Option (List ℕ)) (count : ℕ)
    (result : Result Ended RunFault) (now : Option (List ℕ)) (later : ℕ) → IsBegun start drivers scenario.version scenario.answers.items bound
    → Played start scenario before count result now later → Closed drivers scenario bound before count result now later
run-closes drivers scenario bound start before count result now later begun played =
    let first = first_world (units_of drivers) scenario.version scenario.answers.items bound in
    let stands = played.carries.to before count first (begun.stands before count) in
    record {
      world = played.end;
      run = stands.is.ground.run;
      closes = played.closes.to before count (does (whole scenario.events.items) first).said stands.is.ground.told;
    }

-- the events of a world that has begun may take place, with the scenario's own drivers and answers
pub begun-plays : (drivers : List Driver) (scenario : Scenario) (bound : ℕ) (start : World) → IsBegun start drivers scenario.version scenario.answers.items bound
    → IsPlayable (length drivers) scenario → IsPlayable (length start.drivers.list.items) scenario
begun-plays drivers scenario bound start begun plays = subst (λ ds. IsPlayable (length ds) scenario) (sym begun.holds) plays

-- the answers by another name
pub begun-with : {world : World} {drivers : List Driver} {version bound : ℕ} {vs ws : List ℤ} → vs ≡ ws → IsBegun world drivers version vs bound
    → IsBegun world drivers version ws bound
begun-with {world} {drivers} {version} {bound} same begun = subst (λ us. IsBegun world drivers version us bound) same begun

pub begun-room : (drivers : List Driver) (version : ℕ) (answers : List ℤ) (bound : ℕ) (start : World) → IsBegun start drivers version answers bound
    → length answers ≤ room_of start
begun-room drivers version answers bound start begun = let room = begun.room in omega (arith, room)

pub ok-written : (drivers : List Driver) (scenario : Scenario) (bound : ℕ) (before : Option (List ℕ)) (count : ℕ) (result : Result Ended RunFault)
    (now : Option (List ℕ)) (later : ℕ) → Closed drivers scenario bound before count result now later
    → OnOk result (now ≡ more before (run_text drivers scenario bound))
ok-written drivers scenario bound before count (Ok ended) now later closed = closed.closes.0
ok-written drivers scenario bound before count (Err fault) now later closed = tt

pub ok-calm : (drivers : List Driver) (scenario : Scenario) (bound : ℕ) (before : Option (List ℕ)) (count : ℕ) (result : Result Ended RunFault)
    (now : Option (List ℕ)) (later : ℕ) → Closed drivers scenario bound before count result now later → OnOk result (later ≡ count)
ok-calm drivers scenario bound before count (Ok ended) now later closed = closed.closes.1
ok-calm drivers scenario bound before count (Err fault) now later closed = tt

pub ok-ended : (drivers : List Driver) (scenario : Scenario) (bound : ℕ) (before : Option (List ℕ)) (count : ℕ) (result : Result Ended RunFault)
    (now : Option (List ℕ)) (later : ℕ) → Closed drivers scenario bound before count result now later → IfOk result (λ ended. IsEnded drivers scenario bound ended)
ok-ended drivers scenario bound before count (Ok ended) now later closed = record {
  failed =
      closed.closes.2 ∙ ap (λ (r : RunState). r.has_failed) closed.run
      ∙ failed-exactly (units_of drivers) scenario.version scenario.answers.items scenario.events.items bound;
  stopped = closed.closes.3 ∙ ap (λ (r : RunState). r.is_stopped) closed.run;
}
ok-ended drivers scenario bound before count (Err fault) now later closed = tt

pub err-faults : (drivers : List Driver) (scenario : Scenario) (bound : ℕ) (before : Option (List ℕ)) (count : ℕ) (result : Result Ended RunFault)
    (now : Option (List ℕ)) (later : ℕ) → Closed drivers scenario bound before count result now later
    → IfErr result (λ fault. Faults (run_text drivers scenario bound) before count fault now later)
err-faults drivers scenario bound before count (Ok ended) now later closed = tt
err-faults drivers scenario bound before count (Err Memory) now later closed = absurd closed.closes
err-faults drivers scenario bound before count (Err Write) now later closed = closed.closes
