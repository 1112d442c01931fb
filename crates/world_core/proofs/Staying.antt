-- What stays of a world in every run: there are nine tasks, a memory for each driver, four driver states and 64 lines; and no step is
-- given back.
-- Here: IsShaped, shaped
use Rattle.std.proofs.Common.{◌≡◌, ℕ, ◌≤◌, true, false, List, length, ℤ, refl, ◌∙◌, le_refl, le_trans, sub-le}
use Rattle.std.proofs.lemmas.List.{length-set, length-map}
use Rattle.checked_tree.specs.declared.units.CheckedUnit.{CheckedUnit}
use Rattle.scenario.specs.declared.event.Event.{Event}
use Rattle.world_core.specs.declared.run_state.DriverState.{DriverState}
use Rattle.world_core.specs.WorldState.{WorldState, first_world, empty_arena, unless_owned, with_owner}
use Rattle.world_core.specs.Script.{does}
use Rattle.world_core.specs.Showing.{show}
use Rattle.world_core.specs.Failing.{takes_back, fails, strays}
use Rattle.world_core.specs.Events.{events}
use Rattle.world_core.specs.Laws.{IsShaped}
use Rattle.world_core.proofs.Keeping.{Acting, Stepping, Happening, length-with_owner, keep-delivers, keep-events}

acting : (drivers bound : ℕ) → Acting (IsShaped drivers bound)
unfolding fails takes_back show strays
acting drivers bound = record {
  saying = λ x quiet. record {
    to = λ s a. record {
      tasks = a.tasks;
      memories = a.memories;
      states = a.states;
      lines = a.lines;
      left =
          a.left;
    };
  };
  listing = λ xs quiet. record {
    to = λ s a. record {
      tasks = a.tasks;
      memories = a.memories;
      states = a.states;
      lines = a.lines;
      left =
          a.left;
    };
  };
  updating = λ owner u. record {
    to = λ s a. record {
      tasks = a.tasks;
      memories = a.memories;
      states = a.states;
      lines = a.lines;
      left =
          a.left;
    };
  };
  leaving = λ owner. record {
    to = λ s a. record {
      tasks = a.tasks;
      memories = a.memories;
      states = a.states;
      lines = a.lines;
      left =
          a.left;
    };
  };
  tasks = λ change same. record {
    to = λ s a. record {
      tasks = same s.tasks ∙ a.tasks;
      memories = a.memories;
      states = a.states;
      lines =
          a.lines;
      left = a.left;
    };
  };
  memories = λ change same. record {
    to = λ s a. record {
      tasks = a.tasks;
      memories = same s.memories ∙ a.memories;
      states =
          a.states;
      lines = a.lines;
      left = a.left;
    };
  };
  devices = λ change. record {
    to = λ s a. record {
      tasks = a.tasks;
      memories = a.memories;
      states = a.states;
      lines = a.lines;
      left =
          a.left;
    };
  };
  failing = λ who kind line. record {
    to = λ s a. record {
      tasks = length-map s.tasks (unless_owned who.owner) ∙ a.tasks;
      memories = length-with_owner s.memories who.owner empty_arena ∙ a.memories;
      states = length-with_owner s.run.drivers who.owner _ ∙ a.states;
      lines = a.lines;
      left = a.left;
    };
  };
  astray = λ who line. record { to = λ s a. record { tasks = a.tasks; memories = a.memories; states = a.states; lines = a.lines; left = a.left } };
  blocked = record { to = λ s a. record { tasks = a.tasks; memories = a.memories; states = a.states; lines = a.lines; left = a.left } };
}

stepping : (drivers bound : ℕ) → Stepping (IsShaped drivers bound)
stepping drivers bound = record {
  acting = acting drivers bound;
  stopping = record { to = λ s a. record { tasks = a.tasks; memories = a.memories; states = a.states; lines = a.lines; left = a.left } };
  taking = record {
    to = λ s a. record {
      tasks = a.tasks;
      memories = a.memories;
      states = a.states;
      lines = a.lines;
      left =
          le_trans (sub-le s.run.left 1) a.left;
    };
  };
}

-- a driver's state is changed, and nothing else
changed : (drivers bound : ℕ) (s : WorldState) (owner : ℕ) (d : DriverState) → IsShaped drivers bound s →
    length (with_owner s.run.drivers owner d) ≡ 4
changed drivers bound s owner d a = length-with_owner s.run.drivers owner d ∙ a.states

happening : (drivers bound : ℕ) → Happening (IsShaped drivers bound)
unfolding takes_back show
happening drivers bound = record {
  stepping = stepping drivers bound;
  unblocked = record { to = λ s a. record { tasks = a.tasks; memories = a.memories; states = a.states; lines = a.lines; left = a.left } };
  raised = λ line. record {
    to = λ s a. record {
      tasks = a.tasks;
      memories = a.memories;
      states = a.states;
      lines =
          length-set s.run.waiting line true ∙ a.lines;
      left = a.left;
    };
  };
  delivering = keep-delivers (stepping drivers bound)
      (λ line. record {
        to = λ s a. record {
          tasks = a.tasks;
          memories = a.memories;
          states = a.states;
          lines =
              length-set s.run.waiting line false ∙ a.lines;
          left = a.left;
        };
      });
  loaded = λ driver task restarts. record {
    to = λ s a. record {
      tasks = a.tasks;
      memories = a.memories;
      states =
          changed drivers bound s driver _ a;
      lines = a.lines;
      left = a.left;
    };
  };
  restarted = λ driver. record {
    to = λ s a. record {
      tasks = a.tasks;
      memories = a.memories;
      states =
          changed drivers bound s driver _ a;
      lines = a.lines;
      left = a.left;
    };
  };
  unloading = λ driver. record {
    to = λ s a. record {
      tasks = length-map s.tasks (unless_owned driver) ∙ a.tasks;
      memories = length-with_owner s.memories driver empty_arena ∙ a.memories;
      states = changed drivers bound s driver _ a;
      lines = a.lines;
      left = a.left;
    };
  };
  restart_used = λ driver. record {
    to = λ s a. record {
      tasks = a.tasks;
      memories = a.memories;
      states =
          changed drivers bound s driver _ a;
      lines = a.lines;
      left = a.left;
    };
  };
}

-- in every world of a run
pub shaped : (drivers : List CheckedUnit) (version : ℕ) (answers : List ℤ) (es : List Event) (bound : ℕ) →
    IsShaped (length drivers) bound (does (events es) (first_world drivers version answers bound))
shaped drivers version answers es bound =
    (keep-events (happening (length drivers) bound) es).to (first_world drivers version answers bound)
    (record { tasks = refl; memories = length-map drivers (λ unit. empty_arena); states = refl; lines = refl; left = le_refl bound })
