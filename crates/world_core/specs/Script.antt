-- The form in which events are defined: a script of printing and of changes, which may look at the parts of the world. What a script does.
-- Here: Script, does; ◌>>◌, updated, without_driver, updates_if, unless_over
use Rattle.std.specs.Prelude.{ℕ, zero, suc, Bool, true, false, ◌&&◌, List, [], ◌∷◌, ◌++◌, Option, Some, None, is_none}
use Rattle.sd_base.specs.declared.history.Update.{Update}
use Rattle.sd_base.specs.History.{History, entry, Without}
use Rattle.sd_base.specs.Allowed.{refusal, is_proper}
use Rattle.device_model.specs.Scripted.{Scripted}
use Rattle.run_report.specs.declared.item.Item.{Item}
use Rattle.world_core.specs.declared.run_state.RunState.{RunState}
use Rattle.world_core.specs.WorldState.{WorldState, Plan, Tasks, is_over}

-- What is done. Updates of the kernel's tables come only through the history, which takes none that it does not allow.
pub data Script : Type 0 where
  nothing : Script
  say : Item → Script  -- an item is printed
  says : List Item → Script  -- items are printed, in order
  updates : ℕ → Update → Script  -- an owner's update, where the history accepts it
  leaves_out : ℕ → Script  -- the history loses all entries of a driver
  on_run : (RunState → RunState) → Script
  on_tasks : (Tasks → Tasks) → Script
  on_memories : (List (List ℕ) → List (List ℕ)) → Script
  on_devices : (Scripted → Scripted) → Script
  by_plan : (Plan → Script) → Script  -- what is done next is read from the plan,
  by_run : (RunState → Script) → Script  -- or from another part of the world
  by_history : (History → Script) → Script
  by_tasks : (Tasks → Script) → Script
  by_memories : (List (List ℕ) → Script) → Script
  by_devices : (Scripted → Script) → Script
  given : Bool → Script → Script → Script  -- the first where the test holds, else the second
  both : Script → Script → Script  -- the first, then the second
  while_at_most : ℕ → (WorldState → Bool) → Script → Script  -- again and again while the test holds, at most so often

infixr 6 ◌>>◌
abbrev pub ◌>>◌ : Script → Script → Script
first >> second = both first second

-- an update is accepted where the owner may ever ask for it, and the history allows it
abbrev pub is_accepted : ℕ → History → ℕ → Update → Bool
is_accepted share h owner update = is_proper owner update && is_none (refusal share h owner update)

-- the history with an owner's update, where it accepts it
unfoldable pub updated : ℕ → ℕ → Update → History → History
updated share owner update h = elim (is_accepted share h owner update) [ true ↦ entry owner update ∷ h | false ↦ h ]

-- the history without the entries of a driver; the kernel, which is 0, is no driver
abbrev pub without_driver : ℕ → History → History
without_driver zero h = h
without_driver (suc k) h = Without h (suc k)

-- again and again while the test holds, at most n times
abbrev pub turns : ℕ → (WorldState → Bool) → (WorldState → WorldState) → WorldState → WorldState
turns zero test once s = s
turns (suc n) test once s = elim (test s) [ true ↦ turns n test once (once s) | false ↦ s ]

-- What a script does to a world.
abbrev pub does : Script → WorldState → WorldState
does nothing s = s
does (say item) s = record s { said = s.said ++ item ∷ [] }
does (says items) s = record s { said = s.said ++ items }
does (updates owner update) s = record s { history = updated s.plan.share owner update s.history }
does (leaves_out owner) s = record s { history = without_driver owner s.history }
does (on_run change) s = record s { run = change s.run }
does (on_tasks change) s = record s { tasks = change s.tasks }
does (on_memories change) s = record s { memories = change s.memories }
does (on_devices change) s = record s { devices = change s.devices }
does (by_plan next) s = does (next s.plan) s
does (by_run next) s = does (next s.run) s
does (by_history next) s = does (next s.history) s
does (by_tasks next) s = does (next s.tasks) s
does (by_memories next) s = does (next s.memories) s
does (by_devices next) s = does (next s.devices) s
does (given true yes_part no_part) s = does yes_part s
does (given false yes_part no_part) s = does no_part s
does (both first second) s = does second (does first s)
does (while_at_most n test once) s = turns n test (does once) s

-- an owner's update, if there is one
abbrev pub updates_if : ℕ → Option Update → Script
updates_if owner None = nothing
updates_if owner (Some update) = updates owner update

-- nothing where the run is over
unfoldable pub unless_over : Script → Script
unless_over script = by_run (λ run. given (is_over run) nothing script)
