-- A driver is taken back: after a step of it has failed, and by `unload`.
-- Here: takes_back, fails, strays
use Rattle.std.specs.Prelude.{ℕ, zero, suc, Bool, true, false, ltb, List, map}
use Rattle.sd_base.specs.declared.actors.Who.{Who}
use Rattle.sd_base.specs.declared.kinds.FailKind.{FailKind}
use Rattle.sd_base.specs.History.{History, live_of}
use Rattle.update_tracker.specs.declared.undo.Undo.{Undo}
use Rattle.update_tracker.specs.declared.undo.Undo.TheVariants as undo
use Rattle.update_tracker.specs.NetPart.{net_items}
use Rattle.run_report.specs.declared.item.Item.{Item}
use Rattle.run_report.specs.declared.item.Item.TheVariants as item
use Rattle.run_report.specs.declared.item.UndoneItem.{UndoneItem}
use Rattle.run_report.specs.declared.item.UndoneItem.TheVariants as undone
use Rattle.world_core.specs.declared.run_state.Standing.TheVariants.{Failed}
use Rattle.world_core.specs.declared.run_state.DriverState.{DriverState}
use Rattle.world_core.specs.declared.run_state.RunState.{RunState}
use Rattle.world_core.specs.WorldState.{Plan, driver_of, with_driver, empty_arena, with_memory, without_activities}
use Rattle.world_core.specs.Script.{Script, say, says, leaves_out, on_run, on_tasks, on_memories, by_plan, by_history, ◌>>◌}
use Rattle.world_core.specs.Showing.{names_of, show}

-- ---- `dK undo ITEM`, for each entry of the driver's net list, the newest first

abbrev pub undone_item : (ℕ → ℕ → List ℕ) → ℕ → Undo → UndoneItem
undone_item names owner (undo.Block base) = undone.Block base
undone_item names owner (undo.Free base) = undone.Free base
undone_item names owner (undo.Line line) = undone.Line line
undone_item names owner (undo.Ports base n) = undone.Ports base n
undone_item names owner (undo.Device id) = undone.Device id
undone_item names owner (undo.Param key) = undone.Param key
undone_item names owner (undo.Timer id) = undone.Timer id
undone_item names owner (undo.Lock lock) = undone.Lock lock
undone_item names owner (undo.Mask task) = undone.Mask task
undone_item names owner (undo.Hold domain) = undone.Hold domain
undone_item names owner (undo.Work handler arg) = undone.Work (names owner handler) arg

unfoldable pub undo_items : (ℕ → ℕ → List ℕ) → ℕ → History → List Item
undo_items names owner h = map (λ u. item.Undone owner (undone_item names owner u)) (net_items owner (live_of h))

-- ---- taking back

-- The history loses the driver's entries, its activities are gone, its memory is all 0, and it stands as this change says. Then what it
-- held
-- is printed, and the tables. Nothing else changes: not the others' memory and activities, not the waiting lines, not the devices.
unfoldable pub takes_back : ℕ → (RunState → RunState) → Script
takes_back owner stands = by_plan (λ plan. by_history (λ h.
    leaves_out owner >> on_tasks (without_activities owner) >> on_memories (with_memory owner empty_arena) >> on_run stands
    >> says (undo_items (names_of plan) owner h) >> show))

-- a driver that has failed is due to be started anew exactly where it has restarts left
abbrev pub failed : DriverState → DriverState
failed driver = record driver { standing = Failed; is_due = ltb 0 driver.restarts }

abbrev pub driver_fails : ℕ → RunState → RunState
driver_fails owner run = record (with_driver owner (failed (driver_of run owner)) run) { has_failed = true }

-- `dK tT failed KIND LINE`: a step fails
unfoldable pub fails : Who → FailKind → ℕ → Script
fails who kind line = say (item.Failed who kind line) >> takes_back who.owner (driver_fails who.owner)

abbrev pub goes_astray : RunState → RunState
goes_astray run = record run { is_astray = true; has_failed = true }

-- `dK tT wild LINE`: a step that has no meaning ends the run. No driver that the rules accept is ever to take one
unfoldable pub strays : Who → ℕ → Script
strays who line = say (item.Wild who line) >> on_run goes_astray
