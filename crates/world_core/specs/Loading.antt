-- `load dK T`, `load dK T restarts N`, `restart dK T`, `unload dK`, `call dK T NAME V*`.
--
-- Each is refused by the first obstacle of its list that holds, with `dK .. refused: W`.
-- Here: load, restart, unload, call
use Rattle.std.specs.Prelude.{ℕ, ◌/◌, Bool, true, false, not, ◌&&◌, eqb, List, [], ◌∷◌, length, take, ℤ, pos, negsuc, Option, Some, None, slice_get, bytes_eq, codes}
use Rattle.std.specs.List.{list_all, position}
use Rattle.sd_base.specs.declared.history.Layout.{Layout}
use Rattle.sd_base.specs.declared.history.Update.{Update}
use Rattle.sd_base.specs.declared.history.Update.TheVariants.{Grant}
use Rattle.byte_memory.specs.Bytes.{overwritten}
use Rattle.checked_tree.specs.declared.shapes.Scalar.{Scalar}
use Rattle.checked_tree.specs.declared.shapes.Scalar.TheVariants as scalar
use Rattle.checked_tree.specs.declared.shapes.Shape.{Shape}
use Rattle.checked_tree.specs.declared.shapes.Shape.TheVariants as shape
use Rattle.checked_tree.specs.declared.units.CheckedFn.{CheckedFn}
use Rattle.checked_tree.specs.declared.units.CheckedUnit.{CheckedUnit}
use Rattle.checked_tree.specs.declared.units.ImageBlock.{ImageBlock}
use Rattle.run_report.specs.declared.item.Item.{Item}
use Rattle.run_report.specs.declared.item.Item.TheVariants as item
use Rattle.run_report.specs.declared.item.Obstacle.{Obstacle}
use Rattle.run_report.specs.declared.item.Obstacle.TheVariants as obstacle
use Rattle.run_report.specs.declared.item.Order.{Order}
use Rattle.run_report.specs.declared.item.Order.TheVariants as order
use Rattle.world_core.specs.declared.run_state.Standing.{Standing}
use Rattle.world_core.specs.declared.run_state.Standing.TheVariants.{Absent, Loaded, Failed}
use Rattle.world_core.specs.declared.run_state.DriverState.{DriverState}
use Rattle.world_core.specs.declared.run_state.RunState.{RunState}
use Rattle.world_core.specs.WorldState.{Plan, unit_of, driver_of, with_driver, empty_arena, with_memory, is_live, has_activity, not_loaded}
use Rattle.world_core.specs.Script.{Script, nothing, say, updates, leaves_out, on_run, on_tasks, on_memories, by_plan, by_run, by_tasks, ◌>>◌}
use Rattle.world_core.specs.Failing.{takes_back}
use Rattle.world_core.specs.Handling.{begun}

-- an order is carried out unless there is an obstacle
abbrev pub unless_declined : ℕ → Order → Option Obstacle → Script → Script
unless_declined driver what None done = done
unless_declined driver what (Some why) done = say (item.Declined driver what why)

-- ---- the load state

-- a block's bytes are its count of elements, each of so many bytes
abbrev pub element_size : ImageBlock → ℕ
element_size b = b.size / b.count

-- the grant of an image block
abbrev pub image_grant : ImageBlock → Update
image_grant b = Grant (record { elem = b.elem; size = element_size b; nullterm = b.nullterm }) (pos b.count) true

-- the driver is granted each block of its image, in order
abbrev pub grants_image : ℕ → List ImageBlock → Script
grants_image driver [] = nothing
grants_image driver (b ∷ bs) = updates driver (image_grant b) >> grants_image driver bs

-- bytes with the blocks of an image copied in
abbrev pub copied_in : List ImageBlock → List ℕ → List ℕ
copied_in [] bytes = bytes
copied_in (b ∷ bs) bytes = copied_in bs (overwritten bytes b.base b.bytes)

-- the memory of the load state: all 0 but for the load image
abbrev pub image_memory : CheckedUnit → List ℕ
image_memory unit = copied_in unit.image empty_arena

-- a function `init` without parameters and with the result `int`
abbrev pub is_int : Scalar → Bool
is_int scalar.I32 = true
is_int _ = false

abbrev pub is_init : CheckedFn → Bool
is_init f = bytes_eq f.name (codes "init") && (eqb f.params 0 && is_int f.result)

abbrev pub init_of : CheckedUnit → Option ℕ
init_of unit = position is_init unit.functions

-- its `init` begins on the task
abbrev pub begins_init : Plan → ℕ → ℕ → Option ℕ → Script
begins_init plan driver task None = nothing
begins_init plan driver task (Some f) = on_tasks (begun plan task driver f [])

-- The driver is loaded: it has no entry of before, its memory is that of the load state, each image block is granted, in order, and its
-- `init` starts on the task.
unfoldable pub loads : Plan → ℕ → ℕ → Script
loads plan driver task =
    leaves_out driver
    >> on_memories (with_memory driver (image_memory (unit_of plan driver)))
    >> grants_image driver (unit_of plan driver).image
    >> begins_init plan driver task (init_of (unit_of plan driver))

-- ---- `load dK T`, and `load dK T restarts N`

abbrev pub load_obstacle : Standing → Option ℕ → Bool → Option Obstacle
load_obstacle Loaded init is_busy = Some obstacle.Loaded
load_obstacle Failed init is_busy = Some obstacle.Failed
load_obstacle Absent None is_busy = Some obstacle.NoInit
load_obstacle Absent (Some f) true = Some obstacle.Busy
load_obstacle Absent (Some f) false = None

-- a load sets the load task and the restarts left, 0 where the line names none
abbrev pub driver_loaded : ℕ → ℕ → ℕ → RunState → RunState
driver_loaded driver task restarts run =
    with_driver driver (record { standing = Loaded; task = task; restarts = restarts; is_due = false }) run

unfoldable pub load : ℕ → ℕ → ℕ → Script
load driver task restarts = by_plan (λ plan. by_run (λ run. by_tasks (λ tasks.
    unless_declined driver order.Load (load_obstacle (driver_of run driver).standing (init_of (unit_of plan driver)) (is_live tasks task))
    (on_run (driver_loaded driver task restarts) >> loads plan driver task >> say (item.Loaded driver)))))

-- ---- `restart dK T`

abbrev pub restart_obstacle : Standing → Bool → Option Obstacle
restart_obstacle Absent is_busy = Some obstacle.Absent
restart_obstacle Loaded is_busy = Some obstacle.Loaded
restart_obstacle Failed true = Some obstacle.Busy
restart_obstacle Failed false = None

-- the load task and the restarts left stay as they are
abbrev pub driver_restarted : ℕ → RunState → RunState
driver_restarted driver run = with_driver driver (record (driver_of run driver) { standing = Loaded }) run

unfoldable pub restart : ℕ → ℕ → Script
restart driver task = by_plan (λ plan. by_run (λ run. by_tasks (λ tasks.
    unless_declined driver order.Restart (restart_obstacle (driver_of run driver).standing (is_live tasks task))
    (on_run (driver_restarted driver) >> loads plan driver task >> say (item.Restarted driver)))))

-- ---- `unload dK`

-- busy where an activity of the driver is live
abbrev pub unload_obstacle : Standing → Bool → Option Obstacle
unload_obstacle Absent is_busy = Some obstacle.Absent
unload_obstacle Loaded true = Some obstacle.Busy
unload_obstacle Loaded false = None
unload_obstacle Failed true = Some obstacle.Busy
unload_obstacle Failed false = None

-- the driver is absent, has no restarts left and is not due
abbrev pub driver_unloaded : ℕ → RunState → RunState
driver_unloaded driver run = with_driver driver (record (driver_of run driver) { standing = Absent; restarts = 0; is_due = false }) run

unfoldable pub unload : ℕ → Script
unload driver = by_run (λ run. by_tasks (λ tasks.
    unless_declined driver order.Unload (unload_obstacle (driver_of run driver).standing (has_activity tasks driver))
    (say (item.Unloaded driver) >> takes_back driver (driver_unloaded driver))))

-- ---- `call dK T NAME V*`

-- the function of this name
abbrev pub function_named : List ℕ → CheckedUnit → Option ℕ
function_named name unit = position (λ (f : CheckedFn). bytes_eq f.name name) unit.functions

abbrev pub is_integer_shape : Shape → Bool
is_integer_shape (shape.Int own) = true
is_integer_shape _ = false

abbrev pub is_pointer : Scalar → Bool
is_pointer (scalar.Pointer size) = true
is_pointer _ = false

-- no parameter and no result is a pointer, and there are as many values as parameters
abbrev pub takes_values : Option CheckedFn → ℕ → Bool
takes_values None n = false
takes_values (Some f) n = list_all is_integer_shape (take f.params f.slots) && (not (is_pointer f.result) && eqb n f.params)

abbrev pub call_obstacle : Standing → Option ℕ → Bool → Bool → Option Obstacle
call_obstacle Absent f fits is_busy = Some obstacle.Absent
call_obstacle Failed f fits is_busy = None
call_obstacle Loaded None fits is_busy = Some obstacle.NoFunction
call_obstacle Loaded (Some f) false is_busy = Some obstacle.Arguments
call_obstacle Loaded (Some f) true true = Some obstacle.Busy
call_obstacle Loaded (Some f) true false = None

-- of a failed driver `dK tT done -5` (EIO) is printed; else the function begins, if there is one
abbrev pub calls : Plan → ℕ → ℕ → List ℤ → Standing → Option ℕ → Script
calls plan driver task values Failed f = say (item.Answered (record { owner = driver; task = task }) (negsuc 4))
calls plan driver task values Absent f = nothing
calls plan driver task values Loaded None = nothing
calls plan driver task values Loaded (Some f) = on_tasks (begun plan task driver f values)

abbrev pub fits_values : CheckedUnit → Option ℕ → ℕ → Bool
fits_values unit None n = false
fits_values unit (Some f) n = takes_values (slice_get unit.functions f) n

abbrev pub calls_function : Plan → ℕ → ℕ → List ℤ → Standing → Option ℕ → Bool → Script
calls_function plan driver task values standing f is_busy =
    unless_declined driver order.Call (call_obstacle standing f (fits_values (unit_of plan driver) f (length values)) is_busy)
    (calls plan driver task values standing f)

unfoldable pub call : ℕ → ℕ → List ℕ → List ℤ → Script
call driver task name values = by_plan (λ plan. by_run (λ run. by_tasks (λ tasks.
    calls_function plan driver task values (driver_of run driver).standing (function_named name (unit_of plan driver))
    (is_live tasks task))))
