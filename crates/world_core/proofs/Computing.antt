-- What a run is computed with: every definition of this crate and of those below it that events and statements open. The arena of a memory
-- stays shut, a million bytes that no example reads.
-- Here: computing
use Rattle.dep_expr.specs.Linear.{value_of}
use Rattle.kernel_tables.specs.Places.{numbers}
use Rattle.run_report.specs.Tables.{told_rows}
use Rattle.checked_tree.specs.KernelTable.{kernel_row}
use Rattle.checked_tree.specs.Numbers.{converted, is_of, has_all, unary, arithmetic, comparison}
use Rattle.checked_tree.specs.Conditions.{peek, form_value, condition}
use Rattle.checked_tree.specs.Eval.{tests, eval}
use Rattle.checked_tree.specs.Operands.{sum_value, bounded, operand, taken, argument, arguments, optional_operand, optional_argument}
use Rattle.checked_tree.specs.Act.{act}
use Rattle.checked_tree.specs.Step.{step_kept, answered, started}
use Rattle.checked_tree.specs.Step as tree
use Rattle.wrappers.specs.Rows.{served, port_taken}
use Rattle.world_core.specs.Script.{updated, unless_over}
use Rattle.world_core.specs.Showing.{show}
use Rattle.world_core.specs.Failing.{undo_items, takes_back, fails, strays}
use Rattle.world_core.specs.Calling.{asks}
use Rattle.world_core.specs.Stepping.{acts, step, runs_to_end}
use Rattle.world_core.specs.Handling.{handles}
use Rattle.world_core.specs.Delivering.{serves, delivers, delivers_least, deliver, irq}
use Rattle.world_core.specs.Loading.{loads, load, restart, unload, call}
use Rattle.world_core.specs.Tasks.{round, rounds, run, finish}
use Rattle.world_core.specs.Clock.{fires, fires_first, fires_all, ticks_to, tick}
use Rattle.world_core.specs.Inputs.{works, works_one, work, answer, kernel}
use Rattle.world_core.specs.Restarting.{restarts_least, restarts}
use Rattle.world_core.specs.Events.{event, ends}

unfoldable pub computing : Unit {0}
unfolding value_of numbers told_rows kernel_row converted is_of has_all unary arithmetic comparison peek form_value condition tests eval sum_value bounded operand taken argument arguments optional_operand optional_argument act step_kept tree.step answered started served port_taken updated unless_over show undo_items takes_back fails strays asks acts step runs_to_end handles serves delivers delivers_least deliver irq loads load restart unload call round rounds run finish fires fires_first fires_all ticks_to tick works works_one work answer kernel restarts_least restarts event ends
computing = tt
