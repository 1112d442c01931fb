use Rattle.std.proofs.Common.{◌≡◌, All, length}
use Rattle.driver_machine.specs.Machines.{IsTask}
use Rattle.driver_machine.proofs.machine.new_rows.Given as goal

abbrev pub invariant-loop : goal.invariant-loop
invariant-loop l = record {
  count : length l.tasks.items ≡ l.counter;
  each : All IsTask l.tasks.items;
  idle : All (λ t. t.live ≡ 0) l.tasks.items;
}
