-- The answers so far and those still to come are all of them, and there is room for those still to come.
use Rattle.std.proofs.Common.{◌≡◌, ◌≤◌, ◌-◌, length, drop}
use Rattle.world_core.specs.Inputs.{answered}
use Rattle.driver_host.proofs.host.Host.answer.Given as goal

abbrev pub invariant-loop-value : goal.invariant-loop-value
invariant-loop-value l = record {
  given : answered l.port (drop l.value-index l.values) l.self.devices ≡ answered l.port l.values l.initial.self.devices;
  room : length l.values - l.value-index ≤ l.self.devices.room;
  kernel : l.self.kernel ≡ l.initial.self.kernel;
  memories : l.self.memories ≡ l.initial.self.memories;
}
