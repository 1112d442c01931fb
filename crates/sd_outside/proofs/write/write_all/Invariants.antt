-- What was written so far is the front of the piece, and no write has failed.
use Rattle.std.proofs.Common.{length, take, ◌-◌, ◌≡◌, ◌≤◌}
use Rattle.sd_outside.specs.Sink.{more}
use Rattle.sd_outside.proofs.write.write_all.Given as goal

abbrev pub invariant-loop-at : goal.invariant-loop-at
invariant-loop-at g l = record {
  within : l.at ≤ length l.bytes;
  written : g.K.Sink.written l.sink ≡ more (g.K.Sink.written l.initial.sink) (take l.at l.bytes);
  calm : g.K.Sink.faults l.sink ≡ g.K.Sink.faults l.initial.sink;
}

abbrev pub decreases-loop-at : goal.decreases-loop-at
decreases-loop-at g l = length l.bytes - l.at
