use Rattle.std.proofs.Common.{◌≡◌, ◌+◌}
use Rattle.circular_buffer.specs.Buffer.{buffer}
use Rattle.share_table.proofs.Turns.{turned_without}
use Rattle.share_table.proofs.queue.Queue.remove_newest.Given as goal

abbrev pub invariant-loop-place : goal.invariant-loop-place
invariant-loop-place g l = record {
  items : l.self-inside.items ≡ buffer (turned_without l.initial.self-inside.items.items l.newest l.place) l.initial.self-inside.items.capacity;
  steps : l.steps ≡ l.initial.steps + l.place;
}
