use Rattle.std.proofs.Common.{◌≡◌, take}
use Rattle.timer_table.specs.Order.{next_of}
use Rattle.timer_table.proofs.edits.next.Given as goal

abbrev pub invariant-loop-place : goal.invariant-loop-place
invariant-loop-place l = l.next ≡ next_of l.now (take l.place l.rows)
