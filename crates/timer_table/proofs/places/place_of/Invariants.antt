use Rattle.std.proofs.Common.{◌≡◌, ◌≤◌, ◌-◌, length, take, drop}
use Rattle.timer_table.specs.Table.{place_in}
use Rattle.timer_table.proofs.places.place_of.Given as goal

abbrev pub invariant-loop-low : goal.invariant-loop-low
invariant-loop-low l = record {
  ordered : l.low ≤ l.high;
  within : l.high ≤ length l.rows;
  before : place_in (take l.low l.rows) l.owner l.id ≡ l.low;
  after : place_in (drop l.high l.rows) l.owner l.id ≡ 0;
}

abbrev pub decreases-loop-low : goal.decreases-loop-low
decreases-loop-low l = l.high - l.low
