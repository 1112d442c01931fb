-- The text so far is the front of what was left, and no read has failed.
use Rattle.std.proofs.Common.{◌≡◌, ◌≤◌, ◌-◌, vec_len}
use Rattle.sd_outside.specs.Counts.{counted}
use Rattle.sd_outside.specs.Shelf.{LeavesOthers}
use Rattle.sd_outside.proofs.Reading.{IsFront}
use Rattle.sd_outside.proofs.read.read_text.Given as goal

abbrev pub invariant-loop-taken : goal.invariant-loop-taken
invariant-loop-taken g l = record {
  short : vec_len l.text ≤ 1048576;
  front : IsFront l.text.items (g.S.Shelf.left l.initial.shelf l.name) (g.S.Shelf.left l.shelf l.name);
  given : counted (g.S.Shelf.given l.shelf) 0 ≡ counted (g.S.Shelf.given l.initial.shelf) (vec_len l.text);
  calm : g.S.Shelf.faults l.shelf ≡ g.S.Shelf.faults l.initial.shelf;
  others : LeavesOthers l.name (g.S.Shelf.left l.initial.shelf) (g.S.Shelf.left l.shelf);
}

abbrev pub decreases-loop-taken : goal.decreases-loop-taken
decreases-loop-taken g l = 1048576 - vec_len l.text
