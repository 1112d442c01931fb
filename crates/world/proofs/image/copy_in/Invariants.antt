-- What is copied and the rest come to the whole.
use Rattle.std.proofs.Common.{◌≡◌, ◌+◌, drop, length}
use Rattle.world.specs.Images.{copied}
use Rattle.world.proofs.image.copy_in.Given as goal

abbrev pub invariant-loop-byte : goal.invariant-loop-byte
invariant-loop-byte l = record {
  place : l.place ≡ l.fn.at + l.byte-index;
  comes : copied l.memory.bytes l.place (drop l.byte-index l.bytes) ≡ copied l.initial.memory.bytes l.fn.at l.bytes;
  granted : l.memory.granted ≡ l.initial.memory.granted;
  len : length l.memory.bytes ≡ length l.initial.memory.bytes;
}
