-- What is put so far, and the bytes still to come, are the whole text.
use Rattle.std.proofs.Common.{◌≡◌, ◌+◌, ◌*◌, ◌≤◌, ◌++◌, length, drop}
use Rattle.std.specs.List.{flat_map}
use Rattle.run_report.specs.Words.{escaped}
use Rattle.run_report.proofs.words.put_bytes.Given as goal

abbrev pub invariant-loop-byte : goal.invariant-loop-byte
invariant-loop-byte l = record {
  text : l.page ++ flat_map escaped (drop l.byte-index l.bytes) ≡ l.fn.page ++ flat_map escaped l.bytes;
  len : length l.page ≤ length l.fn.page + 3 * l.byte-index;
}
