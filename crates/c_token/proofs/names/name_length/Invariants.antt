use Rattle.std.proofs.Common.{◌≡◌, ◌+◌, ◌≤◌, length}
use Rattle.c_tree.specs.Bytes.{is_name_byte}
use Rattle.c_token.specs.Scans.{front_length}
use Rattle.c_token.proofs.names.name_length.Given as goal

abbrev pub invariant-loop-rest : goal.invariant-loop-rest
invariant-loop-rest l = record {
  same : front_length is_name_byte l.length l.rest ≡ front_length is_name_byte 0 l.fn.text;
  fits : l.length + length l.rest ≤ length l.fn.text;
}

abbrev pub decreases-loop-rest : goal.decreases-loop-rest
decreases-loop-rest l = length l.rest
