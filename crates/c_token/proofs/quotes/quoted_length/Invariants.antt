use Rattle.std.proofs.Common.{◌≡◌, ◌+◌, ◌≤◌, false, length}
use Rattle.c_token.specs.Scans.{quoted_length}
use Rattle.c_token.proofs.quotes.quoted_length.Given as goal

abbrev pub invariant-loop-rest : goal.invariant-loop-rest
invariant-loop-rest l = record {
  same : quoted_length l.quote l.length l.escape l.rest ≡ quoted_length l.quote 0 false l.fn.text;
  within : l.length + length l.rest ≤ length l.fn.text;
}

abbrev pub decreases-loop-rest : goal.decreases-loop-rest
decreases-loop-rest l = length l.rest
