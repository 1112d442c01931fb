use Rattle.std.proofs.Common.{◌≡◌, ◌≤◌, length}
use Rattle.c_tree.specs.Gaps.{after_line}
use Rattle.c_token.specs.Feeds.{line_feeds}
use Rattle.c_token.proofs.gaps.after_line.Given as goal

abbrev pub invariant-loop-rest : goal.invariant-loop-rest
invariant-loop-rest l = record {
  same : after_line l.rest ≡ after_line l.fn.text;
  lines : line_feeds l.rest ≤ line_feeds l.fn.text;
  shorter : length l.rest ≤ length l.fn.text;
}

abbrev pub decreases-loop-rest : goal.decreases-loop-rest
decreases-loop-rest l = length l.rest
