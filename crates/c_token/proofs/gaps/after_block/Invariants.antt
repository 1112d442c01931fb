use Rattle.std.proofs.Common.{◌≡◌, ◌+◌, ◌≤◌, length}
use Rattle.c_tree.specs.Gaps.{after_block}
use Rattle.c_token.specs.Feeds.{line_feeds}
use Rattle.c_token.proofs.gaps.after_block.Given as goal

abbrev pub invariant-loop-rest : goal.invariant-loop-rest
invariant-loop-rest l = record {
  same : after_block l.line l.fresh l.rest ≡ after_block l.start_line l.start_fresh l.fn.text;
  lines : l.line + line_feeds l.rest ≤ l.start_line + line_feeds l.fn.text;
  shorter : length l.rest ≤ length l.fn.text;
}

abbrev pub decreases-loop-rest : goal.decreases-loop-rest
decreases-loop-rest l = length l.rest
