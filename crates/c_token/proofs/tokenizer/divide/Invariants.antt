use Rattle.std.proofs.Common.{◌≡◌, ◌+◌, ◌≤◌, length}
use Rattle.c_tree.specs.Division.{place, Reaches}
use Rattle.c_tree.specs.Limits.{run_of, nesting_of, unary_of, strings_of}
use Rattle.c_token.specs.Feeds.{line_feeds}
use Rattle.c_token.proofs.tokenizer.divide.Given as goal

abbrev pub invariant-loop-rest : goal.invariant-loop-rest
invariant-loop-rest l = record {
  reaches : Reaches l.fn.text (place l.line l.fresh l.words.items l.rest);
  lines : l.line + line_feeds l.rest ≤ 1 + line_feeds l.fn.text;
  words : l.counts.words ≡ length l.words.items;
  run : l.counts.run ≡ run_of l.words.items;
  nesting : l.counts.nesting ≡ nesting_of l.words.items;
  unary : l.counts.unary ≡ unary_of l.words.items;
  strings : l.counts.strings ≡ strings_of l.words.items;
  few_run : l.counts.run ≤ l.counts.words;
  few_nesting : l.counts.nesting ≤ l.counts.words;
  few_unary : l.counts.unary ≤ l.counts.words;
  few_strings : l.counts.strings ≤ l.counts.words;
}

abbrev pub decreases-loop-rest : goal.decreases-loop-rest
decreases-loop-rest l = length l.rest
