-- The first word stands between the first byte that is no blank and the next blank.
use Rattle.std.proofs.Common.{◌≡◌, drop, ap, ◌∙◌}
use Rattle.std.specs.List.{position_or_len}
use Rattle.std.proofs.lemmas.List.{take_rest}
use Rattle.scenario.specs.Words.{is_blank}
use Rattle.scenario.proofs.Cutting.{no_word, first_word_at}
use Rattle.scenario.proofs.words.first_word.Goals as goal

pub returns-in_err-start-clause-words : goal.returns-in_err-start-clause-words
returns-in_err-start-clause-words c = rw c.from_residual.ensures (no_word c.args.line.now c.in_err-start.ensures)

pub returns-clause-words : goal.returns-clause-words
returns-clause-words c =
    let line = c.args.line.now in
    let found = take_rest line c.in_ok-start.start in
    let end : c.word_length-end.result ≡ position_or_len is_blank (drop c.in_ok-start.start line) = c.word_length-end.ensures.place ∙ ap (position_or_len is_blank) found in
    let behind = take_rest (drop c.in_ok-start.start line) c.word_length-end.result in
    rw (found, behind, end) (first_word_at line c.in_ok-start.start c.in_ok-start.ensures)
