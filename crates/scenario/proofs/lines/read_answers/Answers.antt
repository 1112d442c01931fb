-- As many values are counted as the words say.
use Rattle.std.proofs.Common.{sym, ◌∙◌, length}
use Rattle.std.proofs.lemmas.Option.{cond_some}
use Rattle.scenario.specs.Words.{pieces_of}
use Rattle.scenario.specs.Forms.{are_values}
use Rattle.scenario.proofs.Counting.{length-values_in}
use Rattle.scenario.proofs.lines.read_answers.Goals as goal

pub returns-clause-counted : goal.returns-clause-counted
returns-clause-counted c =
    let words = pieces_of c.in_ok-port.values.now in
    let both = cond_some (are_values words) (length words) c.in_ok-count.count (sym c.in_ok-count.ensures) in
    sym both.1 ∙ sym (length-values_in words both.0)
