use Rattle.std.proofs.Common.{ap, ◌∙◌}
use Rattle.std.proofs.lemmas.Option.{unwrap_or-slice_get}
use Rattle.std.specs.Prelude.{slice_get}
use Rattle.std.specs.Option.{unwrap_or}
use Rattle.byte_memory.specs.Bytes.{bytes_at}
use Rattle.wrappers.proofs.printing.byte_at.Goals as goal

pub returns : goal.returns
returns c =
    c.unwrap_or.ensures ∙ ap (λ o. unwrap_or o 0) (c.copied.ensures ∙ c.first.ensures.value ∙ ap (λ xs. slice_get xs 0) c.view.ensures)
    ∙ unwrap_or-slice_get (bytes_at c.args.memory.now.bytes c.args.at 1) 0 0
