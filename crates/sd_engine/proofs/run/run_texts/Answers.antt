-- The first text that is refused is told.
use Rattle.std.proofs.Common.{sym, ap, ◌∙◌}
use Rattle.sd_engine.specs.declared.front.FrontRefusal.TheVariants.{Text as text_refusal}
use Rattle.sd_engine.specs.Serve.{run_refused, whole, cut}
use Rattle.sd_engine.proofs.Accepting.{refusal-told}
use Rattle.sd_engine.proofs.run.run_texts.Goals as goal

pub returns-in-Ok-print_refusal-clause-output : goal.returns-in-Ok-print_refusal-clause-output
returns-in-Ok-print_refusal-clause-output g c writes =
    whole (run_refused _ _ _ (refusal-told 1 _ _ _ (c.in-Err-Text.field-0-is ∙ ap text_refusal (sym c.in-Err-Text.refused-is))
    c.in-Err-Text.ensures.refusal))
    c.in-Ok-print_refusal.ensures.ok

pub returns-in-Err-clause-output : goal.returns-in-Err-clause-output
returns-in-Err-clause-output g c writes =
    cut (run_refused _ _ _ (refusal-told 1 _ _ _ (c.in-Err-Text.field-0-is ∙ ap text_refusal (sym c.in-Err-Text.refused-is))
    c.in-Err-Text.ensures.refusal)) c.in-Err.ensures.err
