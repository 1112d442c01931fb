-- The answer is that of the texts as they were read.
use Rattle.std.proofs.Common.{◌≤◌, length, map, ap, sym, ◌∙◌, subst}
use Rattle.sd_engine.specs.Running.{AreShort}
use Rattle.sd_engine.proofs.Served.{all-texts, texts-few, texts-short}
use Rattle.sd_engine.proofs.top_call.serve_check.Goals as goal

pub check_texts-status-requires-clause-short : goal.check_texts-status-requires-clause-short
check_texts-status-requires-clause-short g c =
    let read = all-texts _ _ _ _ (ap (map (λ v. v.items)) c.new-texts.ensures.items) c.in_default.ensures.read in
    subst (λ texts. AreShort (map (λ v. v.items) texts)) (sym c.as_slice.ensures.value) (texts-short _ _ _ read)

pub check_texts-status-requires-clause-few : goal.check_texts-status-requires-clause-few
check_texts-status-requires-clause-few g c =
    let read = all-texts _ _ _ _ (ap (map (λ v. v.items)) c.new-texts.ensures.items) c.in_default.ensures.read in
    subst (λ (n : _). n ≤ 4) (sym (ap length c.as_slice.ensures.value ∙ texts-few (λ v. v.items) _ _ _ read)) c.requires.1
