-- A first text, and those behind it.
use Rattle.std.proofs.Common.{◌≡◌, ◌≤◌, rules, true, not, length, map, ap, ◌∙◌, is_ok}
use Rattle.std.proofs.lemmas.List.{map-append}
use Rattle.sd_outside.proofs.Counting.{RoseBeyond-after}
use Rattle.sd_engine.proofs.Together.{texts-first, long-behind, on-ok}
use Rattle.sd_engine.proofs.texts.+read_texts.Goals as goal

pub returns-clause-too_much : goal.returns-clause-too_much
returns-clause-too_much g t c is = RoseBeyond-after 1048576 _ _ _ _ c.in_ok-text.ensures.counts (c.read_texts.ensures.too_much is)

pub returns-clause-too_long : goal.returns-clause-too_long
returns-clause-too_long g t c is =
    let short : length c.in_ok-text.text.items ≤ 1048576 = search rules in
    long-behind _ _ _ c.in_ok-text.text.items c.as_str.result.now c.first-item.result c.as_str.ensures.value c.in_ok-text.ensures.others
    c.in_ok-text.ensures.whole short
    c.args.files.now c.first-item.is c.in-len1-up.len_at_least c.requires (c.read_texts.ensures.too_long is)

pub returns-clause-read : goal.returns-clause-read
returns-clause-read g t c =
    let short : length c.in_ok-text.text.items ≤ 1048576 = search rules in
    let ok : is_ok c.push.result ≡ true = c.is_err.ensures.negation ∙ ap not c.if-is_err.false in
    let pushed = (rw ok at c.push.ensures.items) in
    on-ok c.read_texts.result
    (λ behind. texts-first _ _ _ c.in_ok-text.text.items c.as_str.result.now c.first-item.result c.as_str.ensures.value
    c.in_ok-text.ensures.others c.in_ok-text.ensures.whole short
    c.args.files.now _ _ _ c.first-item.is c.in-len1-up.len_at_least c.requires (ap (map (λ v. v.items)) pushed ∙ map-append _ _ _) behind)
    c.read_texts.ensures.read
