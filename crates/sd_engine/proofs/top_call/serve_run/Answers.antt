-- The drivers' texts are read from the shelf that the scenario left, which tells of them what it told before.
use Rattle.std.proofs.Common.{◌≤◌, rules, length, map, sym, ◌∙◌, ap, arith, subst, Err}
use Rattle.std.specs.String.{string_bytes}
use Rattle.sd_outside.proofs.Counting.{RoseBeyond-after}
use Rattle.sd_engine.specs.Running.{AreShort}
use Rattle.sd_engine.specs.Serve.{AreTexts}
use Rattle.sd_engine.proofs.Served.{all-texts, text-is, texts-few, texts-short, too-long-only}
use Rattle.sd_engine.proofs.Together.{long-after, texts-behind}
use Rattle.sd_engine.proofs.top_call.serve_run.Goals as goal

pub returns-in-Err-read_texts-clause-too_long : goal.returns-in-Err-read_texts-clause-too_long
returns-in-Err-read_texts-clause-too_long g c is =
    let short : length c.in-Ok.text.items ≤ 1048576 = search rules in
    long-after _ c.in-Ok.text.items _ _ _ c.in-Ok.ensures.others c.requires.0 c.in-Ok.ensures.whole short
    (c.in-Err-read_texts.ensures.too_long
    (ap (λ (f : _). Err f) (too-long-only c.in-Err-read_texts.fault (sym c.fault_status-in-Err-read_texts.ensures ∙ is))))

pub returns-in-Err-read_texts-clause-too_much : goal.returns-in-Err-read_texts-clause-too_much
returns-in-Err-read_texts-clause-too_much g c is =
    RoseBeyond-after 1048576 _ _ _ _ c.in-Ok.ensures.counts
    (c.in-Err-read_texts.ensures.too_much
    (ap (λ (f : _). Err f) (too-long-only c.in-Err-read_texts.fault (sym c.fault_status-in-Err-read_texts.ensures ∙ is))))

pub run_texts-status-requires-clause-short : goal.run_texts-status-requires-clause-short
run_texts-status-requires-clause-short g c =
    let read = all-texts _ _ _ _ (ap (map (λ v. v.items)) c.new-texts.ensures.items) c.in_default.ensures.read in
    subst (λ texts. AreShort (map (λ v. v.items) texts)) (sym c.as_slice-2.ensures.value) (texts-short _ _ _ read)

pub run_texts-status-requires-clause-few : goal.run_texts-status-requires-clause-few
run_texts-status-requires-clause-few g c =
    let read = all-texts _ _ _ _ (ap (map (λ v. v.items)) c.new-texts.ensures.items) c.in_default.ensures.read in
    subst (λ n. n ≤ 4) (sym (ap length c.as_slice-2.ensures.value ∙ texts-few (λ v. v.items) _ _ _ read)) c.requires.1

pub returns-clause-output : goal.returns-clause-output
returns-clause-output g c writes =
    let read = all-texts _ _ _ _ (ap (map (λ v. v.items)) c.new-texts.ensures.items) c.in_default.ensures.read in
    let short : length c.as_slice.result.now ≤ 1048576 = omega (arith, c.as_slice.ensures.len, c.in-Ok.ensures.short) in (
      c.as_slice.result.now,
      map (λ v. v.items) c.as_slice-2.result.now,
      text-is _ _ _ c.as_slice.ensures.value short c.in-Ok.ensures.whole,
      texts-behind _ c.in-Ok.text.items _ _ _ c.in-Ok.ensures.others c.requires.0 _
          (subst (λ texts. AreTexts (g.S.Shelf.left c.read_text.new.shelf) (map string_bytes c.args.drivers.now)
          (map (λ v. v.items) texts)) (sym c.as_slice-2.ensures.value) read),
      c.run_texts-status.ensures.output writes,
    )
