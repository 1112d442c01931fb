-- Each write goes on where the one before ended; after one that failed a front part is written.
use Rattle.std.proofs.Common.{◌-◌, ◌≤◌, length, arith, ◌∙◌, length-drop}
use Rattle.std.proofs.lemmas.List.{take_rest}
use Rattle.sd_outside.proofs.More.{more-front, IsCut-front}
use Rattle.sd_outside.proofs.write.write_all.Goals as goal

pub loop-at-preserved : goal.loop-at-preserved
loop-at-preserved g c =
    let e = c.in-Ok.ensures in
    let kept = c.loop-at.invariant in
    let fits : c.in-Ok.taken ≤ length c.args.bytes.now - c.loop-at.at = rw (take_rest c.args.bytes.now c.loop-at.at, length-drop c.loop-at.at c.args.bytes.now) at e.fits in
    record {
      within = omega arith;
      written = rw (e.appends, kept.written) (more-front (g.K.Sink.written c.args.sink.now) c.loop-at.at c.in-Ok.taken c.args.bytes.now);
      calm = e.cause.kept ∙ kept.calm;
    }

pub returns-in-Err-clause-err : goal.returns-in-Err-clause-err
returns-in-Err-clause-err g c =
    IsCut-front (g.K.Sink.written c.args.sink.now) _ c.loop-at.at c.args.bytes.now (c.in-Err.ensures.none ∙ c.loop-at.invariant.written)
