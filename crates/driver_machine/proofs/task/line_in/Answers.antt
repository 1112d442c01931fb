use Rattle.std.proofs.Common.{◌≡◌, Some, refl, length, slice_get, sym, ap, ◌∙◌}
use Rattle.std.proofs.lemmas.Option.{slice_get_read}
use Rattle.driver_machine.specs.Rows.{line_of_frame}
use Rattle.driver_machine.proofs.RowSteps.{stands_is}
use Rattle.driver_machine.proofs.task.line_in.Goals as goal

pub line-requires : goal.line-requires
line-requires c =
    let there : slice_get c.args.frames.now c.args.at ≡ Some c.index-frames-at.result =
    slice_get_read c.args.frames.now (length c.args.frames.now) c.args.at c.index-frames-at.result refl c.requires.below c.index-frames-at.is in
    stands_is c.args.unit.now (slice_get c.args.frames.now c.args.at) c.index-frames-at.result there c.requires.stands

pub returns : goal.returns
returns c =
    let there : slice_get c.args.frames.now c.args.at ≡ Some c.index-frames-at.result =
    slice_get_read c.args.frames.now (length c.args.frames.now) c.args.at c.index-frames-at.result refl c.requires.below c.index-frames-at.is in
    c.line.ensures ∙ sym (ap (line_of_frame c.args.unit.now) there)
