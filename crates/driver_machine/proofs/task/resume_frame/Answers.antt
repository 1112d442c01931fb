use Rattle.std.proofs.Common.{◌≡◌, Some, get_or, refl, slice_get}
use Rattle.std.proofs.lemmas.Option.{slice_get-get_or}
use Rattle.driver_machine.proofs.RowSteps.{stands_is}
use Rattle.driver_machine.proofs.task.resume_frame.Goals as goal

pub resume-requires-clause-stands : goal.resume-requires-clause-stands
resume-requires-clause-stands c =
    let f = get_or c.args.frames.now c.args.at c.index-frames-at.result in
    let there : slice_get c.args.frames.now c.args.at ≡ Some f =
    slice_get-get_or c.args.frames.now c.args.at c.index-frames-at.result c.requires.below in
    stands_is c.args.unit.now (slice_get c.args.frames.now c.args.at) f there c.requires.stands

pub returns-clause-resumes : goal.returns-clause-resumes
returns-clause-resumes c =
    let f = get_or c.args.frames.now c.args.at c.index-frames-at.result in
    let there : slice_get c.args.frames.now c.args.at ≡ Some f =
    slice_get-get_or c.args.frames.now c.args.at c.index-frames-at.result c.requires.below in
    record {
      change = record { old = f; new = c.resume.new.self; was = there; set = refl; stands = c.resume.ensures.stands };
      resumes = c.resume.ensures.resumes;
    }
