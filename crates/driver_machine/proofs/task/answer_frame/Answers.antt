use Rattle.std.proofs.Common.{◌≡◌, Some, get_or, refl, slice_get}
use Rattle.std.proofs.lemmas.Option.{slice_get-get_or}
use Rattle.driver_machine.proofs.RowSteps.{stands_is}
use Rattle.driver_machine.proofs.task.answer_frame.Goals as goal

pub answer-requires : goal.answer-requires
answer-requires c =
    let f = get_or c.args.frames.now c.args.at c.index-frames-at.result in
    let there : slice_get c.args.frames.now c.args.at ≡ Some f =
    slice_get-get_or c.args.frames.now c.args.at c.index-frames-at.result c.requires.below in
    record { stands = stands_is c.args.unit.now (slice_get c.args.frames.now c.args.at) f there c.requires.stands }

pub returns-clause-answers : goal.returns-clause-answers
returns-clause-answers c =
    let f = get_or c.args.frames.now c.args.at c.index-frames-at.result in
    let there : slice_get c.args.frames.now c.args.at ≡ Some f =
    slice_get-get_or c.args.frames.now c.args.at c.index-frames-at.result c.requires.below in
    record {
      change = record { old = f; new = c.answer.new.self; was = there; set = refl; stands = c.answer.ensures.stands };
      answers = c.answer.ensures.answers;
    }
