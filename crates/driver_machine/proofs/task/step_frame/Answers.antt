use Rattle.std.proofs.Common.{◌≡◌, Some, get_or, refl, slice_get}
use Rattle.std.proofs.lemmas.Option.{slice_get-get_or}
use Rattle.driver_machine.proofs.RowSteps.{stands_is}
use Rattle.driver_machine.proofs.task.step_frame.Goals as goal

pub step-requires-clause-stands : goal.step-requires-clause-stands
step-requires-clause-stands c =
    let f = get_or c.args.frames.now c.args.at c.index-frames-at.result in
    let there : slice_get c.args.frames.now c.args.at ≡ Some f =
    slice_get-get_or c.args.frames.now c.args.at c.index-frames-at.result c.requires.below in
    stands_is c.args.unit.now (slice_get c.args.frames.now c.args.at) f there c.requires.stands

pub returns-clause-steps : goal.returns-clause-steps
returns-clause-steps c =
    let f = get_or c.args.frames.now c.args.at c.index-frames-at.result in
    let there : slice_get c.args.frames.now c.args.at ≡ Some f =
    slice_get-get_or c.args.frames.now c.args.at c.index-frames-at.result c.requires.below in
    record {
      change = record { old = f; new = c.step.new.self; was = there; set = refl; stands = c.step.ensures.stands };
      steps = c.step.ensures.steps;
    }
