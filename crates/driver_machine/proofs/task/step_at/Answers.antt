use Rattle.std.proofs.Common.{◌≡◌, ◌≤◌, ◌<◌, ◌+◌, ℕ, List, length, arith}
use Rattle.driver_machine.specs.declared.frame.Frame.{Frame}
use Rattle.driver_machine.proofs.RowSteps.{stands_under, one_stands, one_goes, one_asks, one_stops, one_calls, one_returns, line_again, turn_is}
use Rattle.driver_machine.proofs.task.step_at.Goals as goal

below : (frames : List Frame) (live top : ℕ) → length frames ≡ 64 → live ≤ 64 → live ≡ top + 1 → top < length frames
below frames live top room few more = omega (arith, room, few, more)

pub line_in-line-requires-clause-stands : goal.line_in-line-requires-clause-stands
line_in-line-requires-clause-stands c =
    stands_under c.args.unit.now c.args.frames.now c.args.frames.now c.args.live.now c.args.top c.requires.top (below c.args.frames.now c.args.live.now c.args.top c.requires.room c.requires.few c.requires.top) c.requires.stand

pub step_frame-requires-clause-stands : goal.step_frame-requires-clause-stands
step_frame-requires-clause-stands c =
    stands_under c.args.unit.now c.args.frames.now c.args.frames.now c.args.live.now c.args.top c.requires.top (below c.args.frames.now c.args.live.now c.args.top c.requires.room c.requires.few c.requires.top) c.requires.stand

pub call-requires-clause-stand : goal.call-requires-clause-stand
call-requires-clause-stand c =
    one_stands c.args.unit.now c.args.frames.now c.step_frame.new.frames c.args.live.now c.args.top c.requires.top (below c.args.frames.now c.args.live.now c.args.top c.requires.room c.requires.few c.requires.top) c.in-Ok-Calls.ensures.steps.change c.requires.stand

pub call-requires-clause-line : goal.call-requires-clause-line
call-requires-clause-line c =
    let steps = turn_is c.in-Ok-Calls.field-0-is c.in-Ok-Calls.ensures.steps in
    line_again c.args.unit.now c.args.frames.now c.step_frame.new.frames c.args.live.now c.args.top c.requires.top (below c.args.frames.now c.args.live.now c.args.top c.requires.room c.requires.few c.requires.top) c.args.memory.now c.step_frame.new.memory c.line_in-line.result steps.change steps.steps.1 c.line_in-line.ensures

pub give_back-requires-clause-stand : goal.give_back-requires-clause-stand
give_back-requires-clause-stand c =
    one_stands c.args.unit.now c.args.frames.now c.step_frame.new.frames c.args.live.now c.args.top c.requires.top (below c.args.frames.now c.args.live.now c.args.top c.requires.room c.requires.few c.requires.top) c.in-Ok-Returns.ensures.steps.change c.requires.stand

pub give_back-requires-clause-line : goal.give_back-requires-clause-line
give_back-requires-clause-line c =
    let steps = turn_is c.in-Ok-Returns.field-0-is c.in-Ok-Returns.ensures.steps in
    line_again c.args.unit.now c.args.frames.now c.step_frame.new.frames c.args.live.now c.args.top c.requires.top (below c.args.frames.now c.args.live.now c.args.top c.requires.room c.requires.few c.requires.top) c.args.memory.now c.step_frame.new.memory c.line_in-line.result steps.change steps.steps.1 c.line_in-line.ensures

pub returns-in-Ok-On-clause-comes : goal.returns-in-Ok-On-clause-comes
returns-in-Ok-On-clause-comes c =
    let steps = turn_is c.in-Ok-On.field-0-is c.in-Ok-On.ensures.steps in
    one_goes c.args.unit.now c.args.frames.now c.step_frame.new.frames c.args.live.now c.args.top c.requires.top (below c.args.frames.now c.args.live.now c.args.top c.requires.room c.requires.few c.requires.top) c.args.memory.now c.step_frame.new.memory steps.change steps.steps

pub returns-in-Ok-On-clause-stand : goal.returns-in-Ok-On-clause-stand
returns-in-Ok-On-clause-stand c =
    one_stands c.args.unit.now c.args.frames.now c.step_frame.new.frames c.args.live.now c.args.top c.requires.top (below c.args.frames.now c.args.live.now c.args.top c.requires.room c.requires.few c.requires.top) c.in-Ok-On.ensures.steps.change c.requires.stand

pub returns-in-Ok-Into-clause-comes : goal.returns-in-Ok-Into-clause-comes
returns-in-Ok-Into-clause-comes c =
    let steps = turn_is c.in-Ok-Into.field-0-is c.in-Ok-Into.ensures.steps in
    one_goes c.args.unit.now c.args.frames.now c.step_frame.new.frames c.args.live.now c.args.top c.requires.top (below c.args.frames.now c.args.live.now c.args.top c.requires.room c.requires.few c.requires.top) c.args.memory.now c.step_frame.new.memory steps.change steps.steps

pub returns-in-Ok-Into-clause-stand : goal.returns-in-Ok-Into-clause-stand
returns-in-Ok-Into-clause-stand c =
    one_stands c.args.unit.now c.args.frames.now c.step_frame.new.frames c.args.live.now c.args.top c.requires.top (below c.args.frames.now c.args.live.now c.args.top c.requires.room c.requires.few c.requires.top) c.in-Ok-Into.ensures.steps.change c.requires.stand

pub returns-in-Ok-Calls-clause-comes : goal.returns-in-Ok-Calls-clause-comes
returns-in-Ok-Calls-clause-comes c =
    let steps = turn_is c.in-Ok-Calls.field-0-is c.in-Ok-Calls.ensures.steps in
    one_calls c.args.unit.now c.args.frames.now c.step_frame.new.frames c.args.live.now c.args.top c.requires.top (below c.args.frames.now c.args.live.now c.args.top c.requires.room c.requires.few c.requires.top) c.args.memory.now c.step_frame.new.memory c.in-Ok-Calls.number c.line_in-line.result _ c.as_slice.result.now _ _ c.as_slice.ensures.value steps c.line_in-line.ensures c.call.ensures.comes

pub returns-in-Ok-Asks-clause-comes : goal.returns-in-Ok-Asks-clause-comes
returns-in-Ok-Asks-clause-comes c =
    let steps = turn_is c.in-Ok-Asks.field-0-is c.in-Ok-Asks.ensures.steps in
    one_asks c.args.unit.now c.args.frames.now c.step_frame.new.frames c.args.live.now c.args.top c.requires.top (below c.args.frames.now c.args.live.now c.args.top c.requires.room c.requires.few c.requires.top) c.args.memory.now c.step_frame.new.memory c.in-Ok-Asks.call _ steps

pub returns-in-Ok-Asks-clause-stand : goal.returns-in-Ok-Asks-clause-stand
returns-in-Ok-Asks-clause-stand c =
    one_stands c.args.unit.now c.args.frames.now c.step_frame.new.frames c.args.live.now c.args.top c.requires.top (below c.args.frames.now c.args.live.now c.args.top c.requires.room c.requires.few c.requires.top) c.in-Ok-Asks.ensures.steps.change c.requires.stand

pub returns-in-Ok-Returns-clause-comes : goal.returns-in-Ok-Returns-clause-comes
returns-in-Ok-Returns-clause-comes c =
    let steps = turn_is c.in-Ok-Returns.field-0-is c.in-Ok-Returns.ensures.steps in
    one_returns c.args.unit.now c.args.frames.now c.step_frame.new.frames c.args.live.now c.args.top c.requires.top (below c.args.frames.now c.args.live.now c.args.top c.requires.room c.requires.few c.requires.top) c.args.memory.now c.step_frame.new.memory c.result_in-scalar.result c.in-Ok-Returns.value _ _ _ steps c.result_in-scalar.ensures c.give_back.ensures.comes

pub returns-in-Err-clause-comes : goal.returns-in-Err-clause-comes
returns-in-Err-clause-comes c =
    one_stops c.args.unit.now c.args.frames.now c.step_frame.new.frames c.args.live.now c.args.top c.requires.top (below c.args.frames.now c.args.live.now c.args.top c.requires.room c.requires.few c.requires.top) c.args.memory.now c.step_frame.new.memory c.in-Err.stop c.line_in-line.result _ c.stopped.result c.in-Err.ensures.steps c.line_in-line.ensures c.stopped.ensures

pub returns-in-Err-clause-stand : goal.returns-in-Err-clause-stand
returns-in-Err-clause-stand c =
    one_stands c.args.unit.now c.args.frames.now c.step_frame.new.frames c.args.live.now c.args.top c.requires.top (below c.args.frames.now c.args.live.now c.args.top c.requires.room c.requires.few c.requires.top) c.in-Err.ensures.steps.change c.requires.stand
