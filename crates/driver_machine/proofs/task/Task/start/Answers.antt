use Rattle.std.proofs.Common.{rules, ◌≡◌, ◌∙◌, refl}
use Rattle.std.proofs.lemmas.List.{with_items_is}
use Rattle.driver_machine.proofs.TaskKept.{frames_started, idle_none}
use Rattle.driver_machine.proofs.task.Task.start.Goals as goal

pub returns-clause-starts : goal.returns-clause-starts
returns-clause-starts c =
    let none : c.args.self.now.live ≡ 0 = search rules in
    let begun = frames_started c.args.unit.now c.args.number c.args.arguments.now _ c.start_at.new.frames
    (with_items_is c.args.self.now.frames c.start_at.new.frames (c.start_at.auto.frames ∙ c.as_mut_slice.ensures.len))
    c.start_at.ensures.started c.start_at.ensures.stand c.start_at.ensures.wait in
    (idle_none c.args.self.now.live c.args.self.now.owner none, refl, begun.0, (begun.1, begun.2))
