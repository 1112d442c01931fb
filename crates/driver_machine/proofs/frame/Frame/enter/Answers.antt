use Rattle.std.proofs.Common.{rules, ◌≡◌, refl}
use Rattle.checked_tree.specs.Step.{first_locals}
use Rattle.driver_machine.specs.Paths.{todo_at}
use Rattle.driver_machine.proofs.Standings.{entered_stands}
use Rattle.driver_machine.proofs.frame.Frame.enter.Goals as goal

pub returns-clause-entered : goal.returns-clause-entered
returns-clause-entered c =
    let locals : c.put_first_slots.new.locals.items ≡ first_locals c.args.f.now c.args.values.now = search rules in
    let todo : todo_at c.args.f.now.body c.restart.new.self.path.items c.restart.new.self.at ≡ c.args.f.now.body = search rules in
    entered_stands c.args.unit.now c.args.number c.args.f.now c.args.values.now
    (record { function = c.args.number; locals = c.put_first_slots.new.locals; position = c.restart.new.self })
    c.requires.function refl locals todo
