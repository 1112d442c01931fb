use Rattle.std.proofs.Common.{rules, ◌≡◌, refl, ap, subst, pos, w32}
use Rattle.std.proofs.lemmas.Int.{to_z-of_z}
use Rattle.checked_tree.specs.Step as tree
use Rattle.driver_machine.specs.Machines.{activity_in}
use Rattle.checked_tree.specs.declared.kernel.Answer.TheVariants.{Number, Pointer as Block}
use Rattle.run_report.specs.declared.item.Item.TheVariants as item
use Rattle.world_core.specs.Script.{say}
use Rattle.world_core.specs.Calling.{task_answered, waits_for_lock}
use Rattle.world.specs.Standing.{units_of, here}
use Rattle.world.proofs.Asks.{answered-by, asks-reply, asks-pointer, asks-said, asks-blocked, asks-fail, asks-wild}
use Rattle.world.proofs.Composing.{leads-on_tasks}
use Rattle.world.proofs.Standing.{leads-then, leads-run, leads-is}
use Rattle.world.proofs.Turns.{says}
use Rattle.world.proofs.live.Live.ask.Goals as goal

pub returns-in-Reply : goal.returns-in-Reply
returns-in-Reply g c =
    asks-reply (units_of c.args.drivers.now.list.items) _ _ c.args.who c.args.line c.args.call.now c.call_kernel.result
    c.call_kernel.ensures refl refl c.in-Reply.value c.in-Reply.is
    (answered-by c.args.drivers.now.list.items c.args.who.owner c.args.driver.now c.requires.driver c.args.self.now.machine c.answer.new.self c.args.who.task
    (Number c.in-Reply.value) c.requires.task c.requires.live
    (subst (λ z. activity_in c.args.driver.now.unit c.answer.new.self c.args.who.task
    ≡ tree.answered (activity_in c.args.driver.now.unit c.args.self.now.machine c.args.who.task) (Number z))
    (to_z-of_z w32 c.in-Reply.value (search rules)) c.answer.ensures.answered)
    c.answer.ensures.belongs c.answer.ensures.owner c.answer.ensures.others)

pub returns-in-Pointer : goal.returns-in-Pointer
returns-in-Pointer g c =
    asks-pointer (units_of c.args.drivers.now.list.items) _ _ c.args.who c.args.line c.args.call.now c.call_kernel.result
    c.call_kernel.ensures refl refl c.in-Pointer.pointer c.in-Pointer.is
    (answered-by c.args.drivers.now.list.items c.args.who.owner c.args.driver.now c.requires.driver c.args.self.now.machine c.answer-in-Pointer.new.self c.args.who.task
    (Block c.in-Pointer.pointer) c.requires.task c.requires.live c.answer-in-Pointer.ensures.answered c.answer-in-Pointer.ensures.belongs
    c.answer-in-Pointer.ensures.owner c.answer-in-Pointer.ensures.others)

pub returns-in-Said : goal.returns-in-Said
returns-in-Said g c =
    let b = here (record c.args.self.now { ground = record c.args.self.now.ground { host = c.call_kernel.new.host } })
    c.args.report.now (g.K.Sink.written c.args.sink.now) (g.K.Sink.faults c.args.sink.now) in
    let told = here (record { ground = c.say.new.self; machine = c.args.self.now.machine }) c.say.new.report (g.K.Sink.written c.say.new.sink) (g.K.Sink.faults c.say.new.sink) in
    asks-said (units_of c.args.drivers.now.list.items) _ b _ c.args.who c.args.line c.args.call.now c.call_kernel.result
    c.call_kernel.ensures refl refl refl c.in-Said.saying c.in-Said.is
    (leads-then (leads-is (ap say c.said_item-item.ensures) (says b told c.said_item-item.result refl c.say.ensures))
    (leads-on_tasks (units_of c.args.drivers.now.list.items) told _ (task_answered c.args.who.task (Number (pos 0)))
    (answered-by c.args.drivers.now.list.items c.args.who.owner c.args.driver.now c.requires.driver c.args.self.now.machine c.answer-in-Said.new.self c.args.who.task
    (Number (pos 0)) c.requires.task c.requires.live c.answer-in-Said.ensures.answered c.answer-in-Said.ensures.belongs
    c.answer-in-Said.ensures.owner c.answer-in-Said.ensures.others) refl refl))

pub returns-in-Blocked : goal.returns-in-Blocked
returns-in-Blocked g c =
    let b = here (record c.args.self.now { ground = record c.args.self.now.ground { host = c.call_kernel.new.host } })
    c.args.report.now (g.K.Sink.written c.args.sink.now) (g.K.Sink.faults c.args.sink.now) in
    let told = here (record { ground = c.say-in-Blocked.new.self; machine = c.args.self.now.machine }) c.say-in-Blocked.new.report
    (g.K.Sink.written c.say-in-Blocked.new.sink) (g.K.Sink.faults c.say-in-Blocked.new.sink) in
    asks-blocked (units_of c.args.drivers.now.list.items) _ b _ c.args.who c.args.line c.args.call.now c.call_kernel.result
    c.call_kernel.ensures refl refl refl c.in-Blocked.lock c.in-Blocked.is
    (leads-then
    (leads-is (ap (λ z. say (item.Blocked c.args.who z)) (to_z-of_z w32 c.in-Blocked.lock (search rules))) (says b told _ refl c.say-in-Blocked.ensures))
    (leads-run (units_of c.args.drivers.now.list.items) told _ waits_for_lock c.block.ensures refl c.stay.ensures refl))

pub returns-in-Fail : goal.returns-in-Fail
returns-in-Fail g c =
    let b = here (record c.args.self.now { ground = record c.args.self.now.ground { host = c.call_kernel.new.host } })
    c.args.report.now (g.K.Sink.written c.args.sink.now) (g.K.Sink.faults c.args.sink.now) in
    asks-fail (units_of c.args.drivers.now.list.items) _ b _ c.args.who c.args.line c.args.call.now c.call_kernel.result
    c.call_kernel.ensures refl refl refl c.in-Fail.kind c.in-Fail.is c.fail.ensures

pub returns-in-Wild : goal.returns-in-Wild
returns-in-Wild g c =
    let b = here (record c.args.self.now { ground = record c.args.self.now.ground { host = c.call_kernel.new.host } })
    c.args.report.now (g.K.Sink.written c.args.sink.now) (g.K.Sink.faults c.args.sink.now) in
    asks-wild (units_of c.args.drivers.now.list.items) _ b _ c.args.who c.args.line c.args.call.now c.call_kernel.result
    c.call_kernel.ensures refl refl refl c.in-Wild.is c.stray.ensures
