-- Whatever is told behind what is told so far, if it tells the items still to come, tells all of them behind what was told before.
use Rattle.std.proofs.Common.{drop, map}
use Rattle.update_tracker.specs.declared.undo.Undo.{Undo}
use Rattle.run_report.specs.declared.item.Item.TheVariants as item
use Rattle.world_core.specs.Failing.{undone_item}
use Rattle.driver_host.specs.Printing.{Out, out, Prints}
use Rattle.driver_host.proofs.printing.say_undone.Given as goal

abbrev pub invariant-loop-undo : goal.invariant-loop-undo
invariant-loop-undo g l =
    let told = λ (u : Undo). item.Undone l.driver (undone_item (g.F.Functions.names l.functions) l.driver u) in
    (o : Out)
    → Prints (out l.is_silent l.report (g.K.Sink.written l.sink) (g.K.Sink.faults l.sink)) o (map told (drop l.undo-index l.undone))
    → Prints (out l.initial.is_silent l.initial.report (g.K.Sink.written l.initial.sink) (g.K.Sink.faults l.initial.sink)) o (map told l.undone)
