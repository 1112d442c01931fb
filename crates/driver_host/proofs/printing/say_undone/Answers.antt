use Rattle.update_tracker.specs.declared.undo.Undo.{Undo}
use Rattle.std.proofs.Common.{ap}
use Rattle.run_report.specs.declared.item.Item.TheVariants as item
use Rattle.world_core.specs.Failing.{undone_item}
use Rattle.driver_host.proofs.Told.{next-told, all-told}
use Rattle.driver_host.proofs.printing.say_undone.Goals as goal

pub loop-undo-init : goal.loop-undo-init
loop-undo-init g c = λ o p. p

pub loop-undo-preserved : goal.loop-undo-preserved
loop-undo-preserved g c =
    next-told (λ (u : Undo). item.Undone c.args.driver (undone_item (g.F.Functions.names c.args.functions.now) c.args.driver u))
    c.args.undone.now c.loop-undo.undo-index _ _ _ _ _ _ c.loop-undo-test.true (ap (item.Undone c.args.driver) c.undone_of.ensures)
    c.loop-undo.invariant c.say.ensures

pub returns : goal.returns
returns g c =
    all-told (λ (u : Undo). item.Undone c.args.driver (undone_item (g.F.Functions.names c.args.functions.now) c.args.driver u))
    c.args.undone.now c.loop-undo.undo-index _ _ _ c.loop-undo-test.false c.loop-undo.invariant
