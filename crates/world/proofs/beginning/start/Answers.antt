use Rattle.std.proofs.Common.{subst, ◌≤◌, length}
use Rattle.checked_tree.specs.declared.units.CheckedUnit.{CheckedUnit}
use Rattle.world.proofs.Begun.{begins-not, begins-started}
use Rattle.world.proofs.beginning.start.Goals as goal

pub returns-in-Ok : goal.returns-in-Ok
returns-in-Ok c = begins-started c.args.driver.now.unit c.args.who.task c.args.who.owner c.args.function c.args.values.now c.args.machine.now c.start.new.self
    c.requires.idle c.start.ensures.others c.in-Ok.ensures.starts

pub returns-in-Err : goal.returns-in-Err
returns-in-Err c = absurd (c.in-Err.ensures.starts.0 c.requires.idle)

pub returns-then-len-function : goal.returns-then-len-function
returns-then-len-function c = begins-not c.args.driver.now.unit c.args.who.task c.args.who.owner c.args.function c.args.values.now c.args.machine.now
    (subst (λ (u : CheckedUnit). length u.functions ≤ c.args.function) c.unit.ensures.unit
    (subst (λ n. n ≤ c.args.function) c.len.ensures c.if-len-function.true))
    c.requires.idle
