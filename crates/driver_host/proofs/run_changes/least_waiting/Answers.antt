use Rattle.std.proofs.Common.{false, get_or, sym, ap, ◌∙◌}
use Rattle.driver_host.proofs.Waiting.{first-waits}
use Rattle.driver_host.proofs.run_changes.least_waiting.Goals as goal

pub returns-then-run-from : goal.returns-then-run-from
returns-then-run-from c =
    let waits = ap (λ k. get_or c.args.run.now.waiting k false) (sym c.from.ensures) ∙ c.if-run-from.true in
    let found = first-waits c.args.run.now.waiting c.loop-line.line c.loop-line.invariant waits in
    (found.0, found.1, c.loop-line-test.true)
