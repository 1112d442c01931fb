use Rattle.std.proofs.Common.{ap, sym, ◌∙◌}
use Rattle.world_core.specs.Delivering.{serves}
use Rattle.world.specs.Ready.{serves_if}
use Rattle.world.proofs.Standing.{leads-nothing, leads-is}
use Rattle.world.proofs.Composing.{leads-unless_over}
use Rattle.world.proofs.Turns.{if-over}
use Rattle.world.proofs.live.Live.serve_if.Goals as goal

pub returns-then-is_over : goal.returns-then-is_over
returns-then-is_over g c = if-over c.args.line c.args.holder (sym c.is_over.ensures ∙ c.if-is_over.true)

pub serve-requires-clause-goes : goal.serve-requires-clause-goes
serve-requires-clause-goes g c = sym c.is_over.ensures ∙ c.if-is_over.false

pub returns-in-None : goal.returns-in-None
returns-in-None g c = leads-is (ap (serves_if c.args.line) (sym c.in-None.is)) leads-nothing

pub returns-in-Some : goal.returns-in-Some
returns-in-Some g c = leads-is (ap (serves_if c.args.line) (sym c.in-Some.is))
    (leads-unless_over (serves c.args.line c.in-Some.holder) (sym c.is_over.ensures ∙ c.if-is_over.false) c.serve.ensures)
