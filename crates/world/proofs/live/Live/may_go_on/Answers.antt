use Rattle.std.proofs.Common.{sym, ap, ◌∙◌, is_some}
use Rattle.world.proofs.Turns.{stays-over, stays-blocked, goes-live}
use Rattle.world.proofs.live.Live.may_go_on.Goals as goal

pub returns-then-is_over : goal.returns-then-is_over
returns-then-is_over c = stays-over c.args.self.now c.args.task (sym c.is_over.ensures ∙ c.if-is_over.true)

pub returns-then-self : goal.returns-then-self
returns-then-self c = stays-blocked c.args.self.now c.args.task c.if-self.true

pub returns : goal.returns
returns c = goes-live c.args.self.now c.args.task c.is_some.result (sym c.is_over.ensures ∙ c.if-is_over.false) c.if-self.false
    (c.is_some.ensures ∙ ap is_some c.live.ensures)
