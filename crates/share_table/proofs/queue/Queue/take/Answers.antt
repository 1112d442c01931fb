use Rattle.std.proofs.Common.{sym, subst}
use Rattle.circular_buffer.specs.Buffer.{Buffer}
use Rattle.share_table.specs.declared.queue.Work.{Work}
use Rattle.share_table.specs.Queue.{IsQueue}
use Rattle.share_table.proofs.Turns.{IsQueue-pop}
use Rattle.share_table.proofs.queue.Queue.take.Goals as goal

pub invariant_of-self : goal.invariant_of-self
invariant_of-self c = subst (λ (b : Buffer Work). IsQueue b.items b.capacity) (sym c.pop_front.ensures.items) (IsQueue-pop c.self.inside.items.items c.self.inside.items.capacity c.self.invariant)
