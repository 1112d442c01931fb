use Rattle.std.proofs.Common.{◌≡◌, sym, subst, false}
use Rattle.std.specs.Prelude.{MatchOption}
use Rattle.std.specs.List.{list_any}
use Rattle.timer_table.specs.Order.{is_due}
use Rattle.timer_table.specs.Table.{IsNext}
use Rattle.timer_table.proofs.Firing.{next-is}
use Rattle.timer_table.proofs.timers.Timers.next_due.Goals as goal

pub returns-clause-next : goal.returns-clause-next
returns-clause-next c =
    rw (← c.self.view_is) (subst (λ r. MatchOption r (list_any (is_due c.args.now) c.self.inside.rows ≡ false) (IsNext c.args.now c.self.inside.rows)) (sym c.next.ensures) (next-is c.args.now c.self.inside.rows))
