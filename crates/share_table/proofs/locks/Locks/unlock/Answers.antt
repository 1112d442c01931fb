use Rattle.std.proofs.Common.{◌≡◌, ℕ, sym, subst, get_or, None, false}
use Rattle.sd_base.specs.Selection.{passes}
use Rattle.share_table.specs.Locks.{is_who}
use Rattle.sd_base.proofs.Numbered.{number_is_cast}
use Rattle.share_table.proofs.Calls.{unlock_unheld_at, unlock_done_at}
use Rattle.share_table.proofs.locks.Locks.unlock.Goals as goal

pub returns-then-not-is_held_by-clause-serves : goal.returns-then-not-is_held_by-clause-serves
returns-then-not-is_held_by-clause-serves c =
    let at = number_is_cast 64 c.args.k c.in-Some.place c.ranges.k c.in-Some.ensures in
    unlock_unheld_at c.args.self.now c.self.inside.holders c.args.who c.in-Some.place c.args.k c.self.view_is at.0 at.1
    (subst (λ (n : ℕ). passes (is_who c.args.who) (get_or c.self.inside.holders n None) ≡ false) c.from-place.ensures (sym c.if-not-is_held_by.ensures))

pub returns-clause-serves : goal.returns-clause-serves
returns-clause-serves c =
    let at = number_is_cast 64 c.args.k c.in-Some.place c.ranges.k c.in-Some.ensures in
    unlock_done_at c.args.self.now c.self.inside.holders c.args.who c.in-Some.place c.from-place.result c.args.k c.self.view_is at.0 at.1 c.from-place.ensures c.self.invariant (sym c.if-not-is_held_by.ensures)
