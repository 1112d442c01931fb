use Rattle.std.proofs.Common.{get_or, None, sym, ap, ◌∙◌}
use Rattle.sd_base.proofs.Numbered.{number_is_cast, number_none_cast}
use Rattle.share_table.specs.Locks.{lock_at}
use Rattle.share_table.proofs.Calls.{no_lock, the_lock}
use Rattle.share_table.proofs.locks.Locks.holder.Goals as goal

pub returns-in_default : goal.returns-in_default
returns-in_default c =
    sym (ap (λ l. lock_at l c.args.k) (sym c.self.view_is)
    ∙ no_lock c.self.inside.holders c.args.k c.self.invariant (number_none_cast 64 c.args.k c.ranges.k c.in_default.ensures))

pub returns : goal.returns
returns c =
    let at = number_is_cast 64 c.args.k c.in-Some.place c.ranges.k c.in-Some.ensures in
    ap (λ n. get_or c.self.inside.holders n None) c.from.ensures ∙ the_lock c.self.inside.holders c.in-Some.place c.args.k at.0 ∙ ap (λ l. lock_at l c.args.k) c.self.view_is
