use Rattle.std.proofs.Common.{◌≡◌, List, subst}
use Rattle.std.proofs.lemmas.Int.{to_z-of_z}
use mir.Syntax.{w32}
use mir.Val.{SFits}
use Rattle.sd_base.specs.History.{timer_key}
use Rattle.sd_base.specs.Part.{Loses}
use Rattle.timer_table.specs.declared.fired.Fired.{Fired}
use Rattle.timer_table.specs.Table.{HoldsTimers, without_timer}
use Rattle.timer_table.proofs.Live.{loses_timer}
use Rattle.timer_table.proofs.timers.Timers.remove_timer.Goals as goal

pub returns-clause-removed : goal.returns-clause-removed
returns-clause-removed g c =
    let fits : SFits w32 c.args.id = c.ranges.id in
    let gone : c.take_out.new.rows ≡ without_timer c.args.owner c.args.id c.self.inside.rows = simp to_z-of_z at c.take_out.ensures.gone in
    subst (λ (rows : List Fired). Loses HoldsTimers rows c.args.owner (timer_key c.args.id) c.take_out.new.rows) c.self.view_is
    (loses_timer c.self.inside.rows c.take_out.new.rows c.args.owner c.args.id gone)
