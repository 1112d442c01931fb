use Rattle.std.proofs.Common.{◌≡◌, List, sym, ◌∙◌, ap, subst, cond, true, false, Some, None}
use Rattle.std.proofs.lemmas.Int.{to_z-of_z}
use Rattle.std.specs.List.{list_any}
use mir.Syntax.{w32}
use mir.Val.{SFits}
use Rattle.sd_base.specs.declared.history.Refusal.TheVariants.{Bad}
use Rattle.sd_base.specs.declared.history.Update.TheVariants.{DelTimer, Fired as Fires}
use Rattle.sd_base.specs.Part.{Serves}
use Rattle.sd_base.proofs.Removal.{without_first-none}
use Rattle.timer_table.specs.declared.fired.Fired.{Fired}
use Rattle.timer_table.specs.Order.{is_timer}
use Rattle.timer_table.specs.Table.{HoldsTimers, del_refusal, without_timer}
use Rattle.timer_table.proofs.Live.{serves_stop, serves_fire}
use Rattle.timer_table.proofs.timers.Timers.del_timer.Goals as goal

pub returns-then-not-take_out-clause-serves_stop : goal.returns-then-not-take_out-clause-serves_stop
returns-then-not-take_out-clause-serves_stop c =
    let fits : SFits w32 c.args.id = c.ranges.id in
    let there : false ≡ list_any (is_timer c.args.owner c.args.id) c.self.inside.rows = simp to_z-of_z at c.if-not-take_out.ensures.there in
    let is : Some Bad ≡ del_refusal c.self.inside.rows c.args.owner c.args.id = ap (λ b. cond b None (Some Bad)) there in
    subst (λ (rows : List Fired). Serves HoldsTimers rows c.args.owner (DelTimer c.args.id) (Some Bad) c.take_out.new.rows) c.self.view_is
    (serves_stop c.self.inside.rows c.take_out.new.rows c.args.owner c.args.id (Some Bad) is (λ ok. cc))

pub returns-then-not-take_out-clause-serves_fire : goal.returns-then-not-take_out-clause-serves_fire
returns-then-not-take_out-clause-serves_fire c =
    let fits : SFits w32 c.args.id = c.ranges.id in
    let there : false ≡ list_any (is_timer c.args.owner c.args.id) c.self.inside.rows = simp to_z-of_z at c.if-not-take_out.ensures.there in
    let is : Some Bad ≡ del_refusal c.self.inside.rows c.args.owner c.args.id = ap (λ b. cond b None (Some Bad)) there in
    subst (λ (rows : List Fired). Serves HoldsTimers rows c.args.owner (Fires c.args.id) (Some Bad) c.take_out.new.rows) c.self.view_is
    (serves_fire c.self.inside.rows c.take_out.new.rows c.args.owner c.args.id (Some Bad) is (λ ok. cc))

pub returns-then-not-take_out-clause-err : goal.returns-then-not-take_out-clause-err
returns-then-not-take_out-clause-err c =
    let fits : SFits w32 c.args.id = c.ranges.id in
    let there : false ≡ list_any (is_timer c.args.owner c.args.id) c.self.inside.rows = simp to_z-of_z at c.if-not-take_out.ensures.there in
    let gone : c.take_out.new.rows ≡ without_timer c.args.owner c.args.id c.self.inside.rows = simp to_z-of_z at c.take_out.ensures.gone in
    gone ∙ without_first-none (is_timer c.args.owner c.args.id) c.self.inside.rows (sym there) ∙ c.self.view_is

pub returns-clause-serves_stop : goal.returns-clause-serves_stop
returns-clause-serves_stop c =
    let fits : SFits w32 c.args.id = c.ranges.id in
    let there : true ≡ list_any (is_timer c.args.owner c.args.id) c.self.inside.rows = simp to_z-of_z at c.if-not-take_out.ensures.there in
    let gone : c.take_out.new.rows ≡ without_timer c.args.owner c.args.id c.self.inside.rows = simp to_z-of_z at c.take_out.ensures.gone in
    let is : None ≡ del_refusal c.self.inside.rows c.args.owner c.args.id = ap (λ b. cond b None (Some Bad)) there in
    subst (λ (rows : List Fired). Serves HoldsTimers rows c.args.owner (DelTimer c.args.id) None c.take_out.new.rows) c.self.view_is
    (serves_stop c.self.inside.rows c.take_out.new.rows c.args.owner c.args.id None is (λ _. gone))

pub returns-clause-serves_fire : goal.returns-clause-serves_fire
returns-clause-serves_fire c =
    let fits : SFits w32 c.args.id = c.ranges.id in
    let there : true ≡ list_any (is_timer c.args.owner c.args.id) c.self.inside.rows = simp to_z-of_z at c.if-not-take_out.ensures.there in
    let gone : c.take_out.new.rows ≡ without_timer c.args.owner c.args.id c.self.inside.rows = simp to_z-of_z at c.take_out.ensures.gone in
    let is : None ≡ del_refusal c.self.inside.rows c.args.owner c.args.id = ap (λ b. cond b None (Some Bad)) there in
    subst (λ (rows : List Fired). Serves HoldsTimers rows c.args.owner (Fires c.args.id) None c.take_out.new.rows) c.self.view_is
    (serves_fire c.self.inside.rows c.take_out.new.rows c.args.owner c.args.id None is (λ _. gone))
