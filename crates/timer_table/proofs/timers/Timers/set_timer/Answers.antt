use Rattle.std.proofs.Common.{◌≡◌, List, subst, None, Result, Ok, Err}
use Rattle.std.proofs.lemmas.Int.{to_z-of_z}
use Rattle.std.specs.Prelude.{OnOk}
use mir.Syntax.{w32}
use mir.Val.{SFits}
use Rattle.sd_base.specs.declared.history.Update.TheVariants.{Timer}
use Rattle.sd_base.specs.Part.{Serves}
use Rattle.timer_table.specs.declared.fired.Fired.{Fired}
use Rattle.timer_table.specs.declared.refusal.TimerRefusal.{TimerRefusal}
use Rattle.timer_table.specs.Table.{HoldsTimers, refusal_of, set_refusal, with_timer}
use Rattle.timer_table.proofs.Live.{serves_set, row_of}
use Rattle.timer_table.proofs.timers.Timers.set_timer.Goals as goal

-- an accepted answer is an Ok
on_ok : (r : Result (Unit {0}) TimerRefusal) (P : Type 0) → OnOk r P → refusal_of r ≡ None → P
on_ok (Ok x) P h ok = h
on_ok (Err e) P h ok = cc

pub returns-clause-serves : goal.returns-clause-serves
returns-clause-serves c =
    let fits : SFits w32 c.args.id = c.ranges.id in
    let arg_fits : SFits w32 c.args.arg = c.ranges.arg in
    let row = row_of c.args.owner c.args.id c.args.due c.args.handler c.args.arg in
    let answer : refusal_of c.put.result ≡ set_refusal c.self.inside.rows c.args.owner c.args.id = simp to_z-of_z at c.put.ensures.answer in
    let set : OnOk c.put.result (c.put.new.rows ≡ with_timer row c.self.inside.rows) = simp to_z-of_z at c.put.ensures.set in
    subst (λ (rows : List Fired). Serves HoldsTimers rows c.args.owner (Timer c.args.id c.args.due c.args.handler c.args.arg) (refusal_of c.put.result) c.put.new.rows) c.self.view_is
    (serves_set c.self.inside.rows c.put.new.rows c.args.owner c.args.id c.args.due c.args.handler c.args.arg (refusal_of c.put.result) answer
    (λ ok. on_ok c.put.result (c.put.new.rows ≡ with_timer row c.self.inside.rows) set ok))
