use Rattle.std.proofs.Common.{◌≡◌, ◌++◌, ◌∷◌, []}
use Rattle.std.proofs.lemmas.Int.{to_z-of_z}
use Rattle.std.specs.Prelude.{OnOk}
use mir.Syntax.{w32}
use mir.Val.{SFits}
use Rattle.share_table.proofs.Queued.{work_of}
use Rattle.share_table.proofs.Calls.{queue_call}
use Rattle.share_table.proofs.shares.Shares.queue_work.Goals as goal

pub returns-clause-serves : goal.returns-clause-serves
returns-clause-serves c =
    let fits : SFits w32 c.args.arg = c.ranges.arg in
    let put : OnOk c.put.result (c.put.new.self ≡ c.self.inside.work ++ work_of c.args.owner c.args.handler c.args.arg ∷ []) = simp to_z-of_z at c.put.ensures.ok in
    queue_call c.args.self.now c.self.inside.locks c.self.inside.masks c.self.inside.holds c.self.inside.work c.put.new.self c.args.owner c.args.handler c.args.arg c.put.result c.self.view_is c.put.ensures.answer put
