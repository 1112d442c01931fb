use Rattle.std.proofs.Common.{cond, Some, None, refl, sym, subst, rules}
use Rattle.std.proofs.lemmas.Int.{to_z-of_z}
use mir.Syntax.{w32}
use mir.Val.{SFits}
use Rattle.sd_base.specs.declared.history.Refusal.TheVariants.{Unheld}
use Rattle.sd_base.specs.declared.history.Update.TheVariants.{Line, FreeLine, DropPorts, DelDevice, Param, ClearParam, Timer, DelTimer, Fired, Unlock, Hold, DropHold, Taken, Unmask}
use Rattle.sd_base.specs.Part.{ServesAt, Serves}
use Rattle.claim_table.specs.ClaimPart.{HoldsClaims, refused_as}
use Rattle.share_table.specs.Answers.{refusal_of_share}
use Rattle.share_table.specs.Locks.{refusal_of_unlock}
use Rattle.share_table.specs.Table.{HoldsShares}
use Rattle.timer_table.specs.Table.{HoldsTimers, refusal_of}
use Rattle.update_tracker.specs.Answered.{refused, ServesKernel}
use Rattle.update_tracker.proofs.Serving.{claims_serve, timers_serve, shares_serve}
use Rattle.update_tracker.proofs.requests.ask.Goals as goal

pub returns-in-Line-clause-serves : goal.returns-in-Line-clause-serves
returns-in-Line-clause-serves c =
    let fits-line : SFits w32 c.in-Line.line = search rules in
    let served : ServesAt c.args.kernel.now.claims.share HoldsClaims c.args.kernel.now.claims c.args.owner (Line c.in-Line.line c.in-Line.handler) (refused_as c.claim_line.result) c.claim_line.new.self = simp to_z-of_z at c.claim_line.ensures.serves in
    subst (λ u. ServesKernel c.args.kernel.now c.args.owner u c.of_claim.result (record c.args.kernel.now { claims = c.claim_line.new.self })) (sym c.in-Line.is)
    (claims_serve c.args.kernel.now c.claim_line.new.self c.args.owner (Line c.in-Line.line c.in-Line.handler) (refused_as c.claim_line.result) c.of_claim.result (λ bs. refl) refl (refl, refl, refl, refl) (λ now. refl) (λ h. refl) c.of_claim.ensures served)

pub returns-in-FreeLine-clause-serves : goal.returns-in-FreeLine-clause-serves
returns-in-FreeLine-clause-serves c =
    let fits-line : SFits w32 c.in-FreeLine.line = search rules in
    let served : ServesAt c.args.kernel.now.claims.share HoldsClaims c.args.kernel.now.claims c.args.owner (FreeLine c.in-FreeLine.line) (refused_as c.free_line.result) c.free_line.new.self = simp to_z-of_z at c.free_line.ensures.serves in
    subst (λ u. ServesKernel c.args.kernel.now c.args.owner u c.of_claim-in-FreeLine.result (record c.args.kernel.now { claims = c.free_line.new.self })) (sym c.in-FreeLine.is)
    (claims_serve c.args.kernel.now c.free_line.new.self c.args.owner (FreeLine c.in-FreeLine.line) (refused_as c.free_line.result) c.of_claim-in-FreeLine.result (λ bs. refl) refl (refl, refl, refl, refl) (λ now. refl) (λ h. refl) c.of_claim-in-FreeLine.ensures served)

pub returns-in-DropPorts-clause-serves : goal.returns-in-DropPorts-clause-serves
returns-in-DropPorts-clause-serves c =
    let fits-base : SFits w32 c.in-DropPorts.base = search rules in
    let fits-n : SFits w32 c.in-DropPorts.n = search rules in
    let served : ServesAt c.args.kernel.now.claims.share HoldsClaims c.args.kernel.now.claims c.args.owner (DropPorts c.in-DropPorts.base c.in-DropPorts.n) (refused_as c.drop_ports.result) c.drop_ports.new.self = simp to_z-of_z at c.drop_ports.ensures.serves in
    subst (λ u. ServesKernel c.args.kernel.now c.args.owner u c.of_claim-in-DropPorts.result (record c.args.kernel.now { claims = c.drop_ports.new.self })) (sym c.in-DropPorts.is)
    (claims_serve c.args.kernel.now c.drop_ports.new.self c.args.owner (DropPorts c.in-DropPorts.base c.in-DropPorts.n) (refused_as c.drop_ports.result) c.of_claim-in-DropPorts.result (λ bs. refl) refl (refl, refl, refl, refl) (λ now. refl) (λ h. refl) c.of_claim-in-DropPorts.ensures served)

pub returns-in-DelDevice-clause-serves : goal.returns-in-DelDevice-clause-serves
returns-in-DelDevice-clause-serves c =
    let fits-id : SFits w32 c.in-DelDevice.id = search rules in
    let served : ServesAt c.args.kernel.now.claims.share HoldsClaims c.args.kernel.now.claims c.args.owner (DelDevice c.in-DelDevice.id) (refused_as c.del_device.result) c.del_device.new.self = simp to_z-of_z at c.del_device.ensures.serves in
    subst (λ u. ServesKernel c.args.kernel.now c.args.owner u c.of_claim-in-DelDevice.result (record c.args.kernel.now { claims = c.del_device.new.self })) (sym c.in-DelDevice.is)
    (claims_serve c.args.kernel.now c.del_device.new.self c.args.owner (DelDevice c.in-DelDevice.id) (refused_as c.del_device.result) c.of_claim-in-DelDevice.result (λ bs. refl) refl (refl, refl, refl, refl) (λ now. refl) (λ h. refl) c.of_claim-in-DelDevice.ensures served)

pub returns-in-Param-clause-serves : goal.returns-in-Param-clause-serves
returns-in-Param-clause-serves c =
    let fits-key : SFits w32 c.in-Param.key = search rules in
    let fits-value : SFits w32 c.in-Param.value = search rules in
    let served : ServesAt c.args.kernel.now.claims.share HoldsClaims c.args.kernel.now.claims c.args.owner (Param c.in-Param.key c.in-Param.value) (refused_as c.set_param.result) c.set_param.new.self = simp to_z-of_z at c.set_param.ensures.serves in
    subst (λ u. ServesKernel c.args.kernel.now c.args.owner u c.of_claim-in-Param.result (record c.args.kernel.now { claims = c.set_param.new.self })) (sym c.in-Param.is)
    (claims_serve c.args.kernel.now c.set_param.new.self c.args.owner (Param c.in-Param.key c.in-Param.value) (refused_as c.set_param.result) c.of_claim-in-Param.result (λ bs. refl) refl (refl, refl, refl, refl) (λ now. refl) (λ h. refl) c.of_claim-in-Param.ensures served)

pub returns-in-ClearParam-clause-serves : goal.returns-in-ClearParam-clause-serves
returns-in-ClearParam-clause-serves c =
    let fits-key : SFits w32 c.in-ClearParam.key = search rules in
    let served : ServesAt c.args.kernel.now.claims.share HoldsClaims c.args.kernel.now.claims c.args.owner (ClearParam c.in-ClearParam.key) (refused_as c.clear_param.result) c.clear_param.new.self = simp to_z-of_z at c.clear_param.ensures.serves in
    subst (λ u. ServesKernel c.args.kernel.now c.args.owner u c.of_claim-in-ClearParam.result (record c.args.kernel.now { claims = c.clear_param.new.self })) (sym c.in-ClearParam.is)
    (claims_serve c.args.kernel.now c.clear_param.new.self c.args.owner (ClearParam c.in-ClearParam.key) (refused_as c.clear_param.result) c.of_claim-in-ClearParam.result (λ bs. refl) refl (refl, refl, refl, refl) (λ now. refl) (λ h. refl) c.of_claim-in-ClearParam.ensures served)

pub returns-in-Timer-clause-serves : goal.returns-in-Timer-clause-serves
returns-in-Timer-clause-serves c =
    let fits-id : SFits w32 c.in-Timer.id = search rules in
    let fits-arg : SFits w32 c.in-Timer.arg = search rules in
    let served : Serves HoldsTimers c.args.kernel.now.timers c.args.owner (Timer c.in-Timer.id c.in-Timer.due c.in-Timer.handler c.in-Timer.arg) (refusal_of c.set_timer.result) c.set_timer.new.self = simp to_z-of_z at c.set_timer.ensures.serves in
    subst (λ u. ServesKernel c.args.kernel.now c.args.owner u c.of_timer.result (record c.args.kernel.now { timers = c.set_timer.new.self })) (sym c.in-Timer.is)
    (timers_serve c.args.kernel.now c.set_timer.new.self c.args.owner (Timer c.in-Timer.id c.in-Timer.due c.in-Timer.handler c.in-Timer.arg) (refusal_of c.set_timer.result) c.of_timer.result (λ bs. refl) (refl, refl, refl, refl) (refl, refl, refl, refl) (λ now. refl) (λ h. refl) c.of_timer.ensures served)

pub returns-in-DelTimer-clause-serves : goal.returns-in-DelTimer-clause-serves
returns-in-DelTimer-clause-serves c =
    let fits-id : SFits w32 c.in-DelTimer.id = search rules in
    let served : Serves HoldsTimers c.args.kernel.now.timers c.args.owner (DelTimer c.in-DelTimer.id) (refusal_of c.del_timer.result) c.del_timer.new.self = simp to_z-of_z at c.del_timer.ensures.serves_stop in
    subst (λ u. ServesKernel c.args.kernel.now c.args.owner u c.of_timer-in-DelTimer.result (record c.args.kernel.now { timers = c.del_timer.new.self })) (sym c.in-DelTimer.is)
    (timers_serve c.args.kernel.now c.del_timer.new.self c.args.owner (DelTimer c.in-DelTimer.id) (refusal_of c.del_timer.result) c.of_timer-in-DelTimer.result (λ bs. refl) (refl, refl, refl, refl) (refl, refl, refl, refl) (λ now. refl) (λ h. refl) c.of_timer-in-DelTimer.ensures served)

pub returns-in-Fired-clause-serves : goal.returns-in-Fired-clause-serves
returns-in-Fired-clause-serves c =
    let fits-id : SFits w32 c.in-Fired.id = search rules in
    let served : Serves HoldsTimers c.args.kernel.now.timers c.args.owner (Fired c.in-Fired.id) (refusal_of c.del_timer-in-Fired.result) c.del_timer-in-Fired.new.self = simp to_z-of_z at c.del_timer-in-Fired.ensures.serves_fire in
    subst (λ u. ServesKernel c.args.kernel.now c.args.owner u c.of_timer-in-Fired.result (record c.args.kernel.now { timers = c.del_timer-in-Fired.new.self })) (sym c.in-Fired.is)
    (timers_serve c.args.kernel.now c.del_timer-in-Fired.new.self c.args.owner (Fired c.in-Fired.id) (refusal_of c.del_timer-in-Fired.result) c.of_timer-in-Fired.result (λ bs. refl) (refl, refl, refl, refl) (refl, refl, refl, refl) (λ now. refl) (λ h. refl) c.of_timer-in-Fired.ensures served)

pub returns-in-Unlock-clause-serves : goal.returns-in-Unlock-clause-serves
returns-in-Unlock-clause-serves c =
    let fits-lock : SFits w32 c.in-Unlock.lock = search rules in
    let served : Serves HoldsShares c.args.kernel.now.shares c.args.owner (Unlock c.in-Unlock.lock c.in-Unlock.task) (refusal_of_unlock c.unlock.result) c.unlock.new.self = simp to_z-of_z at c.unlock.ensures.serves in
    subst (λ u. ServesKernel c.args.kernel.now c.args.owner u c.of_unlock.result (record c.args.kernel.now { shares = c.unlock.new.self })) (sym c.in-Unlock.is)
    (shares_serve c.args.kernel.now c.unlock.new.self c.args.owner (Unlock c.in-Unlock.lock c.in-Unlock.task) (refusal_of_unlock c.unlock.result) c.of_unlock.result (λ bs. refl) (refl, refl, refl, refl) refl (λ now. refl) (λ h. refl) c.of_unlock.ensures served)

pub returns-in-Hold-clause-serves : goal.returns-in-Hold-clause-serves
returns-in-Hold-clause-serves c =
    let fits-domain : SFits w32 c.in-Hold.domain = search rules in
    let served : Serves HoldsShares c.args.kernel.now.shares c.args.owner (Hold c.in-Hold.domain) (refusal_of_share c.hold.result) c.hold.new.self = simp to_z-of_z at c.hold.ensures.serves in
    subst (λ u. ServesKernel c.args.kernel.now c.args.owner u c.of_share.result (record c.args.kernel.now { shares = c.hold.new.self })) (sym c.in-Hold.is)
    (shares_serve c.args.kernel.now c.hold.new.self c.args.owner (Hold c.in-Hold.domain) (refusal_of_share c.hold.result) c.of_share.result (λ bs. refl) (refl, refl, refl, refl) refl (λ now. refl) (λ h. refl) c.of_share.ensures served)

pub returns-in-DropHold-clause-serves : goal.returns-in-DropHold-clause-serves
returns-in-DropHold-clause-serves c =
    let fits-domain : SFits w32 c.in-DropHold.domain = search rules in
    let served : Serves HoldsShares c.args.kernel.now.shares c.args.owner (DropHold c.in-DropHold.domain) (refusal_of_share c.drop_hold.result) c.drop_hold.new.self = simp to_z-of_z at c.drop_hold.ensures.serves in
    subst (λ u. ServesKernel c.args.kernel.now c.args.owner u c.of_share-in-DropHold.result (record c.args.kernel.now { shares = c.drop_hold.new.self })) (sym c.in-DropHold.is)
    (shares_serve c.args.kernel.now c.drop_hold.new.self c.args.owner (DropHold c.in-DropHold.domain) (refusal_of_share c.drop_hold.result) c.of_share-in-DropHold.result (λ bs. refl) (refl, refl, refl, refl) refl (λ now. refl) (λ h. refl) c.of_share-in-DropHold.ensures served)

pub returns-in-Taken-clause-serves : goal.returns-in-Taken-clause-serves
returns-in-Taken-clause-serves c =
    subst (λ u. ServesKernel c.args.kernel.now c.args.owner u c.take.result (record c.args.kernel.now { shares = c.take.new.shares })) (sym c.in-Taken.is)
    (shares_serve c.args.kernel.now c.take.new.shares c.args.owner Taken (refused c.take.result) c.take.result (λ bs. refl) (refl, refl, refl, refl) refl (λ now. refl) (λ h. refl) c.take.ensures.done c.take.ensures.serves)

pub returns-in-Unmask-clause-serves : goal.returns-in-Unmask-clause-serves
returns-in-Unmask-clause-serves c =
    subst (λ u. ServesKernel c.args.kernel.now c.args.owner u c.of_unmask.result (record c.args.kernel.now { shares = c.unmask.new.self })) (sym c.in-Unmask.is)
    (shares_serve c.args.kernel.now c.unmask.new.self c.args.owner (Unmask c.in-Unmask.task) (cond c.unmask.result None (Some Unheld)) c.of_unmask.result (λ bs. refl) (refl, refl, refl, refl) refl (λ now. refl) (λ h. refl) c.of_unmask.ensures c.unmask.ensures.serves)
