-- Each call is served by the function of its row, whose clause is that row's.
use Rattle.std.proofs.Common.{◌≡◌, ℕ, ℤ, None, refl, sym, ap, ◌∙◌, subst}
use Rattle.std.proofs.lemmas.Int.{to_z-of_z}
use mir.Syntax.{w32, w64}
use mir.Val.{SFits}
use Rattle.sd_base.specs.declared.actors.Who.{Who}
use Rattle.sd_base.specs.History.{History}
use Rattle.byte_memory.specs.Tested.{Memory}
use Rattle.checked_tree.specs.declared.kernel.KernelName.{KernelName}
use Rattle.checked_tree.specs.declared.kernel.KernelName.TheVariants as kernel
use Rattle.checked_tree.specs.declared.kernel.KernelCall.{KernelCall}
use Rattle.device_model.specs.Scripted.{Scripted}
use Rattle.update_tracker.specs.Tracking.{TrackedRows}
use Rattle.wrappers.specs.declared.call_out.CallOut.{CallOut}
use Rattle.wrappers.specs.declared.call_out.CallOut.TheVariants.{Said}
use Rattle.wrappers.specs.declared.call_out.Saying.TheVariants.{Print}
use Rattle.wrappers.specs.Served.{Served}
use Rattle.wrappers.specs.Rows as row
use Rattle.wrappers.specs.Rows.{row_of, port_by, count_at}
use Rattle.wrappers.specs.Serving.{ServesRow, ReadsRow, TakesAnswer, IsStop}
use Rattle.wrappers.proofs.Tracking.{serves_read, stops, stops_with, stops_after}
use Rattle.wrappers.proofs.serve.by_row.Goals as goal

-- the call of this name is served so
abbrev Serves : TrackedRows → Memory → Scripted → Who → KernelCall → ℤ → ℤ → ℤ → CallOut → TrackedRows → KernelName → Type 0
Serves old memory devices who call first second third out new name =
    ServesRow old who.owner (λ share h. row_of name share h memory devices who call first second third) out new

-- the call of this name takes an answer so
abbrev Takes : TrackedRows → Who → ℤ → Scripted → Scripted → KernelName → Type 0
Takes t who first old new name = TakesAnswer t (λ h. port_by name h who first) old new

pub returns-in-Kalloc-clause-serves : goal.returns-in-Kalloc-clause-serves
returns-in-Kalloc-clause-serves c =
    let served : ServesRow c.args.kernel.now c.args.who.owner (λ share h. row.kalloc h c.args.who.owner c.args.call.now.elem c.args.call.now.size (count_at c.args.call.now)) c.kalloc.result c.kalloc.new.kernel =
    subst (λ n. ServesRow c.args.kernel.now c.args.who.owner (λ share h. row.kalloc h c.args.who.owner c.args.call.now.elem c.args.call.now.size n) c.kalloc.result c.kalloc.new.kernel)
    (to_z-of_z w64 c.number_at.result (record { sfits = c.number_at.type_inv }) ∙ c.number_at.ensures) c.kalloc.ensures.serves in
    subst (Serves c.args.kernel.now c.args.memory.now c.args.devices.now c.args.who c.args.call.now c.args.first c.args.second c.args.third c.kalloc.result c.kalloc.new.kernel) (sym c.in-Kalloc.is) served

pub returns-in-Kalloc-clause-takes : goal.returns-in-Kalloc-clause-takes
returns-in-Kalloc-clause-takes c = subst (Takes c.args.kernel.now c.args.who c.args.first c.args.devices.now c.args.devices.now) (sym c.in-Kalloc.is) (λ h lawful proper stands. refl)

pub returns-in-Kalloc-clause-stopped : goal.returns-in-Kalloc-clause-stopped
returns-in-Kalloc-clause-stopped c = stops_with c.kalloc.result _ _ c.kalloc.ensures.stopped refl

pub returns-in-Kfree-clause-serves : goal.returns-in-Kfree-clause-serves
returns-in-Kfree-clause-serves c =
    let served : ServesRow c.args.kernel.now c.args.who.owner (λ share h. row.kfree h c.args.who.owner c.args.call.now.pointer.value) c.kfree.result c.kfree.new.kernel = c.kfree.ensures.serves in
    subst (Serves c.args.kernel.now c.args.memory.now c.args.devices.now c.args.who c.args.call.now c.args.first c.args.second c.args.third c.kfree.result c.kfree.new.kernel) (sym c.in-Kfree.is) served

pub returns-in-Kfree-clause-takes : goal.returns-in-Kfree-clause-takes
returns-in-Kfree-clause-takes c = subst (Takes c.args.kernel.now c.args.who c.args.first c.args.devices.now c.args.devices.now) (sym c.in-Kfree.is) (λ h lawful proper stands. refl)

pub returns-in-Kfree-clause-stopped : goal.returns-in-Kfree-clause-stopped
returns-in-Kfree-clause-stopped c = stops_with c.kfree.result _ _ c.kfree.ensures.stopped refl

pub returns-in-RequestLine-clause-serves : goal.returns-in-RequestLine-clause-serves
returns-in-RequestLine-clause-serves c =
    let fits-first : SFits w32 c.args.first = c.ranges.first in
    let served : ServesRow c.args.kernel.now c.args.who.owner (λ share h. row.request_line share h c.args.who.owner c.args.first c.args.call.now.function) c.request_line.result c.request_line.new.kernel = simp to_z-of_z at c.request_line.ensures.serves in
    subst (Serves c.args.kernel.now c.args.memory.now c.args.devices.now c.args.who c.args.call.now c.args.first c.args.second c.args.third c.request_line.result c.request_line.new.kernel) (sym c.in-RequestLine.is) served

pub returns-in-RequestLine-clause-takes : goal.returns-in-RequestLine-clause-takes
returns-in-RequestLine-clause-takes c = subst (Takes c.args.kernel.now c.args.who c.args.first c.args.devices.now c.args.devices.now) (sym c.in-RequestLine.is) (λ h lawful proper stands. refl)

pub returns-in-RequestLine-clause-stopped : goal.returns-in-RequestLine-clause-stopped
returns-in-RequestLine-clause-stopped c = stops_with c.request_line.result _ _ c.request_line.ensures.stopped refl

pub returns-in-FreeLine-clause-serves : goal.returns-in-FreeLine-clause-serves
returns-in-FreeLine-clause-serves c =
    let fits-first : SFits w32 c.args.first = c.ranges.first in
    let served : ServesRow c.args.kernel.now c.args.who.owner (λ share h. row.free_line h c.args.who.owner c.args.first) c.free_line.result c.free_line.new.kernel = simp to_z-of_z at c.free_line.ensures.serves in
    subst (Serves c.args.kernel.now c.args.memory.now c.args.devices.now c.args.who c.args.call.now c.args.first c.args.second c.args.third c.free_line.result c.free_line.new.kernel) (sym c.in-FreeLine.is) served

pub returns-in-FreeLine-clause-takes : goal.returns-in-FreeLine-clause-takes
returns-in-FreeLine-clause-takes c = subst (Takes c.args.kernel.now c.args.who c.args.first c.args.devices.now c.args.devices.now) (sym c.in-FreeLine.is) (λ h lawful proper stands. refl)

pub returns-in-FreeLine-clause-stopped : goal.returns-in-FreeLine-clause-stopped
returns-in-FreeLine-clause-stopped c = stops_with c.free_line.result _ _ c.free_line.ensures.stopped refl

pub returns-in-RequestPorts-clause-serves : goal.returns-in-RequestPorts-clause-serves
returns-in-RequestPorts-clause-serves c =
    let fits-first : SFits w32 c.args.first = c.ranges.first in
    let fits-second : SFits w32 c.args.second = c.ranges.second in
    let served : ServesRow c.args.kernel.now c.args.who.owner (λ share h. row.request_ports h c.args.who.owner c.args.first c.args.second) c.request_ports.result c.request_ports.new.kernel = simp to_z-of_z at c.request_ports.ensures.serves in
    subst (Serves c.args.kernel.now c.args.memory.now c.args.devices.now c.args.who c.args.call.now c.args.first c.args.second c.args.third c.request_ports.result c.request_ports.new.kernel) (sym c.in-RequestPorts.is) served

pub returns-in-RequestPorts-clause-takes : goal.returns-in-RequestPorts-clause-takes
returns-in-RequestPorts-clause-takes c = subst (Takes c.args.kernel.now c.args.who c.args.first c.args.devices.now c.args.devices.now) (sym c.in-RequestPorts.is) (λ h lawful proper stands. refl)

pub returns-in-RequestPorts-clause-stopped : goal.returns-in-RequestPorts-clause-stopped
returns-in-RequestPorts-clause-stopped c = stops_with c.request_ports.result _ _ c.request_ports.ensures.stopped refl

pub returns-in-ReleasePorts-clause-serves : goal.returns-in-ReleasePorts-clause-serves
returns-in-ReleasePorts-clause-serves c =
    let fits-first : SFits w32 c.args.first = c.ranges.first in
    let fits-second : SFits w32 c.args.second = c.ranges.second in
    let served : ServesRow c.args.kernel.now c.args.who.owner (λ share h. row.release_ports h c.args.who.owner c.args.first c.args.second) c.release_ports.result c.release_ports.new.kernel = simp to_z-of_z at c.release_ports.ensures.serves in
    subst (Serves c.args.kernel.now c.args.memory.now c.args.devices.now c.args.who c.args.call.now c.args.first c.args.second c.args.third c.release_ports.result c.release_ports.new.kernel) (sym c.in-ReleasePorts.is) served

pub returns-in-ReleasePorts-clause-takes : goal.returns-in-ReleasePorts-clause-takes
returns-in-ReleasePorts-clause-takes c = subst (Takes c.args.kernel.now c.args.who c.args.first c.args.devices.now c.args.devices.now) (sym c.in-ReleasePorts.is) (λ h lawful proper stands. refl)

pub returns-in-ReleasePorts-clause-stopped : goal.returns-in-ReleasePorts-clause-stopped
returns-in-ReleasePorts-clause-stopped c = stops_with c.release_ports.result _ _ c.release_ports.ensures.stopped refl

pub returns-in-AddDevice-clause-serves : goal.returns-in-AddDevice-clause-serves
returns-in-AddDevice-clause-serves c =
    let fits-first : SFits w32 c.args.first = c.ranges.first in
    let served : ServesRow c.args.kernel.now c.args.who.owner (λ share h. row.add_device h c.args.who.owner c.args.first) c.add_device.result c.add_device.new.kernel = simp to_z-of_z at c.add_device.ensures.serves in
    subst (Serves c.args.kernel.now c.args.memory.now c.args.devices.now c.args.who c.args.call.now c.args.first c.args.second c.args.third c.add_device.result c.add_device.new.kernel) (sym c.in-AddDevice.is) served

pub returns-in-AddDevice-clause-takes : goal.returns-in-AddDevice-clause-takes
returns-in-AddDevice-clause-takes c = subst (Takes c.args.kernel.now c.args.who c.args.first c.args.devices.now c.args.devices.now) (sym c.in-AddDevice.is) (λ h lawful proper stands. refl)

pub returns-in-AddDevice-clause-stopped : goal.returns-in-AddDevice-clause-stopped
returns-in-AddDevice-clause-stopped c = stops_with c.add_device.result _ _ c.add_device.ensures.stopped refl

pub returns-in-DelDevice-clause-serves : goal.returns-in-DelDevice-clause-serves
returns-in-DelDevice-clause-serves c =
    let fits-first : SFits w32 c.args.first = c.ranges.first in
    let served : ServesRow c.args.kernel.now c.args.who.owner (λ share h. row.del_device h c.args.who.owner c.args.first) c.del_device.result c.del_device.new.kernel = simp to_z-of_z at c.del_device.ensures.serves in
    subst (Serves c.args.kernel.now c.args.memory.now c.args.devices.now c.args.who c.args.call.now c.args.first c.args.second c.args.third c.del_device.result c.del_device.new.kernel) (sym c.in-DelDevice.is) served

pub returns-in-DelDevice-clause-takes : goal.returns-in-DelDevice-clause-takes
returns-in-DelDevice-clause-takes c = subst (Takes c.args.kernel.now c.args.who c.args.first c.args.devices.now c.args.devices.now) (sym c.in-DelDevice.is) (λ h lawful proper stands. refl)

pub returns-in-DelDevice-clause-stopped : goal.returns-in-DelDevice-clause-stopped
returns-in-DelDevice-clause-stopped c = stops_with c.del_device.result _ _ c.del_device.ensures.stopped refl

pub returns-in-SetParam-clause-serves : goal.returns-in-SetParam-clause-serves
returns-in-SetParam-clause-serves c =
    let fits-first : SFits w32 c.args.first = c.ranges.first in
    let fits-second : SFits w32 c.args.second = c.ranges.second in
    let served : ServesRow c.args.kernel.now c.args.who.owner (λ share h. row.set_param h c.args.who.owner c.args.first c.args.second) c.set_param.result c.set_param.new.kernel = simp to_z-of_z at c.set_param.ensures.serves in
    subst (Serves c.args.kernel.now c.args.memory.now c.args.devices.now c.args.who c.args.call.now c.args.first c.args.second c.args.third c.set_param.result c.set_param.new.kernel) (sym c.in-SetParam.is) served

pub returns-in-SetParam-clause-takes : goal.returns-in-SetParam-clause-takes
returns-in-SetParam-clause-takes c = subst (Takes c.args.kernel.now c.args.who c.args.first c.args.devices.now c.args.devices.now) (sym c.in-SetParam.is) (λ h lawful proper stands. refl)

pub returns-in-SetParam-clause-stopped : goal.returns-in-SetParam-clause-stopped
returns-in-SetParam-clause-stopped c = stops_with c.set_param.result _ _ c.set_param.ensures.stopped refl

pub returns-in-ClearParam-clause-serves : goal.returns-in-ClearParam-clause-serves
returns-in-ClearParam-clause-serves c =
    let fits-first : SFits w32 c.args.first = c.ranges.first in
    let served : ServesRow c.args.kernel.now c.args.who.owner (λ share h. row.clear_param h c.args.who.owner c.args.first) c.clear_param.result c.clear_param.new.kernel = simp to_z-of_z at c.clear_param.ensures.serves in
    subst (Serves c.args.kernel.now c.args.memory.now c.args.devices.now c.args.who c.args.call.now c.args.first c.args.second c.args.third c.clear_param.result c.clear_param.new.kernel) (sym c.in-ClearParam.is) served

pub returns-in-ClearParam-clause-takes : goal.returns-in-ClearParam-clause-takes
returns-in-ClearParam-clause-takes c = subst (Takes c.args.kernel.now c.args.who c.args.first c.args.devices.now c.args.devices.now) (sym c.in-ClearParam.is) (λ h lawful proper stands. refl)

pub returns-in-ClearParam-clause-stopped : goal.returns-in-ClearParam-clause-stopped
returns-in-ClearParam-clause-stopped c = stops_with c.clear_param.result _ _ c.clear_param.ensures.stopped refl

pub returns-in-SetTimer-clause-serves : goal.returns-in-SetTimer-clause-serves
returns-in-SetTimer-clause-serves c =
    let fits-first : SFits w32 c.args.first = c.ranges.first in
    let fits-second : SFits w32 c.args.second = c.ranges.second in
    let fits-third : SFits w32 c.args.third = c.ranges.third in
    let served : ServesRow c.args.kernel.now c.args.who.owner (λ share h. row.set_timer h c.args.who.owner c.args.first c.args.second c.args.call.now.function c.args.third) c.set_timer.result c.set_timer.new.kernel = simp to_z-of_z at c.set_timer.ensures.serves in
    subst (Serves c.args.kernel.now c.args.memory.now c.args.devices.now c.args.who c.args.call.now c.args.first c.args.second c.args.third c.set_timer.result c.set_timer.new.kernel) (sym c.in-SetTimer.is) served

pub returns-in-SetTimer-clause-takes : goal.returns-in-SetTimer-clause-takes
returns-in-SetTimer-clause-takes c = subst (Takes c.args.kernel.now c.args.who c.args.first c.args.devices.now c.args.devices.now) (sym c.in-SetTimer.is) (λ h lawful proper stands. refl)

pub returns-in-SetTimer-clause-stopped : goal.returns-in-SetTimer-clause-stopped
returns-in-SetTimer-clause-stopped c = stops_with c.set_timer.result _ _ c.set_timer.ensures.stopped refl

pub returns-in-DelTimer-clause-serves : goal.returns-in-DelTimer-clause-serves
returns-in-DelTimer-clause-serves c =
    let fits-first : SFits w32 c.args.first = c.ranges.first in
    let served : ServesRow c.args.kernel.now c.args.who.owner (λ share h. row.del_timer h c.args.who.owner c.args.first) c.del_timer.result c.del_timer.new.kernel = simp to_z-of_z at c.del_timer.ensures.serves in
    subst (Serves c.args.kernel.now c.args.memory.now c.args.devices.now c.args.who c.args.call.now c.args.first c.args.second c.args.third c.del_timer.result c.del_timer.new.kernel) (sym c.in-DelTimer.is) served

pub returns-in-DelTimer-clause-takes : goal.returns-in-DelTimer-clause-takes
returns-in-DelTimer-clause-takes c = subst (Takes c.args.kernel.now c.args.who c.args.first c.args.devices.now c.args.devices.now) (sym c.in-DelTimer.is) (λ h lawful proper stands. refl)

pub returns-in-DelTimer-clause-stopped : goal.returns-in-DelTimer-clause-stopped
returns-in-DelTimer-clause-stopped c = stops_with c.del_timer.result _ _ c.del_timer.ensures.stopped refl

pub returns-in-Lock-clause-serves : goal.returns-in-Lock-clause-serves
returns-in-Lock-clause-serves c =
    let fits-first : SFits w32 c.args.first = c.ranges.first in
    let served : ServesRow c.args.kernel.now c.args.who.owner (λ share h. row.lock h c.args.who c.args.first) c.lock.result c.lock.new.kernel = simp to_z-of_z at c.lock.ensures.serves in
    subst (Serves c.args.kernel.now c.args.memory.now c.args.devices.now c.args.who c.args.call.now c.args.first c.args.second c.args.third c.lock.result c.lock.new.kernel) (sym c.in-Lock.is) served

pub returns-in-Lock-clause-takes : goal.returns-in-Lock-clause-takes
returns-in-Lock-clause-takes c = subst (Takes c.args.kernel.now c.args.who c.args.first c.args.devices.now c.args.devices.now) (sym c.in-Lock.is) (λ h lawful proper stands. refl)

pub returns-in-Lock-clause-stopped : goal.returns-in-Lock-clause-stopped
returns-in-Lock-clause-stopped c = stops_with c.lock.result _ _ c.lock.ensures.stopped refl

pub returns-in-Unlock-clause-serves : goal.returns-in-Unlock-clause-serves
returns-in-Unlock-clause-serves c =
    let fits-first : SFits w32 c.args.first = c.ranges.first in
    let served : ServesRow c.args.kernel.now c.args.who.owner (λ share h. row.unlock h c.args.who c.args.first) c.unlock.result c.unlock.new.kernel = simp to_z-of_z at c.unlock.ensures.serves in
    subst (Serves c.args.kernel.now c.args.memory.now c.args.devices.now c.args.who c.args.call.now c.args.first c.args.second c.args.third c.unlock.result c.unlock.new.kernel) (sym c.in-Unlock.is) served

pub returns-in-Unlock-clause-takes : goal.returns-in-Unlock-clause-takes
returns-in-Unlock-clause-takes c = subst (Takes c.args.kernel.now c.args.who c.args.first c.args.devices.now c.args.devices.now) (sym c.in-Unlock.is) (λ h lawful proper stands. refl)

pub returns-in-Unlock-clause-stopped : goal.returns-in-Unlock-clause-stopped
returns-in-Unlock-clause-stopped c = stops_with c.unlock.result _ _ c.unlock.ensures.stopped refl

pub returns-in-Mask-clause-serves : goal.returns-in-Mask-clause-serves
returns-in-Mask-clause-serves c =
    let served : ServesRow c.args.kernel.now c.args.who.owner (λ share h. row.mask h c.args.who) c.mask.result c.mask.new.kernel = c.mask.ensures.serves in
    subst (Serves c.args.kernel.now c.args.memory.now c.args.devices.now c.args.who c.args.call.now c.args.first c.args.second c.args.third c.mask.result c.mask.new.kernel) (sym c.in-Mask.is) served

pub returns-in-Mask-clause-takes : goal.returns-in-Mask-clause-takes
returns-in-Mask-clause-takes c = subst (Takes c.args.kernel.now c.args.who c.args.first c.args.devices.now c.args.devices.now) (sym c.in-Mask.is) (λ h lawful proper stands. refl)

pub returns-in-Mask-clause-stopped : goal.returns-in-Mask-clause-stopped
returns-in-Mask-clause-stopped c = stops_with c.mask.result _ _ c.mask.ensures.stopped refl

pub returns-in-Unmask-clause-serves : goal.returns-in-Unmask-clause-serves
returns-in-Unmask-clause-serves c =
    let served : ServesRow c.args.kernel.now c.args.who.owner (λ share h. row.unmask h c.args.who) c.unmask.result c.unmask.new.kernel = c.unmask.ensures.serves in
    subst (Serves c.args.kernel.now c.args.memory.now c.args.devices.now c.args.who c.args.call.now c.args.first c.args.second c.args.third c.unmask.result c.unmask.new.kernel) (sym c.in-Unmask.is) served

pub returns-in-Unmask-clause-takes : goal.returns-in-Unmask-clause-takes
returns-in-Unmask-clause-takes c = subst (Takes c.args.kernel.now c.args.who c.args.first c.args.devices.now c.args.devices.now) (sym c.in-Unmask.is) (λ h lawful proper stands. refl)

pub returns-in-Unmask-clause-stopped : goal.returns-in-Unmask-clause-stopped
returns-in-Unmask-clause-stopped c = stops_with c.unmask.result _ _ c.unmask.ensures.stopped refl

pub returns-in-Hold-clause-serves : goal.returns-in-Hold-clause-serves
returns-in-Hold-clause-serves c =
    let fits-first : SFits w32 c.args.first = c.ranges.first in
    let served : ServesRow c.args.kernel.now c.args.who.owner (λ share h. row.hold h c.args.who.owner c.args.first) c.hold.result c.hold.new.kernel = simp to_z-of_z at c.hold.ensures.serves in
    subst (Serves c.args.kernel.now c.args.memory.now c.args.devices.now c.args.who c.args.call.now c.args.first c.args.second c.args.third c.hold.result c.hold.new.kernel) (sym c.in-Hold.is) served

pub returns-in-Hold-clause-takes : goal.returns-in-Hold-clause-takes
returns-in-Hold-clause-takes c = subst (Takes c.args.kernel.now c.args.who c.args.first c.args.devices.now c.args.devices.now) (sym c.in-Hold.is) (λ h lawful proper stands. refl)

pub returns-in-Hold-clause-stopped : goal.returns-in-Hold-clause-stopped
returns-in-Hold-clause-stopped c = stops_with c.hold.result _ _ c.hold.ensures.stopped refl

pub returns-in-DropHold-clause-serves : goal.returns-in-DropHold-clause-serves
returns-in-DropHold-clause-serves c =
    let fits-first : SFits w32 c.args.first = c.ranges.first in
    let served : ServesRow c.args.kernel.now c.args.who.owner (λ share h. row.drop_hold h c.args.who.owner c.args.first) c.drop_hold.result c.drop_hold.new.kernel = simp to_z-of_z at c.drop_hold.ensures.serves in
    subst (Serves c.args.kernel.now c.args.memory.now c.args.devices.now c.args.who c.args.call.now c.args.first c.args.second c.args.third c.drop_hold.result c.drop_hold.new.kernel) (sym c.in-DropHold.is) served

pub returns-in-DropHold-clause-takes : goal.returns-in-DropHold-clause-takes
returns-in-DropHold-clause-takes c = subst (Takes c.args.kernel.now c.args.who c.args.first c.args.devices.now c.args.devices.now) (sym c.in-DropHold.is) (λ h lawful proper stands. refl)

pub returns-in-DropHold-clause-stopped : goal.returns-in-DropHold-clause-stopped
returns-in-DropHold-clause-stopped c = stops_with c.drop_hold.result _ _ c.drop_hold.ensures.stopped refl

pub returns-in-QueueWork-clause-serves : goal.returns-in-QueueWork-clause-serves
returns-in-QueueWork-clause-serves c =
    let fits-first : SFits w32 c.args.first = c.ranges.first in
    let served : ServesRow c.args.kernel.now c.args.who.owner (λ share h. row.queue_work h c.args.who.owner c.args.call.now.function c.args.first) c.queue_work.result c.queue_work.new.kernel = simp to_z-of_z at c.queue_work.ensures.serves in
    subst (Serves c.args.kernel.now c.args.memory.now c.args.devices.now c.args.who c.args.call.now c.args.first c.args.second c.args.third c.queue_work.result c.queue_work.new.kernel) (sym c.in-QueueWork.is) served

pub returns-in-QueueWork-clause-takes : goal.returns-in-QueueWork-clause-takes
returns-in-QueueWork-clause-takes c = subst (Takes c.args.kernel.now c.args.who c.args.first c.args.devices.now c.args.devices.now) (sym c.in-QueueWork.is) (λ h lawful proper stands. refl)

pub returns-in-QueueWork-clause-stopped : goal.returns-in-QueueWork-clause-stopped
returns-in-QueueWork-clause-stopped c = stops_with c.queue_work.result _ _ c.queue_work.ensures.stopped refl

pub returns-in-Printd-clause-serves : goal.returns-in-Printd-clause-serves
returns-in-Printd-clause-serves c =
    let fits-first : SFits w32 c.args.first = c.ranges.first in
    subst (Serves c.args.kernel.now c.args.memory.now c.args.devices.now c.args.who c.args.call.now c.args.first c.args.second c.args.third _ c.args.kernel.now) (sym c.in-Printd.is)
    (serves_read c.args.kernel.now c.args.who.owner (λ h. row.printd c.args.first) _
    (λ h lawful proper stands. record { answer = ap (λ z. Said (Print z)) (to_z-of_z w32 c.args.first fits-first); quiet = refl }))

pub returns-in-Printd-clause-takes : goal.returns-in-Printd-clause-takes
returns-in-Printd-clause-takes c = subst (Takes c.args.kernel.now c.args.who c.args.first c.args.devices.now c.args.devices.now) (sym c.in-Printd.is) (λ h lawful proper stands. refl)

pub returns-in-Prints-clause-serves : goal.returns-in-Prints-clause-serves
returns-in-Prints-clause-serves c =
    subst (Serves c.args.kernel.now c.args.memory.now c.args.devices.now c.args.who c.args.call.now c.args.first c.args.second c.args.third c.prints.result c.args.kernel.now) (sym c.in-Prints.is)
    (serves_read c.args.kernel.now c.args.who.owner (λ h. row.prints c.args.memory.now c.args.call.now.pointer.value) c.prints.result (λ h lawful proper stands. c.prints.ensures))

pub returns-in-Prints-clause-takes : goal.returns-in-Prints-clause-takes
returns-in-Prints-clause-takes c = subst (Takes c.args.kernel.now c.args.who c.args.first c.args.devices.now c.args.devices.now) (sym c.in-Prints.is) (λ h lawful proper stands. refl)

pub returns-in-Prints-clause-stopped : goal.returns-in-Prints-clause-stopped
returns-in-Prints-clause-stopped c = stops c.prints.result _ (refl, refl)

pub returns-in-GetParam-clause-serves : goal.returns-in-GetParam-clause-serves
returns-in-GetParam-clause-serves c =
    let fits-first : SFits w32 c.args.first = c.ranges.first in
    let read : ReadsRow c.args.kernel.now (λ h. row.get_param h c.args.first) c.get_param.result = simp to_z-of_z at c.get_param.ensures in
    subst (Serves c.args.kernel.now c.args.memory.now c.args.devices.now c.args.who c.args.call.now c.args.first c.args.second c.args.third c.get_param.result c.args.kernel.now) (sym c.in-GetParam.is)
    (serves_read c.args.kernel.now c.args.who.owner (λ h. row.get_param h c.args.first) c.get_param.result read)

pub returns-in-GetParam-clause-takes : goal.returns-in-GetParam-clause-takes
returns-in-GetParam-clause-takes c = subst (Takes c.args.kernel.now c.args.who c.args.first c.args.devices.now c.args.devices.now) (sym c.in-GetParam.is) (λ h lawful proper stands. refl)

pub returns-in-GetParam-clause-stopped : goal.returns-in-GetParam-clause-stopped
returns-in-GetParam-clause-stopped c = stops c.get_param.result _ (refl, refl)

pub returns-in-Now-clause-serves : goal.returns-in-Now-clause-serves
returns-in-Now-clause-serves c =
    let read : ReadsRow c.args.kernel.now (λ h. row.now h) c.now.result = c.now.ensures in
    subst (Serves c.args.kernel.now c.args.memory.now c.args.devices.now c.args.who c.args.call.now c.args.first c.args.second c.args.third c.now.result c.args.kernel.now) (sym c.in-Now.is)
    (serves_read c.args.kernel.now c.args.who.owner (λ h. row.now h) c.now.result read)

pub returns-in-Now-clause-takes : goal.returns-in-Now-clause-takes
returns-in-Now-clause-takes c = subst (Takes c.args.kernel.now c.args.who c.args.first c.args.devices.now c.args.devices.now) (sym c.in-Now.is) (λ h lawful proper stands. refl)

pub returns-in-Now-clause-stopped : goal.returns-in-Now-clause-stopped
returns-in-Now-clause-stopped c = stops c.now.result _ (refl, refl)

pub returns-in-PortIn-clause-serves : goal.returns-in-PortIn-clause-serves
returns-in-PortIn-clause-serves c =
    let fits-first : SFits w32 c.args.first = c.ranges.first in
    let read : ReadsRow c.args.kernel.now (λ h. row.port_in h c.args.devices.now c.args.who.owner c.args.first) c.port_in.result = simp to_z-of_z at c.port_in.ensures.reads in
    subst (Serves c.args.kernel.now c.args.memory.now c.args.devices.now c.args.who c.args.call.now c.args.first c.args.second c.args.third c.port_in.result c.args.kernel.now) (sym c.in-PortIn.is)
    (serves_read c.args.kernel.now c.args.who.owner (λ h. row.port_in h c.args.devices.now c.args.who.owner c.args.first) c.port_in.result read)

pub returns-in-PortIn-clause-takes : goal.returns-in-PortIn-clause-takes
returns-in-PortIn-clause-takes c =
    let fits-first : SFits w32 c.args.first = c.ranges.first in
    let taken : TakesAnswer c.args.kernel.now (λ h. row.port_of h c.args.who.owner c.args.first) c.args.devices.now c.port_in.new.devices = simp to_z-of_z at c.port_in.ensures.devices in
    subst (Takes c.args.kernel.now c.args.who c.args.first c.args.devices.now c.port_in.new.devices) (sym c.in-PortIn.is) taken

pub returns-in-PortIn-clause-stopped : goal.returns-in-PortIn-clause-stopped
returns-in-PortIn-clause-stopped c = stops_after c.port_in.result _ _ refl c.port_in.ensures.stopped

pub returns-in-PortOut-clause-serves : goal.returns-in-PortOut-clause-serves
returns-in-PortOut-clause-serves c =
    let fits-first : SFits w32 c.args.first = c.ranges.first in
    let fits-second : SFits w32 c.args.second = c.ranges.second in
    let read : ReadsRow c.args.kernel.now (λ h. row.port_out h c.args.who.owner c.args.first c.args.second) c.port_out.result = simp to_z-of_z at c.port_out.ensures.reads in
    subst (Serves c.args.kernel.now c.args.memory.now c.args.devices.now c.args.who c.args.call.now c.args.first c.args.second c.args.third c.port_out.result c.args.kernel.now) (sym c.in-PortOut.is)
    (serves_read c.args.kernel.now c.args.who.owner (λ h. row.port_out h c.args.who.owner c.args.first c.args.second) c.port_out.result read)

pub returns-in-PortOut-clause-takes : goal.returns-in-PortOut-clause-takes
returns-in-PortOut-clause-takes c = subst (Takes c.args.kernel.now c.args.who c.args.first c.args.devices.now c.port_out.new.devices) (sym c.in-PortOut.is) (λ h lawful proper stands. c.port_out.ensures.devices)

pub returns-in-PortOut-clause-stopped : goal.returns-in-PortOut-clause-stopped
returns-in-PortOut-clause-stopped c = stops c.port_out.result _ (refl, c.port_out.ensures.devices)
