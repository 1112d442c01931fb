-- `work N`, `answer P V*`, and `kernel ..`.
-- Here: work, answer, kernel
use Rattle.std.specs.Prelude.{ℕ, Bool, true, false, not, ◌&&◌, List, [], ◌∷◌, take, drop, ℤ, pos, negsuc, Option, Some, None}
use Rattle.sd_base.specs.declared.history.Refusal.{Refusal}
use Rattle.sd_base.specs.declared.history.Refusal.TheVariants as refusal
use Rattle.sd_base.specs.declared.history.Update.{Update}
use Rattle.sd_base.specs.declared.history.Update.TheVariants as update
use Rattle.sd_base.specs.History.{History}
use Rattle.sd_base.specs.Allowed as allowed
use Rattle.share_table.specs.declared.queue.Work.{Work}
use Rattle.share_table.specs.Table.{queue_of}
use Rattle.device_model.specs.Scripted.{Scripted, with_answer}
use Rattle.run_report.specs.declared.item.Item.TheVariants as item
use Rattle.scenario.specs.declared.event.KernelEvent.{KernelEvent}
use Rattle.scenario.specs.declared.event.KernelEvent.TheVariants as event
use Rattle.world_core.specs.WorldState.{WorldState, is_over}
use Rattle.world_core.specs.Script.{Script, nothing, say, updates, on_devices, by_plan, by_history, while_at_most, ◌>>◌}
use Rattle.world_core.specs.Handling.{handles}
use Rattle.world_core.specs.Delivering.{deliver}

-- ---- `work N`

-- there is an item
abbrev pub is_item : List Work → Bool
is_item [] = false
is_item (w ∷ ws) = true

-- `work dK`: the front item is taken, and its handler runs with its argument; then delivery
unfoldable pub works : Work → Script
works w = updates w.owner update.Taken >> say (item.Work w.owner) >> handles w.owner w.handler w.arg >> deliver

abbrev pub works_front : List Work → Script
works_front [] = nothing
works_front (w ∷ ws) = works w

-- the run goes on, and there is work
abbrev pub has_work : WorldState → Bool
has_work s = not (is_over s.run) && is_item (queue_of s.history)

unfoldable pub works_one : Script
works_one = by_history (λ h. works_front (queue_of h))

-- `work N`: up to N times, while there is an item
unfoldable pub work : ℕ → Script
work n = while_at_most n has_work works_one

-- ---- `answer P V*`

-- the values are appended to the port's answers
abbrev pub answered : ℕ → List ℤ → Scripted → Scripted
answered port [] devices = devices
answered port (v ∷ vs) devices = answered port vs (with_answer port v devices)

-- `answer P V*`, whose values are n of the scenario's answers, from number `first` on
unfoldable pub answer : ℕ → ℕ → ℕ → Script
answer port first n = by_plan (λ plan. on_devices (answered port (take n (drop first plan.answers))))

-- ---- `kernel ..`

-- what the kernel itself asks for; a line of it has no handler
abbrev pub kernel_update : KernelEvent → Update
kernel_update (event.Line line) = update.Line line 0
kernel_update (event.FreeLine line) = update.FreeLine line
kernel_update (event.Param key value) = update.Param key value
kernel_update (event.ClearParam key) = update.ClearParam key
kernel_update (event.Hold domain) = update.Hold domain
kernel_update (event.DropHold domain) = update.DropHold domain
kernel_update (event.Lock lock) = update.Lock lock 0
kernel_update (event.Unlock lock) = update.Unlock lock 0

-- what is replied: 0 where it is done, -16 (EBUSY) where another holds it, -28 (ENOSPC) where the kernel has as many as it may, else -22
-- (EINVAL)
abbrev pub kernel_reply : Option Refusal → ℤ
kernel_reply None = pos 0
kernel_reply (Some refusal.Busy) = negsuc 15
kernel_reply (Some (refusal.HeldBy who)) = negsuc 15
kernel_reply (Some refusal.Full) = negsuc 27
kernel_reply (Some _) = negsuc 21

-- `kernel V`, the reply, and the update of owner 0, where it is allowed
unfoldable pub kernel : KernelEvent → Script
kernel e = by_plan (λ plan. by_history (λ h.
    updates 0 (kernel_update e) >> say (item.Reply (kernel_reply (allowed.refusal plan.share h 0 (kernel_update e))))))
