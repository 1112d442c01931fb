-- From the row of a call to the call, and a call that its row does not let a handler make.
use Rattle.std.proofs.Common.{◌≡◌, ℕ, ℤ, Bool, true, false, cond, eqb, Option, None, refl, sym, ap, ◌∙◌}
use Rattle.sd_base.specs.declared.actors.Who.{Who}
use Rattle.sd_base.specs.History.{History}
use Rattle.checked_tree.specs.declared.kernel.KernelName.{KernelName}
use Rattle.checked_tree.specs.declared.kernel.KernelName.TheVariants as kernel
use Rattle.checked_tree.specs.declared.kernel.KernelCall.{KernelCall}
use Rattle.checked_tree.specs.KernelTable.{kernel_row}
use Rattle.byte_memory.specs.Tested.{Memory}
use Rattle.device_model.specs.Scripted.{Scripted}
use Rattle.update_tracker.specs.Tracking.{TrackedRows}
use Rattle.sd_base.specs.declared.kinds.FailKind.TheVariants as fail
use Rattle.wrappers.specs.declared.call_out.CallOut.{CallOut}
use Rattle.wrappers.specs.Served.{fails}
use Rattle.wrappers.specs.Contexts.{may_call}
use Rattle.wrappers.specs.Rows.{row_of, int_at, served, port_by, port_taken, without_answer}
use Rattle.wrappers.specs.Serving.{ServesRow, ServesCall, TakesAnswer}
use Rattle.wrappers.proofs.Tracking.{serves_as}

always : (b : Bool) → cond b true true ≡ false → ⊥
always true h = cc
always false h = cc

-- takes no answer: a read of a port is for tasks and handlers alike
pub no_port_taken : (name : KernelName) (task : ℕ) (h : History) (who : Who) (a : ℤ) → may_call name task ≡ false → port_by name h who a ≡ None
unfolding kernel_row
no_port_taken kernel.PortIn task h who a refused = absurd (always (eqb task 0) refused)
no_port_taken _ task h who a refused = refl

pub refused_call : (share : ℕ) (h : History) (memory : Memory) (devices : Scripted) (who : Who) (call : KernelCall) → may_call call.name who.task ≡ false →
    served share h memory devices who call ≡ fails fail.Context
unfolding served
refused_call share h memory devices who call refused =
    ap (λ b. cond b (row_of call.name share h memory devices who call (int_at call 0) (int_at call 1) (int_at call 2)) (fails fail.Context)) refused

made_call : (share : ℕ) (h : History) (memory : Memory) (devices : Scripted) (who : Who) (call : KernelCall) → may_call call.name who.task ≡ true →
    row_of call.name share h memory devices who call (int_at call 0) (int_at call 1) (int_at call 2) ≡ served share h memory devices who call
unfolding served
made_call share h memory devices who call made =
    sym (ap (λ b. cond b (row_of call.name share h memory devices who call (int_at call 0) (int_at call 1) (int_at call 2)) (fails fail.Context)) made)

pub port_refused : (h : History) (who : Who) (call : KernelCall) → may_call call.name who.task ≡ false → port_taken h who call ≡ None
unfolding port_taken
port_refused h who call refused = no_port_taken call.name who.task h who (int_at call 0) refused

port_made : (h : History) (who : Who) (call : KernelCall) → port_by call.name h who (int_at call 0) ≡ port_taken h who call
unfolding port_taken
port_made h who call = refl

-- what its row says of a call with these numbers is said of the call
pub served_by_row : (old new : TrackedRows) (memory : Memory) (devices : Scripted) (who : Who) (call : KernelCall) (out : CallOut) (a b d : ℤ) →
    a ≡ int_at call 0 → b ≡ int_at call 1 → d ≡ int_at call 2 → may_call call.name who.task ≡ true →
    ServesRow old who.owner (λ share h. row_of call.name share h memory devices who call a b d) out new → ServesCall old memory devices who call out new
served_by_row old new memory devices who call out a b d p q r made serves =
    serves_as old new who.owner (λ share h. row_of call.name share h memory devices who call a b d) (λ share h. served share h memory devices who call) out
    (λ h stands.
    ap (λ z. row_of call.name old.kernel.claims.share h memory devices who call z b d) p
    ∙ ap (λ z. row_of call.name old.kernel.claims.share h memory devices who call (int_at call 0) z d) q
    ∙ ap (λ z. row_of call.name old.kernel.claims.share h memory devices who call (int_at call 0) (int_at call 1) z) r
    ∙ made_call old.kernel.claims.share h memory devices who call made) serves

pub takes_by_row : (t : TrackedRows) (old new : Scripted) (who : Who) (call : KernelCall) (a : ℤ) → a ≡ int_at call 0 →
    TakesAnswer t (λ h. port_by call.name h who a) old new → TakesAnswer t (λ h. port_taken h who call) old new
takes_by_row t old new who call a p takes h lawful proper stands =
    takes h lawful proper stands ∙ ap (λ o. without_answer o old) (ap (λ z. port_by call.name h who z) p ∙ port_made h who call)
