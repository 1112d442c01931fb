-- What the tracker answered to the update is what its rule says of the call.
use Rattle.std.proofs.Common.{◌≡◌, ℤ, refl, sym, ap, ◌∙◌, subst}
use mir.Syntax.{w32}
use mir.Val.{to_z, of_z}
use Rattle.sd_base.specs.declared.history.Refusal.{Refusal}
use Rattle.sd_base.specs.declared.history.Refusal.TheVariants as refusal
use Rattle.wrappers.specs.declared.call_out.CallOut.TheVariants.{Reply}
use Rattle.wrappers.specs.Replies.{number_for, by_refusal}
use Rattle.wrappers.specs.Serving.{ServesRow}
use Rattle.wrappers.proofs.Rules.{ruled}
use Rattle.wrappers.proofs.Tracking.{serves_made, serves_refused}
use Rattle.wrappers.proofs.replies.made.Goals as goal

number_fits : (r : Refusal) → to_z w32 (of_z w32 (number_for r)) ≡ number_for r
number_fits refusal.Busy = refl
number_fits refusal.Full = refl
number_fits _ = refl

pub returns-in-Ok-clause-serves : goal.returns-in-Ok-clause-serves
returns-in-Ok-clause-serves c =
    serves_made c.args.kernel.now c.update.new.self c.args.owner c.args.update c.in-Ok.field-0 (λ share h. ruled share h c.args.owner c.args.update) _
    c.in-Ok.ensures.serves (λ h lawful proper stands made. ap (by_refusal c.args.update) made.allowed)

pub returns-in-Err-clause-serves : goal.returns-in-Err-clause-serves
returns-in-Err-clause-serves c =
    let number : to_z w32 (of_z w32 c.number_of.result) ≡ number_for c.in-Err.refusal =
    ap (λ z. to_z w32 (of_z w32 z)) c.number_of.ensures ∙ number_fits c.in-Err.refusal in
    subst (λ z. ServesRow c.args.kernel.now c.args.owner (λ share h. ruled share h c.args.owner c.args.update) (Reply z) c.update.new.self) (sym number)
    (serves_refused c.args.kernel.now c.update.new.self c.args.owner c.args.update c.in-Err.refusal (λ share h. ruled share h c.args.owner c.args.update) _
    c.in-Err.ensures.serves c.in-Err.ensures.err (λ h lawful proper stands refused. ap (by_refusal c.args.update) refused))
