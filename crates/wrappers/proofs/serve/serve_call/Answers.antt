-- A call from a context that its row leaves out changes nothing; any other is served by its row.
use Rattle.std.proofs.Common.{◌≡◌, ℤ, true, false, refl, sym, ap, ◌∙◌, subst, rules}
use Rattle.std.proofs.lemmas.Int.{to_z-of_z}
use mir.Syntax.{w32}
use mir.Val.{SFits, to_z, of_z}
use Rattle.wrappers.specs.Rows.{served, int_at, without_answer}
use Rattle.wrappers.specs.Contexts.{may_call}
use Rattle.wrappers.proofs.Called.{refused_call, port_refused, served_by_row, takes_by_row}
use Rattle.wrappers.proofs.Tracking.{serves_nothing}
use Rattle.wrappers.proofs.serve.serve_call.Goals as goal

pub returns-then-not-may_call-clause-serves : goal.returns-then-not-may_call-clause-serves
returns-then-not-may_call-clause-serves c =
    let refused : may_call c.args.call.now.name c.args.who.task ≡ false = sym c.may_call.ensures ∙ c.if-not-may_call.true in
    serves_nothing c.args.kernel.now c.args.who.owner (λ share h. served share h c.args.memory.now c.args.devices.now c.args.who c.args.call.now) _
    (λ h lawful proper stands. refused_call c.args.kernel.now.kernel.claims.share h c.args.memory.now c.args.devices.now c.args.who c.args.call.now refused)

pub returns-then-not-may_call-clause-takes : goal.returns-then-not-may_call-clause-takes
returns-then-not-may_call-clause-takes c =
    let refused : may_call c.args.call.now.name c.args.who.task ≡ false = sym c.may_call.ensures ∙ c.if-not-may_call.true in
    λ h lawful proper stands. sym (ap (λ o. without_answer o c.args.devices.now) (port_refused h c.args.who c.args.call.now refused))

pub returns-clause-serves : goal.returns-clause-serves
returns-clause-serves c =
    let may : may_call c.args.call.now.name c.args.who.task ≡ true = sym c.may_call.ensures ∙ c.if-not-may_call.false in
    served_by_row c.args.kernel.now c.by_row.new.kernel c.args.memory.now c.args.devices.now c.args.who c.args.call.now c.by_row.result _ _ _
    (to_z-of_z w32 c.int_at-first.result (record { sfits = c.int_at-first.type_inv }) ∙ c.int_at-first.ensures)
    (to_z-of_z w32 c.int_at-second.result (record { sfits = c.int_at-second.type_inv }) ∙ c.int_at-second.ensures)
    (to_z-of_z w32 c.int_at-third.result (record { sfits = c.int_at-third.type_inv }) ∙ c.int_at-third.ensures)
    may c.by_row.ensures.serves

pub returns-clause-takes : goal.returns-clause-takes
returns-clause-takes c =
    takes_by_row c.args.kernel.now c.args.devices.now c.by_row.new.devices c.args.who c.args.call.now _
    (to_z-of_z w32 c.int_at-first.result (record { sfits = c.int_at-first.type_inv }) ∙ c.int_at-first.ensures) c.by_row.ensures.takes
