use Rattle.std.proofs.Common.{refl, ap, sym, ◌∙◌, subst, w32}
use Rattle.std.proofs.lemmas.Int.{to_z-of_z}
use Rattle.driver_host.specs.Granting.{grants_block, IsTimely}
use Rattle.sd_base.specs.Allowed.{is_proper}
use Rattle.driver_host.proofs.Grounds.{replies, kernel-proper, kernel-no_block, kernel-timely}
use Rattle.driver_host.proofs.ground.Ground.kernel.Goals as goal

pub update-refusal-requires-clause-proper : goal.update-refusal-requires-clause-proper
update-refusal-requires-clause-proper g c = ap (is_proper 0) c.kernel_update.ensures ∙ kernel-proper c.args.event.now

pub update-refusal-requires-clause-no_block : goal.update-refusal-requires-clause-no_block
update-refusal-requires-clause-no_block g c = ap grants_block c.kernel_update.ensures ∙ kernel-no_block c.args.event.now

pub update-refusal-requires-clause-timely : goal.update-refusal-requires-clause-timely
update-refusal-requires-clause-timely g c = subst IsTimely (sym c.kernel_update.ensures) (kernel-timely c.args.event.now)

pub returns : goal.returns
returns g c = λ names. replies _ _ _ _ _ names c.args.event.now _ _ _ c.kernel_update.ensures
    (to_z-of_z w32 c.kernel_reply.result (record { sfits = c.kernel_reply.type_inv }) ∙ c.kernel_reply.ensures) refl c.update-refusal.ensures (c.say.ensures names)
