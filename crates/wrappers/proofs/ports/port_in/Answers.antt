use Rattle.std.proofs.Common.{◌≡◌, sym, ap, ◌∙◌, subst, rules}
use Rattle.std.proofs.lemmas.Int.{to_z-of_z}
use mir.Syntax.{w32}
use mir.Val.{SFits, to_z, of_z}
use Rattle.std.specs.Prelude.{Some, None}
use Rattle.device_model.specs.Scripted.{answers_of, oldest_or_zero}
use Rattle.wrappers.specs.Rows.{without_answer}
use Rattle.wrappers.specs.Serving.{ReadsPort}
use Rattle.wrappers.proofs.Held.{reads_nothing, reads_oldest}
use Rattle.wrappers.proofs.ports.port_in.Goals as goal

pub returns-in-None-clause-reads : goal.returns-in-None-clause-reads
returns-in-None-clause-reads c =
    let fits-port : SFits w32 c.args.port = c.ranges.port in
    let port : ReadsPort c.args.kernel.now c.args.owner c.args.port None = simp to_z-of_z at c.in-None.ensures in
    λ h lawful proper stands. reads_nothing h c.args.devices.now c.args.owner c.args.port (port h lawful proper stands)

pub returns-in-None-clause-devices : goal.returns-in-None-clause-devices
returns-in-None-clause-devices c =
    let fits-port : SFits w32 c.args.port = c.ranges.port in
    let port : ReadsPort c.args.kernel.now c.args.owner c.args.port None = simp to_z-of_z at c.in-None.ensures in
    λ h lawful proper stands. ap (λ o. without_answer o c.args.devices.now) (port h lawful proper stands)

pub returns-in-Some-clause-reads : goal.returns-in-Some-clause-reads
returns-in-Some-clause-reads c =
    let fits-port : SFits w32 c.args.port = c.ranges.port in
    let port : ReadsPort c.args.kernel.now c.args.owner c.args.port (Some c.in-Some.number) = simp to_z-of_z at c.in-Some.ensures in
    let fits-answer : SFits w32 c.oldest.result = record { sfits = c.oldest.type_inv } in
    let value : to_z w32 (of_z w32 c.oldest.result) ≡ oldest_or_zero (answers_of c.args.devices.now c.in-Some.number) = to_z-of_z w32 c.oldest.result fits-answer ∙ c.oldest.ensures.value in
    λ h lawful proper stands. reads_oldest h c.args.devices.now c.args.owner c.args.port c.in-Some.number _ (port h lawful proper stands) value

pub returns-in-Some-clause-devices : goal.returns-in-Some-clause-devices
returns-in-Some-clause-devices c =
    let fits-port : SFits w32 c.args.port = c.ranges.port in
    let port : ReadsPort c.args.kernel.now c.args.owner c.args.port (Some c.in-Some.number) = simp to_z-of_z at c.in-Some.ensures in
    λ h lawful proper stands. c.oldest.ensures.taken ∙ ap (λ o. without_answer o c.args.devices.now) (port h lawful proper stands)
