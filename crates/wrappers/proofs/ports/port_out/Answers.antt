use Rattle.std.proofs.Common.{◌≡◌, sym, ap, ◌∙◌, subst, rules}
use Rattle.std.proofs.lemmas.Int.{to_z-of_z}
use mir.Syntax.{w32}
use mir.Val.{SFits, to_z, of_z}
use Rattle.std.specs.Prelude.{Some, None}
use Rattle.device_model.specs.Scripted.{answers_of, oldest_or_zero}
use Rattle.wrappers.specs.Rows.{without_answer}
use Rattle.wrappers.specs.Serving.{ReadsPort}
use Rattle.wrappers.specs.declared.call_out.CallOut.TheVariants.{Said}
use Rattle.wrappers.specs.declared.call_out.Saying.TheVariants.{Out}
use Rattle.wrappers.specs.Rows as row
use Rattle.wrappers.specs.Serving.{IsRead}
use Rattle.wrappers.proofs.Held.{writes_nothing, writes_out}
use Rattle.wrappers.proofs.ports.port_out.Goals as goal

pub returns-in-None-clause-reads : goal.returns-in-None-clause-reads
returns-in-None-clause-reads c =
    let fits-port : SFits w32 c.args.port = c.ranges.port in
    let port : ReadsPort c.args.kernel.now c.args.owner c.args.port None = simp to_z-of_z at c.in-None.ensures in
    λ h lawful proper stands. writes_nothing h c.args.owner c.args.port c.args.v (port h lawful proper stands)

pub returns-in-Some-clause-reads : goal.returns-in-Some-clause-reads
returns-in-Some-clause-reads c =
    let fits-port : SFits w32 c.args.port = c.ranges.port in
    let port : ReadsPort c.args.kernel.now c.args.owner c.args.port (Some c.in-Some.number) = simp to_z-of_z at c.in-Some.ensures in
    λ h lawful proper stands.
    subst (λ z. IsRead (row.port_out h c.args.owner c.args.port c.args.v) (Said (Out c.in-Some.number z))) (sym (to_z-of_z w32 c.args.v c.ranges.v))
    (writes_out h c.args.owner c.args.port c.args.v c.in-Some.number (port h lawful proper stands))
