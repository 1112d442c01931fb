use Rattle.std.proofs.Common.{◌≡◌, true, false, sym, ap, ◌∙◌}
use Rattle.std.proofs.lemmas.Int.{to_z-of_z}
use mir.Syntax.{w32}
use mir.Val.{SFits}
use Rattle.std.specs.Prelude.{cond, Some, None, nat_abs}
use Rattle.claim_table.specs.ClaimPart.{holds_port}
use Rattle.claim_table.specs.ClaimPart as claims
use Rattle.sd_base.specs.Numbers.{number_of}
use Rattle.update_tracker.specs.Tracking.{OfEachHistory}
use Rattle.wrappers.proofs.Held.{held_number}
use Rattle.wrappers.proofs.Tracking.{of_claims}
use Rattle.wrappers.proofs.ports.held_port.Goals as goal

pub returns-then-not-has_port : goal.returns-then-not-has_port
returns-then-not-has_port c =
    let fits-port : SFits w32 c.args.port = c.ranges.port in
    let reads : claims.OfEachHistory c.kernel.result.now.claims (λ h. c.has_port.result ≡ holds_port h c.args.owner c.args.port) = simp to_z-of_z at c.has_port.ensures.reads in
    let held : OfEachHistory c.args.kernel.now (λ h. c.has_port.result ≡ holds_port h c.args.owner c.args.port) =
    of_claims c.kernel.result.now c.args.kernel.now (λ h. c.has_port.result ≡ holds_port h c.args.owner c.args.port) c.kernel.ensures reads in
    λ h lawful proper stands. sym (ap (λ b. cond b (Some (nat_abs c.args.port)) None) (sym (held h lawful proper stands) ∙ c.if-not-has_port.true))

pub returns : goal.returns
returns c =
    let fits-port : SFits w32 c.args.port = c.ranges.port in
    let reads : claims.OfEachHistory c.kernel.result.now.claims (λ h. c.has_port.result ≡ holds_port h c.args.owner c.args.port) = simp to_z-of_z at c.has_port.ensures.reads in
    let held : OfEachHistory c.args.kernel.now (λ h. c.has_port.result ≡ holds_port h c.args.owner c.args.port) =
    of_claims c.kernel.result.now c.args.kernel.now (λ h. c.has_port.result ≡ holds_port h c.args.owner c.args.port) c.kernel.ensures reads in
    let number : c.port_number.result ≡ number_of 65536 c.args.port = simp to_z-of_z at c.port_number.ensures in
    λ h lawful proper stands.
    number ∙ held_number c.args.kernel.now.kernel.claims.share h c.args.owner c.args.port lawful (sym (held h lawful proper stands) ∙ c.if-not-has_port.false)
