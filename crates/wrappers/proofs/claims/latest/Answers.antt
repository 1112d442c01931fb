use Rattle.std.proofs.Common.{◌≡◌, ap, ◌∙◌}
use Rattle.std.proofs.lemmas.Int.{to_z-of_z}
use mir.Syntax.{w32}
use mir.Val.{SFits}
use Rattle.std.specs.Prelude.{pos, slice_get}
use Rattle.std.specs.Option.{unwrap_or}
use Rattle.claim_table.specs.ClaimPart.{values_of}
use Rattle.claim_table.specs.ClaimPart as claims
use Rattle.update_tracker.specs.Tracking.{OfEachHistory}
use Rattle.wrappers.proofs.Held.{first_value}
use Rattle.wrappers.proofs.Tracking.{of_claims}
use Rattle.wrappers.proofs.claims.latest.Goals as goal

pub returns : goal.returns
returns c =
    let fits-key : SFits w32 c.args.key = c.ranges.key in
    let reads : claims.OfEachHistory c.kernel.result.now.claims (λ h. c.get_param.result ≡ slice_get (values_of h c.args.key) 0) = simp to_z-of_z at c.get_param.ensures.reads in
    let read : OfEachHistory c.args.kernel.now (λ h. c.get_param.result ≡ slice_get (values_of h c.args.key) 0) =
    of_claims c.kernel.result.now c.args.kernel.now (λ h. c.get_param.result ≡ slice_get (values_of h c.args.key) 0) c.kernel.ensures reads in
    λ h lawful proper stands.
    to_z-of_z w32 c.unwrap_or.result (record { sfits = c.unwrap_or.type_inv }) ∙ c.unwrap_or.ensures ∙ ap (λ o. unwrap_or o (pos 0)) (read h lawful proper stands)
    ∙ first_value (values_of h c.args.key)
