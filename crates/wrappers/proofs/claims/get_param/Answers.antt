use Rattle.std.proofs.Common.{◌≡◌, true, false, ◌∙◌, rules}
use Rattle.std.proofs.lemmas.Int.{to_z-of_z}
use mir.Syntax.{w32}
use mir.Val.{SFits}
use Rattle.claim_table.specs.ClaimPart.{values_of}
use Rattle.sd_base.specs.Selection.{is_below}
use Rattle.sd_base.proofs.Numbered.{number_none_cast, number_below_cast}
use Rattle.update_tracker.specs.Tracking.{OfEachHistory}
use Rattle.wrappers.specs.Rows as row
use Rattle.wrappers.proofs.Held.{gets_nothing, gets_value}
use Rattle.wrappers.proofs.claims.get_param.Goals as goal

pub returns-in_default : goal.returns-in_default
returns-in_default c =
    let out : is_below 256 c.args.key ≡ false = number_none_cast 256 c.args.key c.ranges.key c.in_default.ensures in
    λ h lawful proper stands. gets_nothing h c.args.key out

pub returns : goal.returns
returns c =
    let fits-key : SFits w32 c.args.key = c.ranges.key in
    let below : is_below 256 c.args.key ≡ true = number_below_cast 256 c.args.key c.in-Some._number c.ranges.key c.in-Some.ensures in
    let fits : SFits w32 c.latest.result = record { sfits = c.latest.type_inv } in
    let value : OfEachHistory c.args.kernel.now (λ h. c.latest.result ≡ row.first_or_zero (values_of h c.args.key)) = simp to_z-of_z at c.latest.ensures in
    λ h lawful proper stands. gets_value h c.args.key _ below (to_z-of_z w32 c.latest.result fits ∙ value h lawful proper stands)
