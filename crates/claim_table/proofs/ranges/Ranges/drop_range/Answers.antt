use Rattle.claim_table.specs.ClaimRows.{is_not_range_claim}
use Rattle.claim_table.proofs.Wide.{narrow_filter}
use Rattle.claim_table.proofs.ranges.Ranges.drop_range.Goals as goal

pub invariant_of-self : goal.invariant_of-self
invariant_of-self c = narrow_filter (is_not_range_claim c.args.owner c.args.base c.args.n) c.self.inside.rows _ c.self.invariant c.drop_range.ensures
