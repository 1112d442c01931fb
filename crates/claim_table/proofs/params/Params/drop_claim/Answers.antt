use Rattle.claim_table.specs.Ordered.{is_not_claim}
use Rattle.claim_table.proofs.Latest.{room-filter}
use Rattle.claim_table.proofs.params.Params.drop_claim.Goals as goal

pub take_latest-requires : goal.take_latest-requires
take_latest-requires c = room-filter (is_not_claim c.args.owner c.args.number) c.self.inside.values _ c.self.invariant.0 c.drop_claim.ensures

pub invariant_of-self : goal.invariant_of-self
invariant_of-self c = (room-filter (is_not_claim c.args.owner c.args.number) c.self.inside.values _ c.self.invariant.0 c.drop_claim.ensures, c.take_latest.ensures)
