use Rattle.std.proofs.Common.{length, arith, ap}
use Rattle.claim_table.proofs.Latest.{room-insert_claim}
use Rattle.claim_table.proofs.params.Params.insert.Goals as goal

pub take_latest-requires : goal.take_latest-requires
take_latest-requires c = room-insert_claim c.args.claim c.self.inside.values _ (omega (arith, ap length c.self.view_is)) c.insert.ensures

pub invariant_of-self : goal.invariant_of-self
invariant_of-self c = (room-insert_claim c.args.claim c.self.inside.values _ (omega (arith, ap length c.self.view_is)) c.insert.ensures, c.take_latest.ensures)
