use Rattle.claim_table.proofs.Wide.{narrow_insert}
use Rattle.claim_table.proofs.ranges.Ranges.insert.Goals as goal

pub invariant_of-self : goal.invariant_of-self
invariant_of-self c = narrow_insert c.args.claim c.self.inside.rows _ c.requires.narrow c.self.invariant c.insert.ensures
