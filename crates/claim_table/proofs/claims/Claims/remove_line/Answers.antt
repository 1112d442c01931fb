use Rattle.std.proofs.Common.{rules, subst, sym}
use Rattle.claim_table.specs.Ordered.{is_not_claim, FewOfEach}
use Rattle.claim_table.proofs.Caps.{few_filter}
use Rattle.claim_table.proofs.Serves.{line_loses}
use Rattle.claim_table.proofs.claims.Claims.remove_line.Goals as goal

pub invariant_of-self : goal.invariant_of-self
invariant_of-self g c = record {
  share = c.self.invariant.share;
  lines = subst (FewOfEach (λ c. c.number) 64 c.self.inside.share) (sym c.drop_claim.ensures) (few_filter (λ c. c.number) 64 c.self.inside.share (is_not_claim c.args.owner c.in-Some.number) c.self.inside.lines c.self.invariant.lines);
  ports = c.self.invariant.ports;
  devices = c.self.invariant.devices;
  params = c.self.invariant.params;
}

pub returns-in-Some-clause-loses : goal.returns-in-Some-clause-loses
returns-in-Some-clause-loses g c = line_loses c.args.self.now _ c.args.owner c.args.line c.requires (search rules)
