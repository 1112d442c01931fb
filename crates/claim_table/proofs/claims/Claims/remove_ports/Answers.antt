use Rattle.std.proofs.Common.{rules, subst, sym}
use Rattle.claim_table.specs.Ordered.{FewOfEach}
use Rattle.claim_table.specs.ClaimRows.{is_not_range_claim}
use Rattle.claim_table.proofs.Caps.{few_filter}
use Rattle.claim_table.proofs.Serves.{ports_lose}
use Rattle.claim_table.proofs.claims.Claims.remove_ports.Goals as goal

pub invariant_of-self : goal.invariant_of-self
invariant_of-self g c = record {
  share = c.self.invariant.share;
  lines = c.self.invariant.lines;
  ports = subst (FewOfEach (λ c. c.owner) 5 32) (sym c.drop_range.ensures) (few_filter (λ c. c.owner) 5 32 (is_not_range_claim c.args.owner c.in-Some.range.base c.in-Some.range.n) c.self.inside.ports c.self.invariant.ports);
  devices = c.self.invariant.devices;
  params = c.self.invariant.params;
}

pub returns-in-Some-clause-loses : goal.returns-in-Some-clause-loses
returns-in-Some-clause-loses g c = ports_lose c.args.self.now _ c.args.owner c.args.base c.args.n c.requires (search rules)
