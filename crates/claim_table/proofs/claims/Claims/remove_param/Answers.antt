use Rattle.std.proofs.Common.{rules, subst, sym}
use Rattle.claim_table.specs.Ordered.{is_not_claim, FewOfEach}
use Rattle.claim_table.proofs.Caps.{few_filter}
use Rattle.claim_table.proofs.Serves.{param_loses}
use Rattle.claim_table.proofs.claims.Claims.remove_param.Goals as goal

pub invariant_of-self : goal.invariant_of-self
invariant_of-self g c = record {
  share = c.self.invariant.share;
  lines = c.self.invariant.lines;
  ports = c.self.invariant.ports;
  devices = c.self.invariant.devices;
  params = subst (FewOfEach (λ c. c.owner) 5 32) (sym c.drop_claim.ensures) (few_filter (λ c. c.owner) 5 32 (is_not_claim c.args.owner c.in-Some.number) c.self.inside.params c.self.invariant.params);
}

pub returns-in-Some-clause-loses : goal.returns-in-Some-clause-loses
returns-in-Some-clause-loses g c = param_loses c.args.self.now _ c.args.owner c.args.key c.requires (search rules)
