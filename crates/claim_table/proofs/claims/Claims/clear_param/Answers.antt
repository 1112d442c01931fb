use Rattle.std.proofs.Common.{◌≡◌, Ok, Err, rules, subst, sym}
use Rattle.claim_table.specs.declared.claims.ClaimRefusal.TheVariants.{Bad}
use Rattle.claim_table.specs.Ordered.{is_not_claim, FewOfEach}
use Rattle.claim_table.specs.ClaimCalls.{Answer, if_held, holds_param}
use Rattle.claim_table.proofs.Caps.{few_filter}
use Rattle.claim_table.proofs.Serves.{clear_param_serves}
use Rattle.claim_table.proofs.claims.Claims.clear_param.Goals as goal

pub invariant_of-self : goal.invariant_of-self
invariant_of-self c = record {
  share = c.self.invariant.share;
  lines = c.self.invariant.lines;
  ports = c.self.invariant.ports;
  devices = c.self.invariant.devices;
  params = subst (FewOfEach (λ c. c.owner) 5 32) (sym c.drop_claim.ensures) (few_filter (λ c. c.owner) 5 32 (is_not_claim c.args.owner c.in-Some.number) c.self.inside.params c.self.invariant.params);
}

pub returns-in_default-clause-serves : goal.returns-in_default-clause-serves
returns-in_default-clause-serves c =
    let answer : Answer = Err Bad in
    let is : answer ≡ if_held (holds_param c.args.self.now c.args.owner c.args.key) = search rules in
    clear_param_serves c.args.self.now _ c.args.owner c.args.key answer is (search rules)

pub returns-then-not-has_claim-clause-serves : goal.returns-then-not-has_claim-clause-serves
returns-then-not-has_claim-clause-serves c =
    let answer : Answer = Err Bad in
    let is : answer ≡ if_held (holds_param c.args.self.now c.args.owner c.args.key) = search rules in
    clear_param_serves c.args.self.now _ c.args.owner c.args.key answer is (search rules)

pub returns-clause-serves : goal.returns-clause-serves
returns-clause-serves c =
    let answer : Answer = Ok tt in
    let is : answer ≡ if_held (holds_param c.args.self.now c.args.owner c.args.key) = search rules in
    clear_param_serves c.args.self.now _ c.args.owner c.args.key answer is (search rules)
