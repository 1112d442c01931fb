use Rattle.std.proofs.Common.{◌≡◌, Ok, Err, rules, subst, sym}
use Rattle.claim_table.specs.declared.claims.ClaimRefusal.TheVariants.{Bad}
use Rattle.claim_table.specs.Ordered.{FewOfEach}
use Rattle.claim_table.specs.ClaimRows.{is_not_range_claim}
use Rattle.claim_table.specs.ClaimCalls.{Answer, if_held, holds_ports}
use Rattle.claim_table.proofs.Caps.{few_filter}
use Rattle.claim_table.proofs.Serves.{drop_ports_serves}
use Rattle.claim_table.proofs.claims.Claims.drop_ports.Goals as goal

pub invariant_of-self : goal.invariant_of-self
invariant_of-self c = record {
  share = c.self.invariant.share;
  lines = c.self.invariant.lines;
  ports = subst (FewOfEach (λ c. c.owner) 5 32) (sym c.drop_range.ensures) (few_filter (λ c. c.owner) 5 32 (is_not_range_claim c.args.owner c.in-Some.range.base c.in-Some.range.n) c.self.inside.ports c.self.invariant.ports);
  devices = c.self.invariant.devices;
  params = c.self.invariant.params;
}

pub returns-in_default-clause-serves : goal.returns-in_default-clause-serves
returns-in_default-clause-serves c =
    let answer : Answer = Err Bad in
    let is : answer ≡ if_held (holds_ports c.args.self.now c.args.owner c.args.base c.args.n) = search rules in
    drop_ports_serves c.args.self.now _ c.args.owner c.args.base c.args.n answer is (search rules)

pub returns-then-not-has_range-clause-serves : goal.returns-then-not-has_range-clause-serves
returns-then-not-has_range-clause-serves c =
    let answer : Answer = Err Bad in
    let is : answer ≡ if_held (holds_ports c.args.self.now c.args.owner c.args.base c.args.n) = search rules in
    drop_ports_serves c.args.self.now _ c.args.owner c.args.base c.args.n answer is (search rules)

pub returns-clause-serves : goal.returns-clause-serves
returns-clause-serves c =
    let answer : Answer = Ok tt in
    let is : answer ≡ if_held (holds_ports c.args.self.now c.args.owner c.args.base c.args.n) = search rules in
    drop_ports_serves c.args.self.now _ c.args.owner c.args.base c.args.n answer is (search rules)
