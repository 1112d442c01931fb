use Rattle.std.proofs.Common.{◌≡◌, ◌<◌, eqb, count_by, Ok, Err, rules, arith, subst, sym}
use Rattle.claim_table.specs.declared.claims.ClaimRefusal.TheVariants.{Busy, Full}
use Rattle.claim_table.specs.Ordered.{FewOfEach}
use Rattle.claim_table.specs.ClaimCalls.{Answer, device_answer}
use Rattle.claim_table.proofs.Caps.{few_length, few_insert}
use Rattle.claim_table.proofs.Serves.{device_serves}
use Rattle.claim_table.proofs.claims.Claims.add_device.Goals as goal

pub insert-requires : goal.insert-requires
insert-requires c = omega (arith, few_length _ _ _ _ c.self.invariant.devices)

pub invariant_of-self : goal.invariant_of-self
invariant_of-self c = record {
  share = c.self.invariant.share;
  lines = c.self.invariant.lines;
  ports = c.self.invariant.ports;
  devices = (let room : count_by (λ r. eqb r.owner c.args.owner) c.self.inside.devices < 32 = search rules in
      subst (FewOfEach (λ c. c.owner) 5 32) (sym c.insert.ensures) (few_insert (λ c. c.owner) 5 32 _ c.self.inside.devices (omega arith) room c.self.invariant.devices));
  params = c.self.invariant.params;
}

pub returns-then-has_number-clause-serves : goal.returns-then-has_number-clause-serves
returns-then-has_number-clause-serves c =
    let answer : Answer = Err Busy in
    let is : answer ≡ device_answer c.args.self.now c.args.owner c.args.id = search rules in
    device_serves c.args.self.now _ c.args.owner c.args.id answer is (search rules)

pub returns-then-count_of-ge-DEVICES-clause-serves : goal.returns-then-count_of-ge-DEVICES-clause-serves
returns-then-count_of-ge-DEVICES-clause-serves c =
    let answer : Answer = Err Full in
    let is : answer ≡ device_answer c.args.self.now c.args.owner c.args.id = search rules in
    device_serves c.args.self.now _ c.args.owner c.args.id answer is (search rules)

pub returns-clause-serves : goal.returns-clause-serves
returns-clause-serves c =
    let answer : Answer = Ok tt in
    let is : answer ≡ device_answer c.args.self.now c.args.owner c.args.id = search rules in
    device_serves c.args.self.now _ c.args.owner c.args.id answer is (search rules)
