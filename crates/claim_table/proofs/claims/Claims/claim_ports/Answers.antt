use Rattle.std.proofs.Common.{◌≡◌, ◌<◌, ◌∙◌, eqb, count_by, Ok, Err, rules, arith, subst, sym}
use Rattle.claim_table.specs.declared.claims.ClaimRefusal.TheVariants.{Busy, Full}
use Rattle.claim_table.specs.Ordered.{FewOfEach}
use Rattle.claim_table.specs.ClaimCalls.{Answer, ports_answer}
use Rattle.claim_table.proofs.Caps.{few_length, few_insert}
use Rattle.claim_table.proofs.Serves.{ports_serve}
use Rattle.claim_table.proofs.Wide.{range_is_narrow}
use mir.Syntax.{w32}
use mir.Val.{to_z, of_z}
use Rattle.claim_table.proofs.claims.Claims.claim_ports.Goals as goal

pub insert-requires : goal.insert-requires
insert-requires c = record { room = omega (arith, few_length _ _ _ _ c.self.invariant.ports); narrow = range_is_narrow (to_z w32 (of_z w32 c.args.base)) (to_z w32 (of_z w32 c.args.n)) c.in-Some.range (sym c.in-Some.is ∙ c.port_range.ensures) }

pub invariant_of-self : goal.invariant_of-self
invariant_of-self c = record {
  share = c.self.invariant.share;
  lines = c.self.invariant.lines;
  ports = (let room : count_by (λ r. eqb r.owner c.args.owner) c.self.inside.ports < 32 = search rules in
      subst (FewOfEach (λ c. c.owner) 5 32) (sym c.insert.ensures) (few_insert (λ c. c.owner) 5 32 _ c.self.inside.ports (omega arith) room c.self.invariant.ports));
  devices = c.self.invariant.devices;
  params = c.self.invariant.params;
}

pub returns-then-meets_range-clause-serves : goal.returns-then-meets_range-clause-serves
returns-then-meets_range-clause-serves c =
    let answer : Answer = Err Busy in
    let is : answer ≡ ports_answer c.args.self.now c.args.owner c.args.base c.args.n = search rules in
    ports_serve c.args.self.now _ c.args.owner c.args.base c.args.n answer is (search rules)

pub returns-then-count_of-ge-PORT_RANGES-clause-serves : goal.returns-then-count_of-ge-PORT_RANGES-clause-serves
returns-then-count_of-ge-PORT_RANGES-clause-serves c =
    let answer : Answer = Err Full in
    let is : answer ≡ ports_answer c.args.self.now c.args.owner c.args.base c.args.n = search rules in
    ports_serve c.args.self.now _ c.args.owner c.args.base c.args.n answer is (search rules)

pub returns-clause-serves : goal.returns-clause-serves
returns-clause-serves c =
    let answer : Answer = Ok tt in
    let is : answer ≡ ports_answer c.args.self.now c.args.owner c.args.base c.args.n = search rules in
    ports_serve c.args.self.now _ c.args.owner c.args.base c.args.n answer is (search rules)
