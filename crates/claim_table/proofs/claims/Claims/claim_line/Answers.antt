use Rattle.std.proofs.Common.{◌≡◌, false, Ok, Err, rules, arith, subst, sym}
use Rattle.sd_base.proofs.Numbered.{number_is_cast}
use Rattle.claim_table.specs.Ordered.{FewOfEach}
use Rattle.claim_table.specs.ClaimRows.{claim}
use Rattle.claim_table.proofs.Caps.{few_room, few_insert, free_line}
use Rattle.claim_table.specs.declared.claims.ClaimRefusal.TheVariants.{Busy}
use Rattle.claim_table.specs.ClaimCalls.{is_taken, Answer, line_answer}
use Rattle.claim_table.proofs.Serves.{line_serves}
use Rattle.claim_table.proofs.claims.Claims.claim_line.Goals as goal

pub insert-requires : goal.insert-requires
insert-requires c =
    let few = c.self.invariant.share in
    let free : is_taken c.self.inside.share c.args.owner c.in-Some.number c.self.inside.lines ≡ false = search rules in
    let below = (number_is_cast 64 c.args.line c.in-Some.number c.ranges.line c.in-Some.ensures).1 in
    omega (arith, few_room (λ c. c.number) 64 c.self.inside.share (claim c.args.owner c.in-Some.number c.args.handler) c.self.inside.lines below (free_line c.self.inside.share c.args.owner c.in-Some.number c.self.inside.lines free) c.self.invariant.lines)

pub invariant_of-self : goal.invariant_of-self
invariant_of-self c =
    let free : is_taken c.self.inside.share c.args.owner c.in-Some.number c.self.inside.lines ≡ false = search rules in
    let below = (number_is_cast 64 c.args.line c.in-Some.number c.ranges.line c.in-Some.ensures).1 in
    record {
      share = c.self.invariant.share;
      lines = subst (FewOfEach (λ c. c.number) 64 c.self.inside.share) (sym c.insert.ensures) (few_insert (λ c. c.number) 64 c.self.inside.share _ c.self.inside.lines below (free_line c.self.inside.share c.args.owner c.in-Some.number c.self.inside.lines free) c.self.invariant.lines);
      ports = c.self.invariant.ports;
      devices = c.self.invariant.devices;
      params = c.self.invariant.params;
    }

pub returns-then-is_taken-clause-serves : goal.returns-then-is_taken-clause-serves
returns-then-is_taken-clause-serves c =
    let answer : Answer = Err Busy in
    let is : answer ≡ line_answer c.args.self.now c.args.owner c.args.line = search rules in
    line_serves c.args.self.now _ c.args.owner c.args.line c.args.handler answer is (search rules)

pub returns-clause-serves : goal.returns-clause-serves
returns-clause-serves c =
    let answer : Answer = Ok tt in
    let is : answer ≡ line_answer c.args.self.now c.args.owner c.args.line = search rules in
    line_serves c.args.self.now _ c.args.owner c.args.line c.args.handler answer is (search rules)
