use Rattle.std.proofs.Common.{◌≡◌, ◌<◌, true, length, filter, count_by, Ok, Err, rules, arith, ap, ◌∙◌, subst, sym}
use Rattle.claim_table.specs.declared.claims.ClaimRefusal.TheVariants.{Full}
use Rattle.claim_table.specs.Ordered.{is_owned, is_claim, is_not_claim, insert_claim, FewOfEach}
use Rattle.claim_table.specs.ClaimCalls.{Answer, param_answer}
use Rattle.claim_table.proofs.Caps.{few_length, few_filter, few_insert, own_room}
use Rattle.claim_table.proofs.Serves.{param_serves}
use Rattle.std.specs.List.{list_any}
use Rattle.sd_base.proofs.Counting.{count_by-filter_le}
use Rattle.claim_table.proofs.claims.Claims.set_param.Goals.{else-not-replaces-via-then-not-replaces+else-count_of-ge-PARAMETERS, else-not-replaces-via-else-not-replaces}
use Rattle.claim_table.proofs.claims.Claims.set_param.Goals as goal

pub insert-requires : goal.insert-requires
insert-requires c = omega (arith, ap length c.drop_claim.ensures, few_length _ _ _ _ (few_filter (λ c. c.owner) 5 32 (is_not_claim c.args.owner c.in-Some.number) c.self.inside.params c.self.invariant.params))

-- the owner has room for one more value where it had this one, or fewer than 32
room : (c : goal.After-insert) → count_by (is_owned c.args.owner) (filter (is_not_claim c.args.owner c.in-Some.number) c.self.inside.params) < 32
room c =
    elim c.else-not-replaces.branch [
      | else-not-replaces-via-then-not-replaces+else-count_of-ge-PARAMETERS w ↦ (let few : count_by (is_owned c.args.owner) c.self.inside.params < 32 = search rules in
          omega (arith, count_by-filter_le (is_not_claim c.args.owner c.in-Some.number) (is_owned c.args.owner) c.self.inside.params))
      | else-not-replaces-via-else-not-replaces w ↦ (let has : list_any (is_claim c.args.owner c.in-Some.number) c.self.inside.params ≡ true = grind arith in
          own_room c.args.owner c.in-Some.number 32 c.self.inside.params has (c.self.invariant.params.each c.args.owner))
    ]

pub invariant_of-self : goal.invariant_of-self
invariant_of-self c = record {
  share = c.self.invariant.share;
  lines = c.self.invariant.lines;
  ports = c.self.invariant.ports;
  devices = c.self.invariant.devices;
  params = subst (FewOfEach (λ c. c.owner) 5 32) (sym (c.insert.ensures ∙ ap (insert_claim _) c.drop_claim.ensures)) (few_insert (λ c. c.owner) 5 32 _ (filter (is_not_claim c.args.owner c.in-Some.number) c.self.inside.params) (omega arith) (room c) (few_filter (λ c. c.owner) 5 32 (is_not_claim c.args.owner c.in-Some.number) c.self.inside.params c.self.invariant.params));
}

pub returns-then-count_of-ge-PARAMETERS-clause-serves : goal.returns-then-count_of-ge-PARAMETERS-clause-serves
returns-then-count_of-ge-PARAMETERS-clause-serves c =
    let answer : Answer = Err Full in
    let is : answer ≡ param_answer c.args.self.now c.args.owner c.args.key = search rules in
    param_serves c.args.self.now _ c.args.owner c.args.key c.args.value answer is (search rules)

pub returns-clause-serves : goal.returns-clause-serves
returns-clause-serves c =
    let answer : Answer = Ok tt in
    let is : answer ≡ param_answer c.args.self.now c.args.owner c.args.key = search rules in
    param_serves c.args.self.now _ c.args.owner c.args.key c.args.value answer is (search rules)
