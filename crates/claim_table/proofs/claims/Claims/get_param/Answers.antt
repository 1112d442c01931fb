use Rattle.std.proofs.Common.{◌≡◌, ℤ, Option, Some, rules}
use Rattle.claim_table.specs.ClaimCalls.{param_value}
use Rattle.claim_table.proofs.Serves.{value_reads}
use mir.Syntax.{w32}
use mir.Val.{to_z, of_z}
use Rattle.claim_table.proofs.claims.Claims.get_param.Goals as goal

pub returns-in_err-number-clause-reads : goal.returns-in_err-number-clause-reads
returns-in_err-number-clause-reads c =
    let answer : Option ℤ = c.from_residual.result in
    let is : answer ≡ param_value c.args.self.now c.args.key = search rules in
    value_reads c.args.self.now c.args.key answer is

pub returns-in_err-claim-clause-reads : goal.returns-in_err-claim-clause-reads
returns-in_err-claim-clause-reads c =
    let answer : Option ℤ = c.from_residual-in_err-claim.result in
    let is : answer ≡ param_value c.args.self.now c.args.key = search rules in
    value_reads c.args.self.now c.args.key answer is

pub returns-clause-reads : goal.returns-clause-reads
returns-clause-reads c =
    let answer : Option ℤ = Some (to_z w32 (of_z w32 c.in_ok-claim.claim.detail)) in
    let is : answer ≡ param_value c.args.self.now c.args.key = search rules in
    value_reads c.args.self.now c.args.key answer is
