use Rattle.std.proofs.Common.{◌≡◌, Option, Some, rules}
use Rattle.claim_table.specs.ClaimCalls.{line_holder}
use Rattle.claim_table.proofs.Serves.{holder_reads}
use Rattle.claim_table.specs.declared.claims.Holder.{Holder}
use Rattle.claim_table.proofs.claims.Claims.holder.Goals as goal

pub returns-in_err-number-clause-reads : goal.returns-in_err-number-clause-reads
returns-in_err-number-clause-reads c =
    let answer : Option Holder = c.from_residual.result in
    let is : answer ≡ line_holder c.args.self.now c.args.line c.args.k = search rules in
    holder_reads c.args.self.now c.args.line c.args.k answer is

pub returns-in_err-claim-clause-reads : goal.returns-in_err-claim-clause-reads
returns-in_err-claim-clause-reads c =
    let answer : Option Holder = c.from_residual-in_err-claim.result in
    let is : answer ≡ line_holder c.args.self.now c.args.line c.args.k = search rules in
    holder_reads c.args.self.now c.args.line c.args.k answer is

pub returns-clause-reads : goal.returns-clause-reads
returns-clause-reads c =
    let answer : Option Holder = Some (record { owner = c.in_ok-claim.claim.owner; handler = c.in_ok-claim.claim.detail }) in
    let is : answer ≡ line_holder c.args.self.now c.args.line c.args.k = search rules in
    holder_reads c.args.self.now c.args.line c.args.k answer is
