use Rattle.std.proofs.Common.{◌≡◌, Bool, rules}
use Rattle.claim_table.proofs.Serves.{port_reads}
use Rattle.std.specs.List.{list_any}
use Rattle.claim_table.specs.ClaimRows.{covers}
use Rattle.claim_table.proofs.claims.Claims.has_port.Goals as goal

pub returns-clause-reads : goal.returns-clause-reads
returns-clause-reads c =
    let answer : Bool = c.has_port.result in
    let is : answer ≡ list_any (covers c.args.owner c.args.port) c.args.self.now.ports = search rules in
    port_reads c.args.self.now c.args.owner c.args.port answer is
