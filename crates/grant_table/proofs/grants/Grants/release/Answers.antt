use Rattle.std.proofs.Common.{◌≡◌, [], length, get_or, sym, ap, ◌∙◌, rules, arith}
use Rattle.std.proofs.lemmas.Grind.{common_steps}
use Rattle.std.proofs.lemmas.List.{get_or_default}
use Rattle.grant_table.specs.BlockRows.{release_answer}
use Rattle.grant_table.proofs.GrantServes.{release_serves}
use Rattle.grant_table.proofs.grants.Grants.release.Goals as goal

pub returns-clause-serves : goal.returns-clause-serves
returns-clause-serves c =
    let is : c.release.result ≡ release_answer c.args.base (get_or c.args.self.now c.args.owner []) = first_of (search rules, grind (arith, common_steps), grind (arith, common_steps, get_or_default)) in
    release_serves c.args.self.now _ c.args.owner c.args.base c.release.result (ap length (sym c.self.view_is) ∙ c.self.invariant) c.requires is (first_of (search rules, grind (arith, common_steps), grind (arith, common_steps, get_or_default)))
