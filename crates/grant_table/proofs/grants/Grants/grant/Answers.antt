use Rattle.std.proofs.Common.{◌≡◌, [], length, get_or, sym, ap, ◌∙◌, rules, arith}
use Rattle.std.proofs.lemmas.Grind.{common_steps}
use Rattle.std.proofs.lemmas.List.{get_or_default}
use Rattle.grant_table.specs.BlockRows.{base_for}
use Rattle.grant_table.proofs.GrantServes.{grant_base, grant_serves}
use Rattle.grant_table.proofs.grants.Grants.grant.Goals as goal

pub returns-clause-base : goal.returns-clause-base
returns-clause-base c =
    let is : c.grant.result ≡ base_for (get_or c.args.self.now c.args.owner []) c.args.layout.size c.args.n = first_of (search rules, grind (arith, common_steps), grind (arith, common_steps, get_or_default)) in
    grant_base c.args.self.now c.args.owner c.args.layout.size c.args.n c.grant.result c.requires.owner is

pub returns-clause-serves : goal.returns-clause-serves
returns-clause-serves c =
    let is : c.grant.result ≡ base_for (get_or c.args.self.now c.args.owner []) c.args.layout.size c.args.n = first_of (search rules, grind (arith, common_steps), grind (arith, common_steps, get_or_default)) in
    grant_serves c.args.self.now _ c.args.owner c.args.layout c.args.n c.args.image c.grant.result (ap length (sym c.self.view_is) ∙ c.self.invariant) c.requires.owner is (first_of (search rules, grind (arith, common_steps), grind (arith, common_steps, get_or_default)))
