use Rattle.std.proofs.Common.{length, sym, ap, ◌∙◌, rules, arith}
use Rattle.std.proofs.lemmas.Grind.{common_steps}
use Rattle.std.proofs.lemmas.List.{get_or_default}
use Rattle.grant_table.proofs.GrantServes.{free_loses}
use Rattle.grant_table.proofs.grants.Grants.remove_free.Goals as goal

pub returns-clause-loses : goal.returns-clause-loses
returns-clause-loses g c = free_loses c.args.self.now _ c.args.owner c.args.base (ap length (sym c.self.view_is) ∙ c.self.invariant) c.requires.owner c.requires.freed (first_of (search rules, grind (arith, common_steps), grind (arith, common_steps, get_or_default)))
