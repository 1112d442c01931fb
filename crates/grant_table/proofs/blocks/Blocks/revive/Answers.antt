use Rattle.std.proofs.Common.{length-set, sym, rules}
use Rattle.sd_base.specs.declared.history.BlockState.TheVariants.{Live}
use Rattle.grant_table.proofs.Places.{state_none, state_set, arena_kept}
use Rattle.grant_table.proofs.blocks.Blocks.revive.Goals as goal

pub invariant_of-self : goal.invariant_of-self
invariant_of-self c = (
  search rules,
  search (rules, length-set),
  arena_kept c.args.base c.self.inside.rows.items c.args.self.now c.in-Some.place c.index-row.result.now Live c.self.view_is c.in-Some.ensures (search rules) c.self.invariant.2,
)

pub returns-in_default : goal.returns-in_default
returns-in_default c = sym (state_none c.args.base Live c.args.self.now c.in_default.ensures)

pub returns : goal.returns
returns c =
    state_set c.args.base c.self.inside.rows.items c.args.self.now c.in-Some.place c.index-row.result.now Live c.self.view_is c.in-Some.ensures (search rules)
