use Rattle.std.proofs.Common.{length-set, sym, ap, rules}
use Rattle.sd_base.specs.declared.history.BlockState.TheVariants.{Image, Live, Freed}
use Rattle.grant_table.specs.BlockRows.{row_has_base, release_of}
use Rattle.grant_table.proofs.Places.{find_none, answer_at, state_set, arena_kept}
use Rattle.grant_table.proofs.blocks.Blocks.release.Goals as goal

pub invariant_of-self : goal.invariant_of-self
invariant_of-self c = (
  search rules,
  search (rules, length-set),
  arena_kept c.args.base c.self.inside.rows.items c.args.self.now c.in-Some.place c.index-row.result.now Freed c.self.view_is c.in-Some.ensures (search rules) c.self.invariant.2,
)

pub returns-in_default-clause-answer : goal.returns-in_default-clause-answer
returns-in_default-clause-answer c = sym (ap release_of (find_none (row_has_base c.args.base) c.args.self.now c.in_default.ensures))

pub returns-in-Image-clause-answer : goal.returns-in-Image-clause-answer
returns-in-Image-clause-answer c =
    answer_at c.args.base c.self.inside.rows.items c.args.self.now c.in-Some.place c.index-row.result.now Image c.self.view_is c.in-Some.ensures (search rules) c.in-Image.is

pub returns-in-Freed-clause-answer : goal.returns-in-Freed-clause-answer
returns-in-Freed-clause-answer c =
    answer_at c.args.base c.self.inside.rows.items c.args.self.now c.in-Some.place c.index-row.result.now Freed c.self.view_is c.in-Some.ensures (search rules) c.in-Freed.is

pub returns-in-Live-clause-answer : goal.returns-in-Live-clause-answer
returns-in-Live-clause-answer c =
    answer_at c.args.base c.self.inside.rows.items c.args.self.now c.in-Some.place c.index-row.result.now Live c.self.view_is c.in-Some.ensures (search rules) c.in-Live.is

pub returns-in-Live-clause-ok : goal.returns-in-Live-clause-ok
returns-in-Live-clause-ok c =
    state_set c.args.base c.self.inside.rows.items c.args.self.now c.in-Some.place c.index-row.result.now Freed c.self.view_is c.in-Some.ensures (search rules)
