use Rattle.std.proofs.Common.{sym, ◌∙◌}
use Rattle.dep_expr.proofs.Weights.{light_merged}
use Rattle.check_elim.specs.Light.{IsLight}
use Rattle.check_elim.proofs.Sides.{told_none, told_some, sum_small}
use Rattle.check_elim.proofs.over_atoms.over_atoms.Goals as goal

pub merged-requires : goal.merged-requires
unfolding IsLight
merged-requires c = light_merged c.args.form.now c.requires.terms c.requires.constant

pub returns-in-None : goal.returns-in-None
returns-in-None c = told_none c.args.f.now c.args.form.now c.in_ok-merged.merged c.in_ok-merged.ensures.form (sym c.in-None.is ∙ c.in_ok-form.ensures)

pub norm-requires : goal.norm-requires
norm-requires c = sum_small c.args.f.now c.args.form.now c.in_ok-merged.merged c.in-Some.sum c.requires c.in_ok-merged.ensures.form (sym c.in-Some.is ∙ c.in_ok-form.ensures)

pub returns : goal.returns
returns c =
    told_some c.args.f.now c.args.form.now c.in_ok-merged.merged c.in-Some.sum c.in_ok-norm-in-Some.field-0 c.in_ok-merged.ensures.form (sym c.in-Some.is ∙ c.in_ok-form.ensures) c.in_ok-norm-in-Some.ensures.form
