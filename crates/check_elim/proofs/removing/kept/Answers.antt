use Rattle.check_elim.specs.Sets.{IsTable}
use Rattle.check_elim.specs.Following.{IsOfInequalities}
use Rattle.check_elim.proofs.Ruling.{exact_where}
use Rattle.check_elim.proofs.removing.kept.Goals as goal

pub unmet-requires-clause-table : goal.unmet-requires-clause-table
unfolding IsTable
unmet-requires-clause-table c = c.in_ok-facts.ensures

pub unmet-requires-clause-inequalities : goal.unmet-requires-clause-inequalities
unfolding IsOfInequalities
unmet-requires-clause-inequalities c = tt

pub kept_by-requires-clause-table : goal.kept_by-requires-clause-table
unfolding IsTable
kept_by-requires-clause-table c = c.in_ok-facts.ensures

pub returns-clause-exact : goal.returns-clause-exact
returns-clause-exact c = exact_where c.args.f.now c.kept_by.result c.kept_by.ensures.value
