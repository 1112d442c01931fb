use Rattle.std.proofs.Common.{List, All, sym, subst}
use Rattle.checked_tree.specs.declared.checks.Check.{Check}
use Rattle.check_elim.specs.Tables.{IsSmallCond, HasSmallChecks}
use Rattle.check_elim.proofs.inequalities.facts_of.Goals as goal

pub add_fact-requires : goal.add_fact-requires
unfolding HasSmallChecks
add_fact-requires c =
    subst (λ (x : Check). IsSmallCond x.cond) (sym c.check-item.is)
    (subst (λ (l : List Check). All (λ (x : Check). IsSmallCond x.cond) l) (sym c.as_slice-checks.ensures) c.requires c.loop-check.check-index c.check-item.result c.loop-check-test.true)
