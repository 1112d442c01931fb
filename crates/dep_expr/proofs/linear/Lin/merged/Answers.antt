use Rattle.std.proofs.Common.{rules, sym, subst, List, ℕ, ℤ}
use Rattle.dep_expr.specs.Merged.{AreMerged}
use Rattle.dep_expr.proofs.Merging.{merged_value, AreMerged-merged}
use Rattle.dep_expr.proofs.linear.Lin.merged.Goals as goal

pub returns-clause-order : goal.returns-clause-order
returns-clause-order c = subst (λ (xs : List (ℤ × ℕ)). AreMerged xs) (sym c.in_ok-merge.ensures) (AreMerged-merged c.in_ok-copied_terms.field-0.items)

pub returns-clause-value : goal.returns-clause-value
returns-clause-value c = merged_value _ _ (search rules)
