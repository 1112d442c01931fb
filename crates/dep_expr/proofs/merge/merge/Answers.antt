-- What the sorted terms collapse to are the merged terms.
use Rattle.std.proofs.Common.{◌≡◌, ◌∙◌, ap, sym, subst, rules, List, ℕ, ℤ, All, IfOk, IsPermutation}
use Rattle.std.specs.List.Sorted.{IsNonDecreasingBy}
use Rattle.smallvec.proofs.SmallVecLemmas.{items-with_items}
use Rattle.dep_expr.specs.Linear.{IsSmallTerm}
use Rattle.dep_expr.specs.Merged.{collapsed, merged_terms}
use Rattle.dep_expr.proofs.Collapsing.{collapsed-sorted}
use Rattle.dep_expr.proofs.merge.merge.Goals as goal

merged_is : (terms lent sorted slice : List (ℤ × ℕ)) → lent ≡ terms → IsPermutation lent sorted → IsNonDecreasingBy (λ t. t.1) sorted → slice ≡ sorted
    → collapsed slice ≡ merged_terms terms
merged_is terms lent sorted slice p h k q =
    ap collapsed q ∙ collapsed-sorted terms sorted (subst (λ (xs : List (ℤ × ℕ)). IsPermutation xs sorted) p h) k

pub collapse-requires : goal.collapse-requires
collapse-requires c =
    subst (λ (xs : List (ℤ × ℕ)). All IsSmallTerm xs)
    (sym (merged_is c.args.terms.items c.as_mut_slice.result.now c.sort.new.terms c.as_slice.result.now c.as_mut_slice.ensures.value
    c.sort.ensures.permutation c.sort.ensures.order (c.as_slice.ensures ∙ items-with_items c.args.terms c.sort.new.terms (search rules))))
    c.requires

pub returns : goal.returns
returns c =
    subst (λ (xs : List (ℤ × ℕ)). IfOk c.collapse.result (λ form. form.items ≡ xs))
    (merged_is c.args.terms.items c.as_mut_slice.result.now c.sort.new.terms c.as_slice.result.now c.as_mut_slice.ensures.value
    c.sort.ensures.permutation c.sort.ensures.order (c.as_slice.ensures ∙ items-with_items c.args.terms c.sort.new.terms (search rules)))
    c.collapse.ensures
