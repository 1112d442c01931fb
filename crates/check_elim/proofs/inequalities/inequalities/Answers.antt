use Rattle.std.proofs.Common.{◌≡◌, ℕ, List, Contains, Some, length, slice_get, sym, ap, ◌∙◌, subst, arith}
use Rattle.std.specs.List.Sorted.{IsPermutation}
use Rattle.std.proofs.lemmas.List.{with_items_is}
use Rattle.dep_expr.specs.declared.inequality.Ineq.{Ineq}
use Rattle.checked_tree.specs.declared.checks.Check.{Check}
use Rattle.check_elim.specs.declared.table.CheckFact.{CheckFact}
use Rattle.check_elim.specs.Sets.{speaks_of}
use Rattle.check_elim.specs.Tables.{AreSorted, IsCheckFact, has_pair}
use Rattle.check_elim.proofs.FactLists.{sorted_all, table_is}
use Rattle.check_elim.proofs.Masks.{all_pairs, numbers_fit}
use Rattle.check_elim.proofs.inequalities.inequalities.Goals as goal

pub check_facts-requires-clause-all : goal.check_facts-requires-clause-all
check_facts-requires-clause-all c = λ i h.
    let items = with_items_is c.in_ok-facts.facts c.sort.new.facts (c.sort.auto.facts ∙ c.as_mut_slice.ensures.len) in
    let moved = subst (λ (l : List Ineq). IsPermutation l c.sort.new.facts) c.as_mut_slice.ensures.value c.sort.ensures.permutation in
    subst (λ (l : List Ineq). Contains l i) (sym (c.as_slice.ensures.value ∙ items)) (sorted_all c.args.f.now c.in_ok-facts.facts.items c.sort.new.facts c.in_ok-facts.ensures moved i h)

pub masks_of-requires : goal.masks_of-requires
masks_of-requires c = λ p h.
    numbers_fit c.args.f.now c.as_slice-2.result.now _ (omega (arith, c.len.ensures, c.as_slice-2.ensures.len)) p (subst (λ (l : List (ℕ × ℕ)). Contains l p) (c.as_slice-3.ensures.value ∙ c.in_ok-pairs.ensures) h)

pub returns : goal.returns
returns c =
    let items = with_items_is c.in_ok-facts.facts c.sort.new.facts (c.sort.auto.facts ∙ c.as_mut_slice.ensures.len) in
    let moved = subst (λ (l : List Ineq). IsPermutation l c.sort.new.facts) c.as_mut_slice.ensures.value c.sort.ensures.permutation in
    table_is c.args.f.now _ c.in_ok-facts.facts.items c.in_ok-facts.ensures (subst (λ (l : List Ineq). IsPermutation c.in_ok-facts.facts.items l) (sym items) moved) (subst AreSorted (sym items) c.sort.ensures.order)
    (omega (arith, c.len.ensures, c.as_slice-2.ensures.len, ap length c.as_slice-2.ensures.value)) c.in_ok-checks.ensures.count
    (subst (λ (list : List Ineq). (place : ℕ) (d : Check) (x : CheckFact) → slice_get c.args.f.now.checks place ≡ Some d → slice_get c.in_ok-checks.checks.items place ≡ Some x → IsCheckFact c.args.f.now list d x) c.as_slice.ensures.value c.in_ok-checks.ensures.each)
    c.in_ok-masks.ensures.masks
    (λ slot j. c.in_ok-masks.ensures.takes slot j ∙ (ap (has_pair slot j) (c.as_slice-3.ensures.value ∙ c.in_ok-pairs.ensures)
    ∙ (all_pairs c.args.f.now c.as_slice-2.result.now slot j ∙ ap (λ (l : List Ineq). speaks_of c.args.f.now (slice_get l j) slot) c.as_slice-2.ensures.value)))
