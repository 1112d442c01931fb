use Rattle.std.proofs.Common.{◌≡◌, ℤ, List, map, refl, sym, ap, ◌∙◌, subst, arith}
use Rattle.std.specs.Global.{Vec}
use Rattle.std.specs.List.Sorted.{IsPermutation}
use Rattle.std.proofs.lemmas.List.{with_items_is}
use Rattle.checked_tree.specs.declared.checks.Check.{Check}
use Rattle.check_elim.specs.Tables.{check_code, class_among, AreCodesSorted}
use Rattle.check_elim.proofs.CheckCodes.{classes_are}
use Rattle.check_elim.proofs.classes.classes.Goals as goal

pub numbers_of-requires : goal.numbers_of-requires
numbers_of-requires c =
    subst AreCodesSorted (sym (c.as_slice.ensures.value ∙ with_items_is c.in_ok-codes.codes c.sort.new.codes (c.sort.auto.codes ∙ c.as_mut_slice.ensures.len))) c.sort.ensures.order

pub returns : goal.returns
returns c =
    let count = c.sort.auto.codes ∙ c.as_mut_slice.ensures.len in
    let sorted : c.as_slice.result.now ≡ c.sort.new.codes = c.as_slice.ensures.value ∙ with_items_is c.in_ok-codes.codes c.sort.new.codes count in
    classes_are c.args.f.now c.in_ok-codes.codes.items c.sort.new.codes c.in_ok-numbers.numbers.items (c.in_ok-codes.ensures ∙ ap (map check_code) c.as_slice-checks.ensures)
    (subst (λ (l : List (Vec ℤ)). IsPermutation l c.sort.new.codes) c.as_mut_slice.ensures.value c.sort.ensures.permutation) c.sort.ensures.order
    (c.in_ok-numbers.ensures ∙ (λ i. map (λ (x : Check). class_among (sorted i) (check_code x)) (c.as_slice-checks.ensures i))) _ c.in_ok-numbers.numbers refl (omega (arith, c.len.ensures, count))
