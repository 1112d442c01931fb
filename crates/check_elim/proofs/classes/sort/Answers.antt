use Rattle.std.proofs.Common.{ℤ, ap, rules}
use Rattle.std.specs.Global.{Vec}
use Rattle.std.specs.Ordering.{is_lt}
use Rattle.std.proofs.lemmas.List.Sorted.{sorted_far, ranks_by, answers_always}
use Rattle.check_elim.specs.Tables.{codes_cmp, AreCodesSorted}
use Rattle.check_elim.proofs.CheckCodes.{codes_total}
use Rattle.check_elim.proofs.classes.sort.Goals as goal

pub returns-clause-order : goal.returns-clause-order
unfolding AreCodesSorted
returns-clause-order c =
    sorted_far (λ (x y : Vec ℤ). is_lt (codes_cmp x.items y.items)) (ranks_by codes_total (λ (v : Vec ℤ). v.items)) _
    (c.sort_unstable_by.ensures.sorted (λ (x y : Vec ℤ). is_lt (codes_cmp x.items y.items)) (ranks_by codes_total (λ (v : Vec ℤ). v.items)) (answers_always _ _ _ (λ g a r h k. ap is_lt (search rules))))
