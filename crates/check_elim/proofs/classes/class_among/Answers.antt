use Rattle.std.proofs.Common.{ℤ, sym, rules}
use Rattle.std.specs.Global.{Vec}
use Rattle.std.specs.Ordering.{is_lt}
use Rattle.std.proofs.lemmas.List.Sorted.{IsPartitionPoint-from_clause}
use Rattle.check_elim.specs.Tables.{codes_cmp, class_among, AreCodesSorted}
use Rattle.check_elim.proofs.CheckCodes.{codes_total, codes_equal}
use Rattle.check_elim.proofs.Searching.{parted, point_is}
use Rattle.check_elim.proofs.classes.class_among.Goals as goal

pub returns : goal.returns
unfolding AreCodesSorted class_among
returns c =
    let point = IsPartitionPoint-from_clause (λ (v : Vec ℤ). is_lt (codes_cmp v.items c.args.code.now)) c.args.codes.now c.partition_point.result c.partition_point.ensures.partitioned
    (parted (λ (v : Vec ℤ). v.items) codes_total codes_equal c.args.codes.now c.args.code.now c.requires) (λ a r q k. search rules) in
    sym (point_is (λ (v : Vec ℤ). is_lt (codes_cmp v.items c.args.code.now)) c.args.codes.now c.partition_point.result c.partition_point.ensures.bound point.0 point.1)
