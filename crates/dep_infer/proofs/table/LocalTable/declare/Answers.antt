use Rattle.std.proofs.Common.{rules}
use Rattle.dep_infer.proofs.Firsts.{noted_at}
use Rattle.dep_infer.proofs.Pairs.{pairs_push}
use Rattle.dep_infer.proofs.table.LocalTable.declare.Goals as goal

pub invariant_of-self-2 : goal.invariant_of-self-2
invariant_of-self-2 c =
    let long = c.reserve.ensures.len in
    let l = c.len-slot.ensures in
    (noted_at c.self.inside.names.items _ _ _ _ _ _ c.reserve.ensures.items (search rules) c.push_reserved.ensures.items c.self.invariant.0 c.in_ok-note_first.ensures.ok, search (rules, pairs_push))
