use Rattle.std.proofs.Common.{rules}
use Rattle.dep_infer.proofs.Firsts.{noted_new}
use Rattle.dep_infer.proofs.table.note_first.Goals as goal

pub returns-in_ok-insert-clause-ok : goal.returns-in_ok-insert-clause-ok
returns-in_ok-insert-clause-ok c = let e = c.contains_key.ensures in let d = c.if-not-contains_key.true in noted_new c.args.first.now.entries c.args.name.now c.args.slot _ (search rules) c.in_ok-insert.ensures.updates.0
