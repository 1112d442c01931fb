use Rattle.std.proofs.Common.{rules}
use Rattle.dep_infer.proofs.Firsts.{noted_new}
use Rattle.rules_heads.proofs.first_heads.note_place.Goals as goal

pub returns-in_ok-insert : goal.returns-in_ok-insert
returns-in_ok-insert c = let e = c.contains_key.ensures in let d = c.if-not-contains_key.true in noted_new c.args.places.now.entries c.args.name.now c.args.place _ (search rules) c.in_ok-insert.ensures.updates.0
