use Rattle.std.proofs.Common.{rules}
use Rattle.check_elim.specs.Sets.{facts, marking}
use Rattle.check_elim.proofs.Ruling.{tested_follows}
use Rattle.check_elim.proofs.following.follow_test.Goals as goal

pub returns : goal.returns
unfolding marking
returns c =
    tested_follows c.args.f.now c.args.table.now c.args.e.now (facts c.in_ok-lost.lost) c.args.kept.now.lost.items c.test.new.kept.lost.items c.requires.table c.requires.classes (search rules) (search rules)
