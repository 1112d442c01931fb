use Rattle.std.proofs.Common.{rules}
use Rattle.check_elim.specs.Sets.{facts, marking}
use Rattle.check_elim.proofs.Ruling.{whole_follows}
use Rattle.check_elim.proofs.following.follow_whole.Goals as goal

pub returns : goal.returns
unfolding marking
returns c =
    whole_follows c.args.f.now c.args.table.now c.args.statement.now (facts c.in_ok-lost.lost) c.args.kept.now.lost.items c.pass_plain.new.kept.lost.items c.requires.table c.requires.classes c.requires.plain (search rules) (search rules)
