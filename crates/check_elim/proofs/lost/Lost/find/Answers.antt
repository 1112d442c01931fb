use Rattle.check_elim.specs.Sets.{facts}
use Rattle.check_elim.proofs.Lists.{found_by_classes}
use Rattle.check_elim.proofs.lost.Lost.find.Goals as goal

pub returns-in-Classes-clause-facts : goal.returns-in-Classes-clause-facts
returns-in-Classes-clause-facts c = found_by_classes c.args.f.now c.args.table.now c.in-Classes.field-0 c.args.fact (facts c.args.self.now) c.in-Classes.is
