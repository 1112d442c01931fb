use Rattle.check_elim.proofs.Implying.{implies_is}
use Rattle.check_elim.proofs.runs.is_implied.Goals as goal

pub returns : goal.returns
returns c = implies_is c.args.strong.now c.args.fact.now c.implies.result c.implies.ensures.form
