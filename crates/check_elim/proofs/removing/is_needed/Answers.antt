use Rattle.std.proofs.Common.{false, get_or, refl, rules}
use Rattle.check_elim.proofs.Ruling.{kept_here}
use Rattle.check_elim.proofs.removing.is_needed.Goals as goal

pub returns : goal.returns
returns c =
    kept_here c.args.f.now c.args.table.now c.args.unmet.now c.args.unequal.now c.args.place c.index-checks-place.result
    (get_or c.args.unequal.now c.args.place false) (get_or c.args.unmet.now c.args.place false) c.is_some-over_locals.result c.is_kept.result
    c.requires.inside c.requires.third c.requires.second (search rules) refl refl (search rules) c.is_kept.ensures
