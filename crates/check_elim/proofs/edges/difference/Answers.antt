use Rattle.std.proofs.Common.{◌≡◌, sym, subst, rules}
use Rattle.check_elim.specs.Light.{IsLight}
use Rattle.check_elim.specs.Sides.{form_of, difference_of}
use Rattle.check_elim.proofs.Sides.{light_difference}
use Rattle.check_elim.proofs.edges.difference.Goals as goal

pub returns-clause-light : goal.returns-clause-light
returns-clause-light c =
    let e : c.match-b.form ≡ difference_of c.args.strict (form_of c.args.a.now.slot c.args.a.now.number) (form_of c.args.b.now.slot c.args.b.now.number) = search rules in
    subst IsLight (sym e)
    (light_difference c.args.strict c.args.a.now.slot c.args.b.now.slot c.args.a.now.number c.args.b.now.number c.less_by.result (search rules) c.less_by.ensures.low c.less_by.ensures.high)
