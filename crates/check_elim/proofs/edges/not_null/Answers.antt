use Rattle.std.proofs.Common.{◌≡◌, pos, negsuc, [], ◌∷◌, sym, subst, rules}
use Rattle.check_elim.specs.Light.{IsLight}
use Rattle.check_elim.proofs.Sides.{light_pointer}
use Rattle.check_elim.proofs.edges.not_null.Goals as goal

pub returns-in_ok-add_atom-in-Some-Pointer-clause-light : goal.returns-in_ok-add_atom-in-Some-Pointer-clause-light
returns-in_ok-add_atom-in-Some-Pointer-clause-light c =
    let e : c.add_atom.new.self ≡ record { terms = (negsuc 0, c.args.slot) ∷ []; constant = pos 1 } = search rules in
    subst IsLight (sym e) (light_pointer c.args.slot)
