use Rattle.std.proofs.Common.{rules, ◌≡◌, sym, ◌∙◌}
use Rattle.check_numbering.proofs.Found.{number-found, atoms-found, number-new, atoms-new, beside-new}
use Rattle.check_numbering.proofs.atoms.Atoms.number.Goals as goal

pub returns-in-Some-clause-number : goal.returns-in-Some-clause-number
returns-in-Some-clause-number c = number-found _ _ _ _ _ _ c.in_ok-numbers.ensures.code c.self.invariant c.self.view_is c.in-Some.ensures.index

pub returns-in-Some-clause-atoms : goal.returns-in-Some-clause-atoms
returns-in-Some-clause-atoms c = atoms-found _ _ _ _ _ _ c.in_ok-numbers.ensures.code c.self.invariant c.self.view_is c.in-Some.ensures.index

pub invariant_of-self-2 : goal.invariant_of-self-2
invariant_of-self-2 c = beside-new c.in_ok-numbers.numbers _ _ _ _ _ _ c.in_ok-numbers.ensures.code c.self.invariant (sym c.in_default.ensures.found) c.in_ok-insert.ensures.keys c.in_ok-form.ensures (search rules)

pub returns-clause-number : goal.returns-clause-number
returns-clause-number c = number-new _ _ _ _ _ _ c.in_ok-numbers.ensures.code c.self.invariant c.self.view_is c.in_default.ensures.index (search rules)

pub returns-clause-atoms : goal.returns-clause-atoms
returns-clause-atoms c = atoms-new _ _ _ _ _ _ _ c.in_ok-numbers.ensures.code c.self.invariant c.self.view_is c.in_default.ensures.index c.in_ok-form.ensures (search rules)
