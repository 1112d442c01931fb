use Rattle.std.proofs.Common.{rules, ◌≡◌, arith}
use Rattle.dep_expr.specs.Linear.{plus, term_form}
use Rattle.check_numbering.proofs.Light.{light-term}
use Rattle.check_numbering.proofs.forming.Forming.with_term.Goals as goal

pub invariant_of-self : goal.invariant_of-self
invariant_of-self c =
    let is : c.add_atom.new.self ≡ plus c.self.inside.form (term_form (c.args.k, c.args.atom)) = search rules in
    light-term (record { form = c.self.inside.form; coefficients = c.self.inside.coefficients; constants = c.self.inside.constants }) _ c.args.k c.args.atom _ c.self.invariant is (search rules) (search rules)
