use Rattle.std.proofs.Common.{ℕ, ℤ, pos, List, sym, ap, ◌∙◌, rules}
use Rattle.checked_tree.specs.Redundant.{terms_over_atoms}
use Rattle.check_elim.specs.Light.{renamed_form}
use Rattle.check_elim.proofs.Sides.{renamed_more, renamed_stops}
use Rattle.check_elim.proofs.over_atoms.renamed.Goals as goal

pub returns-in_default : goal.returns-in_default
returns-in_default c =
    sym (renamed_stops c.args.f.now c.terms-terms.result.now c.loop-term.term-index (pos 0, 0) c.loop-term.form c.loop-term-test.true (sym c.atom.ensures ∙ c.in_default.is))
    ∙ (c.loop-term.invariant ∙ ap (λ (ts : List (ℤ × ℕ)). renamed_form c.args.over_slots.now.constant (terms_over_atoms c.args.f.now ts)) c.terms-terms.ensures)

pub loop-term-preserved : goal.loop-term-preserved
loop-term-preserved c =
    renamed_more c.args.f.now c.terms-terms.result.now c.loop-term.term-index (pos 0, 0) c.in-Some.number c.loop-term.form c.add_atom.new.self c.loop-term-test.true (sym c.atom.ensures ∙ c.in-Some.is) (search rules) ∙ c.loop-term.invariant
