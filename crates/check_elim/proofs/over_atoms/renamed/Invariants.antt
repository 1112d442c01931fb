use Rattle.std.proofs.Common.{◌≡◌, drop, ◌++◌, List, ℤ, ℕ}
use Rattle.std.specs.Prelude.{option_map}
use Rattle.checked_tree.specs.Redundant.{terms_over_atoms}
use Rattle.check_elim.specs.Light.{renamed_form}
use Rattle.check_elim.proofs.over_atoms.renamed.Given as goal

abbrev pub invariant-loop-term : goal.invariant-loop-term
invariant-loop-term l =
    renamed_form l.form.constant (option_map (λ (ts : List (ℤ × ℕ)). l.form.terms ++ ts) (terms_over_atoms l.f (drop l.term-index l.terms)))
    ≡ renamed_form l.over_slots.constant (terms_over_atoms l.f l.terms)
