-- Worked examples: what sums weigh, and a check that is too heavy to have a number.
use Rattle.std.proofs.Common.{◌≡◌, ◌^◌, [], ◌∷◌, None, pos, negsuc, refl}
use Rattle.checked_tree.specs.declared.expressions.CheckedExpr.TheVariants as form
use Rattle.checked_tree.specs.declared.sums.Part.TheVariants.{Constant, Atom}
use Rattle.deputy_rules.specs.declared.asked.AskedCond.TheVariants as asked
use Rattle.deputy_rules.specs.Numbering.{with_term, with_part, single, non_zero, conditioned}
use Rattle.light_checks.specs.Lightness.{factors, constants}

-- `-2*x + 3*y + 5 - 4*7`: the factors 2 and 3, the constants 5 and 28
factors_example : factors (Atom (negsuc 1) (form.Local 0) ∷ Atom (pos 3) (form.Local 1) ∷ Constant (pos 1) (pos 5) ∷ Constant (negsuc 3) (pos 7) ∷ []) ≡ 5
factors_example = refl

constants_example : constants (Atom (negsuc 1) (form.Local 0) ∷ Atom (pos 3) (form.Local 1) ∷ Constant (pos 1) (pos 5) ∷ Constant (negsuc 3) (pos 7) ∷ []) ≡ 33
constants_example = refl

-- a factor of 2^62 is too much
heavy_example : conditioned (asked.NonZero (Atom (pos (2 ^ 62)) (form.Local 0))) [] ≡ None
unfolding conditioned non_zero single with_part with_term
heavy_example = refl
