use Rattle.std.proofs.Common.{◌≡◌, ◌∙◌, ap, sym, subst, rules, List, map, ℕ, ℤ, All, w64}
use Rattle.std.proofs.lemmas.Int.{to_z-of_z}
use Rattle.dep_expr.specs.Linear.{LinearForm, IsSmallTerm, scaled_term}
use Rattle.dep_expr.proofs.Values.{scaled_value}
use Rattle.dep_expr.proofs.linear.Lin.scaled.Goals as goal

pub append_scaled-requires : goal.append_scaled-requires
append_scaled-requires c =
    let items : c.as_slice.result.now ≡ c.args.self.now.terms = c.as_slice.ensures ∙ ap (λ (l : LinearForm). l.terms) c.self.view_is in
    subst (λ (z : ℤ). All IsSmallTerm (map (scaled_term z) c.as_slice.result.now)) (sym (to_z-of_z w64 c.args.by c.ranges.by))
    (subst (λ (xs : List (ℤ × ℕ)). All IsSmallTerm (map (scaled_term c.args.by) xs)) (sym items) c.requires.coefficients)

pub returns-clause-value : goal.returns-clause-value
returns-clause-value c = scaled_value _ _ _ (search rules)
