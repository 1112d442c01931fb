use Rattle.std.proofs.Common.{◌≡◌, ◌∙◌, ap, sym, subst, rules, List, map, ℕ, ℤ, All, FitsSigned, w64}
use Rattle.std.proofs.lemmas.Int.{to_z-of_z}
use Rattle.dep_expr.specs.Linear.{LinearForm, IsSmallTerm, scaled_term}
use Rattle.dep_expr.proofs.Sizes.{small_part_terms}
use Rattle.dep_expr.proofs.linear.Lin.add_part.Goals as goal

pub append_scaled-requires : goal.append_scaled-requires
append_scaled-requires c =
    let fits : FitsSigned w64 c.args.term.0 = search rules in
    let items : c.as_slice.result.now ≡ c.args.by.now.terms = c.as_slice.ensures ∙ ap (λ (l : LinearForm). l.terms) c.by.view_is in
    subst (λ (z : ℤ). All IsSmallTerm (map (scaled_term z) c.as_slice.result.now)) (sym (to_z-of_z w64 c.args.term.0 fits))
    (subst (λ (xs : List (ℤ × ℕ)). All IsSmallTerm (map (scaled_term c.args.term.0) xs)) (sym items)
    (small_part_terms c.args.self.now c.args.by.now c.args.a c.args.term c.requires.after c.if-atom-a.true))
