-- `==` of two terms tells whether they are equal, and so does that of two lists of them.
use Rattle.std.proofs.Common.{◌≡◌, ℕ, ◌&&◌, eqb, ℤ, ap, ◌∙◌}
use Rattle.std.specs.Bool.{Decides}
use Rattle.std.specs.Ordering.{int_eq}
use Rattle.std.proofs.lemmas.Bool.Decides.{Decides-int_eq, Decides-eqb, Decides-and, Decides-like}
use Rattle.std.proofs.lemmas.Slice.Eq.{slice_eq-Decides}
use Rattle.dep_expr.proofs.terms.is_same.Goals as goal

same_term : (t u : ℤ × ℕ) → Decides (int_eq t.0 u.0 && eqb t.1 u.1) (t ≡ u)
same_term t u =
    Decides-like (int_eq t.0 u.0 && eqb t.1 u.1) (λ p. ap (λ z. (z, t.1)) p.0 ∙ ap (λ a. (u.0, a)) p.1) (λ e. (ap (λ x. x.0) e, ap (λ x. x.1) e))
    (Decides-and (int_eq t.0 u.0) (eqb t.1 u.1) (Decides-int_eq t.0 u.0) (Decides-eqb t.1 u.1))

pub returns : goal.returns
returns c = slice_eq-Decides same_term c.args.left.now c.args.right.now c.eq.result c.eq.ensures
