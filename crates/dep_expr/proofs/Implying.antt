-- Where one inequality implies another, each assignment that satisfies the first satisfies the second.
use Rattle.std.proofs.Common.{◌≡◌, inl, inr, Option, pos, ◌≤ℤ◌, arith, ap, subst}
use Rattle.std.proofs.lemmas.Int.{ints}
use Rattle.dep_expr.specs.Linear.{LinearForm, Assignment, terms_value, value_of}
use Rattle.dep_expr.specs.Inequality.{Satisfies, Implies, IsExcused, IsNoWeaker}
use Rattle.dep_expr.specs.declared.inequality.Ineq.{Ineq}

excused : (g h : Option LinearForm) (at : Assignment) → IsNoWeaker g h → IsExcused g at → IsExcused h at
excused g h at (inl none) e = absurd (subst (λ (o : Option LinearForm). IsExcused o at) none e)
excused g h at (inr same) e = subst (λ (o : Option LinearForm). IsExcused o at) same e

lower : (l m : LinearForm) (at : Assignment) → l.terms ≡ m.terms → m.constant ≤ℤ l.constant → value_of l at ≤ℤ pos 0 → value_of m at ≤ℤ pos 0
unfolding value_of
lower l m at same le h = omega (arith, ints, ap (λ ts. terms_value ts at) same, le, h)

pub implied : (i j : Ineq) → Implies i j → (at : Assignment) → Satisfies at i → Satisfies at j
implied i j h at (inl e) = inl (excused i.guard j.guard at h.guard e)
implied i j h at (inr le) = inr (lower i.left j.left at h.terms h.constant le)
