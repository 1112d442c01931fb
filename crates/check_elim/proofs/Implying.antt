-- Implication as a test.
use Rattle.std.proofs.Common.{◌≡◌, inl, inr, ℕ, ◌==◌, Bool, true, false, ◌&&◌, List, [], ◌∷◌, ℤ, pos, negsuc, int_le, Option, Some, None, Decides, refl, sym, ap, arith}
use Rattle.std.proofs.lemmas.Int.{ints}
use Rattle.std.specs.Ordering.{int_eq}
use Rattle.std.specs.Prelude.{◌≤ℤ◌, ◌↔◌, IsTrue}
use Rattle.std.proofs.lemmas.Bool.Decides.{Decides-int_eq, Decides-eqb}
use Rattle.dep_expr.specs.Linear.{LinearForm}
use Rattle.dep_expr.specs.Inequality.{Implies, IsNoWeaker}
use Rattle.dep_expr.specs.declared.inequality.Ineq.{Ineq}
use Rattle.check_elim.specs.Facts.{same_terms, same_form, no_weaker, implies}

both : (a b : Bool) → (a && b) ≡ true → (a ≡ true) × (b ≡ true)
both true b h = (refl, h)
both false b h = absurd cc

join : (a b : Bool) → a ≡ true → b ≡ true → (a && b) ≡ true
join a b g h = rw g h

pub terms_same : (a b : List (ℤ × ℕ)) → Decides (same_terms a b) (a ≡ b)
terms_same [] [] = (λ h. refl, λ h. refl)
terms_same [] (u ∷ us) = (λ h. absurd cc, λ h. absurd cc)
terms_same (t ∷ ts) [] = (λ h. absurd cc, λ h. absurd cc)
terms_same (t ∷ ts) (u ∷ us) =
    let heads = Decides-int_eq t.0 u.0 in
    let atoms = Decides-eqb t.1 u.1 in
    let rest = terms_same ts us in (
      λ h. let p = both (int_eq t.0 u.0) (t.1 == u.1 && same_terms ts us) h in let q = both (t.1 == u.1) (same_terms ts us) p.1 in
          let a : t.0 ≡ u.0 = heads.0 p.0 in let b : t.1 ≡ u.1 = atoms.0 q.0 in let c : ts ≡ us = rest.0 q.1 in λ k. (a k, b k) ∷ c k,
      λ h. let a : t ≡ u = cc in let c : ts ≡ us = cc in join (int_eq t.0 u.0) (t.1 == u.1 && same_terms ts us) (heads.1 (ap (λ x. x.0) a)) (join (t.1 == u.1) (same_terms ts us) (atoms.1 (ap (λ x. x.1) a)) (rest.1 c)),
    )

pub form_same : (a b : LinearForm) → Decides (same_form a b) (a ≡ b)
form_same a b =
    let ts = terms_same a.terms b.terms in
    let cs = Decides-int_eq a.constant b.constant in (
      λ h. let p = both (same_terms a.terms b.terms) (int_eq a.constant b.constant) h in let x : a.terms ≡ b.terms = ts.0 p.0 in let y : a.constant ≡ b.constant = cs.0 p.1 in λ k. record { terms = x k; constant = y k },
      λ h. join (same_terms a.terms b.terms) (int_eq a.constant b.constant) (ts.1 (ap (λ x. x.terms) h)) (cs.1 (ap (λ x. x.constant) h)),
    )

guard_same : (g h : Option LinearForm) → Decides (no_weaker g h) (IsNoWeaker g h)
guard_same None h = (λ t. inl refl, λ t. refl)
guard_same (Some g) None = (λ t. absurd cc, λ t. elim t [ inl a ↦ absurd cc | inr b ↦ absurd cc ])
guard_same (Some g) (Some h) =
    let d = form_same g h in
    (λ t. inr (ap (λ x. Some x) (d.0 t)), λ t. elim t [ inl a ↦ absurd cc | inr b ↦ d.1 (let e : g ≡ h = cc in e) ])

order_tells : (x y : ℤ) → Decides (int_le x y) (x ≤ℤ y)
order_tells (pos m) (pos n) = (λ h. grind (arith, ints), λ h. grind (arith, ints))
order_tells (pos m) (negsuc n) = (λ h. grind (arith, ints), λ h. grind (arith, ints))
order_tells (negsuc m) (pos n) = (λ h. grind (arith, ints), λ h. grind (arith, ints))
order_tells (negsuc m) (negsuc n) = (λ h. grind (arith, ints), λ h. grind (arith, ints))

pub implies_tells : (a b : Ineq) → Decides (implies a b) (Implies a b)
unfolding implies
implies_tells a b =
    let ts = terms_same a.left.terms b.left.terms in
    let gs = guard_same a.guard b.guard in (
      λ h. let p = both (same_terms a.left.terms b.left.terms) (int_le b.left.constant a.left.constant && no_weaker a.guard b.guard) h in
          let q = both (int_le b.left.constant a.left.constant) (no_weaker a.guard b.guard) p.1 in
          record { terms = ts.0 p.0; constant = (order_tells b.left.constant a.left.constant).0 q.0; guard = gs.0 q.1 },
      λ h. join (same_terms a.left.terms b.left.terms) (int_le b.left.constant a.left.constant && no_weaker a.guard b.guard) (ts.1 h.terms) (join (int_le b.left.constant a.left.constant) (no_weaker a.guard b.guard) ((order_tells b.left.constant a.left.constant).1 h.constant) (gs.1 h.guard)),
    )

-- the answer of code that decides implication
pub implies_is : (a b : Ineq) (r : Bool) → (IsTrue r ↔ Implies a b) → r ≡ implies a b
implies_is a b true h = sym ((implies_tells a b).1 (h.0 refl))
implies_is a b false h = by (implies a b) refl
  where
    by : (x : Bool) → implies a b ≡ x → false ≡ x
    by true e = absurd (let w : false ≡ true = h.1 ((implies_tells a b).0 e) in cc)
    by false e = refl
