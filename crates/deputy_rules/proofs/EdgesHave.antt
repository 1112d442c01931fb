-- The bounds of a pointer as sums have the values that its annotation gives at the values of the names.
use Rattle.std.proofs.Common.{◌≡◌, ℕ, IsTrue, Bool, true, false, List, [], ◌∷◌, ◌++◌, map, ℤ, pos, ◌+ℤ◌, ◌*ℤ◌, Option, Some, None, Ok, All, refl, sym, ap, ◌∙◌, subst, arith}
use Rattle.std.proofs.Math.IntN.{*ℤ_comm, zero-*ℤ}
use Rattle.std.proofs.lemmas.Int.{ints}
use Rattle.dep_expr.proofs.Integers.{mul-add}
use Rattle.checked_tree.specs.declared.shapes.Edge.{Edge}
use Rattle.checked_tree.specs.declared.sums.Part.{Part}
use Rattle.checked_tree.specs.declared.sums.Part.TheVariants.{Constant, Atom}
use Rattle.checked_tree.specs.declared.sums.Sum.{Sum}
use Rattle.checked_tree.specs.Conditions.{State}
use Rattle.checked_tree.specs.Edges.{edge_value, edge_from, edge_base}
use Rattle.deputy_rules.specs.declared.naming.Naming.{Naming}
use Rattle.deputy_rules.specs.Context.{Context}
use Rattle.deputy_rules.specs.Sums.{plus, times, scaled, beyond}
use Rattle.deputy_rules.specs.Values.{name_sum, with_terms, base_sum, edge_sum}
use Rattle.deputy_rules.specs.SumValues.{part_at, parts_at, PartHasValue, HaveValues, HasValue}
use Rattle.deputy_rules.specs.NameValues.{IsOnce, AreOnce, TermsHave, BaseHas, HaveNames}
use Rattle.deputy_rules.proofs.SumsHave.{have_both, parts_both, has_beyond}

module _ (st : State) where
  pub has_plus : (a b : Sum) (x y : ℤ) → HasValue st a x → HasValue st b y → HasValue st (plus a b) (x +ℤ y)
  has_plus a b x y h k = record { read = have_both st a.parts b.parts h.read k.read; is = omega (arith, ints, parts_both st a.parts b.parts, h.is, k.is) }

  one_more : (k n v : ℤ) → k ≡ pos 1 → n *ℤ v ≡ n *ℤ (k *ℤ v)
  one_more k n v e = ap (λ (u : ℤ). n *ℤ u) (sym (ap (λ (j : ℤ). j *ℤ v) e ∙ omega (arith, ints, *ℤ_comm (pos 1) v)))

  times_is : (n : ℤ) (p : Part) → IsOnce p → part_at st (times n p) ≡ n *ℤ part_at st p
  times_is n (Constant k z) e = one_more k n z e
  times_is n (Atom k a) e = one_more k n _ e

  times_reads : (n : ℤ) (p : Part) → PartHasValue st p → PartHasValue st (times n p)
  times_reads n (Constant k z) h = tt
  times_reads n (Atom k a) h = h

  all_read : (n : ℤ) (ps : List Part) → HaveValues st ps → HaveValues st (map (times n) ps)
  all_read n [] h = tt
  all_read n (p ∷ ps) h = (times_reads n p h.0, all_read n ps h.1)

  all_times : (n : ℤ) (ps : List Part) → AreOnce ps → parts_at st (map (times n) ps) ≡ n *ℤ parts_at st ps
  unfolding parts_at
  all_times n [] o = omega (arith, ints, *ℤ_comm n (pos 0), zero-*ℤ n)
  all_times n (p ∷ ps) o = omega (arith, ints, times_is n p o.0, all_times n ps o.1, mul-add n (part_at st p) (parts_at st ps))

  pub has_scaled : (n : ℤ) (a : Sum) (x : ℤ) → AreOnce a.parts → HasValue st a x → HasValue st (scaled n a) (n *ℤ x)
  unfolding scaled
  has_scaled n a x o h = record { read = all_read n a.parts h.read; is = all_times n a.parts o ∙ ap (λ (u : ℤ). n *ℤ u) h.is }

  pub has_terms : (ctx : Context) (n : Naming) (sibling : ℕ → ℤ) (ts : List (ℤ × ℕ)) (sum : Sum) (z : ℤ)
      → TermsHave st ctx n sibling ts → HasValue st sum z → HasValue st (with_terms ctx n ts sum) (edge_from sibling ts z)
  has_terms ctx n sibling [] sum z h k = k
  has_terms ctx n sibling (t ∷ ts) sum z h k =
      has_terms ctx n sibling ts (plus sum (scaled t.0 (name_sum ctx n t.1))) (z +ℤ (t.0 *ℤ sibling t.1)) h.2
      (has_plus sum (scaled t.0 (name_sum ctx n t.1)) z (t.0 *ℤ sibling t.1) k (has_scaled t.0 (name_sum ctx n t.1) (sibling t.1) h.1 h.0))

  pub has_base : (ctx : Context) (n : Naming) (sibling : ℕ → ℤ) (at : Sum) (v : ℤ) (b : Option ℕ)
      → BaseHas st ctx n sibling b → HasValue st at v → HasValue st (base_sum ctx n at b) (edge_base sibling v b)
  has_base ctx n sibling at v None h k = k
  has_base ctx n sibling at v (Some b) h k = h

  pub has_edge : (ctx : Context) (n : Naming) (sibling : ℕ → ℤ) (at : Sum) (v : ℤ) (e : Edge)
      → HaveNames st ctx n sibling e → HasValue st at v → HasValue st (edge_sum ctx n at e) (edge_value sibling v e)
  unfolding edge_sum edge_value
  has_edge ctx n sibling at v e h k =
      has_terms ctx n sibling e.terms (beyond (base_sum ctx n at e.base) e.bytes) (edge_base sibling v e.base +ℤ e.bytes) h.terms
      (has_beyond st (base_sum ctx n at e.base) (edge_base sibling v e.base) e.bytes (has_base ctx n sibling at v e.base h.base k))
