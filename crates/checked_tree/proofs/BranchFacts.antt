-- A fact that is true of the slots is true of the atoms, as the inequality that the edge of a branch gives.
use Rattle.std.proofs.Common.{◌≡◌, inr, ℕ, true, List, [], ◌∷◌, ℤ, pos, ◌*ℤ◌, ◌≤ℤ◌, Option, Some, None, option_map, Ok, get_or, refl, sym, ap, subst, ◌∙◌, arith}
use Rattle.std.proofs.lemmas.Bool.{eqb-true}
use Rattle.std.proofs.lemmas.Int.{ints}
use Rattle.std.proofs.lemmas.List.Quantifiers.{position-Some}
use Rattle.std.proofs.lemmas.Option.{slice_get-get_or}
use Rattle.dep_expr.specs.Linear.{LinearForm, Assignment, terms_value, value_of}
use Rattle.dep_expr.specs.Merged.{merged}
use Rattle.dep_expr.specs.Inequality.{Satisfies}
use Rattle.dep_expr.specs.declared.inequality.Ineq.{Ineq}
use Rattle.dep_expr.proofs.Merging.{value_of-merged}
use Rattle.checked_tree.specs.declared.expressions.CheckedExpr.{CheckedExpr, map-CheckedExpr, out-CheckedExpr}
use Rattle.checked_tree.specs.declared.expressions.CheckedExpr.TheOpen as E
use Rattle.checked_tree.specs.declared.expressions.CheckedExpr.TheVariants as V
use Rattle.checked_tree.specs.declared.expressions.CheckedExpr.TheFolds.{fold-CheckedExpr, fold_out-CheckedExpr}
use Rattle.checked_tree.specs.declared.units.CheckedFn.{CheckedFn}
use Rattle.checked_tree.specs.Outcome.{Got}
use Rattle.checked_tree.specs.Conditions.{State, Testing, eval_level, peek, atom_value}
use Rattle.checked_tree.specs.Redundant.{comparable, local_slot, is_slot, atom_of_slot, cons_term, terms_over_atoms, fact_over_atoms}
use Rattle.checked_tree.specs.Known.{number_or_zero, atom_numbers}
use Rattle.checked_tree.specs.KnownLaws.{slot_numbers, FactHolds}
use Rattle.checked_tree.proofs.FormNumbers.{comparable_solutions}

module _ (f : CheckedFn) (s : State) where
  abbrev at : Assignment
  at = atom_numbers f.atoms s

  abbrev slots : Assignment
  slots = slot_numbers s

  abbrev untested : Testing
  untested ids = Ok tt

  abbrev evaluated : CheckedExpr → Got
  evaluated e = fold-CheckedExpr Got (eval_level untested s) e

  -- a form that is the local in a slot
  local_form : (slot : ℕ) (y : E.CheckedExpr-F CheckedExpr) → is_slot slot (local_slot y) ≡ true
      → number_or_zero (eval_level untested s (map-CheckedExpr CheckedExpr Got evaluated y)) ≡ slots slot
  local_form slot (E.Local own) h = ap slots (eqb-true own slot h)
  local_form slot _ h = absurd cc

  local_number : (slot : ℕ) (e : CheckedExpr) → is_slot slot (local_slot (out-CheckedExpr e)) ≡ true → number_or_zero (peek s e) ≡ slots slot
  unfolding peek
  local_number slot e h = ap number_or_zero (fold_out-CheckedExpr Got (eval_level untested s) e) ∙ local_form slot (out-CheckedExpr e) h

  slot_number : (slot a : ℕ) → atom_of_slot f slot ≡ Some a → at a ≡ slots slot
  slot_number slot a h =
      let p = position-Some (λ e. is_slot slot (local_slot (out-CheckedExpr e))) f.atoms a V.Null h in
      ap (λ o. number_or_zero (atom_value s o)) (slice_get-get_or f.atoms a V.Null p.0) ∙ local_number slot (get_or f.atoms a V.Null) p.1

  next_term : (t : ℤ × ℕ) (ts us : List (ℤ × ℕ)) (a : Option ℕ) (o : Option (List (ℤ × ℕ))) → atom_of_slot f t.1 ≡ a
      → ((rest : List (ℤ × ℕ)) → o ≡ Some rest → terms_value rest at ≡ terms_value ts slots)
      → cons_term t.0 a o ≡ Some us → terms_value us at ≡ terms_value (t ∷ ts) slots
  next_term t ts us (Some a) (Some rest) p more e =
      let same : ((t.0, a) ∷ rest) ≡ us = cc in
      let product : t.0 *ℤ at a ≡ t.0 *ℤ slots t.1 = ap (λ z. t.0 *ℤ z) (slot_number t.1 a p) in
      ap (λ x. terms_value x at) (sym same) ∙ omega (arith, ints, product, more rest refl)
  next_term t ts us (Some a) None p more e = absurd cc
  next_term t ts us None o p more e = absurd cc

  over_atoms : (ts us : List (ℤ × ℕ)) → terms_over_atoms f ts ≡ Some us → terms_value us at ≡ terms_value ts slots
  over_atoms [] us h = let same : [] ≡ us = cc in sym (ap (λ x. terms_value x at) same)
  over_atoms (t ∷ ts) us h = next_term t ts us (atom_of_slot f t.1) (terms_over_atoms f ts) refl (λ rest k. over_atoms ts rest k) h

  fact_by : (l : LinearForm) (i : Ineq) (o : Option (List (ℤ × ℕ))) → terms_over_atoms f (merged l).terms ≡ o → value_of l slots ≤ℤ pos 0
      → option_map (λ us. comparable (record { left = record { terms = us; constant = l.constant }; guard = None })) o ≡ Some i → Satisfies at i
  unfolding value_of
  fact_by l i None p below h = absurd cc
  fact_by l i (Some us) p below h =
      let same : comparable (record { left = record { terms = us; constant = l.constant }; guard = None }) ≡ i = cc in
      let value : value_of (merged l) slots ≡ value_of l slots = value_of-merged l slots in
      subst (λ k. Satisfies at k) same
      ((comparable_solutions f.atoms s (record { left = record { terms = us; constant = l.constant }; guard = None })).1
      (inr (omega (arith, ints, over_atoms (merged l).terms us p, value, below))))

pub fact_holds : FactHolds
unfolding fact_over_atoms
fact_holds f l s below i h = fact_by f s l i (terms_over_atoms f (merged l).terms) refl below h
