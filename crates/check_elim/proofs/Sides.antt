-- The forms of comparisons as the code builds them, and how light they are.
use Rattle.std.proofs.Common.{◌≡◌, ℕ, suc, ◌+◌, ◌<◌, ◌^◌, Bool, true, false, List, [], ◌∷◌, ◌++◌, length, drop, get_or, drop-cons, add-one, append_assoc, ℤ, pos, negsuc, Option, Some, None, refl, sym, ap, ◌∙◌, subst, arith, unsigned_abs}
use Rattle.std.specs.Prelude.{◌+ℤ◌, ◌*ℤ◌, neg_ℤ, ◌≤ℤ◌, ◌≤◌}
use Rattle.std.proofs.lemmas.Int.{ints}
use Rattle.dep_expr.specs.Linear.{LinearForm, IsSmall, plus, term_form}
use Rattle.dep_expr.specs.Merged.{merged}
use Rattle.dep_expr.specs.Normed.{normed}
use Rattle.dep_expr.specs.declared.inequality.Ineq.{Ineq}
use Rattle.dep_expr.specs.Weight.{weight}
use Rattle.dep_expr.proofs.Weights.{light_merged, weight-merged}
use Rattle.checked_tree.specs.declared.units.CheckedFn.{CheckedFn}
use Rattle.checked_tree.specs.Redundant.{atom_of_slot, cons_term, terms_over_atoms, fact_over_atoms, comparable}
use Rattle.std.specs.Prelude.{option_map}
use Rattle.check_elim.specs.Sides.{form_of, difference_of, strict_constant}
use Rattle.check_elim.specs.Light.{IsLight, renamed_form}

-- the weight over atoms is that over slots
pub weight_renamed : (f : CheckedFn) (ts us : List (ℤ × ℕ)) → terms_over_atoms f ts ≡ Some us → weight us ≡ weight ts
weight_renamed f [] us h = let e : [] ≡ us = cc in ap weight (sym e)
weight_renamed f (t ∷ ts) us h = by (atom_of_slot f t.1) (terms_over_atoms f ts) (λ vs e. weight_renamed f ts vs e) h
  where
    by : (a : Option ℕ) (rest : Option (List (ℤ × ℕ))) → ((vs : List (ℤ × ℕ)) → rest ≡ Some vs → weight vs ≡ weight ts) → cons_term t.0 a rest ≡ Some us → weight us ≡ unsigned_abs t.0 + weight ts
    by None rest e h = absurd cc
    by (Some a) None e h = absurd cc
    by (Some a) (Some vs) e h = let s : (t.0, a) ∷ vs ≡ us = cc in ap weight (sym s) ∙ ap (λ n. unsigned_abs t.0 + n) (e vs refl)

plus_zero : (z : ℤ) → (z +ℤ pos 0) ≡ z
plus_zero (pos n) = grind (arith, ints)
plus_zero (negsuc n) = grind (arith, ints)

-- one more term
pub renamed_more : (f : CheckedFn) (ts : List (ℤ × ℕ)) (k : ℕ) (d : ℤ × ℕ) (a : ℕ) (now new : LinearForm) → k < length ts → atom_of_slot f (get_or ts k d).1 ≡ Some a → new ≡ plus now (term_form ((get_or ts k d).0, a))
    → renamed_form new.constant (option_map (λ (us : List (ℤ × ℕ)). new.terms ++ us) (terms_over_atoms f (drop (k + 1) ts)))
    ≡ renamed_form now.constant (option_map (λ (us : List (ℤ × ℕ)). now.terms ++ us) (terms_over_atoms f (drop k ts)))
renamed_more f ts k d a now new low found same =
    (λ i. renamed_form (same i).constant (option_map (λ (us : List (ℤ × ℕ)). (same i).terms ++ us) (terms_over_atoms f (drop (add-one k i) ts))))
    ∙ (by (terms_over_atoms f (drop (suc k) ts))
    ∙ ap (λ o. renamed_form now.constant (option_map (λ (us : List (ℤ × ℕ)). now.terms ++ us) o)) (sym (ap (terms_over_atoms f) (drop-cons ts k d low) ∙ ap (λ o. cons_term (get_or ts k d).0 o (terms_over_atoms f (drop (suc k) ts))) found)))
  where
    by : (o : Option (List (ℤ × ℕ))) → renamed_form (now.constant +ℤ pos 0) (option_map (λ (us : List (ℤ × ℕ)). (now.terms ++ ((get_or ts k d).0, a) ∷ []) ++ us) o) ≡ renamed_form now.constant (option_map (λ (us : List (ℤ × ℕ)). now.terms ++ us) (cons_term (get_or ts k d).0 (Some a) o))
    by None = refl
    by (Some us) = λ i. Some (record { terms = append_assoc now.terms (((get_or ts k d).0, a) ∷ []) us i; constant = plus_zero now.constant i })

-- a slot that is no atom
pub renamed_stops : (f : CheckedFn) (ts : List (ℤ × ℕ)) (k : ℕ) (d : ℤ × ℕ) (now : LinearForm) → k < length ts → atom_of_slot f (get_or ts k d).1 ≡ None
    → renamed_form now.constant (option_map (λ (us : List (ℤ × ℕ)). now.terms ++ us) (terms_over_atoms f (drop k ts))) ≡ None
renamed_stops f ts k d now low none =
    ap (λ o. renamed_form now.constant (option_map (λ (us : List (ℤ × ℕ)). now.terms ++ us) o))
    (ap (terms_over_atoms f) (drop-cons ts k d low) ∙ ap (λ o. cons_term (get_or ts k d).0 o (terms_over_atoms f (drop (suc k) ts))) none)

-- what stands for a fact over atoms
pub told_none : (f : CheckedFn) (l m : LinearForm) → m ≡ merged l → None ≡ renamed_form m.constant (terms_over_atoms f m.terms) → None ≡ fact_over_atoms f l
unfolding fact_over_atoms
told_none f l m is none = by (terms_over_atoms f (merged l).terms) (none ∙ ap (λ (x : LinearForm). renamed_form x.constant (terms_over_atoms f x.terms)) is)
  where
    by : (o : Option (List (ℤ × ℕ))) → None ≡ renamed_form l.constant o → None ≡ option_map (λ ts. comparable (record { left = record { terms = ts; constant = l.constant }; guard = None })) o
    by None h = refl
    by (Some ts) h = absurd cc

pub told_some : (f : CheckedFn) (l m sum left : LinearForm) → m ≡ merged l → Some sum ≡ renamed_form m.constant (terms_over_atoms f m.terms) → left ≡ normed sum
    → ◌≡◌ {A = Option Ineq} (Some (record { left = left; guard = None })) (fact_over_atoms f l)
unfolding fact_over_atoms comparable
told_some f l m sum left is some same = by (terms_over_atoms f (merged l).terms) (some ∙ ap (λ (x : LinearForm). renamed_form x.constant (terms_over_atoms f x.terms)) is)
  where
    by : (o : Option (List (ℤ × ℕ))) → Some sum ≡ renamed_form l.constant o
        → ◌≡◌ {A = Option Ineq} (Some (record { left = left; guard = None })) (option_map (λ ts. comparable (record { left = record { terms = ts; constant = l.constant }; guard = None })) o)
    by None h = absurd cc
    by (Some ts) h = let e : sum ≡ record { terms = ts; constant = l.constant } = cc in λ i. Some (record { left = (same ∙ ap normed e) i; guard = None })

pub sum_small : (f : CheckedFn) (l m sum : LinearForm) → IsLight l → m ≡ merged l → Some sum ≡ renamed_form m.constant (terms_over_atoms f m.terms) → IsSmall (merged sum)
unfolding IsLight
sum_small f l m sum light is some = by (terms_over_atoms f (merged l).terms) (λ us e. weight_renamed f (merged l).terms us e) (some ∙ ap (λ (x : LinearForm). renamed_form x.constant (terms_over_atoms f x.terms)) is)
  where
    by : (o : Option (List (ℤ × ℕ))) → ((us : List (ℤ × ℕ)) → o ≡ Some us → weight us ≡ weight (merged l).terms) → Some sum ≡ renamed_form l.constant o → IsSmall (merged sum)
    by None w h = absurd cc
    by (Some ts) w h =
        let e : record { terms = ts; constant = l.constant } ≡ sum = cc in
        subst (λ (x : LinearForm). IsSmall (merged x)) e (light_merged (record { terms = ts; constant = l.constant }) (omega (arith, w ts refl, weight-merged l.terms, light.terms)) light.constant)

-- facts of comparisons are light
abs_small : (n : ℕ) (z : ℤ) → neg_ℤ (pos n) ≤ℤ z → z ≤ℤ pos n → unsigned_abs z ≤ n
abs_small n (pos m) h k = grind (arith, ints)
abs_small n (negsuc m) h k = grind (arith, ints)

pub light_by : (l : LinearForm) → weight l.terms ≤ 2 → neg_ℤ (pos (2 ^ 70)) ≤ℤ l.constant → l.constant ≤ℤ pos (2 ^ 70) → IsLight l
unfolding IsLight
light_by l few low high = record { terms = omega (arith, few); constant = let a = abs_small (2 ^ 70) l.constant low high in omega (arith, a) }

pub few_terms : (strict : Bool) (a b : Option ℕ) (x y : ℤ) → weight (difference_of strict (form_of a x) (form_of b y)).terms ≤ 2
few_terms true None None x y = omega arith
few_terms true None (Some t) x y = omega arith
few_terms true (Some s) None x y = omega arith
few_terms true (Some s) (Some t) x y = omega arith
few_terms false None None x y = omega arith
few_terms false None (Some t) x y = omega arith
few_terms false (Some s) None x y = omega arith
few_terms false (Some s) (Some t) x y = omega arith

pub constant_is : (strict : Bool) (a b : LinearForm) → (difference_of strict a b).constant ≡ strict_constant strict (a.constant +ℤ (b.constant *ℤ negsuc 0))
constant_is true a b = refl
constant_is false a b = refl

pub light_difference : (strict : Bool) (a b : Option ℕ) (x y z : ℤ) → z ≡ strict_constant strict ((form_of a x).constant +ℤ ((form_of b y).constant *ℤ negsuc 0))
    → neg_ℤ (pos (2 ^ 70)) ≤ℤ z → z ≤ℤ pos (2 ^ 70) → IsLight (difference_of strict (form_of a x) (form_of b y))
light_difference strict a b x y z is low high =
    let e : z ≡ (difference_of strict (form_of a x) (form_of b y)).constant = is ∙ sym (constant_is strict (form_of a x) (form_of b y)) in
    light_by (difference_of strict (form_of a x) (form_of b y)) (few_terms strict a b x y) (subst (λ w. neg_ℤ (pos (2 ^ 70)) ≤ℤ w) e low) (subst (λ w. w ≤ℤ pos (2 ^ 70)) e high)

pub light_pointer : (slot : ℕ) → IsLight (record { terms = (negsuc 0, slot) ∷ []; constant = pos 1 })
unfolding IsLight
light_pointer slot = record { terms = omega arith; constant = omega arith }
