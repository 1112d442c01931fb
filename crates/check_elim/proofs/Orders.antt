-- The order of facts, and which of them an inequality implies as far as terms and constants go.
use Rattle.std.proofs.Common.{◌≡◌, inl, inr, ℕ, suc, ◌≤◌, ◌<◌, Bool, true, false, not, ◌&&◌, leb, nat_lt, List, [], ◌∷◌, ℤ, pos, negsuc, int_le, length, Some, slice_index_or, slice_get, refl, sym, ap, ◌∙◌, arith}
use Rattle.std.specs.declared.cmp.Ordering.{Ordering}
use Rattle.std.specs.declared.cmp.Ordering.TheVariants.{Less, Equal, Greater}
use Rattle.std.specs.Ordering.{nat_cmp, int_cmp, ordering_then, ordering_reverse, is_lt, is_gt}
use Rattle.std.specs.Cmp.{IsTotalOrder}
use Rattle.std.specs.List.{AllWithin}
use Rattle.std.specs.List.Sorted.{IsPartitionedBy}
use Rattle.std.proofs.lemmas.Cmp.{nat_cmp_total, int_cmp_total, on_total, then_total, lists_total, upto, ranked, int_ranked}
use Rattle.std.proofs.lemmas.Bool.Decides.{leb_tells}
use Rattle.std.proofs.lemmas.Option.{slice_get_cases}
use Rattle.std.proofs.lemmas.Int.{ints}
use Rattle.dep_expr.specs.Linear.{LinearForm}
use Rattle.dep_expr.specs.declared.inequality.Ineq.{Ineq}
use Rattle.check_elim.specs.Facts.{same_terms}
use Rattle.check_elim.specs.Order.{term_cmp, terms_cmp, form_cmp, IsInOrder}
use Rattle.check_elim.specs.Runs.{line_implies}
use Rattle.check_elim.proofs.Implying.{terms_same}

pub term_total : IsTotalOrder term_cmp
term_total = then_total (on_total (λ (t : ℤ × ℕ). t.0) int_cmp_total) (on_total (λ (t : ℤ × ℕ). t.1) nat_cmp_total)

pub terms_total : IsTotalOrder terms_cmp
terms_total = lists_total term_total

pub form_total : IsTotalOrder form_cmp
form_total = then_total (on_total (λ (l : LinearForm). l.terms) terms_total) (on_total (λ (l : LinearForm). l.constant) int_cmp_total)

reverse_lt : (o : Ordering) → is_lt (ordering_reverse o) ≡ is_gt o
reverse_lt Less = refl
reverse_lt Equal = refl
reverse_lt Greater = refl

pub flipped : {K : Type 0} {R : K → K → Ordering} (o : IsTotalOrder R) → (x y : K) → is_lt (R x y) ≡ is_gt (R y x)
flipped {R = R} o x y = ap is_lt (o.antisymm x y) ∙ reverse_lt (R y x)

pub first_lt : (o p : Ordering) → is_lt (ordering_then o p) ≡ false → is_lt o ≡ false
first_lt Less p h = h
first_lt Equal p h = refl
first_lt Greater p h = refl

pub then_equal : (o p : Ordering) → ordering_then o p ≡ Equal → (o ≡ Equal) × (p ≡ Equal)
then_equal Less p h = absurd cc
then_equal Equal p h = (refl, h)
then_equal Greater p h = absurd cc

nat_equal : (x y : ℕ) → nat_cmp x y ≡ Equal → x ≡ y
nat_equal x y h = by (nat_cmp x y) (ranked x y (nat_cmp x y) refl) h
  where
    by : (o : Ordering) → Rattle.std.specs.Ordering.MatchOrdering o (x < y) (x ≡ y) (y < x) → o ≡ Equal → x ≡ y
    by Less m e = absurd cc
    by Equal m e = m
    by Greater m e = absurd cc

pub int_equal : (x y : ℤ) → int_cmp x y ≡ Equal → x ≡ y
int_equal (pos m) (pos n) h = grind (arith, ints)
int_equal (pos m) (negsuc n) h = grind (arith, ints)
int_equal (negsuc m) (pos n) h = grind (arith, ints)
int_equal (negsuc m) (negsuc n) h = grind (arith, ints)

pub terms_equal : (ss ts : List (ℤ × ℕ)) → terms_cmp ss ts ≡ Equal → ss ≡ ts
terms_equal [] [] h = refl
terms_equal [] (t ∷ ts) h = absurd cc
terms_equal (s ∷ ss) [] h = absurd cc
terms_equal (s ∷ ss) (t ∷ ts) h =
    let p = then_equal (term_cmp s t) (terms_cmp ss ts) h in
    let q = then_equal (int_cmp s.0 t.0) (nat_cmp s.1 t.1) p.0 in
    let a = int_equal s.0 t.0 q.0 in
    let b = nat_equal s.1 t.1 q.1 in
    let c = terms_equal ss ts p.1 in
    λ i. (a i, b i) ∷ c i

not_same : (ss ts : List (ℤ × ℕ)) (o : Ordering) → terms_cmp ts ss ≡ o → (o ≡ Equal → ⊥) → same_terms ss ts ≡ false
not_same ss ts o is other = by (same_terms ss ts) refl
  where
    by : (b : Bool) → same_terms ss ts ≡ b → b ≡ false
    by true h =
        let e = (terms_same ss ts).0 h in
        absurd (other (sym is ∙ (ap (λ x. terms_cmp ts x) e ∙ Rattle.std.proofs.lemmas.Cmp.tied_itself terms_total ts)))
    by false h = refl

int_tells : (x y : ℤ) → not (is_lt (int_cmp x y)) ≡ int_le y x
int_tells (pos m) (pos n) = grind (arith, ints)
int_tells (pos m) (negsuc n) = grind (arith, ints)
int_tells (negsuc m) (pos n) = grind (arith, ints)
int_tells (negsuc m) (negsuc n) = grind (arith, ints)

-- whether a fact is in the run of an inequality, by its two ends
pub run_tells : (s x : LinearForm) → (not (is_lt (terms_cmp x.terms s.terms)) && not (is_lt (form_cmp s x))) ≡ (same_terms s.terms x.terms && int_le x.constant s.constant)
run_tells s x = by (terms_cmp x.terms s.terms) refl
  where
    back : terms_cmp s.terms x.terms ≡ ordering_reverse (terms_cmp x.terms s.terms)
    back = terms_total.antisymm s.terms x.terms

    by : (o : Ordering) → terms_cmp x.terms s.terms ≡ o → (not (is_lt o) && not (is_lt (form_cmp s x))) ≡ (same_terms s.terms x.terms && int_le x.constant s.constant)
    by Less is = ap (λ b. b && int_le x.constant s.constant) (sym (not_same s.terms x.terms Less is (λ e. cc)))
    by Equal is =
        ap (λ o. not (is_lt (ordering_then o (int_cmp s.constant x.constant)))) (back ∙ ap ordering_reverse is)
        ∙ (int_tells s.constant x.constant ∙ ap (λ b. b && int_le x.constant s.constant) (sym ((terms_same s.terms x.terms).1 (sym (terms_equal x.terms s.terms is)))))
    by Greater is =
        ap (λ o. not (is_lt (ordering_then o (int_cmp s.constant x.constant)))) (back ∙ ap ordering_reverse is)
        ∙ ap (λ b. b && int_le x.constant s.constant) (sym (not_same s.terms x.terms Greater is (λ e. cc)))

pub before_parted : (list : List Ineq) (s : LinearForm) → IsInOrder list → IsPartitionedBy (λ (y : Ineq). is_lt (terms_cmp y.left.terms s.terms)) list
unfolding IsInOrder
before_parted list s order i j d low high h =
    let a = (slice_index_or list i d).left in
    let b = (slice_index_or list j d).left in
    let ordered : is_gt (terms_cmp a.terms b.terms) ≡ false = sym (flipped terms_total b.terms a.terms) ∙ first_lt (terms_cmp b.terms a.terms) (int_cmp b.constant a.constant) (order i j d low high) in
    by (is_lt (terms_cmp a.terms s.terms)) refl (λ q. upto terms_total s.terms a.terms b.terms (sym (flipped terms_total a.terms s.terms) ∙ q) ordered) (sym (flipped terms_total b.terms s.terms) ∙ h)
  where
    by : {x z : Bool} (b : Bool) → x ≡ b → (x ≡ false → z ≡ false) → z ≡ true → b ≡ true
    by true e f g = refl
    by false e f g = absurd (let w = f e in cc)

pub up_to_parted : (list : List Ineq) (s : LinearForm) → IsInOrder list → IsPartitionedBy (λ (y : Ineq). not (is_lt (form_cmp s y.left))) list
unfolding IsInOrder
up_to_parted list s order i j d low high h =
    let a = (slice_index_or list i d).left in
    let b = (slice_index_or list j d).left in
    let ordered : is_gt (form_cmp a b) ≡ false = sym (flipped form_total b a) ∙ order i j d low high in
    ap not (flipped form_total s a ∙ upto form_total a b s ordered (sym (flipped form_total s b) ∙ not_true (is_lt (form_cmp s b)) h))
  where
    not_true : (b : Bool) → not b ≡ true → b ≡ false
    not_true true e = absurd cc
    not_true false e = refl

-- the run between two points
pub run_is : (list : List Ineq) (s : Ineq) (from to : ℕ) → to ≤ length list
    → AllWithin (λ (y : Ineq). is_lt (terms_cmp y.left.terms s.left.terms) ≡ true) list 0 from → AllWithin (λ (y : Ineq). is_lt (terms_cmp y.left.terms s.left.terms) ≡ false) list from (length list)
    → AllWithin (λ (y : Ineq). not (is_lt (form_cmp s.left y.left)) ≡ true) list 0 to → AllWithin (λ (y : Ineq). not (is_lt (form_cmp s.left y.left)) ≡ false) list to (length list)
    → (j : ℕ) → (leb from j && nat_lt j to) ≡ line_implies s (slice_get list j)
run_is list s from to bound low high under over j = elim (slice_get_cases list j).1 [
  | inl p ↦ by p.0 p.1 p.2 p.3
  | inr q ↦ ap (λ b. leb from j && b) (no_lt (elim (leb_tells (suc j) to) [ inl r ↦ absurd (omega (arith, r.1, q.0, bound)) | inr r ↦ r.0 ])) ∙ (and_false (leb from j) ∙ ap (line_implies s) (sym q.1))
]
  where
    no_lt : {b : Bool} → b ≡ false → b ≡ false
    no_lt e = e

    and_false : (a : Bool) → (a && false) ≡ false
    and_false true = refl
    and_false false = refl

    by : (x : Ineq) → j < length list → slice_get list j ≡ Some x → slice_index_or list j x ≡ x → (leb from j && nat_lt j to) ≡ line_implies s (slice_get list j)
    by x within is at =
        (λ i. first i && second i) ∙ (run_tells s.left x.left ∙ ap (line_implies s) (sym is))
      where
        first : leb from j ≡ not (is_lt (terms_cmp x.left.terms s.left.terms))
        first = elim (leb_tells from j) [
          | inl p ↦ p.0 ∙ ap not (sym (ap (λ (y : Ineq). is_lt (terms_cmp y.left.terms s.left.terms)) (sym at) ∙ high j x p.1 within))
          | inr p ↦ p.0 ∙ ap not (sym (ap (λ (y : Ineq). is_lt (terms_cmp y.left.terms s.left.terms)) (sym at) ∙ low j x (omega arith) p.1))
        ]

        second : nat_lt j to ≡ not (is_lt (form_cmp s.left x.left))
        second = elim (leb_tells (suc j) to) [
          | inl p ↦ p.0 ∙ sym (ap (λ (y : Ineq). not (is_lt (form_cmp s.left y.left))) (sym at) ∙ under j x (omega arith) p.1)
          | inr p ↦ p.0 ∙ sym (ap (λ (y : Ineq). not (is_lt (form_cmp s.left y.left))) (sym at) ∙ over j x (omega (arith, p.1)) within)
        ]
