-- Bounds by weight: merging never adds to the weight, and a light form is small.
use Rattle.std.proofs.Common.{◌≡◌, ℕ, zero, suc, ◌+◌, ◌*◌, ◌^◌, ◌<◌, ◌≤◌, cond, List, [], ◌∷◌, ◌++◌, map, take, filter, ℤ, pos, negsuc, ◌+ℤ◌, unsigned_abs, All, arith}
use Rattle.std.proofs.Math.Nat.{add-mul}
use Rattle.std.proofs.lemmas.Int.{ints, unsigned_abs-mul}
use Rattle.std.proofs.lemmas.Nat.{mul-le}
use Rattle.std.proofs.lemmas.List.Elements.{All-nil, All-cons}
use Rattle.dep_expr.specs.Linear.{LinearForm, IsSmallTerm, IsSmall, IsSmallThroughout, scaled_term, scaled, plus, part_of, plus_parts, number_form, term_form}
use Rattle.dep_expr.specs.Merged.{with_term, gathered, counts, merged_terms, merged}
use Rattle.dep_expr.specs.Weight.{weight}
use Rattle.dep_expr.proofs.Merging.{on_with_term, on_counts}
use Rattle.dep_expr.proofs.Canonical.{on_equal}

-- the size of a sum
pub abs-add : (a b : ℤ) → unsigned_abs (a +ℤ b) ≤ unsigned_abs a + unsigned_abs b
abs-add (pos m) (pos n) = omega arith
abs-add (pos m) (negsuc n) = grind (arith, ints)
abs-add (negsuc m) (pos n) = grind (arith, ints)
abs-add (negsuc m) (negsuc n) = omega arith

weight-with_term : (t : ℤ × ℕ) (us : List (ℤ × ℕ)) → weight (with_term t us) ≤ unsigned_abs t.0 + weight us
weight-with_term t [] = omega arith
weight-with_term t (u ∷ us) =
    on_with_term (λ xs. weight xs ≤ unsigned_abs t.0 + (unsigned_abs u.0 + weight us)) t u us
    (λ same. omega (arith, abs-add t.0 u.0)) (λ below. omega arith) (λ above. omega (arith, weight-with_term t us))

weight-gathered : (ts : List (ℤ × ℕ)) → weight (gathered ts) ≤ weight ts
weight-gathered [] = omega arith
weight-gathered (t ∷ ts) = omega (arith, weight-with_term t (gathered ts), weight-gathered ts)

weight-filter : (ts : List (ℤ × ℕ)) → weight (filter counts ts) ≤ weight ts
weight-filter [] = omega arith
weight-filter (t ∷ ts) =
    on_counts (λ b. weight (cond b (t ∷ filter counts ts) (filter counts ts)) ≤ unsigned_abs t.0 + weight ts) t
    (λ nonzero. omega (arith, weight-filter ts)) (λ zero. omega (arith, weight-filter ts))

-- merging never adds to the weight
pub weight-merged : (ts : List (ℤ × ℕ)) → weight (merged_terms ts) ≤ weight ts
unfolding merged_terms
weight-merged ts = omega (arith, weight-filter (gathered ts), weight-gathered ts)

pub weight-append : (xs ys : List (ℤ × ℕ)) → weight (xs ++ ys) ≡ weight xs + weight ys
weight-append [] ys = omega arith
weight-append (x ∷ xs) ys = omega (arith, weight-append xs ys)

pub weight-scaled : (ts : List (ℤ × ℕ)) (by : ℤ) → weight (map (scaled_term by) ts) ≡ weight ts * unsigned_abs by
weight-scaled [] by = omega arith
weight-scaled (t ∷ ts) by = omega (arith, unsigned_abs-mul t.0 by, weight-scaled ts by, add-mul (unsigned_abs t.0) (weight ts) (unsigned_abs by))

light_terms : (ts : List (ℤ × ℕ)) → weight ts < 2 ^ 62 → All IsSmallTerm ts
light_terms [] h = All-nil IsSmallTerm
light_terms (t ∷ ts) h = All-cons IsSmallTerm t ts (omega (arith, h)) (light_terms ts (omega (arith, h)))

-- a form of a weight below 2^62 and a constant below 2^100 is small
pub light : (l : LinearForm) → weight l.terms < 2 ^ 62 → unsigned_abs l.constant < 2 ^ 100 → IsSmall l
light l h k = record { coefficients = light_terms l.terms h; constant = k }

-- and so is its merged form
pub light_merged : (l : LinearForm) → weight l.terms < 2 ^ 62 → unsigned_abs l.constant < 2 ^ 100 → IsSmall (merged l)
light_merged l h k = light (merged l) (omega (arith, weight-merged l.terms, h)) k

-- what stands for a term, in weight and constant
weight-part : (a : ℕ) (by : LinearForm) (t : ℤ × ℕ) (w : ℕ) → weight by.terms ≤ w → 1 ≤ w → weight (part_of a by t).terms ≤ unsigned_abs t.0 * w
weight-part a by t w h k =
    on_equal (λ b. weight (cond b (scaled by t.0) (term_form t)).terms ≤ unsigned_abs t.0 * w) t.1 a
    (λ same. omega (arith, weight-scaled by.terms t.0, mul-le (weight by.terms) (unsigned_abs t.0) w (unsigned_abs t.0) h (omega arith)))
    (λ other. omega (arith, mul-le (unsigned_abs t.0) 1 (unsigned_abs t.0) w (omega arith) k))

constant-part : (a : ℕ) (by : LinearForm) (t : ℤ × ℕ) → unsigned_abs (part_of a by t).constant ≤ unsigned_abs t.0 * unsigned_abs by.constant
constant-part a by t =
    on_equal (λ b. unsigned_abs (cond b (scaled by t.0) (term_form t)).constant ≤ unsigned_abs t.0 * unsigned_abs by.constant) t.1 a
    (λ same. omega (arith, unsigned_abs-mul by.constant t.0)) (λ other. omega arith)

-- a substitution, in weight and constant
pub weight-plus_parts : (a : ℕ) (by sum : LinearForm) (ts : List (ℤ × ℕ)) (w : ℕ) → weight by.terms ≤ w → 1 ≤ w
    → weight (plus_parts a by sum ts).terms ≤ weight sum.terms + weight ts * w
weight-plus_parts a by sum [] w h k = omega arith
weight-plus_parts a by sum (t ∷ ts) w h k =
    omega (
      arith,
      weight-plus_parts a by (plus sum (part_of a by t)) ts w h k,
      weight-append sum.terms (part_of a by t).terms,
      weight-part a by t w h k,
      add-mul (unsigned_abs t.0) (weight ts) w,
    )

pub constant-plus_parts : (a : ℕ) (by sum : LinearForm) (ts : List (ℤ × ℕ))
    → unsigned_abs (plus_parts a by sum ts).constant ≤ unsigned_abs sum.constant + weight ts * unsigned_abs by.constant
constant-plus_parts a by sum [] = omega arith
constant-plus_parts a by sum (t ∷ ts) =
    omega (
      arith,
      constant-plus_parts a by (plus sum (part_of a by t)) ts,
      abs-add sum.constant (part_of a by t).constant,
      constant-part a by t,
      add-mul (unsigned_abs t.0) (weight ts) (unsigned_abs by.constant),
    )

weight-take : (k : ℕ) (ts : List (ℤ × ℕ)) → weight (take k ts) ≤ weight ts
weight-take zero ts = omega arith
weight-take (suc k) [] = omega arith
weight-take (suc k) (t ∷ ts) = omega (arith, weight-take k ts)

-- where the products of the weights are small, so is a substitution, and each sum on the way to it
pub light_throughout : (l : LinearForm) (a : ℕ) (by : LinearForm) (w : ℕ) → weight by.terms ≤ w → 1 ≤ w → weight l.terms * w < 2 ^ 62
    → unsigned_abs l.constant + weight l.terms * unsigned_abs by.constant < 2 ^ 100 → IsSmallThroughout l a by
light_throughout l a by w h k m c i le =
    let ts = take i l.terms in
    let less = weight-take i l.terms in
    light (plus_parts a by (number_form l.constant) ts)
    (omega (arith, weight-plus_parts a by (number_form l.constant) ts w h k, mul-le (weight ts) w (weight l.terms) w less (omega arith), m))
    (omega (arith, constant-plus_parts a by (number_form l.constant) ts, mul-le (weight ts) (unsigned_abs by.constant) (weight l.terms) (unsigned_abs by.constant) less (omega arith), c))
