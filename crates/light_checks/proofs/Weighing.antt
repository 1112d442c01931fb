-- How far sums weigh.
use Rattle.std.proofs.Common.{◌≡◌, ℕ, ◌+◌, ◌*◌, ◌≤◌, ◌^◌, List, [], ◌∷◌, ◌++◌, map, Option, Some, None, ℤ, pos, ◌*ℤ◌, unsigned_abs, refl, arith}
use Rattle.std.proofs.lemmas.Int.{unsigned_abs-mul}
use Rattle.std.proofs.lemmas.Nat.{mul-le}
use Rattle.checked_tree.specs.declared.expressions.CheckedExpr.{CheckedExpr}
use Rattle.checked_tree.specs.declared.sums.Part.{Part}
use Rattle.checked_tree.specs.declared.sums.Part.TheVariants.{Constant, Atom}
use Rattle.checked_tree.specs.declared.sums.Sum.{Sum}
use Rattle.deputy_rules.specs.declared.derived.Whole.{Whole}
use Rattle.deputy_rules.specs.Places.{moved_sum}
use Rattle.deputy_rules.specs.Sums.{constant_part, constant, atom, with_part, beyond, times, scaled, constant_of, side_by, side}
use Rattle.light_checks.specs.Lightness.{part_factor, part_constant, factors, constants, IsLight, IsLightPart}
use Rattle.light_checks.specs.Weights.{IsAddress, IsBound, IsSmallPart, AreSingle, IsSingle, IsWhole}

pub factors-append : (ps qs : List Part) → factors (ps ++ qs) ≡ factors ps + factors qs
factors-append [] qs = omega arith
factors-append (p ∷ ps) qs = omega (arith, factors-append ps qs)

pub constants-append : (ps qs : List Part) → constants (ps ++ qs) ≡ constants ps + constants qs
constants-append [] qs = omega arith
constants-append (p ∷ ps) qs = omega (arith, constants-append ps qs)

-- what weighs so little is light
pub address_light : (n : ℕ) (s : Sum) → n ≤ 2 ^ 30 → IsAddress n s → IsLight s
address_light n s h a = let f = a.factors in let c = a.constants in record { factors = omega arith; constants = omega arith }

pub bound_light : (n : ℕ) (s : Sum) → n ≤ 2 ^ 30 → IsBound n s → IsLight s
bound_light n s h a = let f = a.factors in let c = a.constants in record { factors = omega arith; constants = omega arith }

pub address_bound : (n : ℕ) (s : Sum) → IsAddress n s → IsBound n s
address_bound n s a = let f = a.factors in let c = a.constants in record { factors = omega arith; constants = omega arith }

pub address_more : (n m : ℕ) (s : Sum) → n ≤ m → IsAddress n s → IsAddress m s
address_more n m s h a = let f = a.factors in let c = a.constants in record { factors = omega arith; constants = omega arith }

pub bound_more : (n m : ℕ) (s : Sum) → n ≤ m → IsBound n s → IsBound m s
bound_more n m s h a = let f = a.factors in let c = a.constants in record { factors = omega arith; constants = omega arith }

-- a sum with one part more
pub with_part_address : (n : ℕ) (s : Sum) (p : Part) → IsAddress n s → part_factor p ≤ 65536 → part_constant p ≤ 281474976710656 → IsAddress (n + 1) (with_part s p)
with_part_address n s p a h k =
    let f = a.factors in
    let c = a.constants in
    let e = factors-append s.parts (p ∷ []) in
    let g = constants-append s.parts (p ∷ []) in
    record { factors = omega arith; constants = omega arith }

pub with_part_bound : (n : ℕ) (s : Sum) (p : Part) → IsAddress n s → part_factor p ≤ 65536 → part_constant p ≤ 2 ^ 60 → IsBound n (with_part s p)
with_part_bound n s p a h k =
    let f = a.factors in
    let c = a.constants in
    let e = factors-append s.parts (p ∷ []) in
    let g = constants-append s.parts (p ∷ []) in
    record { factors = omega arith; constants = omega arith }

once : (z : ℤ) → unsigned_abs (pos 1 *ℤ z) ≡ unsigned_abs z
once z = omega (arith, unsigned_abs-mul (pos 1) z)

pub beyond_address : (n : ℕ) (s : Sum) (z : ℤ) → IsAddress n s → unsigned_abs z ≤ 65536 → IsAddress (n + 1) (beyond s z)
beyond_address n s z a h = with_part_address n s (constant_part z) a (omega arith) (omega (arith, once z))

pub beyond_bound : (n : ℕ) (s : Sum) (z : ℤ) → IsAddress n s → unsigned_abs z ≤ 2 ^ 60 → IsBound n (beyond s z)
beyond_bound n s z a h = with_part_bound n s (constant_part z) a (omega arith) (omega (arith, once z))

-- one part, and what stands for nothing
pub single_address : (s : Sum) (n : ℕ) → IsSingle s → IsAddress n s
single_address s n one = by s.parts one
  where
    by : (ps : List Part) → AreSingle ps → IsAddress n (record { parts = ps })
    by [] one = record { factors = omega arith; constants = omega arith }
    by (Constant k z ∷ []) one = let a = unsigned_abs-mul k z in let b = mul-le (unsigned_abs k) (unsigned_abs z) 1 (2 ^ 32) one.0 one.1 in record { factors = omega arith; constants = omega arith }
    by (Atom k e ∷ []) one = record { factors = omega arith; constants = omega arith }
    by (p ∷ q ∷ ps) one = absurd one

pub atom_single : (e : CheckedExpr) → IsSingle (atom e)
atom_single e = omega arith

pub atom_address : (e : CheckedExpr) (n : ℕ) → IsAddress n (atom e)
atom_address e n = record { factors = omega arith; constants = omega arith }

pub constant_address : (b n : ℕ) → b ≤ 2 ^ 32 → IsAddress n (constant (pos b))
constant_address b n h = record { factors = omega arith; constants = omega (arith, once (pos b)) }

-- an integer in a check
pub side_small : (w : Whole) → IsWhole w → IsSmallPart (side w)
unfolding side
side_small w is = by (constant_of w.written) is.small
  where
    by : (o : Option ℤ) → ((z : ℤ) → o ≡ Some z → unsigned_abs z ≤ 2 ^ 32) → IsSmallPart (side_by o w.form)
    by None h = omega arith
    by (Some z) h = (omega arith, h z refl)

pub small_light : (p : Part) → IsSmallPart p → IsLightPart p
small_light (Constant k z) s = let a = unsigned_abs-mul k z in let b = mul-le (unsigned_abs k) (unsigned_abs z) 1 (2 ^ 32) s.0 s.1 in record { factors = omega arith; constants = omega arith }
small_light (Atom k e) s = record { factors = omega arith; constants = omega arith }

-- so many times
times_factor : (n : ℤ) (p : Part) → part_factor (times n p) ≤ unsigned_abs n
times_factor n (Constant k z) = omega arith
times_factor n (Atom k e) = omega arith

times_constant : (n : ℤ) (p : Part) → IsSmallPart p → part_constant (times n p) ≤ unsigned_abs n * 2 ^ 32
times_constant n (Constant k z) s = omega (arith, unsigned_abs-mul n z, mul-le (unsigned_abs n) (unsigned_abs z) (unsigned_abs n) (2 ^ 32) (omega arith) s.1)
times_constant n (Atom k e) s = omega arith

-- a pointer moved by an integer
pub moved_address : (n : ℕ) (at : Sum) (i : Whole) (size : ℤ) → IsAddress n at → IsWhole i → unsigned_abs size ≤ 65536 → IsAddress (n + 1) (moved_sum at i size)
moved_address n at i size a w h =
    let p = side i in
    let c = times_constant size p (side_small i w) in
    with_part_address n at (times size p) a (omega (arith, times_factor size p)) (omega arith)

-- a sum of one part, so many times
pub scaled_factors : (n : ℤ) (s : Sum) → IsSingle s → factors (scaled n s).parts ≤ unsigned_abs n
unfolding scaled
scaled_factors n s one = by s.parts one
  where
    by : (ps : List Part) → AreSingle ps → factors (map (times n) ps) ≤ unsigned_abs n
    by [] one = omega arith
    by (p ∷ []) one = omega (arith, times_factor n p)
    by (p ∷ q ∷ ps) one = absurd one

pub scaled_constants : (n : ℤ) (s : Sum) → IsSingle s → constants (scaled n s).parts ≤ unsigned_abs n * 2 ^ 32
unfolding scaled
scaled_constants n s one = by s.parts one
  where
    by : (ps : List Part) → AreSingle ps → constants (map (times n) ps) ≤ unsigned_abs n * 2 ^ 32
    by [] one = omega arith
    by (p ∷ []) one = omega (arith, times_constant n p one)
    by (p ∷ q ∷ ps) one = absurd one
