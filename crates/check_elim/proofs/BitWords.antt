-- Bits of words and of lists of words.
use Rattle.std.proofs.Common.{◌≡◌, inl, inr, ℕ, zero, suc, ◌*◌, ◌-◌, ◌/◌, ◌%◌, ◌^◌, ◌<◌, ◌==◌, Bool, true, false, ◌||◌, if◌then◌else◌, List, length, get_or, slice_set, slice_index_or, bit_and, bit_or, nat_eq, w64, refl, ap, ◌∙◌, arith}
use Rattle.std.specs.Prelude.{max}
use Rattle.std.specs.Int.{bit_at}
use Rattle.std.proofs.lemmas.Nat.Bits.{shr_and_one, bit_at_or, bit_at_set_same, bit_at_set_other, bit_at_clear_same, bit_at_clear_other, bit_at-lt}
use Rattle.std.proofs.lemmas.Bool.Decides.{eqb_tells, leb_tells}
use Rattle.std.proofs.lemmas.List.{get_or-set_same, get_or-set_other, get_or_past}
use Rattle.check_elim.specs.Bits.{has, bit_is}

pub test_is : (w i : ℕ) → nat_eq (bit_and (w / 2 ^ i) 1) 1 ≡ bit_is w i
unfolding bit_is
test_is w i = ap (λ x. nat_eq x 1) (shr_and_one w i)

pub set_is : (w k : ℕ) → k < 64 → (i : ℕ) → bit_is (bit_or w (1 * 2 ^ k % 18446744073709551616)) i ≡ (if i == k then true else bit_is w i)
unfolding bit_is
set_is w k within i = elim (eqb_tells i k) [
  | inl same ↦ rw same.0 (rw same.1 (ap (λ x. nat_eq x 1) (bit_at_set_same w64 w k within)))
  | inr other ↦ rw other.0 (ap (λ x. nat_eq x 1) (bit_at_set_other w64 w k within i other.1))
]

pub clear_is : (w k : ℕ) → k < 64 → (i : ℕ) → i < 64 → bit_is (bit_and w (18446744073709551615 - 1 * 2 ^ k % 18446744073709551616)) i ≡ (if i == k then false else bit_is w i)
unfolding bit_is
clear_is w k within i low = elim (eqb_tells i k) [
  | inl same ↦ rw same.0 (rw same.1 (ap (λ x. nat_eq x 1) (bit_at_clear_same w64 w k within)))
  | inr other ↦ rw other.0 (ap (λ x. nat_eq x 1) (bit_at_clear_other w64 w k within i low other.1))
]

low_part : (i : ℕ) → i % 64 < 64
low_part i = omega arith

tests_same : (i n : ℕ) → i / 64 ≡ n / 64 → (i % 64 == n % 64) ≡ (i == n)
tests_same i n same = elim (eqb_tells (i % 64) (n % 64)) [
  | inl low ↦ rw low.0 (elim (eqb_tells i n) [ inl e ↦ rw e.0 refl | inr e ↦ absurd (e.1 (omega (arith, same, low.1))) ])
  | inr low ↦ rw low.0 (elim (eqb_tells i n) [ inl e ↦ absurd (low.1 (ap (λ x. x % 64) e.1)) | inr e ↦ rw e.0 refl ])
]

-- a word of a set was changed at one bit
pub has-set : (ws : List ℕ) (n x : ℕ) (b : Bool) → n < 64 * length ws
    → ((j : ℕ) → j < 64 → bit_is x j ≡ (if j == n % 64 then b else bit_is (slice_index_or ws (n / 64) 0) j))
    → (i : ℕ) → has (slice_set ws (n / 64) x) i ≡ (if i == n then b else has ws i)
unfolding has
has-set ws n x b within each i = elim (eqb_tells (i / 64) (n / 64)) [
  | inl same ↦ rw same.1 (rw (get_or-set_same ws (n / 64) x 0 (omega (arith, within))) (each (i % 64) (low_part i) ∙ ap (λ (t : Bool). if t then b else bit_is (get_or ws (n / 64) 0) (i % 64)) (tests_same i n same.1)))
  | inr other ↦ elim (eqb_tells i n) [
    | inl same ↦ absurd (other.1 (ap (λ x. x / 64) same.1))
    | inr apart ↦ rw apart.0 (ap (λ w. bit_is w (i % 64)) (get_or-set_other ws (n / 64) (i / 64) x 0 other.1))
  ]
]

each_joined : (ws vs us : List ℕ) → length ws ≡ length vs → length us ≡ length ws
    → ((j : ℕ) → j < length us → slice_index_or us j 0 ≡ bit_or (slice_index_or ws j 0) (slice_index_or vs j 0))
    → (j : ℕ) → slice_index_or us j 0 ≡ bit_or (slice_index_or ws j 0) (slice_index_or vs j 0)
each_joined ws vs us same long each j = elim (leb_tells (length us) j) [
  | inl high ↦ rw (get_or_past us j 0 (omega (arith, high.1))) (rw (get_or_past ws j 0 (omega (arith, high.1, long))) (rw (get_or_past vs j 0 (omega (arith, high.1, long, same))) refl))
  | inr low ↦ each j low.1
]

pub has_joined : (ws vs us : List ℕ) → length ws ≡ length vs → length us ≡ length ws
    → ((j : ℕ) → j < length us → slice_index_or us j 0 ≡ bit_or (slice_index_or ws j 0) (slice_index_or vs j 0))
    → (i : ℕ) → has us i ≡ (has ws i || has vs i)
unfolding has bit_is
has_joined ws vs us same long each i = rw (each_joined ws vs us same long each (i / 64)) (rw (bit_at_or (slice_index_or ws (i / 64) 0) (slice_index_or vs (i / 64) 0) (i % 64))
    (by (bit_at (slice_index_or ws (i / 64) 0) (i % 64)) (bit_at (slice_index_or vs (i / 64) 0) (i % 64)) (bit_at-lt (slice_index_or ws (i / 64) 0) (i % 64)) (bit_at-lt (slice_index_or vs (i / 64) 0) (i % 64))))
  where
    by : (a b : ℕ) → a < 2 → b < 2 → nat_eq (max a b) 1 ≡ (nat_eq a 1 || nat_eq b 1)
    by zero zero p q = refl
    by zero (suc zero) p q = refl
    by (suc zero) zero p q = refl
    by (suc zero) (suc zero) p q = refl
    by (suc (suc a)) b p q = absurd (omega (arith, p))
    by zero (suc (suc b)) p q = absurd (omega (arith, q))
    by (suc zero) (suc (suc b)) p q = absurd (omega (arith, q))
