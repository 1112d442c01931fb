-- What a binary search finds in a list in order.
use Rattle.std.proofs.Common.{◌≡◌, ◌⊎◌, inl, inr, ℕ, suc, ◌≤◌, ◌<◌, Bool, true, false, not, List, [], ◌∷◌, length, get_or, Contains, Option, Some, None, slice_get, refl, sym, ap, ◌∙◌, subst, arith}
use Rattle.std.specs.declared.cmp.Ordering.{Ordering}
use Rattle.std.specs.declared.cmp.Ordering.TheVariants.{Less, Equal, Greater}
use Rattle.std.specs.Ordering.{ordering_reverse, is_lt}
use Rattle.std.specs.Cmp.{IsTotalOrder, IsStrictWeakOrder}
use Rattle.std.specs.List.{AllWithin, position_or_len}
use Rattle.std.specs.List.Sorted.{IsPartitionedBy}
use Rattle.std.proofs.lemmas.List.Sorted.{ranks_by}
use Rattle.std.proofs.lemmas.List.Sums.{position_or_len_is}
use Rattle.std.proofs.lemmas.Bool.Decides.{leb_tells}

module _ {X K : Type 0} (key : X → K) {R : K → K → Ordering} (o : IsTotalOrder R) (equal : (a b : K) → R a b ≡ Equal → a ≡ b) where
  abbrev pub Sorted : List X → Type 0
  Sorted xs = (i j : ℕ) (d : X) → i ≤ j → j < length xs → is_lt (R (key (get_or xs j d)) (key (get_or xs i d))) ≡ false

  pub weak : IsStrictWeakOrder (λ (a b : K). is_lt (R a b))
  weak = ranks_by o (λ (a : K). a)

  pub itself : (a : K) → is_lt (R a a) ≡ false
  itself a = by (is_lt (R a a)) refl
    where
      by : (b : Bool) → is_lt (R a a) ≡ b → b ≡ false
      by true e = absurd (let w = weak.one_way a a e in let v = sym e ∙ w in cc)
      by false e = refl

  pub neither : (a b : K) → is_lt (R a b) ≡ false → is_lt (R b a) ≡ false → a ≡ b
  neither a b g h = by (R a b) refl
    where
      by : (r : Ordering) → R a b ≡ r → a ≡ b
      by Less e = absurd (let w : true ≡ false = sym (ap is_lt e) ∙ g in cc)
      by Equal e = equal a b e
      by Greater e = absurd (let w : true ≡ false = sym (ap is_lt (o.antisymm b a ∙ ap ordering_reverse e)) ∙ h in cc)

  pub parted : (xs : List X) (k : K) → Sorted xs → IsPartitionedBy (λ (y : X). is_lt (R (key y) k)) xs
  parted xs k sorted i j d low high h = by (is_lt (R (key (get_or xs i d)) k)) refl
    where
      by : (b : Bool) → is_lt (R (key (get_or xs i d)) k) ≡ b → b ≡ true
      by true e = refl
      by false e = absurd (let w : true ≡ false = sym h ∙ weak.chain (key (get_or xs j d)) (key (get_or xs i d)) k (sorted i j d low high) e in cc)

  module _ (xs : List X) (k : K) (p : ℕ) (sorted : Sorted xs) (under : AllWithin (λ (y : X). is_lt (R (key y) k) ≡ true) xs 0 p) (over : AllWithin (λ (y : X). is_lt (R (key y) k) ≡ false) xs p (length xs)) where
    -- an element with this key stands at the point
    pub stands : (x : X) → Contains xs x → key x ≡ k → (p < length xs) × (key (get_or xs p x) ≡ k)
    stands x c same = by (leb_tells p c.0)
      where
        there : key (get_or xs c.0 x) ≡ k
        there = ap key c.2 ∙ same

        at : p ≤ c.0 → (p < length xs) × (key (get_or xs p x) ≡ k)
        at low =
            let inside : p < length xs = omega (arith, low, c.1) in
            (inside, neither (key (get_or xs p x)) k (over p x (omega arith) inside) (subst (λ (q : K). is_lt (R q (key (get_or xs p x))) ≡ false) there (sorted p c.0 x low c.1)))

        by : ((Rattle.std.proofs.Common.leb p c.0 ≡ true) × (p ≤ c.0)) ⊎ ((Rattle.std.proofs.Common.leb p c.0 ≡ false) × (suc c.0 ≤ p)) → (p < length xs) × (key (get_or xs p x) ≡ k)
        by (inl q) = at q.1
        by (inr q) = absurd (let w : true ≡ false = sym (subst (λ (a : K). is_lt (R a k) ≡ true) there (under c.0 x (omega arith) q.1)) ∙ itself k in cc)

-- the point is the first place at which the test fails
pub point_is : {X : Type 0} (test : X → Bool) (xs : List X) (p : ℕ) → p ≤ length xs → AllWithin (λ (y : X). test y ≡ true) xs 0 p → AllWithin (λ (y : X). test y ≡ false) xs p (length xs) → position_or_len (λ (y : X). not (test y)) xs ≡ p
point_is test [] p bound under over = omega (arith, bound)
point_is test (x ∷ xs) p bound under over =
    position_or_len_is (λ y. not (test y)) (x ∷ xs) p x bound (λ i h. ap not (under i x (omega arith) h)) (λ h. ap not (over p x (omega arith) h))
