-- The masks of slots: the facts that speak of each.
use Rattle.std.proofs.Common.{◌≡◌, ◌≢◌, inl, inr, ℕ, zero, suc, ◌+◌, ◌*◌, ◌≤◌, ◌<◌, ◌==◌, Bool, true, false, ◌&&◌, ◌||◌, List, [], ◌∷◌, ◌++◌, map, length, get_or, drop, Contains, Option, Some, None, slice_get, if◌then◌else◌, refl, sym, ap, ◌∙◌, subst, arith, drop-cons, add-one}
use Rattle.std.specs.Prelude.{replicate}
use Rattle.std.specs.List.{list_any}
use Rattle.std.specs.Global.{Vec}
use Rattle.std.proofs.lemmas.Bool.Decides.{eqb_tells, leb_tells}
use Rattle.std.proofs.lemmas.List.Elements.{Contains-append_cases}
use Rattle.std.proofs.lemmas.List.{length-replicate}
use Rattle.std.proofs.lemmas.Option.{slice_get_cases, slice_get_past}
use Rattle.dep_expr.specs.declared.inequality.Ineq.{Ineq}
use Rattle.checked_tree.specs.declared.units.CheckedFn.{CheckedFn}
use Rattle.checked_tree.specs.Redundant.{slots_of}
use Rattle.check_elim.specs.Bits.{has}
use Rattle.check_elim.specs.Sets.{speaks_of, IsMask, mask_at, mask_words}
use Rattle.check_elim.specs.Tables.{paired, pairs_from, is_pair, has_pair}
use Rattle.check_elim.proofs.Lists.{has_nothing, has_none}
use Rattle.check_elim.proofs.FactLists.{any_append, pushed_at, pushed_before}

and_false : (a : Bool) → (a && false) ≡ false
and_false true = refl
and_false false = refl

or_false : (a : Bool) → (a || false) ≡ a
or_false true = refl
or_false false = refl

self : (n : ℕ) → (n == n) ≡ true
self n = elim (eqb_tells n n) [ inl p ↦ p.0 | inr p ↦ absurd (p.1 refl) ]

differ : (a b : ℕ) → a ≢ b → (a == b) ≡ false
differ a b h = elim (eqb_tells a b) [ inl p ↦ absurd (h p.1) | inr p ↦ p.0 ]

-- ---- what the pairs of facts say
own_pairs : (slot j n : ℕ) (l : List ℕ) → has_pair slot j (map (paired n) l) ≡ (list_any (λ t. slot == t) l && n == j)
own_pairs slot j n [] = refl
own_pairs slot j n (s ∷ l) = ap (λ b. (slot == s && n == j) || b) (own_pairs slot j n l) ∙ by (slot == s) (n == j) (list_any (λ t. slot == t) l)
  where
    by : (a b c : Bool) → ((a && b) || (c && b)) ≡ ((a || c) && b)
    by true true c = refl
    by true false c = and_false c
    by false b c = refl

step : (f : CheckedFn) (n : ℕ) (i : Ineq) (is : List Ineq) (slot j : ℕ) → has_pair slot j (pairs_from f n (i ∷ is)) ≡ ((list_any (λ t. slot == t) (slots_of f i) && n == j) || has_pair slot j (pairs_from f (n + 1) is))
step f n i is slot j = any_append (is_pair slot j) (map (paired n) (slots_of f i)) (pairs_from f (n + 1) is) ∙ ap (λ b. b || has_pair slot j (pairs_from f (n + 1) is)) (own_pairs slot j n (slots_of f i))

pairs_before : (f : CheckedFn) (n : ℕ) (is : List Ineq) (slot j : ℕ) → j < n → has_pair slot j (pairs_from f n is) ≡ false
pairs_before f n [] slot j low = refl
pairs_before f n (i ∷ is) slot j low =
    step f n i is slot j
    ∙ ((λ t. (list_any (λ t. slot == t) (slots_of f i) && differ n j (λ e. omega (arith, e, low)) t) || pairs_before f (n + 1) is slot j (omega (arith, low)) t)
    ∙ (or_false (list_any (λ t. slot == t) (slots_of f i) && false) ∙ and_false (list_any (λ t. slot == t) (slots_of f i))))

pairs_say : (f : CheckedFn) (n : ℕ) (is : List Ineq) (slot d : ℕ) → has_pair slot (n + d) (pairs_from f n is) ≡ speaks_of f (slice_get is d) slot
pairs_say f n [] slot d = sym (ap (λ o. speaks_of f o slot) (slice_get_past [] d (omega arith)))
pairs_say f n (i ∷ is) slot zero =
    step f n i is slot (n + zero)
    ∙ ((λ t. (list_any (λ t. slot == t) (slots_of f i) && (let e : n + zero ≡ n = omega arith in ap (λ m. n == m) e ∙ self n) t) || pairs_before f (n + 1) is slot (n + zero) (omega arith) t)
    ∙ (or_false (list_any (λ t. slot == t) (slots_of f i) && true) ∙ by (list_any (λ t. slot == t) (slots_of f i))))
  where
    by : (a : Bool) → (a && true) ≡ a
    by true = refl
    by false = refl
pairs_say f n (i ∷ is) slot (suc d) =
    step f n i is slot (n + suc d)
    ∙ ((λ t. (list_any (λ t. slot == t) (slots_of f i) && differ n (n + suc d) (λ e. omega (arith, e)) t) || has_pair slot (n + suc d) (pairs_from f (n + 1) is))
    ∙ (ap (λ b. b || has_pair slot (n + suc d) (pairs_from f (n + 1) is)) (and_false (list_any (λ t. slot == t) (slots_of f i)))
    ∙ (ap (λ m. has_pair slot m (pairs_from f (n + 1) is)) (let e : n + suc d ≡ (n + 1) + d = omega arith in e) ∙ pairs_say f (n + 1) is slot d)))

-- of all facts
pub all_pairs : (f : CheckedFn) (list : List Ineq) (slot j : ℕ) → has_pair slot j (pairs_from f 0 list) ≡ speaks_of f (slice_get list j) slot
all_pairs f list slot j = ap (λ m. has_pair slot m (pairs_from f 0 list)) (let e : j ≡ 0 + j = omega arith in e) ∙ pairs_say f 0 list slot j

-- the numbers in pairs
one_number : (n : ℕ) (l : List ℕ) (p : ℕ × ℕ) (k : ℕ) → k < length (map (paired n) l) → get_or (map (paired n) l) k p ≡ p → p.1 ≡ n
one_number n [] p k low is = absurd (omega (arith, low))
one_number n (s ∷ l) p zero low is = ap (λ (x : ℕ × ℕ). x.1) (sym is)
one_number n (s ∷ l) p (suc k) low is = one_number n l p k (omega (arith, low)) is

pairs_low : (f : CheckedFn) (n : ℕ) (is : List Ineq) (p : ℕ × ℕ) → Contains (pairs_from f n is) p → p.1 < n + length is
pairs_low f n [] p c = absurd (omega (arith, c.1))
pairs_low f n (i ∷ is) p c = elim (Contains-append_cases (map (paired n) (slots_of f i)) (pairs_from f (n + 1) is) p c) [
  | inl h ↦ omega (arith, one_number n (slots_of f i) p h.0 h.1 h.2)
  | inr h ↦ omega (arith, pairs_low f (n + 1) is p h)
]

pub numbers_fit : (f : CheckedFn) (list : List Ineq) (size : ℕ) → length list ≤ 64 * size → (p : ℕ × ℕ) → Contains (pairs_from f 0 list) p → p.1 < 64 * size
numbers_fit f list size room p c = omega (arith, pairs_low f 0 list p c, room)

-- ---- loops over pairs
pub next_pair : (slot j : ℕ) (pairs : List (ℕ × ℕ)) (k : ℕ) (d : ℕ × ℕ) → k < length pairs → has_pair slot j (drop k pairs) ≡ (is_pair slot j (get_or pairs k d) || has_pair slot j (drop (suc k) pairs))
next_pair slot j pairs k d low = ap (has_pair slot j) (drop-cons pairs k d low)

pub no_pair : (slot j : ℕ) (pairs : List (ℕ × ℕ)) (k : ℕ) → length pairs ≤ k → has_pair slot j (drop k pairs) ≡ false
no_pair slot j pairs k h = ap (has_pair slot j) (Rattle.std.proofs.lemmas.List.drop_all k pairs h)

-- one pair more in a mask, and one that is of another slot
pub mask_more : (slot : ℕ) (pairs : List (ℕ × ℕ)) (k : ℕ) (d : ℕ × ℕ) (old new : List ℕ) → k < length pairs → (get_or pairs k d).0 ≡ slot
    → ((j : ℕ) → has new j ≡ (if j == (get_or pairs k d).1 then true else has old j))
    → ((j : ℕ) → (has old j || has_pair slot j (drop k pairs)) ≡ has_pair slot j pairs)
    → (j : ℕ) → (has new j || has_pair slot j (drop (k + 1) pairs)) ≡ has_pair slot j pairs
mask_more slot pairs k d old new low own each before j =
    let own_j : Bool = (get_or pairs k d).1 == j in
    let rest : Bool = has_pair slot j (drop (suc k) pairs) in
    (λ t. each j t || has_pair slot j (drop (add-one k t) pairs))
    ∙ (by (j == (get_or pairs k d).1) own_j (has old j) rest (turned j (get_or pairs k d).1)
    ∙ (ap (λ b. has old j || (b || rest)) (sym (ap (λ b. b && own_j) (ap (λ s. slot == s) own ∙ self slot)))
    ∙ (ap (λ b. has old j || b) (sym (next_pair slot j pairs k d low)) ∙ before j)))
  where
    by : (a b x r : Bool) → a ≡ b → ((if a then true else x) || r) ≡ (x || (b || r))
    by true true true r e = refl
    by true true false r e = refl
    by false false x r e = refl
    by true false x r e = absurd cc
    by false true x r e = absurd cc

    turned : (a b : ℕ) → (a == b) ≡ (b == a)
    turned a b = elim (eqb_tells a b) [
      | inl p ↦ p.0 ∙ sym (ap (λ x. b == x) p.1 ∙ self b)
      | inr p ↦ p.0 ∙ sym (differ b a (λ e. p.1 (sym e)))
    ]

pub mask_same : (slot : ℕ) (pairs : List (ℕ × ℕ)) (k : ℕ) (d : ℕ × ℕ) (old : List ℕ) → k < length pairs → ((get_or pairs k d).0 ≡ slot → ⊥)
    → ((j : ℕ) → (has old j || has_pair slot j (drop k pairs)) ≡ has_pair slot j pairs)
    → (j : ℕ) → (has old j || has_pair slot j (drop (k + 1) pairs)) ≡ has_pair slot j pairs
mask_same slot pairs k d old low other before j =
    ap (λ n. has old j || has_pair slot j (drop n pairs)) (add-one k)
    ∙ (ap (λ b. has old j || (b || has_pair slot j (drop (suc k) pairs))) (sym (ap (λ b. b && (get_or pairs k d).1 == j) (differ slot (get_or pairs k d).0 (λ e. other (sym e)))))
    ∙ (ap (λ b. has old j || b) (sym (next_pair slot j pairs k d low)) ∙ before j))

-- slots past the end of all pairs
pub end_more : (pairs : List (ℕ × ℕ)) (k : ℕ) (d : ℕ × ℕ) (old new : ℕ) → k < length pairs → old ≤ new → (get_or pairs k d).0 < new
    → ((slot j : ℕ) → old ≤ slot → has_pair slot j pairs ≡ has_pair slot j (drop k pairs))
    → (slot j : ℕ) → new ≤ slot → has_pair slot j pairs ≡ has_pair slot j (drop (k + 1) pairs)
end_more pairs k d old new low up above before slot j high =
    before slot j (omega (arith, up, high))
    ∙ (next_pair slot j pairs k d low
    ∙ (ap (λ b. (b && (get_or pairs k d).1 == j) || has_pair slot j (drop (suc k) pairs)) (differ slot (get_or pairs k d).0 (λ e. omega (arith, e, above, high)))
    ∙ ap (λ n. has_pair slot j (drop n pairs)) (sym (add-one k))))

-- ---- the list of masks
pub masks_more : (size : ℕ) (masks : List (Vec ℕ)) (mask : Vec ℕ) → length mask.items ≡ size → ((slot : ℕ) → IsMask size (slice_get masks slot)) → (slot : ℕ) → IsMask size (slice_get (masks ++ mask ∷ []) slot)
masks_more size masks mask fits before slot = by (slice_get (masks ++ mask ∷ []) slot) refl
  where
    by : (o : Option (Vec ℕ)) → slice_get (masks ++ mask ∷ []) slot ≡ o → IsMask size o
    by None e = tt
    by (Some v) e = elim (eqb_tells slot (length masks)) [
      | inl p ↦ (let same : mask ≡ v = (let w = sym (pushed_at masks mask slot p.1) ∙ e in cc) in ap (λ (x : Vec ℕ). length x.items) (sym same) ∙ fits)
      | inr p ↦ subst (λ (o : Option (Vec ℕ)). IsMask size o) (pushed_before masks mask slot v p.1 e) (before slot)
    ]

pub takes_more : (pairs : List (ℕ × ℕ)) (masks : List (Vec ℕ)) (mask : Vec ℕ) (n : ℕ) → length masks ≡ n → ((j : ℕ) → has mask.items j ≡ has_pair n j pairs)
    → ((slot j : ℕ) → slot < n → has (mask_at masks slot) j ≡ has_pair slot j pairs) → (slot j : ℕ) → slot < n + 1 → has (mask_at (masks ++ mask ∷ []) slot) j ≡ has_pair slot j pairs
takes_more pairs masks mask n count own before slot j low = elim (eqb_tells slot n) [
  | inl p ↦ ap (λ o. has (mask_words o) j) (pushed_at masks mask slot (p.1 ∙ sym count)) ∙ (own j ∙ ap (λ s. has_pair s j pairs) (sym p.1))
  | inr p ↦ older p.1
]
  where
    older : (slot ≡ n → ⊥) → has (mask_at (masks ++ mask ∷ []) slot) j ≡ has_pair slot j pairs
    older apart = elim (slice_get_cases (masks ++ mask ∷ []) slot).1 [
      | inl p ↦ ap (λ o. has (mask_words o) j) (p.2 ∙ sym (pushed_before masks mask slot p.0 (λ e. apart (e ∙ count)) p.2)) ∙ before slot j (omega (arith, low, apart))
      | inr q ↦ absurd (omega (arith, q.0, Rattle.std.proofs.lemmas.List.length-append masks (mask ∷ []), count, low))
    ]

pub takes_all : (pairs : List (ℕ × ℕ)) (masks : List (Vec ℕ)) (n : ℕ) → length masks ≡ n → ((slot j : ℕ) → n ≤ slot → has_pair slot j pairs ≡ false)
    → ((slot j : ℕ) → slot < n → has (mask_at masks slot) j ≡ has_pair slot j pairs) → (slot j : ℕ) → has (mask_at masks slot) j ≡ has_pair slot j pairs
takes_all pairs masks n count past before slot j = elim (leb_tells (suc slot) n) [
  | inl p ↦ before slot j p.1
  | inr p ↦ ap (λ o. has (mask_words o) j) (slice_get_past masks slot (omega (arith, p.1, count))) ∙ (has_nothing j ∙ sym (past slot j (omega (arith, p.1))))
]

-- a mask of zeros, before the first pair
pub mask_begins : (size slot : ℕ) (pairs : List (ℕ × ℕ)) (words : List ℕ) → words ≡ replicate size 0 → (length words ≡ size) × ((j : ℕ) → (has words j || has_pair slot j (drop 0 pairs)) ≡ has_pair slot j pairs)
mask_begins size slot pairs words is = (ap length is ∙ length-replicate size 0, λ j. ap (λ (b : Bool). b || has_pair slot j pairs) (ap (λ (l : List ℕ). has l j) is ∙ has_none size j))
