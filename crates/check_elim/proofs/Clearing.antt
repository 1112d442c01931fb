-- A run of numbers taken out of a set, word by word and bit by bit.
use Rattle.std.proofs.Common.{◌≡◌, ◌≢◌, ◌⊎◌, inl, inr, ℕ, suc, ◌+◌, ◌*◌, ◌/◌, ◌%◌, ◌<◌, ◌≤◌, ◌==◌, Bool, true, false, ◌&&◌, leb, nat_lt, nat_eq, if◌then◌else◌, List, length, get_or, slice_set, Option, Some, None, refl, sym, ap, ◌∙◌, arith}
use Rattle.std.specs.Int.{bit_at}
use Rattle.std.proofs.lemmas.Bool.Decides.{leb_tells, eqb_tells}
use Rattle.std.proofs.lemmas.List.{get_or-set_same, get_or-set_other}
use Rattle.std.proofs.lemmas.Nat.Bits.{bit_at-zero}
use Rattle.dep_expr.specs.Linear.{LinearForm}
use Rattle.dep_expr.specs.declared.inequality.Ineq.{Ineq}
use Rattle.check_elim.specs.Bits.{has, bit_is}
use Rattle.check_elim.specs.Facts.{implies, same_terms, no_weaker}
use Rattle.check_elim.specs.Sets.{gives_in}
use Rattle.check_elim.specs.Runs.{line_implies}

abbrev pub in_run : ℕ → ℕ → ℕ → Bool
in_run from to j = leb from j && nat_lt j to

pub lt_yes : (j n : ℕ) → j < n → nat_lt j n ≡ true
lt_yes j n h = elim (leb_tells (suc j) n) [ inl p ↦ p.0 | inr p ↦ absurd (omega (arith, p.1, h)) ]

pub lt_no : (j n : ℕ) → n ≤ j → nat_lt j n ≡ false
lt_no j n h = elim (leb_tells (suc j) n) [ inl p ↦ absurd (omega (arith, p.1, h)) | inr p ↦ p.0 ]

pub le_yes : (m j : ℕ) → m ≤ j → leb m j ≡ true
le_yes m j h = elim (leb_tells m j) [ inl p ↦ p.0 | inr p ↦ absurd (omega (arith, p.1, h)) ]

pub le_no : (m j : ℕ) → j < m → leb m j ≡ false
le_no m j h = elim (leb_tells m j) [ inl p ↦ absurd (omega (arith, p.1, h)) | inr p ↦ p.0 ]

-- what is cleared up to one number is cleared up to the next
pub further : (from number next j : ℕ) (new old : Bool) → from ≤ number → number ≤ next
    → (number ≤ j → j < next → new ≡ false) → ((j < number) ⊎ (next ≤ j) → new ≡ (if in_run from number j then false else old)) → new ≡ (if in_run from next j then false else old)
further from number next j new old low up inside outside = elim (leb_tells number j) [
  | inl p ↦ elim (leb_tells (suc j) next) [
    | inl q ↦ inside p.1 q.1 ∙ sym (ap (λ (b : Bool). if b then false else old) ((λ i. le_yes from j (omega (arith, low, p.1)) i && q.0 i)))
    | inr q ↦ outside (inr (omega (arith, q.1))) ∙ ap (λ (b : Bool). if leb from j && b then false else old) (lt_no j number p.1 ∙ sym q.0)
  ]
  | inr p ↦ outside (inl p.1) ∙ ap (λ (b : Bool). if leb from j && b then false else old) (lt_yes j number p.1 ∙ sym (lt_yes j next (omega (arith, p.1, up))))
]

zero_word : (i : ℕ) → bit_is 0 i ≡ false
unfolding bit_is
zero_word i = ap (λ x. nat_eq x 1) (bit_at-zero i)

-- a whole word
pub word_cleared : (ws : List ℕ) (old : ℕ → Bool) (from number : ℕ) → from ≤ number → number % 64 ≡ 0 → number + 64 ≤ 64 * length ws
    → ((j : ℕ) → has ws j ≡ (if in_run from number j then false else old j))
    → (j : ℕ) → has (slice_set ws (number / 64) 0) j ≡ (if in_run from (number + 64) j then false else old j)
unfolding has
word_cleared ws old from number low whole room each j =
    further from number (number + 64) j (has (slice_set ws (number / 64) 0) j) (old j) low (omega arith)
    (λ a b. ap (λ w. bit_is w (j % 64)) (ap (λ k. get_or (slice_set ws (number / 64) 0) k 0) (same_word a b) ∙ get_or-set_same ws (number / 64) 0 0 (omega (arith, room))) ∙ zero_word (j % 64))
    (λ out. ap (λ w. bit_is w (j % 64)) (get_or-set_other ws (number / 64) (j / 64) 0 0 (other_word out)) ∙ each j)
  where
    same_word : number ≤ j → j < number + 64 → j / 64 ≡ number / 64
    same_word a b = omega (arith, a, b, whole)

    other_word : (j < number) ⊎ (number + 64 ≤ j) → j / 64 ≢ number / 64
    other_word (inl p) e = omega (arith, p, e, whole)
    other_word (inr p) e = omega (arith, p, e, whole)

-- one bit
pub bit_cleared : (new old : ℕ → Bool) (words : ℕ → Bool) (from number : ℕ) → from ≤ number
    → ((j : ℕ) → words j ≡ (if in_run from number j then false else old j)) → ((j : ℕ) → new j ≡ (if j == number then false else words j))
    → (j : ℕ) → new j ≡ (if in_run from (number + 1) j then false else old j)
bit_cleared new old words from number low each step j =
    further from number (number + 1) j (new j) (old j) low (omega arith)
    (λ a b. step j ∙ ap (λ (t : Bool). if t then false else words j) (is_same a b))
    (λ out. step j ∙ (ap (λ (t : Bool). if t then false else words j) (is_other out) ∙ each j))
  where
    same : j ≡ number → (j < number) ⊎ (number + 1 ≤ j) → ⊥
    same e (inl p) = omega (arith, e, p)
    same e (inr p) = omega (arith, e, p)

    is_same : number ≤ j → j < number + 1 → nat_eq j number ≡ true
    is_same a b = elim (eqb_tells j number) [ inl e ↦ e.0 | inr e ↦ absurd (e.1 (omega (arith, a, b))) ]

    is_other : (j < number) ⊎ (number + 1 ≤ j) → nat_eq j number ≡ false
    is_other out = elim (eqb_tells j number) [ inl e ↦ absurd (same e.1 out) | inr e ↦ e.0 ]

nothing_between : (from j : ℕ) → in_run from from j ≡ false
nothing_between from j = elim (leb_tells from j) [ inl p ↦ (λ i. p.0 i && lt_no j from p.1 i) | inr p ↦ ap (λ b. b && nat_lt j from) p.0 ]

pub none_cleared : (from : ℕ) (set : ℕ → Bool) (j : ℕ) → set j ≡ (if in_run from from j then false else set j)
none_cleared from set j = sym (ap (λ (b : Bool). if b then false else set j) (nothing_between from j))

-- at the end
pub all_cleared : (from to number : ℕ) (new old : ℕ → Bool) → ((number ≡ from) ⊎ (number ≤ to)) → to ≤ number
    → ((j : ℕ) → new j ≡ (if in_run from number j then false else old j)) → (j : ℕ) → new j ≡ (if in_run from to j then false else old j)
all_cleared from to number new old (inr p) h each j = each j ∙ ap (λ n. if in_run from n j then false else old j) (let e : number ≡ to = omega (arith, p, h) in e)
all_cleared from to number new old (inl p) h each j = each j ∙ ap (λ (b : Bool). if b then false else old j) (ap (λ n. in_run from n j) p ∙ (nothing_between from j ∙ sym (nothing from to j (omega (arith, h, p)))))
  where
    nothing : (from to j : ℕ) → to ≤ from → in_run from to j ≡ false
    nothing from to j h = elim (leb_tells from j) [ inl p ↦ (λ i. p.0 i && lt_no j to (omega (arith, h, p.1)) i) | inr p ↦ ap (λ b. b && nat_lt j to) p.0 ]

-- without a guard, terms and constant decide
and_true : (a b : Bool) → (a && (b && true)) ≡ (a && b)
and_true true true = refl
and_true true false = refl
and_true false b = refl

pub unguarded : (s : Ineq) → s.guard ≡ None → (o : Option Ineq) → gives_in s o ≡ line_implies s o
unfolding implies
unguarded s none None = refl
unguarded s none (Some i) =
    ap (λ (g : Option LinearForm). same_terms s.left.terms i.left.terms && (Rattle.std.specs.Prelude.int_le i.left.constant s.left.constant && no_weaker g i.guard)) none
    ∙ and_true (same_terms s.left.terms i.left.terms) (Rattle.std.specs.Prelude.int_le i.left.constant s.left.constant)

pub on_line : (s : Ineq) (o : Option Ineq) → line_implies s o ≡ false → gives_in s o ≡ false
unfolding implies
on_line s None h = refl
on_line s (Some i) h = by (same_terms s.left.terms i.left.terms) (Rattle.std.specs.Prelude.int_le i.left.constant s.left.constant) (no_weaker s.guard i.guard) h
  where
    by : (a b c : Bool) → (a && b) ≡ false → (a && (b && c)) ≡ false
    by true true c h = absurd cc
    by true false c h = refl
    by false b c h = refl

-- what is given up to one number
pub given_none : (g : ℕ → Bool) (line : ℕ → Bool) (from to : ℕ) (set : ℕ → Bool) → ((j : ℕ) → line j ≡ false → g j ≡ false) → ((j : ℕ) → in_run from to j ≡ line j)
    → (j : ℕ) → set j ≡ (if g j && nat_lt j from then false else set j)
given_none g line from to set below run j = elim (leb_tells from j) [
  | inl p ↦ sym (ap (λ (b : Bool). if b then false else set j) (ap (λ b. g j && b) (lt_no j from p.1) ∙ and_false (g j)))
  | inr p ↦ sym (ap (λ (b : Bool). if b && nat_lt j from then false else set j) (below j (sym (run j) ∙ ap (λ b. b && nat_lt j to) p.0)))
]
  where
    and_false : (a : Bool) → (a && false) ≡ false
    and_false true = refl
    and_false false = refl

pub given_next : (g : ℕ → Bool) (n : ℕ) (implied : Bool) (old words new : ℕ → Bool) → implied ≡ g n
    → ((j : ℕ) → words j ≡ (if g j && nat_lt j n then false else old j)) → ((j : ℕ) → new j ≡ (if implied && (j == n) then false else words j))
    → (j : ℕ) → new j ≡ (if g j && nat_lt j (n + 1) then false else old j)
given_next g n implied old words new is each step j = elim (eqb_tells j n) [
  | inl same ↦ step j ∙ by (g j) implied (is ∙ ap g (sym same.1)) (nat_eq j n) same.0 (nat_lt j (n + 1)) (lt_yes j (n + 1) (omega (arith, same.1))) (words j) (each j ∙ drop_it (g j) (nat_lt j n) (lt_no j n (omega (arith, same.1))))
  | inr apart ↦ step j ∙ (drop_test implied (nat_eq j n) apart.0 ∙ (each j ∙ ap (λ (b : Bool). if g j && b then false else old j) (below apart.1)))
]
  where
    drop_it : (a b : Bool) → b ≡ false → (if a && b then false else old j) ≡ old j
    drop_it true b h = ap (λ (x : Bool). if x then false else old j) h
    drop_it false b h = refl

    drop_test : (a b : Bool) → b ≡ false → (if a && b then false else words j) ≡ words j
    drop_test true b h = ap (λ (x : Bool). if x then false else words j) h
    drop_test false b h = refl

    below : j ≢ n → nat_lt j n ≡ nat_lt j (n + 1)
    below other = elim (leb_tells (suc j) n) [ inl p ↦ p.0 ∙ sym (lt_yes j (n + 1) (omega (arith, p.1))) | inr p ↦ p.0 ∙ sym (lt_no j (n + 1) (no_less p.1 other)) ]
      where
        no_less : n < suc j → j ≢ n → n + 1 ≤ j
        no_less a b = elim (leb_tells (n + 1) j) [ inl q ↦ q.1 | inr q ↦ absurd (b (omega (arith, a, q.1))) ]

    by : (a b : Bool) → b ≡ a → (t : Bool) → t ≡ true → (u : Bool) → u ≡ true → (w : Bool) → w ≡ old j → (if b && t then false else w) ≡ (if a && u then false else old j)
    by true b e t f u h w k = (λ i. if e i && f i then false else w) ∙ sym (ap (λ (x : Bool). if x then false else old j) h)
    by false b e t f u h w k = ap (λ (x : Bool). if x && t then false else w) e ∙ k

pub given_all_of : (g : ℕ → Bool) (line : ℕ → Bool) (from to n : ℕ) (old words : ℕ → Bool) → ((j : ℕ) → line j ≡ false → g j ≡ false) → ((j : ℕ) → in_run from to j ≡ line j) → to ≤ n
    → ((j : ℕ) → words j ≡ (if g j && nat_lt j n then false else old j)) → (j : ℕ) → words j ≡ (if g j then false else old j)
given_all_of g line from to n old words below run end each j = elim (leb_tells (suc j) to) [
  | inl p ↦ each j ∙ ap (λ (b : Bool). if b then false else old j) (ap (λ b. g j && b) (lt_yes j n (omega (arith, p.1, end))) ∙ and_true_right (g j))
  | inr p ↦
      let no : g j ≡ false = below j (sym (run j) ∙ (ap (λ b. leb from j && b) p.0 ∙ and_false (leb from j))) in
      each j ∙ (ap (λ (b : Bool). if b && nat_lt j n then false else old j) no ∙ sym (ap (λ (b : Bool). if b then false else old j) no))
]
  where
    and_false : (a : Bool) → (a && false) ≡ false
    and_false true = refl
    and_false false = refl

    and_true_right : (a : Bool) → (a && true) ≡ a
    and_true_right true = refl
    and_true_right false = refl
