-- What stands before the quote that closes, and what it means.
use Rattle.std.proofs.Common.{◌≡◌, ℕ, ◌+◌, Bool, true, false, cond, ◌&&◌, eqb, [], ◌∷◌, ◌++◌, length, Option, Some, None, ⊎_elim, refl, sym, ap, ◌∙◌, arith, eqb-true, add-zero}
use Rattle.std.proofs.lemmas.Bool.Decides.{nat_tests}
use Rattle.c_tree.specs.Bytes.{Text, is_digit}
use Rattle.c_tree.specs.Characters.{is_plain, is_escape, escaped, is_quotable, meaning}
use Rattle.c_token.specs.Scans.{quoted_length, meaning_after, one_meant}
use Rattle.c_token.proofs.Pieces.{same_cut}
use Rattle.c_token.proofs.Choices.{chosen, both, and_true, taken, not_taken}

-- what is used of a quote
pub record IsQuote (q : ℕ) : Type 0 where
  pub self : eqb q q ≡ true
  pub apart : eqb q 92 ≡ false
  pub no_digit : is_digit q ≡ false

pub single : IsQuote 39
single = record { self = refl; apart = refl; no_digit = refl }

pub double : IsQuote 34
double = record { self = refl; apart = refl; no_digit = refl }

-- the text is plain bytes and escapes, as many as from n to m, and then the quote
pub record Quoted (q n : ℕ) (t : Text) (m : ℕ) : Type 0 where
  pub inside : Text
  pub behind : Text
  pub parts : t ≡ inside ++ q ∷ behind
  pub quotable : is_quotable q inside ≡ true
  pub count : m ≡ n + length inside

plain-apart : (q c : ℕ) → is_plain q c ≡ true → (eqb c q ≡ false) × (eqb c 92 ≡ false)
plain-apart q c h = (left q c h, right q c h)
  where
    left : (p d : ℕ) → is_plain p d ≡ true → eqb d p ≡ false
    left p d g = grind (arith, nat_tests)

    right : (p d : ℕ) → is_plain p d ≡ true → eqb d 92 ≡ false
    right p d g = grind (arith, nat_tests)

-- an escape before the quote that closes is one as it stands
is_escape-append : (q d : ℕ) (b v : Text) → IsQuote q → is_escape d (b ++ q ∷ v) ≡ is_escape d b
is_escape-append q d [] v i = let e = i.no_digit in rw e refl
is_escape-append q d (c ∷ b) v i = refl

quotable-plain : (q c : ℕ) (b : Text) → eqb c 92 ≡ false → is_plain q c ≡ true → is_quotable q b ≡ true → is_quotable q (c ∷ b) ≡ true
quotable-plain q c [] e p h = p
quotable-plain q c (d ∷ b) e p h =
    not_taken (eqb c 92) (is_escape d b && is_quotable q b) (is_plain q c && is_quotable q (d ∷ b)) e ∙ and_true (is_plain q c) (is_quotable q (d ∷ b)) p h

quotable-escape : (q c d : ℕ) (b : Text) → eqb c 92 ≡ true → is_escape d b ≡ true → is_quotable q b ≡ true → is_quotable q (c ∷ d ∷ b) ≡ true
quotable-escape q c d b e p h =
    taken (eqb c 92) (is_escape d b && is_quotable q b) (is_plain q c && is_quotable q (d ∷ b)) e ∙ and_true (is_escape d b) (is_quotable q b) p h

ends : (q n c : ℕ) (t : Text) (m : ℕ) → eqb c q ≡ true → ◌≡◌ {A = Option ℕ} (Some n) (Some m) → Quoted q n (c ∷ t) m
ends q n c t m e h = let k : n ≡ m = cc in record { inside = []; behind = t; parts = ap (λ x. x ∷ t) (eqb-true c q e); quotable = refl; count = sym k ∙ sym (add-zero n) }

goes_plain : (q n c : ℕ) (t : Text) (m : ℕ) → eqb c 92 ≡ false → is_plain q c ≡ true → Quoted q (n + 1) t m → Quoted q n (c ∷ t) m
goes_plain q n c t m e p r = record { inside = c ∷ r.inside; behind = r.behind; parts = ap (λ x. c ∷ x) r.parts; quotable = quotable-plain q c r.inside e p r.quotable; count = omega (arith, r.count) }

goes_escape : (q n c d : ℕ) (t : Text) (m : ℕ) → IsQuote q → eqb c 92 ≡ true → is_escape d t ≡ true → Quoted q (n + 1 + 1) t m → Quoted q n (c ∷ d ∷ t) m
goes_escape q n c d t m i e p r = record {
  inside = c ∷ d ∷ r.inside;
  behind = r.behind;
  parts = ap (λ x. c ∷ d ∷ x) r.parts;
  quotable = quotable-escape q c d r.inside e (sym (is_escape-append q d r.inside r.behind i) ∙ ap (λ x. is_escape d x) (sym r.parts) ∙ p) r.quotable;
  count = omega (arith, r.count);
}

pub quoted_length-sound : (q n : ℕ) (t : Text) (m : ℕ) → IsQuote q → quoted_length q n false t ≡ Some m → Quoted q n t m
quoted_length-sound q n [] m i h = cc
quoted_length-sound q n (c ∷ []) m i h =
    ⊎_elim (λ (g : (eqb c q ≡ true) × (Some n ≡ Some m)). ends q n c [] m g.0 g.1)
    (λ (g : (eqb c q ≡ false) × (cond (eqb c 92) None (cond (is_plain q c) None None) ≡ Some m)). absurd (nothing (eqb c 92) (is_plain q c) m g.1))
    (chosen (eqb c q) (Some n) (cond (eqb c 92) None (cond (is_plain q c) None None)) (Some m) h)
  where
    nothing : (a b : Bool) (k : ℕ) → cond a None (cond b None None) ≡ Some k → ⊥
    nothing true b k e = cc
    nothing false true k e = cc
    nothing false false k e = cc
quoted_length-sound q n (c ∷ d ∷ t) m i h =
    ⊎_elim (λ (g : (eqb c q ≡ true) × (Some n ≡ Some m)). ends q n c (d ∷ t) m g.0 g.1)
    (λ (g : (eqb c q ≡ false) × (cond (eqb c 92) (quoted_length q (n + 1) true (d ∷ t)) (cond (is_plain q c) (quoted_length q (n + 1) false (d ∷ t)) None) ≡ Some m)).
    ⊎_elim (λ (k : (eqb c 92 ≡ true) × (quoted_length q (n + 1) true (d ∷ t) ≡ Some m)).
    ⊎_elim (λ (l : (is_escape d t ≡ true) × (quoted_length q (n + 1 + 1) false t ≡ Some m)). goes_escape q n c d t m i k.0 l.0 (quoted_length-sound q (n + 1 + 1) t m i l.1))
    (λ (l : (is_escape d t ≡ false) × (◌≡◌ {A = Option ℕ} None (Some m))). let f = l.1 in cc)
    (chosen (is_escape d t) (quoted_length q (n + 1 + 1) false t) None (Some m) k.1))
    (λ (k : (eqb c 92 ≡ false) × (cond (is_plain q c) (quoted_length q (n + 1) false (d ∷ t)) None ≡ Some m)).
    ⊎_elim (λ (l : (is_plain q c ≡ true) × (quoted_length q (n + 1) false (d ∷ t) ≡ Some m)). goes_plain q n c (d ∷ t) m k.0 l.0 (quoted_length-sound q (n + 1) (d ∷ t) m i l.1))
    (λ (l : (is_plain q c ≡ false) × (◌≡◌ {A = Option ℕ} None (Some m))). let f = l.1 in cc)
    (chosen (is_plain q c) (quoted_length q (n + 1) false (d ∷ t)) None (Some m) k.1))
    (chosen (eqb c 92) (quoted_length q (n + 1) true (d ∷ t)) (cond (is_plain q c) (quoted_length q (n + 1) false (d ∷ t)) None) (Some m) g.1))
    (chosen (eqb c q) (Some n) (cond (eqb c 92) (quoted_length q (n + 1) true (d ∷ t)) (cond (is_plain q c) (quoted_length q (n + 1) false (d ∷ t)) None)) (Some m) h)

backslash-apart : (q c : ℕ) → eqb q 92 ≡ false → eqb c 92 ≡ true → eqb c q ≡ false
backslash-apart q c h g = grind (arith, nat_tests)

-- one step of the scan
step_end : (q n : ℕ) (t : Text) → IsQuote q → quoted_length q n false (q ∷ t) ≡ Some n
step_end q n t i = taken (eqb q q) (Some n) (cond (eqb q 92) (quoted_length q (n + 1) true t) (cond (is_plain q q) (quoted_length q (n + 1) false t) None)) i.self

step_plain : (q n c : ℕ) (t : Text) → is_plain q c ≡ true → quoted_length q n false (c ∷ t) ≡ quoted_length q (n + 1) false t
step_plain q n c t p =
    let a = plain-apart q c p in
    not_taken (eqb c q) (Some n) (cond (eqb c 92) (quoted_length q (n + 1) true t) (cond (is_plain q c) (quoted_length q (n + 1) false t) None)) a.0
    ∙ not_taken (eqb c 92) (quoted_length q (n + 1) true t) (cond (is_plain q c) (quoted_length q (n + 1) false t) None) a.1
    ∙ taken (is_plain q c) (quoted_length q (n + 1) false t) None p

step_escape : (q n c d : ℕ) (t : Text) → eqb c q ≡ false → eqb c 92 ≡ true → is_escape d t ≡ true → quoted_length q n false (c ∷ d ∷ t) ≡ quoted_length q (n + 1 + 1) false t
step_escape q n c d t f e p =
    not_taken (eqb c q) (Some n) (cond (eqb c 92) (quoted_length q (n + 1) true (d ∷ t)) (cond (is_plain q c) (quoted_length q (n + 1) false (d ∷ t)) None)) f
    ∙ taken (eqb c 92) (quoted_length q (n + 1) true (d ∷ t)) (cond (is_plain q c) (quoted_length q (n + 1) false (d ∷ t)) None) e
    ∙ taken (is_escape d t) (quoted_length q (n + 1 + 1) false t) None p

pub quoted_length-complete : (q n : ℕ) (b v : Text) → IsQuote q → is_quotable q b ≡ true → quoted_length q n false (b ++ q ∷ v) ≡ Some (n + length b)
quoted_length-complete q n [] v i h = step_end q n v i ∙ ap (λ x. Some x) (sym (add-zero n))
quoted_length-complete q n (c ∷ []) v i h = step_plain q n c (q ∷ v) h ∙ step_end q (n + 1) v i ∙ ap (λ x. Some x) (omega arith)
quoted_length-complete q n (c ∷ d ∷ b) v i h =
    ⊎_elim (λ (g : (eqb c 92 ≡ true) × ((is_escape d b && is_quotable q b) ≡ true)).
    let p = both (is_escape d b) (is_quotable q b) g.1 in
    step_escape q n c d (b ++ q ∷ v) (backslash-apart q c i.apart g.0) g.0 (is_escape-append q d b v i ∙ p.0)
    ∙ quoted_length-complete q (n + 1 + 1) b v i p.1 ∙ ap (λ x. Some x) (omega arith))
    (λ (g : (eqb c 92 ≡ false) × ((is_plain q c && is_quotable q (d ∷ b)) ≡ true)).
    let p = both (is_plain q c) (is_quotable q (d ∷ b)) g.1 in
    step_plain q n c (d ∷ b ++ q ∷ v) p.0 ∙ quoted_length-complete q (n + 1) (d ∷ b) v i p.1 ∙ ap (λ x. Some x) (omega arith))
    (chosen (eqb c 92) (is_escape d b && is_quotable q b) (is_plain q c && is_quotable q (d ∷ b)) true h)

-- a text begins with what may be quoted and the quote in one way
pub quoted-unique : (q : ℕ) (b a v u : Text) → IsQuote q → is_quotable q b ≡ true → is_quotable q a ≡ true → b ++ q ∷ v ≡ a ++ q ∷ u → (b ≡ a) × (v ≡ u)
quoted-unique q b a v u i h g e =
    let x = quoted_length-complete q 0 b v i h in
    let y = quoted_length-complete q 0 a u i g in
    let z = ap (quoted_length q 0 false) e in
    let k : Some (0 + length b) ≡ Some (0 + length a) = sym x ∙ z ∙ y in
    let l : 0 + length b ≡ 0 + length a = cc in
    let r = same_cut b a (q ∷ v) (q ∷ u) e (omega arith) in
    (r.0, (let f = r.1 in cc))

-- where the scan fails, no text is quoted so
pub quoted_length-none : (q : ℕ) (t b v : Text) → IsQuote q → None ≡ quoted_length q 0 false t → is_quotable q b ≡ true → t ≡ b ++ q ∷ v → ⊥
quoted_length-none q t b v i h g e = let x = quoted_length-complete q 0 b v i g in let y = ap (quoted_length q 0 false) e in cc

-- what is meant, with and without the test
pub meaning_after-false : (t : Text) → meaning_after false t ≡ meaning t
meaning_after-false [] = refl
meaning_after-false (c ∷ []) = elim (eqb c 92) as (λ b. cond (b && false) [] (c ∷ []) ≡ c ∷ []) [ true ↦ refl | false ↦ refl ]
meaning_after-false (c ∷ d ∷ t) =
    elim (eqb c 92) as (λ b. cond (b && true) (escaped d ∷ meaning_after false t) (c ∷ meaning_after false (d ∷ t)) ≡ cond b (escaped d ∷ meaning t) (c ∷ meaning (d ∷ t)))
    [ true ↦ ap (λ x. escaped d ∷ x) (meaning_after-false t) | false ↦ ap (λ x. c ∷ x) (meaning_after-false (d ∷ t)) ]

meaning-some : (c : ℕ) (t : Text) → meaning (c ∷ t) ≡ [] → ⊥
meaning-some c [] h = cc
meaning-some c (d ∷ t) h =
    ⊎_elim (λ (g : (eqb c 92 ≡ true) × (escaped d ∷ meaning t ≡ [])). let e = g.1 in absurd (cons-nil (escaped d) (meaning t) e))
    (λ (g : (eqb c 92 ≡ false) × (c ∷ meaning (d ∷ t) ≡ [])). absurd (cons-nil c (meaning (d ∷ t)) g.1))
    (chosen (eqb c 92) (escaped d ∷ meaning t) (c ∷ meaning (d ∷ t)) [] h)
  where
    cons-nil : (x : ℕ) (xs : Text) → x ∷ xs ≡ [] → ⊥
    cons-nil x xs e = cc

-- one byte is meant exactly where the scan says so
pub one_meant-sound : (b : Text) (c : ℕ) → Some c ≡ one_meant b → meaning b ≡ c ∷ []
one_meant-sound [] c h = cc
one_meant-sound (a ∷ []) c h = let e : c ≡ a = cc in ap (λ x. x ∷ []) (sym e)
one_meant-sound (a ∷ d ∷ []) c h =
    ⊎_elim (λ (g : (eqb a 92 ≡ true) × (Some (escaped d) ≡ Some c)). let t = g.0 in let e : escaped d ≡ c = some-same (escaped d) c g.1 in rw t (ap (λ x. x ∷ []) e))
    (λ (g : (eqb a 92 ≡ false) × (◌≡◌ {A = Option ℕ} None (Some c))). let e = g.1 in cc)
    (chosen (eqb a 92) (Some (escaped d)) None (Some c) (sym h))
  where
    some-same : (x y : ℕ) → Some x ≡ Some y → x ≡ y
    some-same x y e = cc
one_meant-sound (a ∷ d ∷ e ∷ t) c h = cc

pub one_meant-complete : (b : Text) (c : ℕ) → meaning b ≡ c ∷ [] → None ≡ one_meant b → ⊥
one_meant-complete [] c h g = cc
one_meant-complete (a ∷ []) c h g = cc
one_meant-complete (a ∷ d ∷ []) c h g =
    ⊎_elim (λ (k : (eqb a 92 ≡ true) × (Some (escaped d) ≡ None)). let e = k.1 in cc)
    (λ (k : (eqb a 92 ≡ false) × (◌≡◌ {A = Option ℕ} None None)). let t = k.0 in let e : a ∷ d ∷ [] ≡ c ∷ [] = rw t at h in cc)
    (chosen (eqb a 92) (Some (escaped d)) None None (sym g))
one_meant-complete (a ∷ d ∷ e ∷ t) c h g =
    ⊎_elim (λ (k : (eqb a 92 ≡ true) × (escaped d ∷ meaning (e ∷ t) ≡ c ∷ [])). meaning-some e t (tail-same (escaped d) c (meaning (e ∷ t)) k.1))
    (λ (k : (eqb a 92 ≡ false) × (a ∷ meaning (d ∷ e ∷ t) ≡ c ∷ [])). meaning-some d (e ∷ t) (tail-same a c (meaning (d ∷ e ∷ t)) k.1))
    (chosen (eqb a 92) (escaped d ∷ meaning (e ∷ t)) (a ∷ meaning (d ∷ e ∷ t)) (c ∷ []) h)
  where
    tail-same : (x y : ℕ) (xs : Text) → x ∷ xs ≡ y ∷ [] → xs ≡ []
    tail-same x y xs q = cc
