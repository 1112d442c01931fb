-- A text has one division: each place has one next place at most.
use Rattle.std.proofs.Common.{◌≡◌, ℕ, ◌<◌, Bool, true, false, cond, ◌&&◌, ◌||◌, eqb, List, [], ◌∷◌, ◌++◌, length, Option, Some, None, ⊎_elim, refl, sym, ap, ◌∙◌, subst, arith}
use Rattle.std.specs.List.{list_all}
use Rattle.std.proofs.lemmas.Bool.Decides.{nat_tests}
use Rattle.c_tree.specs.declared.limits.LimitKind.{LimitKind}
use Rattle.c_tree.specs.declared.signs.Sign.{Sign}
use Rattle.c_tree.specs.declared.signs.Sign.TheVariants as sign
use Rattle.c_tree.specs.declared.words.Token.{Token}
use Rattle.c_tree.specs.declared.words.Word.{Word}
use Rattle.c_tree.specs.Bytes.{Text, is_digit, is_letter, is_name_byte, first_is}
use Rattle.c_tree.specs.Division.{Place, place, token, Step, takes_gap, takes_word, Reaches, starts, goes, IsDivision, IsStuck, HasNoWord, PassesLimit}
use Rattle.c_tree.specs.Gaps.{Gap, gap, is_blank, line_after, opens_block, opens_line, after_comment, after_line, is_marker, after_gap}
use Rattle.c_tree.specs.Limits.{passed, strings_of}
use Rattle.c_tree.specs.Names.{is_name}
use Rattle.c_tree.specs.Signs.{spelled_sign}
use Rattle.c_tree.specs.Words.{WordAt, a_name, a_number, a_character, a_string, a_sign, Longest}
use Rattle.c_token.proofs.NumberLaws.{IsNumber-first}
use Rattle.c_token.proofs.Choices.{both}
use Rattle.c_token.proofs.WordLaws.{no_word_at_end}

-- the first bytes of gaps that are no comments
abbrev gap_byte : ℕ → Bool
gap_byte c = is_blank c || eqb c 35

abbrev slash : ℕ → Bool
slash c = eqb c 47

letter_apart : (c : ℕ) → is_letter c ≡ true → (gap_byte c ≡ false) × (slash c ≡ false)
letter_apart c h = (no_gap c h, no_slash c h)
  where
    no_gap : (d : ℕ) → is_letter d ≡ true → gap_byte d ≡ false
    no_gap d g = grind (arith, nat_tests)

    no_slash : (d : ℕ) → is_letter d ≡ true → slash d ≡ false
    no_slash d g = grind (arith, nat_tests)

digit_apart : (c : ℕ) → is_digit c ≡ true → (gap_byte c ≡ false) × (slash c ≡ false)
digit_apart c h = (no_gap c h, no_slash c h)
  where
    no_gap : (d : ℕ) → is_digit d ≡ true → gap_byte d ≡ false
    no_gap d g = grind (arith, nat_tests)

    no_slash : (d : ℕ) → is_digit d ≡ true → slash d ≡ false
    no_slash d g = grind (arith, nat_tests)

name_apart : (b v : Text) → is_name b ≡ true → (first_is gap_byte (b ++ v) ≡ false) × (first_is slash (b ++ v) ≡ false)
name_apart [] v h = cc
name_apart (c ∷ b) v h = letter_apart c (both (is_letter c) (list_all is_name_byte b) h).0

number_apart : (b v : Text) → first_is is_digit b ≡ true → (first_is gap_byte (b ++ v) ≡ false) × (first_is slash (b ++ v) ≡ false)
number_apart [] v h = cc
number_apart (c ∷ b) v h = digit_apart c h

sign_apart : (s : Sign) (v : Text) → first_is gap_byte (spelled_sign s ++ v) ≡ false
sign_apart sign.BraceOpen v = refl
sign_apart _ v = refl

-- no comment opens where the first byte is no `/`
no_comment : (t : Text) → first_is slash t ≡ false → (opens_block t || opens_line t) ≡ false
no_comment [] h = refl
no_comment (c ∷ []) h = refl
no_comment (c ∷ d ∷ t) h = by_test (eqb c 47) (eqb d 42) (eqb d 47) h
  where
    by_test : (a b e : Bool) → a ≡ false → ((a && b) || (a && e)) ≡ false
    by_test true b e g = cc
    by_test false b e g = refl

-- no gap begins where a word does
word_apart : {i : ℕ} {t v : Text} {k : Word} → WordAt i t v k → (first_is gap_byte t ≡ false) × ((opens_block t || opens_line t) ≡ false)
word_apart {i} {t} {v} (a_name b e h g) = let p = name_apart b v h in (ap (first_is gap_byte) e ∙ p.0, no_comment t (ap (first_is slash) e ∙ p.1))
word_apart {i} {t} {v} (a_number b e h g) = let p = number_apart b v (IsNumber-first h) in (ap (first_is gap_byte) e ∙ p.0, no_comment t (ap (first_is slash) e ∙ p.1))
word_apart {i} {t} (a_character b e h g) = (ap (first_is gap_byte) e, no_comment t (ap (first_is slash) e))
word_apart {i} {t} (a_string b e h) = (ap (first_is gap_byte) e, no_comment t (ap (first_is slash) e))
word_apart {i} {t} {v} (a_sign s e h) = (ap (first_is gap_byte) e ∙ sign_apart s v, h)

gap_tests : (a b d f e m : Bool) (x y z : Option Gap) → (a || e) ≡ false → (b || d) ≡ false → cond a x (cond b y (cond (d || (f && (e && m))) z None)) ≡ None
gap_tests true b d f e m x y z h g = cc
gap_tests false true d f e m x y z h g = cc
gap_tests false false true f e m x y z h g = cc
gap_tests false false false f true m x y z h g = cc
gap_tests false false false true false m x y z h g = refl
gap_tests false false false false false m x y z h g = refl

pub no_gap-word : (n : ℕ) (f : Bool) {i : ℕ} {t v : Text} {k : Word} → WordAt i t v k → after_gap n f t ≡ None
no_gap-word n f {i} {t} {v} {k} w = let p = word_apart w in at t p.0 p.1
  where
    at : (u : Text) → first_is gap_byte u ≡ false → (opens_block u || opens_line u) ≡ false → after_gap n f u ≡ None
    at [] h g = refl
    at (c ∷ u) h g =
        gap_tests (is_blank c) (opens_block (c ∷ u)) (opens_line (c ∷ u)) f (eqb c 35) (is_marker u)
        (Some (gap (line_after n c) (f || eqb c 10) u)) (after_comment n f u) (Some (gap n f (after_line u))) h g

-- two longest words at one place are one
pub Longest-unique : {i : ℕ} {t u v : Text} {j k : Word} → Longest i t u j → Longest i t v k → (u ≡ v) × (j ≡ k)
Longest-unique {i} {t} {u} {v} {j} {k} l m =
    ⊎_elim (λ (g : length v < length u).
    ⊎_elim (λ (h : length u < length v). absurd (omega arith)) (λ (h : (v ≡ u) × (k ≡ j)). (sym h.0, sym h.1)) (l.no_longer v k m.is))
    (λ (g : (u ≡ v) × (j ≡ k)). g)
    (m.no_longer u j l.is)

-- one step leads to one place
pub Step-unique : {p q r : Place} → Step p q → Step p r → q ≡ r
Step-unique (takes_gap e) (takes_gap f) = let z = sym e ∙ f in cc
Step-unique (takes_gap {n = n} {f = g} e) (takes_word l h) = let z = no_gap-word n g l.is in let y = sym z ∙ e in cc
Step-unique (takes_word {n = n} {f = g} l h) (takes_gap e) = let z = no_gap-word n g l.is in let y = sym z ∙ e in cc
Step-unique (takes_word {n = n} {ws = ws} {v = v} {k = k} l h) (takes_word {v = u} {k = j} m g) =
    let z = Longest-unique l m in
    ap (λ x. place n false (ws ++ token x n ∷ []) v) z.1 ∙ ap (λ x. place n false (ws ++ token j n ∷ []) x) z.0

-- from one place to another, the first step first
data Leads : Place → Place → Type 0 where
  here : {p : Place} → Leads p p
  on : {p q r : Place} → Step p q → Leads q r → Leads p r

then_on : {p q r : Place} → Leads p q → Step q r → Leads p r
then_on here s = on s here
then_on (on a l) s = on a (then_on l s)

Leads-from_start : {t : Text} {p : Place} → Reaches t p → Leads (place 1 true [] t) p
Leads-from_start starts = here
Leads-from_start (goes r s) = then_on (Leads-from_start r) s

-- a place with no next
abbrev pub IsLast : Place → Type 0
IsLast p = (q : Place) → Step p q → ⊥

Leads-last : {p q r : Place} → Leads p q → Leads p r → IsLast q → IsLast r → q ≡ r
Leads-last here here a b = refl
Leads-last here (on {q = x} s l) a b = absurd (a x s)
Leads-last (on {q = x} s l) here a b = absurd (b x s)
Leads-last {r = r} (on s l) (on t m) a b = Leads-last l (subst (λ x. Leads x r) (sym (Step-unique s t)) m) a b

pub Reaches-last : {t : Text} {p q : Place} → Reaches t p → Reaches t q → IsLast p → IsLast q → p ≡ q
Reaches-last a b h g = Leads-last (Leads-from_start a) (Leads-from_start b) h g

-- the three ends
pub end-last : {n : ℕ} {f : Bool} {ws : List Token} → IsLast (place n f ws [])
end-last q (takes_gap e) = cc
end-last q (takes_word l h) = no_word_at_end l.is

pub stuck-last : {n : ℕ} {f : Bool} {ws : List Token} {t : Text} → IsStuck n f ws t → IsLast (place n f ws t)
stuck-last s q (takes_gap e) = let z = sym s.no_gap ∙ e in cc
stuck-last s q (takes_word {v = v} {k = k} l h) = s.no_word v k l.is

pub passes-last : {n : ℕ} {f : Bool} {ws : List Token} {t v : Text} {k : Word} {kind : LimitKind} → Longest (strings_of ws) t v k → passed ws k ≡ Some kind → IsLast (place n f ws t)
passes-last {n} {f} l p q (takes_gap e) = let z = no_gap-word n f l.is in let y = sym z ∙ e in cc
passes-last {n} {f} {ws} l p q (takes_word m h) =
    let u = Longest-unique l m in
    let e = ap (passed ws) u.1 in
    let y = sym p ∙ e ∙ h in cc

-- what two readings of one text have in common
same_place : {n m : ℕ} {f g : Bool} {ws vs : List Token} {t u : Text} → place n f ws t ≡ place m g vs u → (n ≡ m) × (ws ≡ vs) × (t ≡ u)
same_place h = ((cc), (cc), (cc))

pub IsDivision-unique : {t : Text} {ws vs : List Token} → IsDivision t ws → IsDivision t vs → ws ≡ vs
IsDivision-unique a b = (same_place (Reaches-last a.2 b.2 end-last end-last)).1

pub IsDivision-no_stop : {t : Text} {ws : List Token} {n : ℕ} → IsDivision t ws → HasNoWord t n → ⊥
IsDivision-no_stop a b = b.stuck.some (sym (same_place (Reaches-last a.2 b.reaches end-last (stuck-last b.stuck))).2)

pub IsDivision-no_limit : {t : Text} {ws : List Token} {n : ℕ} {kind : LimitKind} → IsDivision t ws → PassesLimit t n kind → ⊥
IsDivision-no_limit a b =
    let e = (same_place (Reaches-last a.2 b.reaches end-last (passes-last b.longest b.passes))).2 in
    no_word_at_end (subst (λ x. WordAt (strings_of b.before) x b.after b.word) (sym e) b.longest.is)

pub HasNoWord-unique : {t : Text} {n m : ℕ} → HasNoWord t n → HasNoWord t m → n ≡ m
HasNoWord-unique a b = (same_place (Reaches-last a.reaches b.reaches (stuck-last a.stuck) (stuck-last b.stuck))).0

pub HasNoWord-no_limit : {t : Text} {n m : ℕ} {kind : LimitKind} → HasNoWord t n → PassesLimit t m kind → ⊥
HasNoWord-no_limit a b =
    let e = same_place (Reaches-last a.reaches b.reaches (stuck-last a.stuck) (passes-last b.longest b.passes)) in
    a.stuck.no_word b.after b.word
    (subst (λ ws. WordAt (strings_of ws) a.rest b.after b.word) (sym e.1) (subst (λ x. WordAt (strings_of b.before) x b.after b.word) (sym e.2) b.longest.is))

pub PassesLimit-unique : {t : Text} {n m : ℕ} {k j : LimitKind} → PassesLimit t n k → PassesLimit t m j → (n ≡ m) × (k ≡ j)
PassesLimit-unique {t} {n} {m} {k} {j} a b =
    let e = same_place (Reaches-last a.reaches b.reaches (passes-last a.longest a.passes) (passes-last b.longest b.passes)) in
    let l : Longest (strings_of a.before) a.rest b.after b.word =
    subst (λ ws. Longest (strings_of ws) a.rest b.after b.word) (sym e.1) (subst (λ x. Longest (strings_of b.before) x b.after b.word) (sym e.2) b.longest) in
    let w = Longest-unique a.longest l in
    let p : passed a.before b.word ≡ Some j = ap (λ ws. passed ws b.word) e.1 ∙ b.passes in
    let q : Some k ≡ Some j = sym a.passes ∙ ap (passed a.before) w.1 ∙ p in
    (e.0, (cc))
