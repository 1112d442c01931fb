-- Each place of a text begins with a gap, with a longest word, or with none of them: so the division of each text comes to an end.
use Rattle.std.proofs.Common.{◌≡◌, ℕ, zero, suc, ◌+◌, ◌^◌, ◌<◌, ◌≤◌, Bool, true, false, cond, ◌&&◌, ◌||◌, eqb, List, [], ◌∷◌, ◌++◌, ◌-◌, length, take, drop, Option, Some, None, ◌⊎◌, inl, inr, ⊎_elim, refl, sym, ap, arith, eqb-true}
use Rattle.std.specs.Prelude.{IfSome}
use Rattle.c_tree.specs.declared.limits.LimitKind.{LimitKind}
use Rattle.c_tree.specs.declared.words.Suffix.{Suffix}
use Rattle.c_tree.specs.declared.words.Suffix.TheVariants as suffix
use Rattle.c_tree.specs.declared.words.Token.{Token}
use Rattle.c_tree.specs.Bytes.{Text, is_digit, is_letter, is_name_byte, first_is}
use Rattle.c_tree.specs.Division.{place, token, Reaches, starts, goes, takes_gap, takes_word, IsDivision, HasNoWord, PassesLimit}
use Rattle.c_tree.specs.Gaps.{Gap, gap, is_blank, line_after, opens_block, opens_line, is_marker, after_block, after_comment, after_line, after_gap}
use Rattle.c_tree.specs.Limits.{passed, strings_of}
use Rattle.c_tree.specs.Names.{reserved}
use Rattle.c_tree.specs.Numbers.{is_digit_of, suffix_of, is_zero, is_nonzero, decimal_end, HasDigits, IsNumber}
use Rattle.c_token.specs.declared.lexemes.Kind.{Kind}
use Rattle.c_token.specs.declared.lexemes.Kind.TheVariants as kind
use Rattle.c_token.specs.Leads.{of_name, of_number, of_other, first_lead}
use Rattle.c_token.specs.Lexemes.{word_of, IsLongest, BeginsNoWord}
use Rattle.c_token.specs.Order.{sign_order}
use Rattle.c_token.specs.Scans.{rest_of, front_length, scanned_value, after_prefix, quoted_length, one_meant, FoundSign, found_sign, first_sign}
use Rattle.c_token.proofs.Choices.{option_cases}
use Rattle.c_token.proofs.LoopLaws.{IsShorter-word, passes_limit, has_no_word}
use Rattle.c_token.proofs.NumberLaws.{scanned, no_digits-none, no_suffix-none, too_great-none, hexadecimal_found, hexadecimal_none, octal_found, octal_none, decimal_found, decimal_none, other_none, decimal_great}
use Rattle.c_token.proofs.Pieces.{length-rest}
use Rattle.c_token.proofs.WordLaws.{lead-letter, lead-digit, lead-other, kind_named, name_found, number_found, number_none, character_found, character_none, character_several, string_found, string_none, sign_found, sign_none, sign_comment, IsLongest-along, BeginsNoWord-along, end_none}

-- a test is true or false, and of two numbers one is below or at least the other
bool_cases : (b : Bool) → (b ≡ true) ⊎ (b ≡ false)
bool_cases true = inl refl
bool_cases false = inr refl

below_or : (n m : ℕ) → (n < m) ⊎ (m ≤ n)
below_or n m = grind arith

-- NUMBERS

-- a text is digits of a radix, below 2^32, with a suffix, or is none
pub data Digits (radix : ℕ) (t : Text) : Type 0 where
  are_digits : (n : ℕ) (x : Suffix) → HasDigits radix t n x → n < 2 ^ 32 → Digits radix t
  no_digits : ((n : ℕ) (x : Suffix) → HasDigits radix t n x → n < 2 ^ 32 → ⊥) → Digits radix t

digits_here : (radix : ℕ) (t : Text) → 1 ≤ radix → Digits radix t
digits_here radix t low =
    ⊎_elim (λ (some : length (rest_of (is_digit_of radix) t) < length t).
    ⊎_elim (λ (e : suffix_of (rest_of (is_digit_of radix) t) ≡ None). no_digits (λ n x h _. no_suffix-none radix n t x e h))
    (λ (e : (x : Suffix) × (suffix_of (rest_of (is_digit_of radix) t) ≡ Some x)).
    ⊎_elim (λ (small : scanned_value radix 0 t < 2 ^ 32). are_digits (scanned_value radix 0 t) e.0 (scanned radix t e.0 low some e.1 small) small)
    (λ (great : 2 ^ 32 ≤ scanned_value radix 0 t). no_digits (λ n x h small. too_great-none radix n t x low great h small))
    (below_or (scanned_value radix 0 t) (2 ^ 32)))
    (option_cases (suffix_of (rest_of (is_digit_of radix) t))))
    (λ (none : length t ≤ length (rest_of (is_digit_of radix) t)).
    let all = length-rest (is_digit_of radix) t in no_digits (λ n x h _. no_digits-none radix n t x (omega arith) h))
    (below_or (length (rest_of (is_digit_of radix) t)) (length t))

-- a text is a number or none
pub data Number (t : Text) : Type 0 where
  is_number : (n : ℕ) (x : Suffix) → IsNumber t n x → Number t
  no_number : ((n : ℕ) (x : Suffix) → IsNumber t n x → ⊥) → Number t

hexadecimal_here : (t r : Text) → Some r ≡ after_prefix t → Digits 16 r → Number t
hexadecimal_here t r e (are_digits n x h small) = is_number n x (hexadecimal_found (Some (n, x)) t r e h small)
hexadecimal_here t r e (no_digits none) = no_number (λ n x h. hexadecimal_none t r n x e none h)

octal_here : (t : Text) → None ≡ after_prefix t → first_is is_zero t ≡ true → Digits 8 t → Number t
octal_here t e z (are_digits n x h small) = is_number n x (octal_found (Some (n, x)) t z h small)
octal_here t e z (no_digits none) = no_number (λ n x h. octal_none t n x e z none h)

decimal_end-low : (x : Suffix) → decimal_end x ≤ 2 ^ 32
decimal_end-low suffix.Plain = omega arith
decimal_end-low suffix.Long = omega arith
decimal_end-low suffix.Unsigned = omega arith
decimal_end-low suffix.UnsignedLong = omega arith

decimal_here : (t : Text) → first_is is_zero t ≡ false → first_is is_nonzero t ≡ true → Digits 10 t → Number t
decimal_here t z w (are_digits n x h _) =
    ⊎_elim (λ (small : n < decimal_end x). is_number n x (decimal_found (Some (n, x)) t w h small))
    (λ (great : decimal_end x ≤ n). no_number (λ m y g. decimal_none t m y z (λ l v k small. decimal_great h great k small) g))
    (below_or n (decimal_end x))
decimal_here t z w (no_digits none) =
    no_number (λ n x h. decimal_none t n x z (λ m y k small. none m y k (let low = decimal_end-low y in omega arith)) h)

number_here : (t : Text) → Number t
number_here t =
    ⊎_elim (λ (e : after_prefix t ≡ None).
    ⊎_elim (λ (z : first_is is_zero t ≡ true). octal_here t (sym e) z (digits_here 8 t (omega arith)))
    (λ (z : first_is is_zero t ≡ false).
    ⊎_elim (λ (w : first_is is_nonzero t ≡ true). decimal_here t z w (digits_here 10 t (omega arith)))
    (λ (w : first_is is_nonzero t ≡ false). no_number (λ n x h. other_none t n x z w h))
    (bool_cases (first_is is_nonzero t)))
    (bool_cases (first_is is_zero t)))
    (λ (e : (r : Text) × (after_prefix t ≡ Some r)). hexadecimal_here t e.0 (sym e.1) (digits_here 16 e.0 (omega arith)))
    (option_cases (after_prefix t))

-- WORDS

-- a longest word begins at a text, or none does
pub data FirstWord (t : Text) : Type 0 where
  begins : (a : Kind) (b v : Text) → IsLongest t a b v → FirstWord t
  begins_none : BeginsNoWord t → FirstWord t

FirstWord-along : (t u : Text) → t ≡ u → FirstWord u → FirstWord t
FirstWord-along t u e (begins a b v h) = begins a b v (IsLongest-along t u a b v e h)
FirstWord-along t u e (begins_none h) = begins_none (BeginsNoWord-along t u e h)

name_here : (t : Text) → first_lead t ≡ of_name → FirstWord t
name_here t h =
    let n = front_length is_name_byte 0 t in
    begins (kind_named (reserved (take n t))) (take n t) (take (length t - n) (drop n t)) (name_found t n (reserved (take n t)) h refl refl)

number_begins : (t : Text) (n : ℕ) → first_lead t ≡ of_number → n ≡ front_length is_name_byte 0 t → Number (take n t) → FirstWord t
number_begins t n h e (is_number v x g) = begins (kind.Number v x) (take n t) (take (length t - n) (drop n t)) (number_found t n v x h e g)
number_begins t n h e (no_number none) = begins_none (number_none t n h e none)

character_here : (u : Text) → FirstWord (39 ∷ u)
character_here u =
    ⊎_elim (λ (e : quoted_length 39 0 false u ≡ None). begins_none (character_none u (sym e)))
    (λ (e : (n : ℕ) × (quoted_length 39 0 false u ≡ Some n)).
    ⊎_elim (λ (f : one_meant (take e.0 u) ≡ None). begins_none (character_several u e.0 (sym e.1) (sym f)))
    (λ (f : (c : ℕ) × (one_meant (take e.0 u) ≡ Some c)).
    begins (kind.Character f.0) (take e.0 u) (take (length u - (e.0 + 1)) (drop (e.0 + 1) u)) (character_found u e.0 f.0 (sym e.1) (sym f.1)))
    (option_cases (one_meant (take e.0 u))))
    (option_cases (quoted_length 39 0 false u))

string_here : (u : Text) → FirstWord (34 ∷ u)
string_here u =
    ⊎_elim (λ (e : quoted_length 34 0 false u ≡ None). begins_none (string_none u (sym e)))
    (λ (e : (n : ℕ) × (quoted_length 34 0 false u ≡ Some n)).
    begins kind.String (take e.0 u) (take (length u - (e.0 + 1)) (drop (e.0 + 1) u)) (string_found u e.0 (sym e.1)))
    (option_cases (quoted_length 34 0 false u))

sign_begins : (t : Text) (o : Option FoundSign) → first_lead t ≡ of_other → false ≡ opens_block t → false ≡ opens_line t → o ≡ first_sign sign_order t → FirstWord t
sign_begins t None h x y e = begins_none (sign_none t h e)
sign_begins t (Some (found_sign s v)) h x y e = begins (kind.Sign s) [] v (sign_found t s v h x y e)

either_opens : (a b : Bool) → (a ≡ true) ⊎ (b ≡ true) → true ≡ (a || b)
either_opens true b h = refl
either_opens false b h = ⊎_elim (λ (g : ◌≡◌ {A = Bool} false true). cc) (λ (g : b ≡ true). sym g) h

sign_here : (t : Text) → first_lead t ≡ of_other → FirstWord t
sign_here t h =
    ⊎_elim (λ (x : opens_block t ≡ true). begins_none (sign_comment t h (either_opens (opens_block t) (opens_line t) (inl x))))
    (λ (x : opens_block t ≡ false).
    ⊎_elim (λ (y : opens_line t ≡ true). begins_none (sign_comment t h (either_opens (opens_block t) (opens_line t) (inr y))))
    (λ (y : opens_line t ≡ false). sign_begins t (first_sign sign_order t) h (sym x) (sym y) refl)
    (bool_cases (opens_line t)))
    (bool_cases (opens_block t))

pub word_here : (t : Text) → FirstWord t
word_here [] = begins_none (end_none [] refl)
word_here (c ∷ t) =
    ⊎_elim (λ (l : is_letter c ≡ true). name_here (c ∷ t) (lead-letter c l))
    (λ (l : is_letter c ≡ false).
    ⊎_elim (λ (d : is_digit c ≡ true).
    let n = front_length is_name_byte 0 (c ∷ t) in number_begins (c ∷ t) n (lead-digit c d) refl (number_here (take n (c ∷ t))))
    (λ (d : is_digit c ≡ false).
    ⊎_elim (λ (q : eqb c 39 ≡ true). FirstWord-along (c ∷ t) (39 ∷ t) (ap (λ x. x ∷ t) (eqb-true c 39 q)) (character_here t))
    (λ (q : eqb c 39 ≡ false).
    ⊎_elim (λ (s : eqb c 34 ≡ true). FirstWord-along (c ∷ t) (34 ∷ t) (ap (λ x. x ∷ t) (eqb-true c 34 s)) (string_here t))
    (λ (s : eqb c 34 ≡ false). sign_here (c ∷ t) (lead-other c l d q s))
    (bool_cases (eqb c 34)))
    (bool_cases (eqb c 39)))
    (bool_cases (is_digit c)))
    (bool_cases (is_letter c))

-- GAPS

abbrev left_of : Gap → Text
left_of (gap n f v) = v

-- behind a gap there is less
abbrev IsWithin : ℕ → Option Gap → Type 0
IsWithin n o = IfSome o (λ g. length (left_of g) ≤ n)

within_more : (n m : ℕ) (o : Option Gap) → n ≤ m → IsWithin n o → IsWithin m o
within_more n m None e h = h
within_more n m (Some g) e h = omega (arith, h)

chosen_within : (n : ℕ) (b : Bool) (x y : Option Gap) → IsWithin n x → IsWithin n y → IsWithin n (cond b x y)
chosen_within n true x y h g = h
chosen_within n false x y h g = g

after_block-within : (n : ℕ) (f : Bool) (t : Text) → IsWithin (length t) (after_block n f t)
after_block-within n f [] = tt
after_block-within n f (c ∷ []) = tt
after_block-within n f (c ∷ d ∷ t) =
    chosen_within (length (c ∷ d ∷ t)) (eqb c 42 && eqb d 47) (Some (gap n f t)) (after_block (line_after n c) (f || eqb c 10) (d ∷ t)) (omega arith)
    (within_more (length (d ∷ t)) (length (c ∷ d ∷ t)) (after_block (line_after n c) (f || eqb c 10) (d ∷ t)) (omega arith) (after_block-within (line_after n c) (f || eqb c 10) (d ∷ t)))

after_comment-within : (n : ℕ) (f : Bool) (t : Text) → IsWithin (length t) (after_comment n f t)
after_comment-within n f [] = tt
after_comment-within n f (c ∷ t) = within_more (length t) (length (c ∷ t)) (after_block n f t) (omega arith) (after_block-within n f t)

after_line-within : (t : Text) → length (after_line t) ≤ length t
after_line-within [] = omega arith
after_line-within (c ∷ t) = elim (eqb c 10) as (λ b. length (cond b (c ∷ t) (after_line t)) ≤ length (c ∷ t)) [ true ↦ omega arith | false ↦ omega (arith, after_line-within t) ]

after_gap-within : (n : ℕ) (f : Bool) (c : ℕ) (t : Text) → IsWithin (length t) (after_gap n f (c ∷ t))
after_gap-within n f c t =
    let block = after_comment-within n f t in
    let line : IsWithin (length t) (Some (gap n f (after_line t))) = after_line-within t in
    let last = chosen_within (length t) (opens_line (c ∷ t) || (f && (eqb c 35 && is_marker t))) (Some (gap n f (after_line t))) None line tt in
    let comment = chosen_within (length t) (opens_block (c ∷ t)) (after_comment n f t) (cond (opens_line (c ∷ t) || (f && (eqb c 35 && is_marker t))) (Some (gap n f (after_line t))) None) block last in
    chosen_within (length t) (is_blank c) (Some (gap (line_after n c) (f || eqb c 10) t))
    (cond (opens_block (c ∷ t)) (after_comment n f t) (cond (opens_line (c ∷ t) || (f && (eqb c 35 && is_marker t))) (Some (gap n f (after_line t))) None)) (omega arith) comment

-- THE END OF THE DIVISION

pub data End (t : Text) : Type 0 where
  divides : (ws : List Token) → IsDivision t ws → End t
  stops : (n : ℕ) → HasNoWord t n → End t
  passes : (n : ℕ) (k : LimitKind) → PassesLimit t n k → End t

-- from a place that is not the text's end the division ends, or goes on with less
data Next (t u : Text) : Type 0 where
  ends : End t → Next t u
  goes_on : (n : ℕ) (f : Bool) (ws : List Token) (v : Text) → Reaches t (place n f ws v) → length v < length u → Next t u

next : (t : Text) (n : ℕ) (f : Bool) (ws : List Token) (c : ℕ) (u : Text) → Reaches t (place n f ws (c ∷ u)) → Next t (c ∷ u)
next t n f ws c u r = by_gap (after_gap n f (c ∷ u)) refl (after_gap-within n f c u)
  where
    some : c ∷ u ≡ [] → ⊥
    some e = cc

    by_limit : (a : Kind) (b v : Text) (h : IsLongest (c ∷ u) a b v) (o : Option LimitKind) → passed ws (word_of (strings_of ws) a b) ≡ o → Next t (c ∷ u)
    by_limit a b v h None e =
        let k = word_of (strings_of ws) a b in
        let w = h.longest (strings_of ws) in
        goes_on n false (ws ++ token k n ∷ []) v (goes r (takes_word w e)) (IsShorter-word w.is).length
    by_limit a b v h (Some k) e = ends (passes n k (passes_limit t n f ws (c ∷ u) v a b k r h e))

    by_word : after_gap n f (c ∷ u) ≡ None → FirstWord (c ∷ u) → Next t (c ∷ u)
    by_word g (begins a b v h) = by_limit a b v h (passed ws (word_of (strings_of ws) a b)) refl
    by_word g (begins_none h) = ends (stops n (has_no_word t n f ws (c ∷ u) r some g h))

    by_gap : (o : Option Gap) → after_gap n f (c ∷ u) ≡ o → IsWithin (length u) o → Next t (c ∷ u)
    by_gap None e h = by_word e (word_here (c ∷ u))
    by_gap (Some (gap m g v)) e h = goes_on m g ws v (goes r (takes_gap e)) (omega (arith, h))

then_on : (t u : Text) (fuel : ℕ) → ((n : ℕ) (f : Bool) (ws : List Token) (v : Text) → Reaches t (place n f ws v) → length v < fuel → End t) → length u < suc fuel → Next t u → End t
then_on t u fuel on l (ends e) = e
then_on t u fuel on l (goes_on n f ws v r s) = on n f ws v r (omega arith)

from : (fuel : ℕ) (t : Text) (n : ℕ) (f : Bool) (ws : List Token) (u : Text) → Reaches t (place n f ws u) → length u < fuel → End t
from zero t n f ws u r l = absurd (omega arith)
from (suc fuel) t n f ws [] r l = divides ws (n, f, r)
from (suc fuel) t n f ws (c ∷ u) r l = then_on t (c ∷ u) fuel (λ m g vs v q s. from fuel t m g vs v q s) l (next t n f ws c u r)

pub end_of : (t : Text) → End t
end_of t = from (suc (length t)) t 1 true [] t starts (omega arith)

-- one of the three, in words of the definitions
pub some_end : (t : Text) → ((ws : List Token) × IsDivision t ws) ⊎ (((n : ℕ) × HasNoWord t n) ⊎ ((n : ℕ) × (k : LimitKind) × PassesLimit t n k))
some_end t = as_sum (end_of t)
  where
    as_sum : End t → ((ws : List Token) × IsDivision t ws) ⊎ (((n : ℕ) × HasNoWord t n) ⊎ ((n : ℕ) × (k : LimitKind) × PassesLimit t n k))
    as_sum (divides ws h) = inl (ws, h)
    as_sum (stops n h) = inr (inl (n, h))
    as_sum (passes n k h) = inr (inr (n, k, h))
