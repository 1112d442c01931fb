-- A number read digit by digit.
-- Here: number_behind; behind_digit, behind_other, behind_too_much; number_within_is
use Rattle.std.proofs.Common.{◌≡◌, ℕ, ◌+◌, ◌-◌, ◌*◌, ◌<◌, ◌≤◌, Bool, true, false, cond, ◌&&◌, List, [], ◌∷◌, Option, None, Some, refl, ap, ◌∙◌, arith, leb}
use Rattle.std.specs.List.{list_all}
use Rattle.std.specs.Char.{is_ascii_digit}
use Rattle.std.proofs.lemmas.Bool.Decides.{nat_tests}
use Rattle.scenario.specs.Numbers.{value_behind, value_of, number_within}

-- the number to `most` that digits make behind the number n
abbrev pub number_behind : ℕ → ℕ → List ℕ → Option ℕ
number_behind most n bytes = cond (list_all is_ascii_digit bytes && leb (value_behind n bytes) most) (Some (value_behind n bytes)) None

-- more digits make no less
value_behind-le : (n : ℕ) (bytes : List ℕ) → n ≤ value_behind n bytes
value_behind-le n [] = omega arith
value_behind-le n (b ∷ bytes) = omega (arith, value_behind-le (10 * n + (b - 48)) bytes)

pub behind_digit : (most n b : ℕ) (bytes : List ℕ) → is_ascii_digit b ≡ true → number_behind most n (b ∷ bytes) ≡ number_behind most (10 * n + (b - 48)) bytes
behind_digit most n b bytes e = ap (λ t. cond ((t && list_all is_ascii_digit bytes) && leb (value_behind n (b ∷ bytes)) most) (Some (value_behind n (b ∷ bytes))) None) e

pub behind_other : (most n b : ℕ) (bytes : List ℕ) → is_ascii_digit b ≡ false → number_behind most n (b ∷ bytes) ≡ None
behind_other most n b bytes e = ap (λ t. cond ((t && list_all is_ascii_digit bytes) && leb (value_behind n (b ∷ bytes)) most) (Some (value_behind n (b ∷ bytes))) None) e

neither : (b : Bool) (k : ℕ) → cond (b && false) (Some k) None ≡ None
neither true k = refl
neither false k = refl

pub behind_too_much : (most n : ℕ) (bytes : List ℕ) → most < n → number_behind most n bytes ≡ None
behind_too_much most n bytes h =
    let more = value_behind-le n bytes in
    let over : leb (value_behind n bytes) most ≡ false = grind (arith, nat_tests) in
    ap (λ t. cond (list_all is_ascii_digit bytes && t) (Some (value_behind n bytes)) None) over ∙ neither (list_all is_ascii_digit bytes) (value_behind n bytes)

no_number : (d s l : Bool) (k : ℕ) → cond (d && s) (Some k) None ≡ None → cond (d && (l && s)) (Some k) None ≡ None
no_number false s l k e = refl
no_number true false l k e = neither l k
no_number true true l k e = cc

-- what is no number to `most` is none from `least` to `most`
pub number_within_none : (least most : ℕ) (word : List ℕ) → number_behind most 0 word ≡ None → number_within least most word ≡ None
number_within_none least most [] e = refl
number_within_none least most (b ∷ bytes) e =
    no_number (list_all is_ascii_digit (b ∷ bytes)) (leb (value_of (b ∷ bytes)) most) (leb least (value_of (b ∷ bytes))) (value_of (b ∷ bytes)) e
