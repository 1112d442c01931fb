-- What the scanners answer, each by cases on the bytes.
use Rattle.std.specs.Prelude.{ℕ, ◌+◌, ◌*◌, ◌^◌, Bool, true, false, cond, not, ◌&&◌, List, [], ◌∷◌, nat_lt, ◌==◌, Option, Some, None}
use Rattle.c_tree.specs.declared.signs.Sign.{Sign}
use Rattle.c_tree.specs.Bytes.{Text}
use Rattle.c_tree.specs.Characters.{is_plain, is_escape, escaped}
use Rattle.c_tree.specs.Numbers.{is_digit_of, digit_value, is_x}
use Rattle.c_tree.specs.Signs.{spelled_sign}

-- The bytes of a class that a text begins with, and what stands behind them.
abbrev pub front_of : (ℕ → Bool) → Text → Text
front_of class [] = []
front_of class (c ∷ t) = cond (class c) (c ∷ front_of class t) []

abbrev pub rest_of : (ℕ → Bool) → Text → Text
rest_of class [] = []
rest_of class (c ∷ t) = cond (class c) (rest_of class t) (c ∷ t)

-- How many more than n bytes of a class a text begins with.
abbrev pub front_length : (ℕ → Bool) → ℕ → Text → ℕ
front_length class n [] = n
front_length class n (c ∷ t) = cond (class c) (front_length class (n + 1) t) n

-- A number that goes on with a digit, as long as it is below 2^32. Once it is not, it stays as it is.
abbrev pub grown : ℕ → ℕ → ℕ → ℕ
grown radix n c = cond (nat_lt n (2 ^ 32)) (n * radix + digit_value c) n

-- The number that the digits in front give so.
abbrev pub scanned_value : ℕ → ℕ → Text → ℕ
scanned_value radix n [] = n
scanned_value radix n (c ∷ t) = cond (is_digit_of radix c) (scanned_value radix (grown radix n c) t) n

-- Behind the `0x` or `0X` that a text begins with.
abbrev pub after_prefix : Text → Option Text
after_prefix [] = None
after_prefix (c ∷ []) = None
after_prefix (c ∷ d ∷ t) = cond (c == 48 && is_x d) (Some t) None

-- How many more than n bytes stand before the quote that closes. The test says whether a `\` stands before.
abbrev pub quoted_length : ℕ → ℕ → Bool → Text → Option ℕ
quoted_length quote n escape [] = None
quoted_length quote n escape (c ∷ t) =
    cond escape (cond (is_escape c t) (quoted_length quote (n + 1) false t) None)
    (cond (c == quote) (Some n)
    (cond (c == 92) (quoted_length quote (n + 1) true t)
    (cond (is_plain quote c) (quoted_length quote (n + 1) false t) None)))

-- Whether a text is empty.
abbrev pub is_end : Text → Bool
is_end [] = true
is_end (c ∷ t) = false

-- The bytes that plain bytes and escapes stand for. The test says whether a `\` stands before.
abbrev pub meaning_after : Bool → Text → Text
meaning_after escape [] = []
meaning_after escape (c ∷ t) =
    cond escape (escaped c ∷ meaning_after false t)
    (cond (c == 92 && not (is_end t)) (meaning_after true t) (c ∷ meaning_after false t))

-- The byte that is meant where only one is.
abbrev pub one_meant : Text → Option ℕ
one_meant [] = None
one_meant (c ∷ []) = Some c
one_meant (c ∷ d ∷ []) = cond (c == 92) (Some (escaped d)) None
one_meant (c ∷ d ∷ e ∷ t) = None

-- What stands behind this text, where it begins with it.
abbrev pub stripped : Text → Text → Option Text
stripped [] t = Some t
stripped (a ∷ p) [] = None
stripped (a ∷ p) (c ∷ t) = cond (a == c) (stripped p t) None

-- The first of these signs that a text begins with, and what stands behind it.
pub data FoundSign : Type 0 where
  found_sign : Sign → Text → FoundSign

abbrev pub found_if : Sign → Option Text → Option FoundSign → Option FoundSign
found_if s None other = other
found_if s (Some v) other = Some (found_sign s v)

abbrev pub first_sign : List Sign → Text → Option FoundSign
first_sign [] t = None
first_sign (s ∷ ss) t = found_if s (stripped (spelled_sign s) t) (first_sign ss t)
