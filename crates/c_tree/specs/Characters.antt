-- What stands between the quotes of characters and strings (C99, 6.4.4.4 and 6.4.5).
use Rattle.std.specs.Prelude.{ℕ, Bool, true, cond, not, ◌&&◌, ◌||◌, [], ◌∷◌, nat_le, ◌==◌}
use Rattle.c_tree.specs.Bytes.{Text, is_digit, first_is}

-- A byte that stands for itself between these quotes: 0x20 to 0x7e, but for the quote and `\`.
abbrev pub is_plain : ℕ → ℕ → Bool
is_plain quote c = (nat_le 32 c && nat_le c 126) && not (c == quote || c == 92)

-- What may stand after `\`, with t behind it: `n t r \ ' "`, and `0` where no decimal digit follows.
abbrev pub is_escape : ℕ → Text → Bool
is_escape c t = (c == 110 || (c == 116 || (c == 114 || (c == 92 || (c == 39 || c == 34))))) || (c == 48 && not (first_is is_digit t))

-- The byte that an escape stands for.
abbrev pub escaped : ℕ → ℕ
escaped c = cond (c == 110) 10 (cond (c == 116) 9 (cond (c == 114) 13 (cond (c == 48) 0 c)))

-- Plain bytes and escapes, any number of them.
abbrev pub is_quotable : ℕ → Text → Bool
is_quotable quote [] = true
is_quotable quote (c ∷ []) = is_plain quote c
is_quotable quote (c ∷ d ∷ t) = cond (c == 92) (is_escape d t && is_quotable quote t) (is_plain quote c && is_quotable quote (d ∷ t))

-- The bytes that they stand for.
abbrev pub meaning : Text → Text
meaning [] = []
meaning (c ∷ []) = c ∷ []
meaning (c ∷ d ∷ t) = cond (c == 92) (escaped d ∷ meaning t) (c ∷ meaning (d ∷ t))
