-- Texts, and the classes of bytes that words are made of (C99, 5.2.1).
use Rattle.std.specs.Prelude.{ℕ, Bool, false, ◌&&◌, ◌||◌, List, [], ◌∷◌, nat_le, ◌==◌}

-- A text is a list of bytes.
abbrev pub Text : Type 0
Text = List ℕ

-- `0` to `9`.
abbrev pub is_digit : ℕ → Bool
is_digit c = nat_le 48 c && nat_le c 57

-- `A` to `Z`, `a` to `z` and `_`.
abbrev pub is_letter : ℕ → Bool
is_letter c = (nat_le 97 c && nat_le c 122) || ((nat_le 65 c && nat_le c 90) || c == 95)

-- What a name goes on with: a letter, a digit or `_`.
abbrev pub is_name_byte : ℕ → Bool
is_name_byte c = is_letter c || is_digit c

-- Whether a text begins with a byte of this class.
abbrev pub first_is : (ℕ → Bool) → Text → Bool
first_is class [] = false
first_is class (c ∷ t) = class c
