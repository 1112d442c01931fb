-- What kind of word a first byte may begin.
use Rattle.std.specs.Prelude.{ℕ, cond, [], ◌∷◌, ◌==◌}
use Rattle.c_tree.specs.Bytes.{Text, is_letter, is_digit}

-- A name, a number, a character, a string, or none of them.
pub data Lead : Type 0 where
  of_name : Lead
  of_number : Lead
  of_character : Lead
  of_string : Lead
  of_other : Lead

abbrev pub lead : ℕ → Lead
lead c = cond (is_letter c) of_name (cond (is_digit c) of_number (cond (c == 39) of_character (cond (c == 34) of_string of_other)))

-- What a text may begin with.
abbrev pub first_lead : Text → Lead
first_lead [] = of_other
first_lead (c ∷ t) = lead c
