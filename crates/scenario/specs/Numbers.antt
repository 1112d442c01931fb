-- The numbers and names of a scenario's lines.
-- Here: number_of, number_within, signed_of, is_name
use Rattle.std.specs.Prelude.{ℕ, ◌+◌, ◌-◌, ◌*◌, ◌^◌, Bool, false, ◌==◌, ◌||◌, ◌&&◌, nat_le, List, [], ◌∷◌, length, Option, Some, None, if◌then◌else◌, ℤ, pos, neg_ℤ}
use Rattle.std.specs.List.{fold, list_all}
use Rattle.std.specs.Option.{option_map}
use Rattle.std.specs.Char.{is_ascii_digit, is_ascii_alphabetic, is_ascii_alphanumeric}

-- A word of decimal digits, at least one; zeros may lead.
abbrev pub is_number : List ℕ → Bool
is_number [] = false
is_number (b ∷ bytes) = list_all is_ascii_digit (b ∷ bytes)

-- The number that decimal digits stand for, behind digits that stand for n.
abbrev pub value_behind : ℕ → List ℕ → ℕ
value_behind n bytes = fold (λ value b. 10 * value + (b - 48)) n bytes

abbrev pub value_of : List ℕ → ℕ
value_of bytes = value_behind 0 bytes

-- A number from `least` to `most`.
abbrev pub number_within : ℕ → ℕ → List ℕ → Option ℕ
number_within least most word = if is_number word && (nat_le least (value_of word) && nat_le (value_of word) most) then Some (value_of word) else None

-- A number to `most`.
abbrev pub number_to : ℕ → List ℕ → Option ℕ
number_to most word = number_within 0 most word

-- A value: a 32-bit signed number, with a minus sign before a negative one; -0 is one too.
abbrev pub signed_of : List ℕ → Option ℤ
signed_of [] = None
signed_of (b ∷ bytes) = if b == 45 then option_map (λ n. neg_ℤ (pos n)) (number_to (2 ^ 31) bytes) else option_map pos (number_to (2 ^ 31 - 1) (b ∷ bytes))

-- the bytes of a name, and those that begin one
abbrev pub begins_name : ℕ → Bool
begins_name b = is_ascii_alphabetic b || b == 95

abbrev pub is_in_name : ℕ → Bool
is_in_name b = is_ascii_alphanumeric b || b == 95

-- A name of the C profile of at most 63 bytes, reserved or not.
abbrev pub is_name : List ℕ → Bool
is_name [] = false
is_name (b ∷ bytes) = (begins_name b && list_all is_in_name bytes) && nat_le (length (b ∷ bytes)) 63

-- The number of a driver, d and a number from 1 to the number of drivers.
abbrev pub driver_of : ℕ → List ℕ → Option ℕ
driver_of drivers [] = None
driver_of drivers (b ∷ bytes) = if b == 100 then number_within 1 drivers bytes else None

-- The number of a task, from 1 to 8.
abbrev pub task_of : List ℕ → Option ℕ
task_of word = number_within 1 8 word
