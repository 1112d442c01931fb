-- Printed digits.
use Rattle.std.specs.Prelude.{ℕ, ◌+◌, ◌/◌, ◌%◌, nat_lt, List, [], ◌∷◌, if◌then◌else◌}

-- the lower-case hexadecimal digit of a number below 16
abbrev pub hexadecimal_digit : ℕ → ℕ
hexadecimal_digit n = if nat_lt n 10 then 48 + n else 87 + n

-- the two lower-case hexadecimal digits of a byte
abbrev pub hexadecimal : ℕ → List ℕ
hexadecimal byte = hexadecimal_digit (byte / 16) ∷ hexadecimal_digit (byte % 16) ∷ []
