-- A list of bytes kept in an array of a fixed size, with zeros past its end.
use Rattle.std.specs.Prelude.{◌≡◌, ℕ, ◌-◌, ◌≤◌, List, ◌++◌, length, drop, replicate}

-- the array of this size that keeps the list: its bytes, and zeros after them
abbrev pub padded : ℕ → List ℕ → List ℕ
padded size bytes = bytes ++ replicate (size - length bytes) 0

-- the first len places of the array are the list, and zeros fill the rest
pub record IsPadded (size len : ℕ) (array : List ℕ) : Type 0 where
  pub fits : len ≤ size
  pub whole : length array ≡ size
  pub zeros : drop len array ≡ replicate (size - len) 0
