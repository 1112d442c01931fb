-- What a shelf that never fails holds.
use Rattle.std.specs.Prelude.{ℕ, List, [], unwrap_or}
use Rattle.sd_outside.specs.Texts.{Text, left_of}

-- what is left of its texts, and the count of bytes given
pub record CalmShelf : Type 0 where
  pub texts : List Text
  pub given : ℕ

-- what is left of a name: no bytes where there is no text of that name
abbrev pub calm_left : List Text → List ℕ → List ℕ
calm_left texts name = unwrap_or (left_of texts name) []
