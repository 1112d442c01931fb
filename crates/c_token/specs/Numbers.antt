-- What the scan of digits and a suffix found.
use Rattle.std.specs.Prelude.{◌≡◌, ℕ, ◌^◌, ◌<◌, ◌≤◌}
use Rattle.c_tree.specs.declared.words.Suffix.{Suffix}
use Rattle.c_tree.specs.Bytes.{Text}
use Rattle.c_tree.specs.Numbers.{HasDigits}

-- v is n where n is below 2^32, and 2^32 or more where n is.
pub record IsCapped (v n : ℕ) : Type 0 where
  pub exact : v < 2 ^ 32 → v ≡ n
  pub great : 2 ^ 32 ≤ v → 2 ^ 32 ≤ n

-- The text is digits of this radix and then the suffix x, of the value n or one that is too great.
pub record FoundDigits (radix : ℕ) (b : Text) (v : ℕ) (x : Suffix) : Type 0 where
  pub number : ℕ
  pub is : HasDigits radix b number x
  pub capped : IsCapped v number
