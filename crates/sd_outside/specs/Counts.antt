-- Counts of faults and of bytes, which stay at the greatest number of 64 bits.
use Rattle.std.specs.Prelude.{◌≡◌, ℕ, ◌+◌, ◌<◌, ◌≤◌, ◌⊎◌, min, Result, OnErr, OnOk}

-- the greatest number that a count holds
abbrev pub greatest : ℕ
greatest = 18446744073709551615

-- a count after n more
abbrev pub counted : ℕ → ℕ → ℕ
counted count n = min (count + n) greatest

-- the count rose, which a count at its end always did
abbrev pub Rose : ℕ → ℕ → Type 0
Rose before now = (before < now) ⊎ (now ≡ greatest)

-- the count took more than n, so it rose by more than n or stands at its end
pub record RoseBeyond (n before now : ℕ) : Type 0 where
  pub taken : ℕ
  pub beyond : n < taken
  pub counts : now ≡ counted before taken

-- a count of faults never falls; it rose where the call failed, and stayed where it did not
pub record HasCause {T E : Type 0} (before now : ℕ) (result : Result T E) : Type 0 where
  pub later : before ≤ now
  pub failed : OnErr result (Rose before now)
  pub kept : OnOk result (now ≡ before)
