-- Where the newest note of an item stands, and how many notes a log has room for.
use Rattle.std.specs.Prelude.{◌≡◌, ℕ, suc, ◌<◌, ◌≤◌, Bool, true, false, List, length, drop, get_or, Option, Some, None}
use Rattle.std.specs.List.{list_any}
use Rattle.update_tracker.specs.NetRows.{NetRows}

-- the last place at which a test passes
pub record IsLastPlace {X : Type 0} (p : X → Bool) (xs : List X) (i : ℕ) : Type 0 where
  pub within : i < length xs
  pub here : (d : X) → p (get_or xs i d) ≡ true
  pub after : list_any p (drop (suc i) xs) ≡ false

abbrev pub FindsLastPlace : {X : Type 0} → (X → Bool) → List X → Option ℕ → Type 0
FindsLastPlace p xs None = list_any p xs ≡ false
FindsLastPlace p xs (Some i) = IsLastPlace p xs i

-- what one owner can have live: 4,096 blocks, each given back, and 873 other updates
pub record HasRoom (rows : NetRows) : Type 0 where
  pub blocks : length rows.blocks ≤ 8192
  pub notes : length rows.notes ≤ 873
