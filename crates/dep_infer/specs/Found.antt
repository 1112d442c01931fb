-- What a map from names to slots keeps: each name with its first slot.
use Rattle.std.specs.Prelude.{◌≡◌, ℕ, ◌+◌, ◌<◌, ◌^◌, Bool, cond, List, All, Option, None, Some, position, bytes_eq}
use Rattle.std.specs.Map.{lookup}
use Rattle.sd_base.specs.contracts.name.NamePartialEq.TheImpl as name
use Rattle.c_tree.specs.Bytes.{Text}

-- the slot with which a name is found
abbrev pub found : List (Text × ℕ) → Text → Option ℕ
found entries x = lookup (name.ghosts.eq x) entries

-- each name is found with the first place that it has in the list, and no other is found
abbrev pub FindsFirst : List (Text × ℕ) → List Text → Type 0
FindsFirst entries names = (x : Text) → found entries x ≡ position (bytes_eq x) names

-- the first slot of a name once one more slot is named: the one that it had, or else the new one if that has its name
abbrev pub first_of : Option ℕ → Bool → ℕ → Option ℕ
first_of (Some i) same slot = Some i
first_of None same slot = cond same (Some slot) None

-- one more slot is named
abbrev pub NotesFirst : List (Text × ℕ) → Text → ℕ → List (Text × ℕ) → Type 0
NotesFirst old name slot new = (x : Text) → found new x ≡ first_of (found old x) (bytes_eq x name) slot

-- the first of two hidden slots, where there are any: the number of the second is below 2^32 too
abbrev pub IsPair : Option ℕ → Type 0
IsPair None = Unit {0}
IsPair (Some first) = first + 1 < 2 ^ 32

abbrev pub ArePairs : List (Option ℕ) → Type 0
ArePairs hidden = All IsPair hidden
