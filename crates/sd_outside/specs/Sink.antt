-- What was written, where a sink tells it.
use Rattle.std.specs.Prelude.{◌≡◌, ℕ, List, ◌++◌, Option, None, Some}

-- what is told, and these bytes after it
abbrev pub more : Option (List ℕ) → List ℕ → Option (List ℕ)
more None bytes = None
more (Some told) bytes = Some (told ++ bytes)

-- the first is a prefix of the second, where they are told
pub record IsCut (written whole : Option (List ℕ)) : Type 0 where
  pub rest : List ℕ
  pub is : whole ≡ more written rest
