-- Where an expression stands on a line, behind so many checks.
use Rattle.std.specs.Prelude.{ℕ}
use Rattle.deputy_rules.specs.Context.{Context}

abbrev pub placed : Context → ℕ → ℕ → Context
placed ctx line first = record ctx { line = line; first = first }
