-- The names of functions.
use Rattle.std.specs.Prelude.{ℕ, List, map}
use Rattle.deputy_rules.specs.declared.signature.Signature.{Signature}

-- the names of functions, by number
abbrev pub function_names : List Signature → List (List ℕ)
function_names functions = map (λ (f : Signature). f.name) functions
