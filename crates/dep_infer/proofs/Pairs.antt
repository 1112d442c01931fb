-- Hidden slots that come in pairs.
use Rattle.std.proofs.Common.{ℕ, zero, suc, List, [], ◌∷◌, ◌++◌, Option, arith}
use Rattle.std.proofs.lemmas.List.Elements.{All-append}
use Rattle.dep_infer.specs.Found.{IsPair, ArePairs}

one_pair : (h : Option ℕ) → IsPair h → ArePairs (h ∷ [])
one_pair h pair zero d lt = pair
one_pair h pair (suc k) d lt = absurd (omega (arith, lt))

-- one more
pub pairs_push : (hidden : List (Option ℕ)) (h : Option ℕ) → ArePairs hidden → IsPair h → ArePairs (hidden ++ h ∷ [])
pairs_push hidden h pairs pair = All-append IsPair hidden (h ∷ []) pairs (one_pair h pair)
